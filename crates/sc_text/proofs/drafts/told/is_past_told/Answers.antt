use Rattle.std.proofs.lemmas.Grind.{elements}
use Rattle.std.proofs.Common.{◌≡◌, length, rules, arith}
use Rattle.sc_text.specs.Told.{told_limit}
use Rattle.sc_text.proofs.ToldInOrder.{past_told}
use Rattle.sc_text.proofs.drafts.told.is_past_told.Goals as goal

pub returns : goal.returns
returns c =
    let stop = c.if-found-ne-TOLD_LIMIT.false in
    let many : length c.args.found.now ≡ told_limit = search (rules, stop) in
    λ yes. past_told c.args.flaw c.args.found.now c.loop-other.other-index many c.loop-other-test.false c.loop-other.invariant

pub loop-other-preserved : goal.loop-other-preserved
loop-other-preserved c = grind (arith, elements) steps 2000000
