use Rattle.std.proofs.Common.{string_bytes, rules}
use Rattle.diagnostics.proofs.Joining.{all_told, more_told}
use Rattle.diagnostics.proofs.lists.telling.tell_all.Goals as goal

pub returns : goal.returns
returns c =
    all_told c.args.name.now c.args.text.now c.args.flaws.now c.loop-flaw.flaw-index (string_bytes c.loop-flaw.told) c.loop-flaw-test.false
    c.loop-flaw.invariant

pub loop-flaw-preserved : goal.loop-flaw-preserved
loop-flaw-preserved c = search (rules, more_told)
