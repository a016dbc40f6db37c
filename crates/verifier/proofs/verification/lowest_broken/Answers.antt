use Rattle.std.proofs.Common.{◌≡◌, ◌<◌, ◌≤◌, ◌+◌, arith, sym, subst, get_or}
use Rattle.sc_graph.specs.declared.place.Place.{Place}
use Rattle.verifier.specs.declared.rule.Rule.{Rule}
use Rattle.verifier.specs.declared.rule.Rule.TheVariants as rule
use Rattle.verifier.specs.Verdict.{KeptAt, KeepsBelow}
use Rattle.verifier.proofs.Lowest.{rules_in_order, keeps_next, keeps_none, valid_from, number_of}
use Rattle.verifier.proofs.verification.lowest_broken.Goals as goal

pub loop-rule-init : goal.loop-rule-init
loop-rule-init c = keeps_none c.args.program.now c.args.tables.now

pub broken_place-requires-clause-lower : goal.broken_place-requires-clause-lower
broken_place-requires-clause-lower c =
    let i = c.loop-rule.rule-index in
    let lt : i < 10 = c.loop-rule-test.true in
    subst (KeepsBelow c.args.program.now c.args.tables.now) (sym (number_of i rule.Size lt)) c.loop-rule.invariant

pub returns-in-Some-clause-found : goal.returns-in-Some-clause-found
returns-in-Some-clause-found c =
    let i = c.loop-rule.rule-index in
    let lt : i < 10 = c.loop-rule-test.true in
    record {
      breaks = rw c.in-Some.is at c.in_ok-place.ensures.found;
      lower = subst (KeepsBelow c.args.program.now c.args.tables.now) (sym (number_of i rule.Size lt)) c.loop-rule.invariant;
    }

pub loop-rule-preserved : goal.loop-rule-preserved
loop-rule-preserved c =
    let p = c.args.program.now in
    let q = c.args.tables.now in
    let i = c.loop-rule.rule-index in
    let lt : i < 10 = c.loop-rule-test.true in
    let r : Rule = get_or rules_in_order i rule.Size in
    let kept : (at : Place) → KeptAt r p q at = rw c.in-None.is at c.in_ok-place.ensures.found in
    let more : KeepsBelow p q (31 + i + 1) = keeps_next p q (31 + i) r (number_of i rule.Size lt) c.loop-rule.invariant kept in
    let same : 31 + i + 1 ≡ 31 + (i + 1) = omega arith in
    subst (KeepsBelow p q) same more

pub returns-clause-found : goal.returns-clause-found
returns-clause-found c =
    let p = c.args.program.now in
    let q = c.args.tables.now in
    let end : 10 ≤ c.loop-rule.rule-index = c.loop-rule-test.false in
    valid_from p q (λ lower lt at. c.loop-rule.invariant lower (omega (arith, lt, end)) at)
