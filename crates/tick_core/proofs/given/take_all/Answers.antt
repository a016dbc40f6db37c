use mathlib.Core.Bool.{true≢false}
use Rattle.std.proofs.lemmas.Grind.{elements}
use Rattle.std.proofs.Common.{◌≡◌, ◌<◌, Some, None, length, slice_get, refl, sym, subst, arith, ◌∙◌}
use Rattle.std.proofs.lemmas.Option.{slice_get_read, slice_get_within}
use Rattle.tick_core.specs.Inside.Inputs.{IsForAt, NamesInput}
use Rattle.tick_core.specs.Space.Given.{Gives, IsGiven}
use Rattle.tick_core.proofs.Accepted.{accepted_from, accepted_below}
use Rattle.tick_core.proofs.InputValues.{gives_next, accepted_next, given_twice, given_nowhere, not_given, place_within}
use Rattle.tick_core.proofs.given.take_all.Goals as goal

pub returns-then-is_given-clause-accepted : goal.returns-then-is_given-clause-accepted
returns-then-is_given-clause-accepted c =
    let l = c.loop-at in
    let p = c.args.program.now in
    let input = c.index-inputs-at.result in
    let is : slice_get c.args.inputs.now l.at ≡ Some input = slice_get_read _ _ _ _ refl c.loop-at-test.true c.index-inputs-at.is in
    let it : IsForAt p.variables input c.in-Some.place = subst (λ vs. IsForAt vs input c.in-Some.place) c.variables-variables.ensures c.in-Some.ensures in
    let before : IsGiven l.values.items c.in-Some.place = subst (λ vs. IsGiven vs c.in-Some.place) c.deref.ensures.value
    (c.is_given.ensures.0 c.if-is_given.true) in (
      λ no. absurd (true≢false (sym no)),
      λ all. absurd (given_twice p c.requires.names c.args.inputs.now l.values.items l.at c.in-Some.place input before.value l.invariant.gives is it before.is
          all),
    )

pub returns-in_default-clause-accepted : goal.returns-in_default-clause-accepted
returns-in_default-clause-accepted c =
    let l = c.loop-at in
    let p = c.args.program.now in
    let input = c.index-inputs-at.result in
    let is : slice_get c.args.inputs.now l.at ≡ Some input = slice_get_read _ _ _ _ refl c.loop-at-test.true c.index-inputs-at.is in
    let nowhere : ¬ NamesInput p.variables input = subst (λ vs. ¬ NamesInput vs input) c.variables-variables.ensures c.in_default.ensures in (
      λ no. absurd (true≢false (sym no)),
      λ all. absurd (given_nowhere p c.args.inputs.now l.at input is nowhere all),
    )

pub loop-at-preserved : goal.loop-at-preserved
loop-at-preserved c =
    let l = c.loop-at in
    let p = c.args.program.now in
    let input = c.index-inputs-at.result in
    let place = c.in-Some.place in
    let is : slice_get c.args.inputs.now l.at ≡ Some input = slice_get_read _ _ _ _ refl c.loop-at-test.true c.index-inputs-at.is in
    let it : IsForAt p.variables input place = subst (λ vs. IsForAt vs input place) c.variables-variables.ensures c.in-Some.ensures in
    let none : slice_get l.values.items place ≡ Some None =
    not_given l.values.items place (place_within p.variables _ l.values.items place input l.invariant.gives it)
    (λ some.
    let yes = c.is_given.ensures.1 (subst (λ vs. IsGiven vs place) (sym c.deref.ensures.value) some) in
    let no = c.if-is_given.false in
    true≢false (sym yes ∙ no)) in
    record {
      gives =
          subst (Gives p.variables _) (sym c.give.ensures)
          (gives_next p.variables c.requires.names c.args.inputs.now l.values.items l.at place input l.invariant.gives is it none);
      accepted =
          accepted_below p c.args.inputs.now l.at l.invariant.accepted
          (accepted_next p.variables c.requires.names c.args.inputs.now l.values.items l.at place input l.invariant.gives is it none);
    }

pub returns-clause-accepted : goal.returns-clause-accepted
returns-clause-accepted c = (
  λ yes.
      accepted_from c.args.program.now c.args.inputs.now
      (λ i a is. let within : i < length c.args.inputs.now = slice_get_within _ _ _ is in
      c.loop-at.invariant.accepted i a (omega (arith, c.loop-at-test.false)) is),
  λ all. refl,
)

pub returns-in_default-clause-given : goal.returns-in_default-clause-given
returns-in_default-clause-given c = grind (arith, elements) steps 2000000

pub returns-in_default-clause-places : goal.returns-in_default-clause-places
returns-in_default-clause-places c = grind (arith, elements) steps 2000000

pub returns-then-is_given-clause-given : goal.returns-then-is_given-clause-given
returns-then-is_given-clause-given c = grind (arith, elements) steps 2000000

pub returns-then-is_given-clause-places : goal.returns-then-is_given-clause-places
returns-then-is_given-clause-places c = grind (arith, elements) steps 2000000

pub returns-clause-given : goal.returns-clause-given
returns-clause-given c = grind (arith, elements) steps 2000000

pub returns-clause-places : goal.returns-clause-places
returns-clause-places c = grind (arith, elements) steps 2000000

pub loop-at-init : goal.loop-at-init
loop-at-init c = grind (arith, elements) steps 2000000
