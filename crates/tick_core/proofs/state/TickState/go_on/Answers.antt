use Rattle.std.proofs.lemmas.Grind.{elements, common_steps}
use Rattle.std.proofs.Common.{◌≡◌, ◌<◌, ◌∙◌, None, length, refl, sym, ap, subst, arith}
use Rattle.std.proofs.lemmas.List.{length-map}
use Rattle.sc_values.specs.Runs.{IsOver}
use Rattle.sc_graph.specs.Machine.{machine}
use Rattle.sc_graph.specs.Tick.{AreAccepted, IsConfiguration, start}
use Rattle.tick_core.specs.State.{InTick}
use Rattle.tick_core.specs.Inside.Astir.{FitsTick}
use Rattle.tick_core.specs.Space.Given.{Gives, HasOwnNames, HasPlaces}
use Rattle.tick_core.specs.Space.Living.{CountsLiving}
use Rattle.tick_core.specs.Space.Sorting.{StandSorted}
use Rattle.tick_core.proofs.Counts.{sorted_free}
use Rattle.tick_core.proofs.Covered.{some_thread}
use Rattle.tick_core.proofs.GoingOn.{present_places, no_claim_there, nobody_there, configuration_anew, holds_anew, open_anew, begun_anew}
use Rattle.tick_core.proofs.InputValues.{own_names}
use Rattle.tick_core.proofs.LeadingThreads.{over_is}
use Rattle.tick_core.proofs.ListedStart.{counts_started}
use Rattle.tick_core.proofs.Opened.{none_counted}
use Rattle.tick_core.proofs.StartKept.{begun_places}
use Rattle.tick_core.proofs.state.TickState.go_on.Goals as goal

pub take-requires-clause-names : goal.take-requires-clause-names
take-requires-clause-names c =
    subst (λ p. HasOwnNames p.variables) (sym (c.program-program.ensures ∙ ap (λ i. i.program) c.image-image.ensures.value))
    (own_names c.self.inside.verified.now.program c.self.inside.verified.now.tables c.image-image.ensures.valid)

pub start_anew-requires-clause-root : goal.start_anew-requires-clause-root
start_anew-requires-clause-root c =
    let p_is = c.program-program.ensures ∙ ap (λ i. i.program) c.image-image.ensures.value in
    subst (λ p. 0 < length p.threads) (sym p_is)
    (some_thread c.self.inside.verified.now.program c.self.inside.verified.now.tables c.image-image.ensures.valid)

pub start_anew-requires-clause-begun : goal.start_anew-requires-clause-begun
start_anew-requires-clause-begun c =
    let p_is = c.program-program.ensures ∙ ap (λ i. i.program) c.image-image.ensures.value in
    subst (λ p. HasPlaces p c.self.inside.begun) (sym p_is) (begun_places _ c.self.invariant.0)

pub start_anew-requires-clause-present : goal.start_anew-requires-clause-present
start_anew-requires-clause-present c =
    let p_is = c.program-program.ensures ∙ ap (λ i. i.program) c.image-image.ensures.value in
    subst (λ p. HasPlaces p c.self.inside.present) (sym p_is) (present_places _ c.self.invariant.0)

pub sort_listed-requires-clause-counts : goal.sort_listed-requires-clause-counts
sort_listed-requires-clause-counts c =
    let p_is = c.program-program.ensures ∙ ap (λ i. i.program) c.image-image.ensures.value in
    let started : c.start_anew.new.present ≡ start c.self.inside.verified.now.program c.as_slice.result.now c.self.inside.present =
    c.start_anew.ensures.start c.as_slice.result.now
    (subst (Gives c.program-program.result.now.variables c.as_slice.result.now) (sym c.values.ensures) c.if-not-take.ensures.given)
    ∙ ap (λ p. start p c.as_slice.result.now c.self.inside.present) p_is in
    subst (λ p. CountsLiving p c.start_anew.new.present c.deref.result.now) (sym p_is)
    (subst (CountsLiving c.self.inside.verified.now.program c.start_anew.new.present) (sym c.deref.ensures.value)
    (subst (λ d. CountsLiving c.self.inside.verified.now.program d c.self.inside.living.items) (sym started)
    (counts_started c.self.inside.verified.now.program c.as_slice.result.now c.self.inside.present c.self.inside.living.items c.self.invariant.6)))

pub sort_listed-requires-clause-configuration : goal.sort_listed-requires-clause-configuration
sort_listed-requires-clause-configuration c =
    let p_is = c.program-program.ensures ∙ ap (λ i. i.program) c.image-image.ensures.value in
    let over : IsOver (machine c.self.inside.verified.now.program) c.self.inside.present =
    subst (λ (s : InTick). IsOver (machine s.image.program) s.present) (sym c.self.view_is) c.requires in
    let accepted : AreAccepted c.self.inside.verified.now.program c.as_slice.result.now =
    subst (λ p. AreAccepted p c.as_slice.result.now) p_is (c.if-not-take.ensures.accepted.0 refl) in
    let started : c.start_anew.new.present ≡ start c.self.inside.verified.now.program c.as_slice.result.now c.self.inside.present =
    c.start_anew.ensures.start c.as_slice.result.now
    (subst (Gives c.program-program.result.now.variables c.as_slice.result.now) (sym c.values.ensures) c.if-not-take.ensures.given)
    ∙ ap (λ p. start p c.as_slice.result.now c.self.inside.present) p_is in
    subst (λ p. IsConfiguration p c.start_anew.new.present) (sym p_is)
    (configuration_anew _ c.self.invariant.0 over c.as_slice.result.now accepted c.start_anew.new.present started)

pub sort_listed-requires-clause-bare : goal.sort_listed-requires-clause-bare
sort_listed-requires-clause-bare c =
    let over : IsOver (machine c.self.inside.verified.now.program) c.self.inside.present =
    subst (λ (s : InTick). IsOver (machine s.image.program) s.present) (sym c.self.view_is) c.requires in
    ((over_is _ c.self.invariant.0 c.self.inside.rows c.self.invariant.4 c.self.inside.claimed c.self.inside.level c.self.invariant.5).1 over).1

pub invariant_of-self-2 : goal.invariant_of-self-2
invariant_of-self-2 c =
    let p_is = c.program-program.ensures ∙ ap (λ i. i.program) c.image-image.ensures.value in
    let over : IsOver (machine c.self.inside.verified.now.program) c.self.inside.present =
    subst (λ (s : InTick). IsOver (machine s.image.program) s.present) (sym c.self.view_is) c.requires in
    let accepted : AreAccepted c.self.inside.verified.now.program c.as_slice.result.now =
    subst (λ p. AreAccepted p c.as_slice.result.now) p_is (c.if-not-take.ensures.accepted.0 refl) in
    let started : c.start_anew.new.present ≡ start c.self.inside.verified.now.program c.as_slice.result.now c.self.inside.present =
    c.start_anew.ensures.start c.as_slice.result.now
    (subst (Gives c.program-program.result.now.variables c.as_slice.result.now) (sym c.values.ensures) c.if-not-take.ensures.given)
    ∙ ap (λ p. start p c.as_slice.result.now c.self.inside.present) p_is in (
      holds_anew _ c.self.invariant.0 over c.as_slice.result.now accepted c.start_anew.new.begun c.start_anew.new.present c.clear.new.self.items
          (c.start_anew.ensures.same ∙ started) started c.clear.ensures.items,
      c.self.invariant.1,
      omega (arith, c.self.invariant.2, c.clear.ensures.capacity),
      c.self.invariant.3,
      sorted_free c.self.inside.verified.now.program c.self.inside.verified.now.tables c.start_anew.new.present c.self.inside.claims.items
          c.sort_listed.new.rows
          (ap length (no_claim_there _ c.self.invariant.0 over) ∙ length-map c.self.inside.verified.now.program.threads (λ _. None))
          (none_counted c.self.inside.claims.items (nobody_there _ c.self.invariant.0 over))
          (subst (λ q. StandSorted c.self.inside.verified.now.program q c.start_anew.new.present c.sort_listed.new.rows)
          (c.tables.ensures.value ∙ ap (λ i. i.tables) c.image-image.ensures.value)
          (subst (λ p. StandSorted p c.tables.result.now c.start_anew.new.present c.sort_listed.new.rows) p_is c.sort_listed.ensures)),
      open_anew _ c.self.invariant.0 over c.self.inside.claimed c.self.inside.level c.self.invariant.5 c.start_anew.new.begun c.start_anew.new.present
          c.clear.new.self.items,
      subst (λ d. CountsLiving c.self.inside.verified.now.program d c.self.inside.living.items) (sym started)
          (counts_started c.self.inside.verified.now.program c.as_slice.result.now c.self.inside.present c.self.inside.living.items c.self.invariant.6),
      c.take.ensures.places ∙ c.self.invariant.7,
      subst (λ p. FitsTick p c.start_anew.new.begun c.start_anew.new.present c.start_anew.new.listed) p_is c.start_anew.ensures.fits,
    )

pub returns-clause-start : goal.returns-clause-start
returns-clause-start c =
    let p_is = c.program-program.ensures ∙ ap (λ i. i.program) c.image-image.ensures.value in
    let started : c.start_anew.new.present ≡ start c.self.inside.verified.now.program c.as_slice.result.now c.self.inside.present =
    c.start_anew.ensures.start c.as_slice.result.now
    (subst (Gives c.program-program.result.now.variables c.as_slice.result.now) (sym c.values.ensures) c.if-not-take.ensures.given)
    ∙ ap (λ p. start p c.as_slice.result.now c.self.inside.present) p_is in
    let given = started ∙ ap (λ i. start c.self.inside.verified.now.program i c.self.inside.present) c.as_slice.ensures in
    begun_anew _ _ c.self.view_is c.self.invariant.0 c.requires c.args.inputs.now c.start_anew.new.begun c.start_anew.new.present c.clear.new.self.items
    (c.start_anew.ensures.same ∙ given) given c.clear.ensures.items

pub returns-then-not-take-clause-accepted : goal.returns-then-not-take-clause-accepted
returns-then-not-take-clause-accepted c = grind (arith, elements) steps 2000000

pub returns-then-not-take-clause-start : goal.returns-then-not-take-clause-start
returns-then-not-take-clause-start c = grind (arith, elements) steps 2000000

pub returns-then-not-take-clause-refused : goal.returns-then-not-take-clause-refused
returns-then-not-take-clause-refused c = grind (arith, elements) steps 2000000

pub returns-then-not-take-clause-same : goal.returns-then-not-take-clause-same
returns-then-not-take-clause-same c = grind (arith, elements) steps 2000000

pub returns-then-not-take-clause-why : goal.returns-then-not-take-clause-why
returns-then-not-take-clause-why c = grind (arith, elements) steps 2000000

pub returns-clause-accepted : goal.returns-clause-accepted
returns-clause-accepted c = grind (arith, elements) steps 2000000

pub returns-clause-refused : goal.returns-clause-refused
returns-clause-refused c = grind (arith, elements) steps 2000000

pub returns-clause-same : goal.returns-clause-same
returns-clause-same c = grind (arith, elements) steps 2000000

pub returns-clause-why : goal.returns-clause-why
returns-clause-why c = grind (arith, elements) steps 2000000

pub start_anew-requires-clause-given : goal.start_anew-requires-clause-given
start_anew-requires-clause-given c = grind (arith, common_steps) steps 2000000

pub sort_listed-requires-clause-rows : goal.sort_listed-requires-clause-rows
sort_listed-requires-clause-rows c = grind (arith, common_steps) steps 2000000

pub sort_listed-requires-clause-listed : goal.sort_listed-requires-clause-listed
sort_listed-requires-clause-listed c = grind (arith, common_steps) steps 2000000

pub sort_listed-requires-clause-valid : goal.sort_listed-requires-clause-valid
sort_listed-requires-clause-valid c = grind (arith, common_steps) steps 2000000

pub start_anew-requires-clause-fits : goal.start_anew-requires-clause-fits
start_anew-requires-clause-fits c = grind (arith, common_steps) steps 2000000

pub invariant_of-self : goal.invariant_of-self
invariant_of-self c = grind (arith, common_steps) steps 2000000
