use Rattle.std.proofs.lemmas.Grind.{common_steps}
use Rattle.std.proofs.Common.{◌∙◌, length, refl, sym, ap, subst, arith}
use Rattle.std.specs.Prelude.{count_by, is_some}
use Rattle.sc_graph.specs.Tick.{IsConfiguration}
use Rattle.tick_core.specs.Space.Living.{CountsLiving}
use Rattle.tick_core.specs.Space.Sorting.{AreOpen}
use Rattle.tick_core.specs.Inside.Turns.{DropsClaims}
use Rattle.tick_core.proofs.Opened.{none_counted}
use Rattle.tick_core.proofs.StateKept.{configuration, kept_dropped}
use Rattle.tick_core.proofs.Counts.{sorted_every_at, none_open_at}
use Rattle.tick_core.proofs.LeadingThreads.{nobody_open}
use Rattle.tick_core.proofs.state.TickState.drop_claims.Goals as goal

pub sort_every-requires-clause-configuration : goal.sort_every-requires-clause-configuration
sort_every-requires-clause-configuration c =
    subst (λ p. IsConfiguration p c.self.inside.present) (sym (c.program.ensures ∙ ap (λ i. i.program) c.image-image.ensures.value))
    (configuration _ c.self.invariant.0)

pub sort_every-requires-clause-counts : goal.sort_every-requires-clause-counts
sort_every-requires-clause-counts c =
    subst (λ p. CountsLiving p c.self.inside.present c.deref.result.now) (sym (c.program.ensures ∙ ap (λ i. i.program) c.image-image.ensures.value))
    (subst (CountsLiving c.self.inside.verified.now.program c.self.inside.present) (sym c.deref.ensures.value) c.self.invariant.6)

pub sort_every-requires-clause-opened : goal.sort_every-requires-clause-opened
sort_every-requires-clause-opened c =
    subst (λ p. AreOpen p c.deref-then-self-gt0.result.now 0) (sym (c.program.ensures ∙ ap (λ i. i.program) c.image-image.ensures.value))
    (record {
      places = ap length c.deref-then-self-gt0.ensures.value ∙ (c.close_all.ensures.length ∙ c.self.invariant.0.places);
      counted = sym (ap (count_by is_some) c.deref-then-self-gt0.ensures.value ∙ none_counted c.close_all.new.claims.items c.close_all.ensures.none);
    })

pub invariant_of-self : goal.invariant_of-self
invariant_of-self c = (
  kept_dropped _ c.self.invariant.0 _ c.close_all.ensures.length
      (record { image_is = refl; begun_is = refl; present_is = refl; history_is = refl; no_claim = c.close_all.ensures.none }),
  c.self.invariant.1,
  c.self.invariant.2,
  c.self.invariant.3,
  sorted_every_at c.self.inside.verified.now.program c.program.result.now c.self.inside.verified.now.tables c.tables.result.now c.self.inside.present
      c.close_all.new.claims.items c.deref-then-self-gt0.result.now c.sort_every.new.rows
      (c.program.ensures ∙ ap (λ i. i.program) c.image-image.ensures.value) (c.tables.ensures.value ∙ ap (λ i. i.tables) c.image-image.ensures.value)
      c.deref-then-self-gt0.ensures.value c.sort_every.ensures,
  none_open_at _ c.self.inside.level c.close_all.ensures.none,
  c.self.invariant.6,
  c.self.invariant.7,
  c.self.invariant.8,
)

pub returns-else-self-gt0 : goal.returns-else-self-gt0
returns-else-self-gt0 c =
    subst (λ s. DropsClaims s s) c.self.view_is
    (record {
      image_is = refl;
      begun_is = refl;
      present_is = refl;
      history_is = refl;
      no_claim = nobody_open _ c.self.invariant.0 c.self.inside.rows c.self.invariant.4 c.self.inside.claimed c.self.inside.level c.self.invariant.5
          (omega (arith, c.if-self-gt0.false));
    })

pub sort_every-requires-clause-rows : goal.sort_every-requires-clause-rows
sort_every-requires-clause-rows c = grind (arith, common_steps) steps 2000000

pub returns-then-self-gt0 : goal.returns-then-self-gt0
returns-then-self-gt0 c = grind (arith, common_steps) steps 2000000

pub sort_every-requires-clause-valid : goal.sort_every-requires-clause-valid
sort_every-requires-clause-valid c = grind (arith, common_steps) steps 2000000
