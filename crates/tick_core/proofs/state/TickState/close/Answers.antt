use Rattle.std.proofs.lemmas.Grind.{common_steps}
use Rattle.std.proofs.Common.{◌∙◌, length, length-set, None, sym, ap, subst, arith}
use Rattle.std.specs.Prelude.{count_by, is_some}
use Rattle.sc_graph.specs.Tick.{IsConfiguration}
use Rattle.tick_core.specs.Space.Living.{CountsLiving}
use Rattle.tick_core.specs.Space.Sorting.{AreOpen}
use Rattle.tick_core.proofs.StateKept.{configuration, kept_closed_at}
use Rattle.tick_core.proofs.Counts.{sorted_with_at, open_closed}
use Rattle.tick_core.proofs.state.TickState.close.Goals as goal

pub sort-requires-clause-configuration : goal.sort-requires-clause-configuration
sort-requires-clause-configuration c =
    subst (λ p. IsConfiguration p c.self.inside.present) (sym (c.program.ensures ∙ ap (λ i. i.program) c.image-image.ensures.value))
    (configuration _ c.self.invariant.0)

pub sort-requires-clause-counts : goal.sort-requires-clause-counts
sort-requires-clause-counts c =
    subst (λ p. CountsLiving p c.self.inside.present c.deref.result.now) (sym (c.program.ensures ∙ ap (λ i. i.program) c.image-image.ensures.value))
    (subst (CountsLiving c.self.inside.verified.now.program c.self.inside.present) (sym c.deref.ensures.value) c.self.invariant.6)

pub sort-requires-clause-opened : goal.sort-requires-clause-opened
sort-requires-clause-opened c =
    subst (λ p. AreOpen p c.deref-2.result.now c.close_one.new.claimed) (sym (c.program.ensures ∙ ap (λ i. i.program) c.image-image.ensures.value))
    (record {
      places = ap length (c.deref-2.ensures.value ∙ c.close_one.ensures.closed) ∙ (length-set _ c.args.thread None ∙ c.self.invariant.0.places);
      counted = c.close_one.ensures.counted ∙ ap (count_by is_some) (sym c.deref-2.ensures.value);
    })

pub invariant_of-self : goal.invariant_of-self
invariant_of-self c = (
  kept_closed_at _ c.self.invariant.0 c.args.thread c.close_one.new.claims.items c.close_one.ensures.closed,
  c.self.invariant.1,
  c.self.invariant.2,
  c.self.invariant.3,
  sorted_with_at c.self.inside.verified.now.program c.self.inside.verified.now.tables c.self.inside.present c.self.inside.claims.items c.args.thread None
      c.self.inside.rows c.sort.new.rows c.self.invariant.4
      (omega (arith, c.requires, ap (λ s. length s.claims) c.self.view_is, c.self.invariant.0.places)) c.program.result.now c.tables.result.now
      c.deref-2.result.now c.close_one.new.claims.items
      (c.program.ensures ∙ ap (λ i. i.program) c.image-image.ensures.value) (c.tables.ensures.value ∙ ap (λ i. i.tables) c.image-image.ensures.value)
      c.deref-2.ensures.value c.close_one.ensures.closed c.sort.ensures.sorted c.sort.ensures.rows,
  open_closed _ c.self.invariant.0 c.self.inside.claimed c.self.inside.level c.self.invariant.5 c.args.thread c.close_one.new.claimed
      c.close_one.new.claims.items
      c.close_one.ensures.closed c.close_one.ensures.counted,
  c.self.invariant.6,
  c.self.invariant.7,
  c.self.invariant.8,
)

pub returns : goal.returns
returns c = grind (arith, common_steps) steps 2000000

pub sort-requires-clause-valid : goal.sort-requires-clause-valid
sort-requires-clause-valid c = grind (arith, common_steps) steps 2000000

pub sort-requires-clause-rows : goal.sort-requires-clause-rows
sort-requires-clause-rows c = grind (arith, common_steps) steps 2000000

pub sort-requires-clause-place : goal.sort-requires-clause-place
sort-requires-clause-place c = grind (arith, common_steps) steps 2000000
