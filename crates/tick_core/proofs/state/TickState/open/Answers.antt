use Rattle.std.proofs.lemmas.Grind.{common_steps, elements}
use Rattle.std.proofs.Common.{◌+◌, ◌<◌, ◌∙◌, length, slice_get, refl, sym, ap, arith}
use Rattle.sc_graph.specs.Control.{status_of}
use Rattle.sc_graph.specs.Tables.{priority_of}
use Rattle.tick_core.specs.State.{InTick}
use Rattle.tick_core.proofs.StateKept.{kept_claimed, has_place}
use Rattle.tick_core.proofs.Claiming.{fresh_at}
use Rattle.tick_core.proofs.Counts.{sorted_opened, open_opened_at}
use Rattle.tick_core.proofs.state.TickState.open.Goals as goal

pub invariant_of-self : goal.invariant_of-self
invariant_of-self c =
    let fresh = fresh_at _ _ c.args.claim.now c.self.view_is c.requires.fresh in
    let place = has_place _ c.self.invariant.0 _ fresh.leads in
    let here : c.thread-thread.result < length c.self.inside.claims.items = omega (arith, place, c.thread-thread.ensures) in (
      rw (c.thread-thread.ensures, c.kept.ensures) (kept_claimed _ c.self.invariant.0 _ c.args.claim.now fresh),
      c.self.invariant.1,
      c.self.invariant.2,
      c.self.invariant.3,
      sorted_opened c.self.inside.verified.now.program c.self.inside.verified.now.tables c.self.inside.present c.self.inside.claims.items c.thread-thread.result
          c.kept.result c.self.inside.rows c.set.new.self
          c.self.invariant.4 (omega (arith, here, c.self.invariant.0.places)) here c.set.ensures,
      open_opened_at _ c.self.invariant.0 c.self.inside.claimed c.self.inside.level c.self.invariant.5 c.args.claim.now.thread c.thread-thread.result
          c.args.claim.now c.kept.result
          (c.self.inside.claimed + 1) c.priority-self-inside.result fresh.leads (ap (λ (s : InTick). slice_get s.claims c.args.claim.now.thread) c.self.view_is
          ∙ c.requires.unclaimed) refl
          c.thread-thread.ensures c.kept.ensures
          (c.priority-self-inside.ensures ∙ sym (ap (λ (s : InTick). priority_of s.image.tables (status_of s.present c.thread-thread.result)) c.self.view_is)),
      c.self.invariant.6,
      c.self.invariant.7,
      c.self.invariant.8,
    )

pub returns : goal.returns
returns c = grind (arith, elements) steps 2000000

pub index_mut-requires : goal.index_mut-requires
index_mut-requires c = grind (arith, elements) steps 2000000

pub overflow_add-self : goal.overflow_add-self
overflow_add-self c = grind (arith, common_steps) steps 2000000

pub set-requires : goal.set-requires
set-requires c = grind (arith, elements) steps 2000000
