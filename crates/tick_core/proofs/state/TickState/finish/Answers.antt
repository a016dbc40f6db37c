use Rattle.std.proofs.lemmas.Grind.{common_steps}
use Rattle.std.proofs.Common.{◌∙◌, ap, arith}
use Rattle.tick_core.proofs.StateKept.{few_entries, finished}
use Rattle.tick_core.proofs.state.TickState.finish.Goals as goal

pub of-requires : goal.of-requires
of-requires c = few_entries _ c.self.invariant.0 c.from_vec.result c.from_vec.ensures

pub returns-clause-rests : goal.returns-clause-rests
returns-clause-rests c =
    (finished _ _ _ _ c.self.view_is c.self.invariant.0 c.requires (ap (λ s. s.present) c.self.view_is)
    (c.of.ensures.history ∙ (c.from_vec.ensures ∙ ap (λ s. s.history) c.self.view_is))).rests

pub returns-clause-tick : goal.returns-clause-tick
returns-clause-tick c =
    (finished _ _ _ _ c.self.view_is c.self.invariant.0 c.requires (ap (λ s. s.present) c.self.view_is)
    (c.of.ensures.history ∙ (c.from_vec.ensures ∙ ap (λ s. s.history) c.self.view_is))).tick

pub returns-clause-by_priority : goal.returns-clause-by_priority
returns-clause-by_priority c = grind (arith, common_steps) steps 2000000
