use Rattle.std.proofs.lemmas.Grind.{common_steps}
use Rattle.std.proofs.Common.{◌∙◌, ap, refl, arith}
use Rattle.tick_core.proofs.StateKept.{finished, none_open}
use Rattle.tick_core.proofs.StartKept.{begun_places}
use Rattle.tick_core.proofs.state.TickState.hand_over.Goals as goal

pub invariant_of-space : goal.invariant_of-space
invariant_of-space c =
    record {
      kinds_are = c.self.invariant.1;
      no_claim = none_open _ _ c.self.view_is c.self.invariant.0 c.requires;
      forks = c.self.invariant.3;
      rows = c.self.invariant.4.own_rows;
      history = c.self.invariant.2;
      living = c.self.invariant.6.long;
      given = c.self.invariant.7;
      listed = c.self.invariant.8.room;
      present = c.clear_unlisted.ensures.listed c.self.inside.listed.threads.items c.self.invariant.8.all;
      spare = record {
        values = (begun_places _ c.self.invariant.0).values;
        statuses = c.clear_unlisted.ensures.places ∙ (begun_places _ c.self.invariant.0).statuses;
      };
    }

pub returns-clause-rests : goal.returns-clause-rests
returns-clause-rests c = (finished _ _ _ _ c.self.view_is c.self.invariant.0 c.requires (ap (λ s. s.present) c.self.view_is) refl).rests

pub returns-clause-tick : goal.returns-clause-tick
returns-clause-tick c = (finished _ _ _ _ c.self.view_is c.self.invariant.0 c.requires (ap (λ s. s.present) c.self.view_is) refl).tick

pub returns-clause-by_priority : goal.returns-clause-by_priority
returns-clause-by_priority c = grind (arith, common_steps) steps 2000000

pub returns-clause-room : goal.returns-clause-room
returns-clause-room c = grind (arith, common_steps) steps 2000000
