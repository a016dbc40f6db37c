-- From one tick to lists of ticks.
use Rattle.std.proofs.Common.{List, [], ◌∷◌}
use Rattle.sc_values.specs.Runs.{Ends}
use Rattle.sc_graph.specs.Tick.{Inputs}
use Rattle.abort_expansion_laws.specs.Ticks.{Reactive, Reaction, AllOf, HasAlike, Keeps}

-- what is related between two ticks, and how a tick keeps it
pub record KeepsTicks (m n : Reactive) (Accepted : Inputs → Type 0) (Alike : m.machine.Configuration → n.machine.Configuration → Type 0) : Type 1 where
  pub Rests : m.machine.Configuration → n.machine.Configuration → Type 0
  pub begins : Rests m.initial n.initial
  pub tick : (inputs : Inputs) (c last : m.machine.Configuration) (d : n.machine.Configuration) → Accepted inputs → Rests c d →
      Ends m.machine (m.start inputs c) last →
      (e : n.machine.Configuration) × Ends n.machine (n.start inputs d) e × Rests last e
  pub seen : (c : m.machine.Configuration) (d : n.machine.Configuration) → Rests c d → Alike c d

module _ (m n : Reactive) (Accepted : Inputs → Type 0) (Alike : m.machine.Configuration → n.machine.Configuration → Type 0)
    (keeps : KeepsTicks m n Accepted Alike) where
  ticks_from : (ticks : List Inputs) (ends : List m.machine.Configuration) (c : m.machine.Configuration) (d : n.machine.Configuration) → keeps.Rests c d →
      AllOf Accepted ticks → Reaction m ticks c ends → HasAlike n m.machine.Configuration Alike ticks d ends
  ticks_from [] [] c d rests accepted reaction = record { others = []; reaction = tt; alike = tt }
  ticks_from (inputs ∷ ticks) (last ∷ ends) c d rests accepted reaction =
      let one = keeps.tick inputs c last d accepted.0 rests reaction.0 in
      let rest : HasAlike n m.machine.Configuration Alike ticks one.0 ends = ticks_from ticks ends last one.0 one.2 accepted.1 reaction.1 in
      record { others = one.0 ∷ rest.others; reaction = (one.1, rest.reaction); alike = (keeps.seen last one.0 one.2, rest.alike) }
  ticks_from [] (last ∷ ends) c d rests accepted reaction = absurd reaction
  ticks_from (inputs ∷ ticks) [] c d rests accepted reaction = absurd reaction

  pub ticks_kept : Keeps m n Accepted Alike
  ticks_kept ticks ends accepted reaction = ticks_from ticks ends m.initial n.initial keeps.begins accepted reaction
