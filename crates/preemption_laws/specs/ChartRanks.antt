-- Ranks of the steps of a chart, and what follows from them: it has one reaction.
use Rattle.std.specs.Prelude.{ℕ, ◌≤◌, ◌≡◌, true, Some, List}
use Rattle.sc_values.specs.Access.{MayPrecede}
use Rattle.sc_graph.specs.Tick.{Inputs}
use Rattle.abort_expansion_laws.specs.Ticks.{Reactive, Reaction, AllOf}
use Rattle.preemption_laws.specs.Bounded.{last_of}

-- what is known of each configuration of a tick that follows a list of ends tells the rank of each thread's step. The greatest rank never
-- rises, and a step that may not come before a concurrent one has the smaller one
pub record HasRanks (r : Reactive) (Accepted : Inputs → Type 0) : Type 1 where
  pub Known : Type 0
  pub Holds : r.machine.Configuration → Known → Type 0
  pub rank : Known → ℕ → ℕ
  pub begins : (ticks : List Inputs) (ends : List r.machine.Configuration) (inputs : Inputs) → AllOf Accepted ticks → Accepted inputs →
      Reaction r ticks r.initial ends →
      (k : Known) × Holds (r.start inputs (last_of r.initial ends)) k
  pub falls : (c d : r.machine.Configuration) (k : Known) (t : ℕ) → Holds c k → r.machine.step t c ≡ Some d →
      (l : Known) × Holds d l
      × ((u : ℕ) → r.machine.enabled d u ≡ true → (v : ℕ) × (r.machine.enabled c v ≡ true) × (rank l u ≤ rank k v))
  pub order : (c d : r.machine.Configuration) (k l : Known) (t u a : ℕ) → Holds c k → Holds d l → r.machine.enabled c t ≡ true →
      r.machine.enabled d u ≡ true → r.machine.ForkedApart t u a → rank l u ≤ rank k t → MayPrecede (r.machine.access c t) (r.machine.access d u)
