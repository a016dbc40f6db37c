-- Ranks of steps that are priorities, but never greater than a rank that there was before.
use Rattle.std.specs.Prelude.{ℕ, ◌<◌, ◌≤◌, ◌≡◌, ◌≢◌, Bool, true, if◌then◌else◌, min, Some, List}
use Rattle.sc_values.specs.Access.{Nothing, no_access, MayPrecede}
use Rattle.sc_graph.specs.Tick.{Inputs}
use Rattle.abort_expansion_laws.specs.Ticks.{Reactive, Reaction, AllOf}
use Rattle.preemption_laws.specs.Bounded.{last_of}

-- a step that neither reads nor writes has the greatest rank there may be
abbrev pub capped : Bool → ℕ → ℕ → ℕ
capped free cap priority = if free then cap else min priority cap

-- what is known of each configuration of a tick, besides a number that no rank was greater than, tells the priority of each thread's step.
-- Whatever step is taken, and however far that number falls to what the ranks were before it, as much is known behind it; steps that write
-- are never above that number; and a step that writes and may not come behind a concurrent one has the greater priority
pub record HasCappedRanks (r : Reactive) (Accepted : Inputs → Type 0) : Type 1 where
  pub Known : Type 0
  pub Holds : r.machine.Configuration → Known → ℕ → Type 0
  pub priority : Known → ℕ → ℕ
  pub free : Known → ℕ → Bool
  -- who is enabled is one of so many threads, and who has a step is enabled
  pub threads : r.machine.Configuration → ℕ
  pub among : (c : r.machine.Configuration) (t : ℕ) → r.machine.enabled c t ≡ true → t < threads c
  pub turns : (c d : r.machine.Configuration) (t : ℕ) → r.machine.step t c ≡ Some d → r.machine.enabled c t ≡ true
  pub begins : (ticks : List Inputs) (ends : List r.machine.Configuration) (inputs : Inputs) → AllOf Accepted ticks → Accepted inputs →
      Reaction r ticks r.initial ends →
      (k : Known) × (cap : ℕ) × Holds (r.start inputs (last_of r.initial ends)) k cap
  pub goes : (c d : r.machine.Configuration) (k : Known) (cap next t : ℕ) → Holds c k cap → r.machine.step t c ≡ Some d →
      ((u : ℕ) → r.machine.enabled c u ≡ true → capped (free k u) cap (priority k u) ≤ next) →
      (l : Known) × Holds d l next
  pub is_free : (c : r.machine.Configuration) (k : Known) (cap u : ℕ) → Holds c k cap → free k u ≡ true → r.machine.access c u ≡ no_access
  pub uncapped : (c : r.machine.Configuration) (k : Known) (cap u : ℕ) → Holds c k cap → r.machine.enabled c u ≡ true →
      (r.machine.access c u).writes ≢ Nothing → priority k u ≤ cap
  pub order : (c d : r.machine.Configuration) (k l : Known) (cap other t u a : ℕ) → Holds c k cap → Holds d l other → r.machine.enabled c t ≡ true →
      r.machine.enabled d u ≡ true → r.machine.ForkedApart t u a → (r.machine.access d u).writes ≢ Nothing → priority l u ≤ priority k t →
      MayPrecede (r.machine.access c t) (r.machine.access d u)
