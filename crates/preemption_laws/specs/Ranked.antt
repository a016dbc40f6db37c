-- Machines whose steps have ranks: the run that always takes a step of the greatest rank is admissible, and comes to an end.
use Rattle.std.specs.Prelude.{ℕ, ◌<◌, ◌≤◌, ◌≡◌, true, Some, List, length}
use Rattle.sc_values.specs.Access.{MayPrecede}
use Rattle.sc_values.specs.Runs.{Machine, replay, Ends}

-- after a step from c to d fewer steps are left, and nobody has a greater rank than somebody had
pub record Next (m : Machine) (Known : Type 0) (Holds : m.Configuration → Known → Type 0) (rank : Known → ℕ → ℕ) (left : Known → ℕ)
    (c : m.Configuration) (k : Known) (d : m.Configuration) : Type 0 where
  pub known : Known
  pub holds : Holds d known
  pub fewer : left known < left k
  pub falls : (u : ℕ) → m.enabled d u ≡ true → (v : ℕ) × (m.enabled c v ≡ true) × (rank known u ≤ rank k v)

-- what is known of a configuration besides itself tells the rank of each thread's step, and how many steps are left at most
pub record Ranked (m : Machine) : Type 1 where
  pub Known : Type 0
  pub Holds : m.Configuration → Known → Type 0
  pub rank : Known → ℕ → ℕ
  pub left : Known → ℕ
  -- who is enabled is one of so many threads
  pub threads : m.Configuration → ℕ
  pub among : (c : m.Configuration) (k : Known) (t : ℕ) → Holds c k → m.enabled c t ≡ true → t < threads c
  -- who has a step is enabled, and who is enabled has a step
  pub turns : (c d : m.Configuration) (t : ℕ) → m.step t c ≡ Some d → m.enabled c t ≡ true
  pub defined : (c : m.Configuration) (k : Known) (t : ℕ) → Holds c k → m.enabled c t ≡ true → (d : m.Configuration) × (m.step t c ≡ Some d)
  pub next : (c d : m.Configuration) (k : Known) (t : ℕ) → Holds c k → m.step t c ≡ Some d → Next m Known Holds rank left c k d
  -- a step that may not come before a concurrent one has the smaller rank
  pub order : (c d : m.Configuration) (k l : Known) (t u a : ℕ) → Holds c k → Holds d l → m.enabled c t ≡ true → m.enabled d u ≡ true →
      m.ForkedApart t u a → rank l u ≤ rank k t → MayPrecede (m.access c t) (m.access d u)

-- no run is longer than what is left, and one leads to an end
pub record ComesToAnEnd (m : Machine) (c : m.Configuration) (left : ℕ) : Type 0 where
  pub bounded : (run : List ℕ) (d : m.Configuration) → replay m run c ≡ Some d → length run ≤ left
  pub end : m.Configuration
  pub ends : Ends m c end
