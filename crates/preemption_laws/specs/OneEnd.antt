-- Machines of which all admissible complete runs end alike: their steps have ranks, and threads that are enabled together leave one another alone.
use Rattle.std.specs.Prelude.{ℕ, ◌<◌, ◌≤◌, ◌≡◌, ◌≢◌, true, Some}
use Rattle.sc_values.specs.Access.{MayPrecede}
use Rattle.sc_values.specs.Runs.{Machine, Ends}

-- whoever is enabled beside a step stays so, with the same access; and a step that comes next may come first, where the protocol allows both orders
pub record KeepsApart (m : Machine) (Sound : m.Configuration → Type 0) : Type 0 where
  -- who has a step is enabled
  pub turns : (c d : m.Configuration) (t : ℕ) → m.step t c ≡ Some d → m.enabled c t ≡ true
  pub kept : (c d : m.Configuration) (t : ℕ) → Sound c → m.step t c ≡ Some d → Sound d
  pub still : (c d : m.Configuration) (t u : ℕ) → Sound c → m.step t c ≡ Some d → u ≢ t → m.enabled c u ≡ true →
      (m.enabled d u ≡ true) × (m.access d u ≡ m.access c u)
  -- two that are enabled together are concurrent, and neither forks the other apart from anybody
  pub apart : (c : m.Configuration) (t u : ℕ) → Sound c → m.enabled c t ≡ true → m.enabled c u ≡ true → t ≢ u → (a : ℕ) × m.ForkedApart t u a
  pub waits : (c : m.Configuration) (t u v a : ℕ) → Sound c → m.enabled c t ≡ true → m.enabled c u ≡ true → m.ForkedApart t v a → a ≢ u
  pub turned : (t u a : ℕ) → m.ForkedApart t u a → m.ForkedApart u t a
  pub swap : (c d e : m.Configuration) (t u : ℕ) → Sound c → u ≢ t → m.step t c ≡ Some d → m.enabled c u ≡ true → m.step u d ≡ Some e →
      MayPrecede (m.access c t) (m.access c u) → MayPrecede (m.access c u) (m.access c t) →
      (f : m.Configuration) × (m.step u c ≡ Some f) × (m.step t f ≡ Some e)

-- what is known of a configuration besides itself tells the rank of each thread's step
pub record RankedSteps (m : Machine) : Type 1 where
  pub Known : Type 0
  pub Holds : m.Configuration → Known → Type 0
  pub rank : Known → ℕ → ℕ
  -- who is enabled is one of so many threads
  pub threads : m.Configuration → ℕ
  pub among : (c : m.Configuration) (t : ℕ) → m.enabled c t ≡ true → t < threads c
  -- after a step nobody has a greater rank than somebody had
  pub falls : (c d : m.Configuration) (k : Known) (t : ℕ) → Holds c k → m.step t c ≡ Some d →
      (l : Known) × Holds d l × ((u : ℕ) → m.enabled d u ≡ true → (v : ℕ) × (m.enabled c v ≡ true) × (rank l u ≤ rank k v))
  -- a step that may not come before a concurrent one has the smaller rank
  pub order : (c d : m.Configuration) (k l : Known) (t u a : ℕ) → Holds c k → Holds d l → m.enabled c t ≡ true → m.enabled d u ≡ true →
      m.ForkedApart t u a → rank l u ≤ rank k t → MayPrecede (m.access c t) (m.access d u)

-- then from each configuration there is one end at most
abbrev pub RanksGiveOneEnd : Type 1
RanksGiveOneEnd =
    (m : Machine) (Sound : m.Configuration → Type 0) → KeepsApart m Sound → (r : RankedSteps m) → (c : m.Configuration) (k : r.Known) →
    Sound c → r.Holds c k → (d e : m.Configuration) → Ends m c d → Ends m c e → d ≡ e
