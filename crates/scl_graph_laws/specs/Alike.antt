-- Two machines of threads that go alike: from configurations that correspond the same threads are enabled, and each
-- step leads to configurations that correspond again.
use Rattle.std.specs.Prelude.{ℕ, ◌≡◌, ◌↔◌, Option, Some, None, List}
use Rattle.sc_values.specs.Runs.{Machine, replay, IsOver, IsAdmissible, Ends}

-- there is none on either side, or one on both, and they are related
abbrev pub Both : {A B : Type 0} → (A → B → Type 0) → Option A → Option B → Type 0
Both R None None = Unit {0}
Both R (Some a) (Some b) = R a b
Both R None (Some b) = ⊥
Both R (Some a) None = ⊥

-- a step of the one is a step of the other
pub record IsAlike (m n : Machine) (R : m.Configuration → n.Configuration → Type 0) : Type 0 where
  pub enabled : (a : m.Configuration) (b : n.Configuration) (t : ℕ) → R a b → m.enabled a t ≡ n.enabled b t
  pub access : (a : m.Configuration) (b : n.Configuration) (t : ℕ) → R a b → m.access a t ≡ n.access b t
  pub step : (a : m.Configuration) (b : n.Configuration) (t : ℕ) → R a b → Both R (m.step t a) (n.step t b)
  pub apart : (t u forking : ℕ) → m.ForkedApart t u forking ↔ n.ForkedApart t u forking

-- an end of the one, and the end of the other that corresponds to it
pub record EndsAlike (n : Machine) (A : Type 0) (R : A → n.Configuration → Type 0) (d : A) (b : n.Configuration) : Type 0 where
  pub end : n.Configuration
  pub is_end : Ends n b end
  pub corresponds : R d end

-- a run of the one is a run of the other, and what holds of it there holds here
pub record RunsAlike (m n : Machine) (R : m.Configuration → n.Configuration → Type 0) : Type 0 where
  -- the same threads are enabled
  pub enabled : (a : m.Configuration) (b : n.Configuration) (t : ℕ) → R a b → m.enabled a t ≡ n.enabled b t
  pub over : (a : m.Configuration) (b : n.Configuration) → R a b → (IsOver m a) ↔ (IsOver n b)
  -- a list of threads leads to configurations that correspond, or to none in either
  pub runs : (run : List ℕ) (a : m.Configuration) (b : n.Configuration) → R a b → Both R (replay m run a) (replay n run b)
  pub admissible : (run : List ℕ) (a : m.Configuration) (b : n.Configuration) → R a b → (IsAdmissible m run a) ↔ (IsAdmissible n run b)
  -- the ends of the one are those of the other
  pub ends : (a : m.Configuration) (b : n.Configuration) (d : m.Configuration) → R a b → Ends m a d → EndsAlike n m.Configuration R d b
  pub ends_back : (a : m.Configuration) (b : n.Configuration) (e : n.Configuration) → R a b → Ends n b e → EndsAlike m n.Configuration (λ e d. R d e) e a
