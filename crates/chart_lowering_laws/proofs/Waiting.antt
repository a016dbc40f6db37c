-- A thread that forks others apart waits while they have steps to take: its own next step shows, or else none of them
-- shows a step any more. So a silent step never parts two steps that were concurrent without it.
use Rattle.std.proofs.Common.{◌≡◌, ◌≢◌, ℕ, ◌⊎◌, true, false, Some}
use Rattle.sc_values.specs.Runs.{Machine}
use Rattle.chart_lowering_laws.specs.Shown.{Showing}

pub record Waiting (m : Machine) (shows : Showing m) (Keeps : m.Configuration → Type 0) : Type 1 where
  pub Waits : m.Configuration → ℕ → Type 0
  pub Dead : m.Configuration → ℕ → Type 0
  pub keeps : (c d : m.Configuration) (t : ℕ) → Keeps c → m.step t c ≡ Some d → Keeps d
  pub begins : (c d : m.Configuration) (t u a : ℕ) → Keeps c → m.ForkedApart t u a → m.step t c ≡ Some d → Waits d a
  pub stays : (c d : m.Configuration) (t a : ℕ) → Keeps c → Waits c a → t ≢ a → m.step t c ≡ Some d → Waits d a
  pub ends : (c d : m.Configuration) (a : ℕ) → Keeps c → Waits c a → m.step a c ≡ Some d → (shows c a ≡ true) ⊎ Dead d a
  pub dead : (c d : m.Configuration) (t a : ℕ) → Keeps c → Dead c a → m.step t c ≡ Some d → Dead d a
  pub rests : (c d : m.Configuration) (t u a : ℕ) → Keeps c → Dead c a → m.ForkedApart t u a → m.step u c ≡ Some d → shows c u ≡ false
