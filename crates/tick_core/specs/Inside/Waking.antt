-- How far the threads are counted and sorted as a tick begins.
use Rattle.std.specs.Prelude.{ℕ, ◌≡◌, ◌<◌, ◌≤◌, ◌⊎◌, Bool, Some, List, IsTrue, length, slice_get, slice_index}
use Rattle.tick_core.specs.Rows.{Rows, IsIn}
use Rattle.sc_graph.specs.declared.control.Control.{Control}
use Rattle.sc_graph.specs.declared.control.Status.{Status}
use Rattle.sc_graph.specs.declared.control.Status.TheVariants as status
use Rattle.sc_graph.specs.declared.tables.Tables.{Tables}
use Rattle.sc_graph.specs.Program.{Program}
use Rattle.sc_graph.specs.Control.{status_of, joined_at}
use Rattle.tick_core.specs.Space.Living.{living}
use Rattle.tick_core.specs.Space.Sorting.{OwnRows, step_priority}

-- a thread that stands so takes no step and waits for nobody, and before nobody stood in a row
abbrev pub IsPassedBy : Bool → Status → Type 0
IsPassedBy are_bare (status.At n) = ⊥
IsPassedBy are_bare (status.Waiting j) = ⊥
IsPassedBy are_bare other = IsTrue are_bare

-- the threads below n are counted and stand in their rows; where the rows were bare, nobody else stands in one
pub record EnteredBelow (p : Program) (q : Tables) (c : Control) (are_bare : Bool) (n : ℕ) (counts : List ℕ) (rows : Rows) : Type 0 where
  pub long : length counts ≡ length p.threads
  pub counted : (t j : ℕ) → t < n → status_of c t ≡ status.Waiting j → slice_index counts t ≡ living c (joined_at p j)
  pub own : OwnRows p q rows
  pub each : (t : ℕ) → t < n → slice_get rows.classes t ≡ Some (step_priority p q c t)
  pub rest : IsTrue are_bare → (t prior : ℕ) → n ≤ t → IsIn rows.classes t prior → ⊥

-- thread t is counted, where it waits, and whoever was counted right is
pub record EntersCount (p : Program) (c : Control) (t : ℕ) (before after : List ℕ) : Type 0 where
  pub long : length after ≡ length before
  pub own : (j : ℕ) → t < length before → status_of c t ≡ status.Waiting j → slice_index after t ≡ living c (joined_at p j)
  pub others : (u j : ℕ) → status_of c u ≡ status.Waiting j → slice_index before u ≡ living c (joined_at p j) → slice_index after u ≡ living c (joined_at p j)

-- thread t stands in its row, or in none where it is not enabled, and whoever stood right does
pub record EntersRow (p : Program) (q : Tables) (c : Control) (t : ℕ) (before after : Rows) : Type 0 where
  pub own_rows : OwnRows p q after
  pub own : t < length p.threads → slice_get after.classes t ≡ Some (step_priority p q c t)
  pub others : (u : ℕ) → slice_get before.classes u ≡ Some (step_priority p q c u) → slice_get after.classes u ≡ Some (step_priority p q c u)
  pub rest : (u prior : ℕ) → IsIn after.classes u prior → IsIn before.classes u prior ⊎ (step_priority p q c u ≡ Some prior)

-- whoever stands in a row can step, and stands in that of its priority
abbrev pub NobodyElse : Program → Tables → Control → Rows → Type 0
NobodyElse p q c rows = (t prior : ℕ) → IsIn rows.classes t prior → step_priority p q c t ≡ Some prior

-- the threads at places below n in the list stand in their rows, and nobody stands in another one
pub record EnteredThose (p : Program) (q : Tables) (c : Control) (threads : List ℕ) (n : ℕ) (rows : Rows) : Type 0 where
  pub own_rows : OwnRows p q rows
  pub placed : (i t : ℕ) → i < n → slice_get threads i ≡ Some t → t < length p.threads → slice_get rows.classes t ≡ Some (step_priority p q c t)
  pub rest : NobodyElse p q c rows
