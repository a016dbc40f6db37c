-- Threads in rows by the priority at which they can step, and be claimed.
use Rattle.std.specs.Prelude.{ℕ, ◌≡◌, ◌<◌, Bool, true, false, Option, Some, None, List, [], ◌∷◌, length, slice_get, slice_index, slice_set}
use Rattle.std.specs.Prelude.{count_by, is_some}
use Rattle.tick_core.specs.Rows.{Rows, IsIn, HasRooms}
use Rattle.sc_graph.specs.declared.program.Step.{Step}
use Rattle.sc_graph.specs.declared.program.Step.TheVariants as step
use Rattle.sc_graph.specs.declared.control.Control.{Control}
use Rattle.sc_graph.specs.declared.control.Status.{Status}
use Rattle.sc_graph.specs.declared.control.Status.TheVariants as status
use Rattle.sc_graph.specs.declared.tables.Tables.{Tables}
use Rattle.sc_graph.specs.Program.{Program, step_at, owner_of, parent_of}
use Rattle.sc_graph.specs.Control.{status_of, is_enabled, joined_at}
use Rattle.sc_graph.specs.Tables.{priority, priority_of}
use Rattle.tick_core.specs.Claims.{Claim}

abbrev pub row_at : Bool → ℕ → Option ℕ
row_at true priority = Some priority
row_at false priority = None

-- the priority at which thread t can step; None where it isn't enabled
abbrev pub step_priority : Program → Tables → Control → ℕ → Option ℕ
step_priority p q c t = row_at (is_enabled p c t) (priority_of q (status_of c t))

-- each priority has room for as many threads as nodes have it
pub record FitsNodes (p : Program) (q : Tables) (rooms : List ℕ) : Type 0 where
  pub priorities : List ℕ
  pub long : length priorities ≡ length p.nodes
  pub are : (n : ℕ) → n < length p.nodes → slice_index priorities n ≡ priority q n
  pub rooms_are : HasRooms rooms priorities

-- thread t owns a node of this priority
pub record OwnsNode (p : Program) (q : Tables) (t prior : ℕ) : Type 0 where
  pub node : ℕ
  pub owned : owner_of p node ≡ Some t
  pub has : priority q node ≡ prior

-- each thread stands in no row, or in that of the priority of a node of its own
pub record OwnRows (p : Program) (q : Tables) (rows : Rows) : Type 0 where
  pub long : length rows.classes ≡ length p.threads
  pub fits : FitsNodes p q rows.rooms
  pub own : (t prior : ℕ) → IsIn rows.classes t prior → OwnsNode p q t prior

abbrev pub unless_claimed : Option (Option Claim) → Option ℕ → Option ℕ
unless_claimed (Some None) row = row
unless_claimed other row = None

-- the priority at which thread t is ready; None where it isn't enabled, or has an open claim
abbrev pub ready_row : Program → Tables → Control → List (Option Claim) → ℕ → Option ℕ
ready_row p q c claims t = unless_claimed (slice_get claims t) (step_priority p q c t)

-- each thread has a place for a claim, and so many are open
pub record AreOpen (p : Program) (claims : List (Option Claim)) (claimed : ℕ) : Type 0 where
  pub places : length claims ≡ length p.threads
  pub counted : claimed ≡ count_by is_some claims

-- each ready thread stands in the row of its priority, and no other in any
pub record AreSorted (p : Program) (q : Tables) (c : Control) (claims : List (Option Claim)) (rows : Rows) : Type 0 where
  pub own_rows : OwnRows p q rows
  pub each : (t : ℕ) → t < length p.threads → slice_get rows.classes t ≡ Some (ready_row p q c claims t)

-- each thread stands in the row of the priority at which it can step, and in none where it isn't enabled
pub record StandSorted (p : Program) (q : Tables) (c : Control) (rows : Rows) : Type 0 where
  pub own_rows : OwnRows p q rows
  pub each : (t : ℕ) → t < length p.threads → slice_get rows.classes t ≡ Some (step_priority p q c t)

-- with one thread put into its row
abbrev pub sorted_one : (ℕ → Option ℕ) → Rows → ℕ → Rows
sorted_one row rows t = record rows { classes = slice_set rows.classes t (row t) }

-- the parent of a thread that has come to stand so, where it has ended
abbrev pub ended_parent : Program → ℕ → Status → Option ℕ
ended_parent p t status.Ended = parent_of p t
ended_parent p t other = None

-- with this parent put into its row, where there is one
abbrev pub sorted_parent : (ℕ → Option ℕ) → Rows → Option ℕ → Rows
sorted_parent row rows None = rows
sorted_parent row rows (Some parent) = sorted_one row rows parent

-- with all these threads put into their rows
abbrev pub sorted_all : (ℕ → Option ℕ) → List ℕ → Rows → Rows
sorted_all row [] rows = rows
sorted_all row (t ∷ threads) rows = sorted_all row threads (sorted_one row rows t)

abbrev pub children_of : Step → List ℕ
children_of (step.Fork children join) = children
children_of other = []

abbrev pub or_none : Option (List ℕ) → List ℕ
or_none None = []
or_none (Some children) = children

abbrev pub children_at_step : Option Step → List ℕ
children_at_step None = []
children_at_step (Some s) = children_of s

-- the children whom a step from this status forks or leaves behind
abbrev pub children_at : Program → Status → List ℕ
children_at p (status.At n) = children_at_step (step_at p n)
children_at p (status.Waiting j) = or_none (joined_at p j)
children_at p other = []

-- the priorities of all nodes
pub record NodePriorities (p : Program) (q : Tables) (priorities : List ℕ) : Type 0 where
  pub long : length priorities ≡ length p.nodes
  pub are : (n : ℕ) → n < length p.nodes → slice_index priorities n ≡ priority q n
