-- The threads that are present as a tick begins, in a list.
use Rattle.std.specs.Prelude.{ℕ, ◌≡◌, ◌<◌, ◌≤◌, ◌⊎◌, Option, Some, None, List, [], ◌∷◌, Contains, length, map, slice_get, slice_index, slice_set}
use Rattle.sc_graph.specs.declared.control.Control.{Control}
use Rattle.sc_graph.specs.declared.control.Status.{Status}
use Rattle.sc_graph.specs.declared.control.Status.TheVariants as status
use Rattle.sc_graph.specs.Program.{Program}
use Rattle.sc_graph.specs.Control.{status_of, joined_at}
use Rattle.sc_graph.specs.Tick.{IsPresent, woken}
use Rattle.tick_core.specs.Space.Living.{living}
use Rattle.tick_core.specs.Space.Sorting.{or_none}

-- each thread that is present by these statuses stands in the list
pub record AllListed (statuses : List Status) (threads : List ℕ) : Type 0 where
  pub each : (t : ℕ) (s : Status) → slice_get statuses t ≡ Some s → IsPresent s → Contains threads t

-- and so does the root
pub record AreListed (statuses : List Status) (threads : List ℕ) : Type 0 where
  pub root : Contains threads 0
  pub all : AllListed statuses threads

-- nobody is present
pub record AreAbsent (statuses : List Status) : Type 0 where
  pub each : (t : ℕ) (s : Status) → slice_get statuses t ≡ Some s → s ≡ status.Absent

-- of the threads below n nobody is present
pub record AbsentBelow (statuses : List Status) (n : ℕ) : Type 0 where
  pub each : (t : ℕ) (s : Status) → t < n → slice_get statuses t ≡ Some s → s ≡ status.Absent

-- the children for whom a thread that stands so waits
abbrev pub children_waited : Program → Status → List ℕ
children_waited p (status.Waiting j) = or_none (joined_at p j)
children_waited p other = []

-- with thread t counted, where it stands so and waits
abbrev pub waited_at : Program → Control → List ℕ → ℕ → Status → List ℕ
waited_at p c counts t (status.Waiting j) = slice_set counts t (living c (joined_at p j))
waited_at p c counts t other = counts

-- who stood in the list stands there still, at his place
pub record Keeps (before after : List ℕ) : Type 0 where
  pub each : (i t : ℕ) → slice_get before i ≡ Some t → slice_get after i ≡ Some t

-- where thread t waits, each of its children stands in the list
abbrev pub ListsChildren : Program → Control → ℕ → List ℕ → Type 0
ListsChildren p c t threads = (j k : ℕ) (ks : List ℕ) → status_of c t ≡ status.Waiting j → joined_at p j ≡ Some ks → Contains ks k → Contains threads k

-- the root stands in the list, and the children of each waiting thread at a place below n
pub record ListedBelow (p : Program) (c : Control) (n : ℕ) (threads : List ℕ) : Type 0 where
  pub root : slice_get threads 0 ≡ Some 0
  pub children : (i t : ℕ) → i < n → slice_get threads i ≡ Some t → ListsChildren p c t threads

-- of the threads at places below n in the list each one that waits is counted
pub record CountedBelow (p : Program) (c : Control) (n : ℕ) (threads counts : List ℕ) : Type 0 where
  pub each : (i t j : ℕ) → i < n → slice_get threads i ≡ Some t → status_of c t ≡ status.Waiting j → t < length counts
      → slice_index counts t ≡ living c (joined_at p j)

abbrev pub woken_by : List Status → ℕ → Option Status → List Status
woken_by statuses t None = statuses
woken_by statuses t (Some s) = slice_set statuses t (woken s)

-- with thread t woken
abbrev pub woken_at : List Status → ℕ → List Status
woken_at statuses t = woken_by statuses t (slice_get statuses t)

-- with an absent root at its entry, where it has one
abbrev pub root_at_entry : Option ℕ → List Status → List Status
root_at_entry (Some entry) (status.Absent ∷ others) = status.At entry ∷ others
root_at_entry other statuses = statuses

-- of the threads at places below n in the list each one is awake, and whoever else was woken stands as waking him leads
pub record WokenBelow (before after : List Status) (threads : List ℕ) (n : ℕ) : Type 0 where
  pub same : map woken after ≡ map woken before
  pub awake : (i t : ℕ) (s : Status) → i < n → slice_get threads i ≡ Some t → slice_get after t ≡ Some s → woken s ≡ s

-- of the threads at places below n in the list each one is absent, and whoever else was present is as before
pub record ClearedBelow (before after : List Status) (threads : List ℕ) (n : ℕ) : Type 0 where
  pub long : length after ≡ length before
  pub cleared : (i t : ℕ) (s : Status) → i < n → slice_get threads i ≡ Some t → slice_get after t ≡ Some s → s ≡ status.Absent
  pub rest : (t : ℕ) (s : Status) → slice_get after t ≡ Some s → (s ≡ status.Absent) ⊎ (slice_get before t ≡ Some s)

abbrev pub copied_by : List Status → ℕ → Option Status → List Status
copied_by to t None = to
copied_by to t (Some s) = slice_set to t s

-- with thread t as in the other statuses
abbrev pub copied_at : List Status → List Status → ℕ → List Status
copied_at from to t = copied_by to t (slice_get from t)

-- thread t stands in the list at a place from n on
pub record StandsFrom (threads : List ℕ) (n t : ℕ) : Type 0 where
  pub at : ℕ
  pub past : n ≤ at
  pub is : slice_get threads at ≡ Some t

-- whoever does not stand in the list from place n on stands as in the other statuses
pub record CopiedBelow (from to : List Status) (threads : List ℕ) (n : ℕ) : Type 0 where
  pub long : length to ≡ length from
  pub rest : (t : ℕ) → StandsFrom threads n t ⊎ (slice_get to t ≡ slice_get from t)
