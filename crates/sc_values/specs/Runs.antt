-- Runs of any machine whose threads take steps one at a time: complete, admissible, and their ends.
use Rattle.std.specs.Prelude.{ℕ, ◌<◌, ◌≡◌, ◌≢◌, Bool, false, Option, Some, None, List, [], ◌∷◌, slice_get, option_and_then}
use Rattle.sc_values.specs.Access.{Access, MayPrecede}

-- a machine of threads. A thread is named by its number
pub record Machine : Type 1 where
  pub Configuration : Type 0
  pub enabled : Configuration → ℕ → Bool
  -- what the step of a thread makes of a configuration; None where the thread isn't enabled or its
  -- step is undefined
  pub step : ℕ → Configuration → Option Configuration
  -- what the step of an enabled thread does to the variables
  pub access : Configuration → ℕ → Access
  -- two threads are concurrent, and the third is the one that forks them apart
  pub ForkedApart : ℕ → ℕ → ℕ → Type 0

-- where a list of threads leads, each enabled where its turn comes and each step defined
abbrev pub replay : (m : Machine) → List ℕ → m.Configuration → Option m.Configuration
replay m [] c = Some c
replay m (t ∷ run) c = option_and_then (replay m run) (m.step t c)

-- nobody is enabled
abbrev pub IsOver : (m : Machine) → m.Configuration → Type 0
IsOver m c = (t : ℕ) → m.enabled c t ≡ false

-- a run that goes on until nobody is enabled
pub record Completes (m : Machine) (run : List ℕ) (c d : m.Configuration) : Type 0 where
  pub runs : replay m run c ≡ Some d
  pub over : IsOver m d

-- a step of a run: its thread, and what it does to the variables
pub record Act : Type 0 where
  pub thread : ℕ
  pub access : Access

abbrev pub act_of : (m : Machine) → m.Configuration → ℕ → Act
act_of m c t = record { thread = t; access = m.access c t }

abbrev pub acts_after : (m : Machine) → (m.Configuration → List Act) → Option m.Configuration → List Act
acts_after m rest None = []
acts_after m rest (Some d) = rest d

-- the steps of a run
abbrev pub acts : (m : Machine) → List ℕ → m.Configuration → List Act
acts m [] c = []
acts m (t ∷ run) c = act_of m c t ∷ acts_after m (acts m run) (m.step t c)

-- two steps of a run are concurrent: their threads are, and no step strictly between belongs to the
-- thread that forks them apart
pub record ConcurrentSteps (ForkedApart : ℕ → ℕ → ℕ → Type 0) (steps : List Act) (i j : ℕ) : Type 0 where
  pub first : Act
  pub second : Act
  pub is_first : slice_get steps i ≡ Some first
  pub is_second : slice_get steps j ≡ Some second
  pub forking : ℕ
  pub apart : ForkedApart first.thread second.thread forking
  pub between : (k : ℕ) (x : Act) → i < k → k < j → slice_get steps k ≡ Some x → x.thread ≢ forking

-- each two concurrent steps stand in an order that the protocol allows
abbrev pub IsOrdered : (ℕ → ℕ → ℕ → Type 0) → List Act → Type 0
IsOrdered ForkedApart steps =
    (i j : ℕ) → i < j → (both : ConcurrentSteps ForkedApart steps i j) → MayPrecede both.first.access both.second.access

-- an admissible run: concurrent steps initialize, then update, then read
abbrev pub IsAdmissible : (m : Machine) → List ℕ → m.Configuration → Type 0
IsAdmissible m run c = IsOrdered m.ForkedApart (acts m run c)

-- d is an end of c: an admissible complete run leads there
pub record Ends (m : Machine) (c d : m.Configuration) : Type 0 where
  pub run : List ℕ
  pub complete : Completes m run c d
  pub admissible : IsAdmissible m run c
