-- What each step within a tick of a valid image keeps: no step is undefined, priorities never rise, and weights
-- bound the steps that are left.
use Rattle.std.specs.Prelude.{ℕ, zero, suc, ◌≡◌, ◌≤◌, ◌+◌, Bool, true, Some, List, length, Contains}
use Rattle.sc_values.specs.Runs.{replay}
use Rattle.sc_graph.specs.declared.control.Control.{Control}
use Rattle.sc_graph.specs.declared.control.Status.{Status}
use Rattle.sc_graph.specs.declared.control.Status.TheVariants as status
use Rattle.sc_graph.specs.declared.tables.Tables.{Tables}
use Rattle.sc_graph.specs.Program.{Program}
use Rattle.sc_graph.specs.Threads.{IsFork}
use Rattle.sc_graph.specs.Control.{status_of, IsEnabled}
use Rattle.sc_graph.specs.Steps.{step}
use Rattle.sc_graph.specs.Machine.{machine}
use Rattle.sc_graph.specs.Tables.{weight, end_bit, priority_of}
use Rattle.sc_graph.specs.Tick.{IsConfiguration, Rests, Inputs, AreAccepted, start}
use Rattle.sc_graph.specs.Valid.{IsValid}

-- ---- priorities

-- each enabled thread stands at this priority or below it
abbrev pub Tops : Program → Tables → ℕ → Control → Type 0
Tops p q top c = (u : ℕ) → IsEnabled p c u → priority_of q (status_of c u) ≤ top

-- thread u, enabled after a step of thread t from c to d: it was enabled where it still stands, or it came to
-- a place no higher than the one that t left
pub data NoHigher (p : Program) (q : Tables) (c d : Control) (t u : ℕ) : Type 0 where
  as_before : IsEnabled p c u → status_of d u ≡ status_of c u → NoHigher p q c d t u
  no_higher : priority_of q (status_of d u) ≤ priority_of q (status_of c t) → NoHigher p q c d t u

-- ---- weights, as credits of steps

-- each of these threads may end in this tick
abbrev pub AllEnd : (ℕ → Bool) → List ℕ → Type 0
AllEnd may ks = (k : ℕ) → Contains ks k → may k ≡ true

-- a thread with this credit may go on from node n to the end of its tick
pub record Affords (q : Tables) (may : Bool) (credit n : ℕ) : Type 0 where
  pub steps : weight q n ≤ credit
  pub ends : end_bit q n ≡ true → may ≡ true

-- what a thread's credit must cover where it stands. A waiting thread pays its join's weight only
-- where all children may end in this tick
abbrev pub Covers : Program → Tables → (ℕ → Bool) → ℕ → ℕ → Status → Type 0
Covers p q may t credit (status.At n) = Affords q (may t) credit n
Covers p q may t credit (status.Waiting j) = (n : ℕ) (ks : List ℕ) → IsFork p n t ks j → AllEnd may ks → Affords q (may t) credit j
Covers p q may t credit status.Ended = may t ≡ true
Covers p q may t credit other = Unit {0}

-- the sum of what the first n threads have
abbrev pub total : (ℕ → ℕ) → ℕ → ℕ
total f zero = 0
total f (suc n) = f n + total f n

-- each thread has a credit that covers where it stands, and all credits, with the steps already spent, are
-- within the bound
pub record Paid (p : Program) (q : Tables) (bound : ℕ) (c : Control) (spent : ℕ) : Type 0 where
  pub credit : ℕ → ℕ
  pub may : ℕ → Bool
  pub each : (t : ℕ) → Covers p q may t (credit t) (status_of c t)
  pub within : total credit (length p.threads) + spent ≤ bound

-- ---- the laws

pub record WithinTick (p : Program) (q : Tables) : Type 0 where
  -- an enabled thread has a step, and it leads to a configuration
  pub defined : (c : Control) (t : ℕ) → IsConfiguration p c → IsEnabled p c t → (d : Control) × (step p t c ≡ Some d)
  pub kept : (run : List ℕ) (c d : Control) → IsConfiguration p c → replay (machine p) run c ≡ Some d → IsConfiguration p d
  -- no thread rises on its way, and so nobody rises above the greatest
  pub falls : (c d : Control) (t u : ℕ) → IsConfiguration p c → step p t c ≡ Some d → IsEnabled p d u → NoHigher p q c d t u
  pub tops : (run : List ℕ) (c d : Control) (top : ℕ) → IsConfiguration p c → replay (machine p) run c ≡ Some d → Tops p q top c → Tops p q top d
  -- each step is paid for, and a tick begins with the budget
  pub paid : (run : List ℕ) (c d : Control) (bound spent : ℕ) → IsConfiguration p c → Paid p q bound c spent → replay (machine p) run c ≡ Some d
      → Paid p q bound d (spent + length run)
  pub begins : (c : Control) (inputs : Inputs) → Rests p c → AreAccepted p inputs → Paid p q q.budget (start p inputs c) 0

-- they hold of each valid image
abbrev pub LawsWithinTick : Type 0
LawsWithinTick = (p : Program) (q : Tables) → IsValid p q → WithinTick p q
