-- Judgements of a given run of a tick, and what they rest on.
use Rattle.std.specs.Prelude.{ℕ, ◌≡◌, ◌<◌, ◌≤◌, false, Some, List, slice_get, take}
use Rattle.sc_values.specs.Runs.{Act, replay, acts, ConcurrentSteps, IsAdmissible, Completes, Ends}
use Rattle.sc_values.specs.Access.{MayPrecede}
use Rattle.sc_graph.specs.declared.control.Control.{Control}
use Rattle.sc_graph.specs.Program.{Program}
use Rattle.sc_graph.specs.Threads.{ForkedApart}
use Rattle.sc_graph.specs.Control.{is_enabled, IsEnabled}
use Rattle.sc_graph.specs.Machine.{machine}
use Rattle.tick_core.specs.declared.judging.Judged.{Judged}
use Rattle.tick_core.specs.declared.judging.Judged.TheVariants as judged

-- the steps before place i can be taken, and the thread at place i isn't enabled then
pub record IsNotRun (p : Program) (begun : Control) (run : List ℕ) (i : ℕ) : Type 0 where
  pub thread : ℕ
  pub is : slice_get run i ≡ Some thread
  pub reached : Control
  pub runs : replay (machine p) (take i run) begun ≡ Some reached
  pub idle : is_enabled p reached thread ≡ false

-- steps i and j, i first, are concurrent, and the protocol forbids this order
pub record IsForbidden (Apart : ℕ → ℕ → ℕ → Type 0) (steps : List Act) (i j : ℕ) : Type 0 where
  pub before : i < j
  pub both : ConcurrentSteps Apart steps i j
  pub forbidden : ¬ MayPrecede both.first.access both.second.access

-- of the forbidden pairs the one of the least second step, and of these the one of the least first
pub record IsFirstForbidden (Apart : ℕ → ℕ → ℕ → Type 0) (steps : List Act) (i j : ℕ) : Type 0 where
  pub is : IsForbidden Apart steps i j
  pub least_second : (h k : ℕ) → IsForbidden Apart steps h k → j ≤ k
  pub least_first : (h : ℕ) → IsForbidden Apart steps h j → i ≤ h

-- a run, with steps i and j as its first forbidden pair
pub record IsNotAdmissible (p : Program) (begun : Control) (run : List ℕ) (i j : ℕ) : Type 0 where
  pub reached : Control
  pub runs : replay (machine p) run begun ≡ Some reached
  pub first : IsFirstForbidden (ForkedApart p) (acts (machine p) run begun) i j

-- an admissible run after which somebody is enabled
pub record IsIncomplete (p : Program) (begun : Control) (run : List ℕ) : Type 0 where
  pub reached : Control
  pub runs : replay (machine p) run begun ≡ Some reached
  pub admissible : IsAdmissible (machine p) run begun
  pub someone : ℕ
  pub enabled : IsEnabled p reached someone

-- an admissible complete run leads to the end, and the tick has no other
pub record LeadsToEnd (p : Program) (begun : Control) (run : List ℕ) (end : Control) : Type 0 where
  pub complete : Completes (machine p) run begun end
  pub admissible : IsAdmissible (machine p) run begun
  pub only : (other : Control) → Ends (machine p) begun other → other ≡ end

-- what each judgement of a run says
abbrev pub Judges : Program → Control → List ℕ → Judged → Type 0
Judges p begun run (judged.NotRun i) = IsNotRun p begun run i
Judges p begun run (judged.NotAdmissible i j) = IsNotAdmissible p begun run i j
Judges p begun run judged.Incomplete = IsIncomplete p begun run
Judges p begun run (judged.Ends end) = LeadsToEnd p begun run end

-- the only judgement of the run that holds
pub record IsJudgement (p : Program) (begun : Control) (run : List ℕ) (answer : Judged) : Type 0 where
  pub holds : Judges p begun run answer
  pub alone : (other : Judged) → Judges p begun run other → other ≡ answer
