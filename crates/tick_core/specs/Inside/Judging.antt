-- How a run is judged by the steps that it takes.
use Rattle.std.specs.Prelude.{ℕ, ◌≡◌, ◌<◌, ◌≤◌, Some, List, map, slice_get}
use Rattle.sc_values.specs.Runs.{Act, replay, acts, IsOrdered, IsOver}
use Rattle.sc_graph.specs.declared.control.Control.{Control}
use Rattle.sc_graph.specs.Program.{Program}
use Rattle.sc_graph.specs.Threads.{ForkedApart}
use Rattle.sc_graph.specs.Accesses.{accesses}
use Rattle.sc_graph.specs.Control.{status_of, IsEnabled, access_at}
use Rattle.sc_graph.specs.Steps.{step}
use Rattle.sc_graph.specs.Machine.{machine}
use Rattle.tick_core.specs.declared.judging.Judged.{Judged}
use Rattle.tick_core.specs.declared.judging.Judged.TheVariants as judged
use Rattle.tick_core.specs.declared.judging.replaying.Taken.{Taken}
use Rattle.tick_core.specs.declared.judging.replaying.Replayed.{Replayed}
use Rattle.tick_core.specs.declared.judging.replaying.Replayed.TheVariants as replayed
use Rattle.tick_core.specs.Judging.{IsNotRun, IsForbidden, IsFirstForbidden}

-- what a step that was written down does
abbrev pub act_at : Program → Taken → Act
act_at p s = record { thread = s.thread; access = accesses p s.node }

abbrev pub acts_at : Program → List Taken → List Act
acts_at p steps = map (act_at p) steps

-- thread t steps from c to d, at node n
pub record StepsAt (p : Program) (c : Control) (t n : ℕ) (d : Control) : Type 0 where
  pub stepped : step p t c ≡ Some d
  pub access : access_at p (status_of c t) ≡ accesses p n

-- a run leads from begun to reached by these steps
pub record RunsBy (p : Program) (begun : Control) (run : List ℕ) (reached : Control) (steps : List Taken) : Type 0 where
  pub runs : replay (machine p) run begun ≡ Some reached
  pub steps_are : acts_at p steps ≡ acts (machine p) run begun

abbrev pub ReplaysTo : Program → Control → List ℕ → Control → Replayed → Type 0
ReplaysTo p begun run reached (replayed.Stopped i) = IsNotRun p begun run i
ReplaysTo p begun run reached (replayed.Whole steps) = RunsBy p begun run reached steps.items

-- of the steps strictly between two places one is of thread t
pub record TakesBetween (steps : List Taken) (i j t : ℕ) : Type 0 where
  pub at : ℕ
  pub taken : Taken
  pub after : i < at
  pub before : at < j
  pub is : slice_get steps at ≡ Some taken
  pub thread : taken.thread ≡ t

-- step i is the first of those that may not stand before step j
pub record IsFirstBefore (p : Program) (steps : List Taken) (i j : ℕ) : Type 0 where
  pub is : IsForbidden (ForkedApart p) (acts_at p steps) i j
  pub least : (h : ℕ) → IsForbidden (ForkedApart p) (acts_at p steps) h j → i ≤ h

pub record IsFinished (p : Program) (steps : List Taken) (reached end : Control) : Type 0 where
  pub admissible : IsOrdered (ForkedApart p) (acts_at p steps)
  pub over : IsOver (machine p) reached
  pub same : end ≡ reached

pub record IsUnfinished (p : Program) (steps : List Taken) (reached : Control) : Type 0 where
  pub admissible : IsOrdered (ForkedApart p) (acts_at p steps)
  pub someone : ℕ
  pub enabled : IsEnabled p reached someone

-- what each judgement says of a run with these steps, which leads to reached
abbrev pub JudgesSteps : Program → List Taken → Control → Judged → Type 0
JudgesSteps p steps reached (judged.NotRun i) = ⊥
JudgesSteps p steps reached (judged.NotAdmissible i j) = IsFirstForbidden (ForkedApart p) (acts_at p steps) i j
JudgesSteps p steps reached judged.Incomplete = IsUnfinished p steps reached
JudgesSteps p steps reached (judged.Ends end) = IsFinished p steps reached end
