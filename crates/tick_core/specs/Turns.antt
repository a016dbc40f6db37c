-- What a claim answers, in three cases, and what a commit and a giving back do.
use Rattle.std.specs.Prelude.{ℕ, ◌≡◌, ◌≢◌, ◌<◌, Option, Some, None, List, Contains, length, slice_get, slice_set}
use Rattle.sc_values.specs.Runs.{IsOver}
use Rattle.sc_values.specs.Checked.{Checked, Checks}
use Rattle.sc_graph.specs.Program.{kinds}
use Rattle.sc_graph.specs.Control.{status_of, IsEnabled}
use Rattle.sc_graph.specs.Tables.{priority_of}
use Rattle.sc_graph.specs.Machine.{machine}
use Rattle.sc_graph.specs.Priority.{Leads}
use Rattle.tick_core.specs.declared.state.Turn.{Turn}
use Rattle.tick_core.specs.declared.state.Turn.TheVariants as turn
use Rattle.tick_core.specs.Claims.{Claim, Done, operations_of, present_operands}
use Rattle.tick_core.specs.Stepping.{node_of, code_at}
use Rattle.tick_core.specs.State.{InTick, Advances}

-- the open claim of a thread
abbrev pub claim_of : InTick → ℕ → Option (Option Claim)
claim_of s t = slice_get s.claims t

-- this very claim is open
abbrev pub IsOpen : InTick → Claim → Type 0
IsOpen s a = claim_of s a.thread ≡ Some (Some a)

-- thread t is enabled and has no open claim, and its node or join has this priority
pub record IsReady (s : InTick) (priority t : ℕ) : Type 0 where
  pub enabled : IsEnabled s.image.program s.present t
  pub unclaimed : claim_of s t ≡ Some None
  pub has : priority_of s.image.tables (status_of s.present t) ≡ priority

-- exactly the ready threads of a priority, each once
pub record AreReady (s : InTick) (priority : ℕ) (threads : List ℕ) : Type 0 where
  pub each : (t : ℕ) → Contains threads t → IsReady s priority t
  pub all : (t : ℕ) → IsReady s priority t → Contains threads t
  pub once : (i j a b : ℕ) → i < j → slice_get threads i ≡ Some a → slice_get threads j ≡ Some b → a ≢ b

-- somebody is enabled, and every enabled thread of the greatest priority has an open claim
pub record AllClaimed (s : InTick) : Type 0 where
  pub someone : ℕ
  pub leads : Leads s.image.program s.image.tables s.present someone
  pub each : (t : ℕ) → Leads s.image.program s.image.tables s.present t → (a : Claim) × (claim_of s t ≡ Some (Some a))

-- a new claim of an enabled thread of the greatest priority that had none
pub record GivesClaim (s s' : InTick) (worker : ℕ) (a : Claim) : Type 0 where
  pub leads : Leads s.image.program s.image.tables s.present a.thread
  pub unclaimed : claim_of s a.thread ≡ Some None
  pub by : a.worker ≡ worker
  pub node : node_of (status_of s.present a.thread) ≡ Some a.node
  pub code : operations_of a.code ≡ code_at s.image.program (status_of s.present a.thread)
  pub checked : (k : Checked) → a.code ≡ Some k → Checks (kinds s.image.program) k.operations k
  pub operands : a.operands ≡ present_operands s.present.variables (code_at s.image.program (status_of s.present a.thread))
  pub commits : a.commits ≡ length s.history
  pub after : s' ≡ record s { claims = slice_set s.claims a.thread (Some a) }

abbrev pub Answers : InTick → InTick → ℕ → Turn → Type 0
Answers s s' worker turn.Over = IsOver (machine s.image.program) s.present × (s' ≡ s)
Answers s s' worker turn.NoneNow = AllClaimed s × (s' ≡ s)
Answers s s' worker (turn.Claim a) = GivesClaim s s' worker a

-- an open claim was committed: its thread took its step, and it alone was closed
pub record Commits (s s' : InTick) (d : Done) (at : ℕ) : Type 0 where
  pub was_open : IsOpen s d.claim
  pub advances : Advances s s' d.claim.thread d.claim.worker
  pub at_is : at ≡ length s.history

-- an open claim was closed, and nothing else changed
pub record GivesBack (s s' : InTick) (a : Claim) : Type 0 where
  pub was_open : IsOpen s a
  pub after : s' ≡ record s { claims = slice_set s.claims a.thread None }

-- no claim that is equal in every field was open, and nothing changed
pub record IsRefused (s s' : InTick) (a : Claim) : Type 0 where
  pub not_open : ¬ IsOpen s a
  pub same : s' ≡ s
