-- A tick under way: what its state keeps.
use Rattle.std.specs.Prelude.{ℕ, ◌≡◌, ◌≢◌, ◌≤◌, Option, Some, None, List, [], ◌∷◌, ◌++◌, map, length, slice_get, slice_set}
use Rattle.sc_graph.specs.Steps.{step}
use Rattle.sc_values.specs.Checked.{Checked, Checks}
use Rattle.sc_graph.specs.declared.control.Control.{Control}
use Rattle.sc_graph.specs.declared.tables.Tables.{Tables}
use Rattle.sc_graph.specs.Program.{Program, kinds}
use Rattle.sc_graph.specs.Control.{status_of}
use Rattle.sc_graph.specs.Tick.{Inputs, AreAccepted, Rests, start}
use Rattle.sc_graph.specs.Priority.{Leads, PriorityRun}
use Rattle.sc_graph.specs.Valid.{IsValid}
use Rattle.bytecode.specs.Image.{Image}
use Rattle.tick_core.specs.declared.history.Entry.{Entry}
use Rattle.tick_core.specs.Claims.{Claim, operations_of, present_operands}
use Rattle.tick_core.specs.Stepping.{node_of, code_at}

-- the image, the configuration in which the tick began, the present one, the steps since, and by
-- thread the open claims
pub record InTick : Type 0 where
  pub image : Image
  pub begun : Control
  pub present : Control
  pub history : List Entry
  pub claims : List (Option Claim)

-- the threads of a history
abbrev pub threads_of : List Entry → List ℕ
threads_of history = map (λ e. e.thread) history

-- a tick begins at the start of a resting configuration under accepted inputs
pub record BeginsTick (p : Program) (begun : Control) : Type 0 where
  pub resting : Control
  pub inputs : Inputs
  pub rests : Rests p resting
  pub accepted : AreAccepted p inputs
  pub is : begun ≡ start p inputs resting

-- a claim of thread t that may be committed: t leads, and the claim has its node, its code and the
-- present values of what the code loads
pub record IsFresh (p : Program) (q : Tables) (c : Control) (commits t : ℕ) (a : Claim) : Type 0 where
  pub thread : a.thread ≡ t
  pub worker : a.worker ≤ 8
  pub leads : Leads p q c t
  pub node : node_of (status_of c t) ≡ Some a.node
  pub code : operations_of a.code ≡ code_at p (status_of c t)
  pub checked : (k : Checked) → a.code ≡ Some k → Checks (kinds p) k.operations k
  pub operands : a.operands ≡ present_operands c.variables (code_at p (status_of c t))
  pub before : a.commits ≤ commits

-- what every state of a tick keeps
pub record Holds (s : InTick) : Type 0 where
  pub valid : IsValid s.image.program s.image.tables
  pub begins : BeginsTick s.image.program s.begun
  pub run : PriorityRun s.image.program s.image.tables (threads_of s.history) s.begun s.present
  pub places : length s.claims ≡ length s.image.program.threads
  pub fresh : (t : ℕ) (a : Claim) → slice_get s.claims t ≡ Some (Some a) →
      IsFresh s.image.program s.image.tables s.present (length s.history) t a

-- from one state to the next by a committed step of thread t, on a claim of this worker
pub record Advances (s s' : InTick) (t worker : ℕ) : Type 0 where
  pub image_is : s'.image ≡ s.image
  pub begun_is : s'.begun ≡ s.begun
  pub stepped : step s.image.program t s.present ≡ Some s'.present
  pub history_is : s'.history ≡ s.history ++ record { thread = t; worker = worker } ∷ []
  pub claims_are : s'.claims ≡ slice_set s.claims t None

-- from one state to a later one by steps of one worker alone, after all claims were dropped
pub record GoesBy (worker : ℕ) (s s' : InTick) : Type 0 where
  pub image_is : s'.image ≡ s.image
  pub begun_is : s'.begun ≡ s.begun
  pub more : List Entry
  pub history_is : s'.history ≡ s.history ++ more
  pub alone : (i : ℕ) (e : Entry) → slice_get more i ≡ Some e → e.worker ≡ worker
  pub no_claim : (t : ℕ) (a : Claim) → slice_get s'.claims t ≢ Some (Some a)

-- the same by steps of worker 0
abbrev pub GoesAlone : InTick → InTick → Type 0
GoesAlone = GoesBy 0
