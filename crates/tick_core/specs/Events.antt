-- The pure machine of events: workers claim, commit and give back, in any order.
use Rattle.std.specs.Prelude.{ℕ, ◌≡◌, ◌≤◌, ◌⊎◌, IsSome, Some, None, List, [], ◌∷◌, length, map}
use Rattle.sc_values.specs.Runs.{IsOver, IsAdmissible}
use Rattle.sc_graph.specs.declared.control.Control.{Control}
use Rattle.sc_graph.specs.Control.{status_of, IsEnabled}
use Rattle.sc_graph.specs.Machine.{machine}
use Rattle.sc_graph.specs.Steps.{step}
use Rattle.sc_graph.specs.Tick.{Inputs, AreAccepted, Rests, start}
use Rattle.sc_graph.specs.Priority.{Leads, PriorityRun}
use Rattle.sc_graph.specs.Valid.{IsValid}
use Rattle.bytecode.specs.Image.{Image}
use Rattle.tick_core.specs.declared.state.Turn.{Turn}
use Rattle.tick_core.specs.Claims.{Claim, Done, present_operands}
use Rattle.tick_core.specs.Stepping.{code_at}
use Rattle.tick_core.specs.State.{InTick, threads_of}
use Rattle.tick_core.specs.Turns.{claim_of, Answers, Commits, GivesBack, IsRefused}
use Rattle.tick_core.specs.Whole.{WholeTick}
use Rattle.tick_core.specs.declared.history.Entry.{Entry}

-- a worker asks for a claim, brings an evaluated one, or gives one back; what it brings need not be open
pub data Event : Type 0 where
  Asks : (worker : ℕ) → Event
  Brings : (done : Done) → Event
  Returns : (claim : Claim) → Event

-- what an event makes of a state: what the calls say that they do
abbrev pub Happens : Event → InTick → InTick → Type 0
Happens (Asks worker) s s' = (worker ≤ 8) × ((answer : Turn) × Answers s s' worker answer)
Happens (Brings done) s s' = ((at : ℕ) × Commits s s' done at) ⊎ IsRefused s s' done.claim
Happens (Returns claim) s s' = GivesBack s s' claim ⊎ IsRefused s s' claim

-- a whole list of events
abbrev pub Happen : List Event → InTick → InTick → Type 0
Happen [] s s' = s' ≡ s
Happen (e ∷ events) s s' = (mid : InTick) × Happens e s mid × Happen events mid s'

-- a tick just begun from c: nothing is committed and nothing is open
abbrev pub begun : Image → Inputs → Control → InTick
begun image inputs c =
    record {
      image = image;
      begun = start image.program inputs c;
      present = start image.program inputs c;
      history = [];
      claims = map (λ _. None) image.program.threads;
    }

-- the committed threads are an admissible priority run from this start to the present configuration, within the
-- budget; nobody is stuck there; and each open claim is of a thread that leads now and has the present values of
-- what its code loads
pub record Replays (image : Image) (c : Control) (s : InTick) : Type 0 where
  pub run : PriorityRun image.program image.tables (threads_of s.history) c s.present
  pub admissible : IsAdmissible (machine image.program) (threads_of s.history) c
  pub within : length s.history ≤ image.tables.budget
  pub defined : (t : ℕ) → IsEnabled image.program s.present t → IsSome (step image.program t s.present)
  pub leads : (t : ℕ) (a : Claim) → claim_of s t ≡ Some (Some a) → Leads image.program image.tables s.present t
  pub operands : (t : ℕ) (a : Claim) → claim_of s t ≡ Some (Some a)
      → a.operands ≡ present_operands s.present.variables (code_at image.program (status_of s.present t))

-- whatever the workers do, in whatever order
abbrev pub EveryOrderReplays : Type 0
EveryOrderReplays =
    (image : Image) (c : Control) (inputs : Inputs) → IsValid image.program image.tables → Rests image.program c → AreAccepted image.program inputs →
    (events : List Event) (s : InTick) → Happen events (begun image inputs c) s → Replays image (start image.program inputs c) s

-- a finished tick: its steps, and where it ended
pub record Played : Type 0 where
  pub history : List Entry
  pub end : Control

-- workers played a tick from c under these inputs, by whatever events, until nobody was enabled
pub record Plays (image : Image) (inputs : Inputs) (c : Control) (played : Played) : Type 0 where
  pub accepted : AreAccepted image.program inputs
  pub events : List Event
  pub last : InTick
  pub happen : Happen events (begun image inputs c) last
  pub over : IsOver (machine image.program) last.present
  pub is : played ≡ record { history = last.history; end = last.present }

-- workers played a tick for each of these inputs, each from the end of the one before
abbrev pub PlayAll : Image → List Inputs → Control → List Played → Type 0
PlayAll image [] c [] = Unit {0}
PlayAll image (inputs ∷ rest) c (played ∷ others) = Plays image inputs c played × PlayAll image rest played.end others
PlayAll image inputs c played = ⊥

-- each of these ticks is whole, and rests at its end
abbrev pub AreWhole : Image → List Inputs → Control → List Played → Type 0
AreWhole image (inputs ∷ rest) c (played ∷ others) =
    WholeTick image (start image.program inputs c) (threads_of played.history) played.end × Rests image.program played.end
    × AreWhole image rest played.end others
AreWhole image inputs c played = Unit {0}

-- all ticks of a list of inputs, played from a resting configuration, are whole, and whoever plays them in whatever
-- order, they end alike
abbrev pub AllTicksEndAlike : Type 0
AllTicksEndAlike =
    (image : Image) (c : Control) (inputs : List Inputs) → IsValid image.program image.tables → Rests image.program c →
    (played : List Played) → PlayAll image inputs c played →
    AreWhole image inputs c played × ((other : List Played) → PlayAll image inputs c other → map (λ t. t.end) other ≡ map (λ t. t.end) played)
