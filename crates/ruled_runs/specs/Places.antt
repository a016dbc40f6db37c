-- Where a run begins, and where its place is kept.
use Rattle.std.specs.Prelude.{ℕ, zero, ◌≡◌, Option, Some, None, List, string_bytes}
use Rattle.sc_graph.specs.declared.control.Control.{Control}
use Rattle.sc_graph.specs.Program.{Program}
use Rattle.sc_graph.specs.Tick.{Rests}
use Rattle.command_files.specs.declared.fault.LoadFault.{LoadFault}
use Rattle.command_files.specs.declared.fault.LoadFault.TheVariants as load
use Rattle.command_files.specs.FaultText.{shown_name}
use Rattle.command_files.specs.Files.{Contents, HasBytes, Stores}
use Rattle.command_files.specs.Images.{FileLacksImage}
use Rattle.command_files.specs.Storing.{IsNotStored}
use Rattle.ruled_runs.specs.Texts.{IsSaved}
use Rattle.ruled_runs.specs.declared.traces.place.RunPlace.{RunPlace}
use Rattle.ruled_runs.specs.Trace.{at_first}
use Rattle.ruled_runs.specs.declared.fault.RuledFault.{RuledFault}
use Rattle.ruled_runs.specs.declared.fault.RuledFault.TheVariants as fault

-- bytes hold a place; lines are counted from the first one of the input
pub record BeginsIn (bytes : List ℕ) (place : RunPlace) : Type 0 where
  pub saved : IsSaved bytes place.ticks place.control
  pub lines : place.lines ≡ zero

-- the file of this name holds it
pub record BeginsInFile (files : Option Contents) (name : List ℕ) (place : RunPlace) : Type 0 where
  pub bytes : List ℕ
  pub held : HasBytes files name bytes
  pub begins : BeginsIn bytes place

-- a run begins at a place: before the first tick, or where the file of a name says
abbrev pub BeginsAt : Option Contents → Program → Option (List ℕ) → RunPlace → Type 0
BeginsAt files p None place = place ≡ at_first p
BeginsAt files p (Some name) place = BeginsInFile files name place

-- bytes hold no configuration in which the program rests
abbrev pub HoldNone : List ℕ → Program → Type 0
HoldNone bytes p = (t : ℕ) (c : Control) → Rests p c → ¬ IsSaved bytes t c

-- these bytes of the file of this name give no place, for this fault
abbrev pub LacksPlaceIn : List ℕ → Program → List ℕ → RuledFault → Type 0
LacksPlaceIn bytes p name (fault.Files load.Memory) = Unit {0}
LacksPlaceIn bytes p name (fault.Place shown) = HoldNone bytes p × (string_bytes shown ≡ shown_name name)
LacksPlaceIn bytes p name other = ⊥

-- the bytes of the file of this name hold none
pub record HoldsNone (files : Option Contents) (p : Program) (name : List ℕ) : Type 0 where
  pub bytes : List ℕ
  pub held : HasBytes files name bytes
  pub none : HoldNone bytes p

-- a file from which a run was to go on holds none, and is shown so
abbrev pub HoldsNoPlace : Option Contents → Program → Option (List ℕ) → List ℕ → Type 0
HoldsNoPlace files p None shown = ⊥
HoldsNoPlace files p (Some name) shown = HoldsNone files p name × (shown ≡ shown_name name)

-- it could not be read, for this fault
abbrev pub IsUnread : Option Contents → Option (List ℕ) → LoadFault → Type 0
IsUnread files None f = ⊥
IsUnread files (Some name) f = FileLacksImage files name f

-- the file of a name has now a text of the place; without a name no file changed
pub record IsKeptIn (files files' : Option Contents) (name : List ℕ) (place : RunPlace) : Type 0 where
  pub text : List ℕ
  pub saved : IsSaved text place.ticks place.control
  pub stored : Stores files files' name text

abbrev pub IsKept : Option Contents → Option Contents → Option (List ℕ) → RunPlace → Type 0
IsKept files files' None place = files' ≡ files
IsKept files files' (Some name) place = IsKeptIn files files' name place

-- it could not be kept, for this fault
abbrev pub IsNotKept : Option (List ℕ) → LoadFault → Type 0
IsNotKept None f = ⊥
IsNotKept (Some name) f = IsNotStored name f
