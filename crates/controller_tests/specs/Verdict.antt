-- What a test comes to: the text of a program, beside which are ticks and the trace that is wanted of them.
use Rattle.std.specs.Prelude.{ℕ, ◌≡◌, ◌⊎◌, Bool, true, codes, Option, List, ◌++◌}
use Rattle.bytecode.specs.Image.{Image}
use Rattle.command_files.specs.declared.fault.LoadFault.{LoadFault}
use Rattle.command_files.specs.FaultText.{fault_text, shown_name}
use Rattle.command_files.specs.Files.{Contents, HasBytes, IsFree, IsTaken, Stores}
use Rattle.command_files.specs.Images.{FileLacksImage}
use Rattle.command_files.specs.Sources.{FileLacksCompiled}
use Rattle.command_files.specs.Storing.{IsNotStored}
use Rattle.controller_tests.specs.States.{IsReal, TellsActive}
use Rattle.controller_tests.specs.declared.difference.Difference.{Difference}
use Rattle.controller_tests.specs.Names.{beside}
use Rattle.controller_tests.specs.Outcome.{MakesTrace, Misses, Passes, Stops}
use Rattle.controller_tests.specs.Told.{IsToldOf}
use Rattle.image_charts.specs.Written.{MakesImage}
use Rattle.trace_player.specs.declared.player.PlayFault.{PlayFault}
use Rattle.trace_player.specs.FaultText.{play_fault_text}
use Rattle.trace_player.specs.Trace.{Good}

abbrev pub ticks_name : List ℕ → List ℕ
ticks_name name = beside name (codes ".ticks")

abbrev pub trace_name : List ℕ → List ℕ
trace_name name = beside name (codes ".trace")

-- the bytes of the file of this name are the text of a program, whose image this is, and beside it there are these ticks
pub record HasTicks (files : Option Contents) (name bytes : List ℕ) (image : Image) (ticks : List ℕ) : Type 0 where
  pub held : HasBytes files name bytes
  pub makes : MakesImage bytes image
  pub ticks_held : HasBytes files (ticks_name name) ticks

-- ---- it passes

-- the trace beside them is the one that the ticks make
pub record PassesTest (files : Option Contents) (name : List ℕ) : Type 0 where
  pub bytes : List ℕ
  pub image : Image
  pub ticks : List ℕ
  pub has : HasTicks files name bytes image ticks
  pub wanted : List ℕ
  pub wanted_held : HasBytes files (trace_name name) wanted
  pub passes : Passes image ticks wanted

-- ---- its trace was missing, and is written

-- nothing stood where their trace does, and now the whole one that they make does
pub record WritesTrace (files files' : Option Contents) (name : List ℕ) : Type 0 where
  pub bytes : List ℕ
  pub image : Image
  pub ticks : List ℕ
  pub has : HasTicks files name bytes image ticks
  pub missing : IsFree files (trace_name name)
  pub trace : List ℕ
  pub made : MakesTrace image ticks trace Good
  pub stored : Stores files files' (trace_name name) trace

-- ---- it fails, and why is said

-- the trace is another one: the first line in which it differs, and the states that are active there
pub record MissesTest (files : Option Contents) (name said : List ℕ) : Type 0 where
  pub bytes : List ℕ
  pub image : Image
  pub ticks : List ℕ
  pub has : HasTicks files name bytes image ticks
  pub wanted : List ℕ
  pub wanted_held : HasBytes files (trace_name name) wanted
  pub difference : Difference
  pub misses : Misses image ticks wanted difference
  pub told : List ℕ
  pub tells : IsToldOf (shown_name (trace_name name)) difference told
  pub active : List ℕ
  pub states : TellsActive name bytes image ticks difference.line active
  pub is : said ≡ told ++ active

-- a line of the ticks ends the trace
pub record StopsTest (files : Option Contents) (name said : List ℕ) : Type 0 where
  pub bytes : List ℕ
  pub image : Image
  pub ticks : List ℕ
  pub has : HasTicks files name bytes image ticks
  pub fault : PlayFault
  pub stops : Stops image ticks fault
  pub is : said ≡ shown_name (ticks_name name) ++ (codes ": " ++ (play_fault_text fault ++ codes "\n"))

-- the trace beside them cannot be read, and none is to be written; or, where one is, nothing stands there and it cannot be written
abbrev pub LacksTrace : Bool → Option Contents → List ℕ → LoadFault → Type 0
LacksTrace writes files name f =
    (FileLacksImage files (trace_name name) f × (writes ≡ true → IsTaken files (trace_name name)))
    ⊎ (IsNotStored (trace_name name) f × IsFree files (trace_name name) × (writes ≡ true))

-- for this fault there is no image of the program in this file, or there are no ticks beside it
abbrev pub LacksTicks : Option Contents → List ℕ → LoadFault → Type 0
LacksTicks files name f = FileLacksCompiled files name f ⊎ FileLacksImage files (ticks_name name) f

-- there is no test, for a fault that is no refusal of memory
pub record LacksTest (writes : Bool) (files : Option Contents) (name said : List ℕ) : Type 0 where
  pub fault : LoadFault
  pub lacks : LacksTicks files name fault ⊎ LacksTrace writes files name fault
  pub real : IsReal fault
  pub is : said ≡ shown_name name ++ (codes ": " ++ (fault_text fault ++ codes "\n"))

abbrev pub FailsTest : Bool → Option Contents → List ℕ → List ℕ → Type 0
FailsTest writes files name said = MissesTest files name said ⊎ StopsTest files name said ⊎ LacksTest writes files name said

-- ---- what it comes to

pub data Verdict : Type 0 where
  Passed : Verdict
  Written : Verdict
  Failed : (said : List ℕ) → Verdict

-- a trace is written only where traces are wanted to be; nothing else changes a file
abbrev pub ComesTo : Bool → Option Contents → Option Contents → List ℕ → Verdict → Type 0
ComesTo writes old new name Passed = PassesTest old name × (new ≡ old)
ComesTo writes old new name Written = WritesTrace old new name × (writes ≡ true)
ComesTo writes old new name (Failed said) = FailsTest writes old name said × (new ≡ old)

-- what is told of it
abbrev pub verdict_text : List ℕ → Verdict → List ℕ
verdict_text name Passed = codes "ok " ++ (shown_name name ++ codes "\n")
verdict_text name Written = codes "wrote " ++ (shown_name (trace_name name) ++ codes "\n")
verdict_text name (Failed said) = codes "FAILED " ++ said
