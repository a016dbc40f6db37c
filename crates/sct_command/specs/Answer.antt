-- What a command leaves that was done, and what one that was refused.
use Rattle.std.specs.Prelude.{ℕ, ◌≡◌, ◌+◌, ◌≤◌, ◌⊎◌, codes, Bool, false, Option, Some, None, List, []}
use Rattle.std.specs.Io.KnownBytes.{Appends}
use Rattle.sc_values.specs.Streams.{GrowsInto}
use Rattle.bytecode.specs.Image.{Image}
use Rattle.bytecode.specs.Spells.{Spells}
use Rattle.command_files.specs.declared.fault.LoadFault.{LoadFault}
use Rattle.command_files.specs.declared.fault.LoadFault.TheVariants as load
use Rattle.trace_lines.specs.declared.causes.cause.Cause.{Cause}
use Rattle.trace_player.specs.declared.player.PlayFault.{PlayFault}
use Rattle.command_files.specs.Files.{Contents, Stores}
use Rattle.command_files.specs.Images.{IsLoaded, FileLacksImage}
use Rattle.command_texts.specs.Wanted.{IsMadeFor, LacksWanted}
use Rattle.command_words.specs.Request.{Request, Write, Run, RunWithStates, RunBy, Compile, WriteCompiled, Print, Migrate, Explain, Test, Simulate}
use Rattle.sct_command.specs.Beside.{AreWarningsOf, IsSaid, SaysOfFault}
use Rattle.sct_command.specs.Sources.{AreOfProgram, Compiles, PrintsText, RefusesCompile, RefusesPrinting, RefusesWriting}
use Rattle.command_files.specs.Storing.{IsNotStored}
use Rattle.sct_command.specs.Explaining.{FindsImage, RefusesExplaining}
use Rattle.sct_command.specs.Failing.{files_failed, reads_failed, writes_failed}
use Rattle.sct_command.specs.Running.{RefusesUnder, RunsUnder}
use Rattle.sct_command.specs.Simulating.{RefusesSimulation, Simulates}
use Rattle.command_texts.specs.Summary.{summary_of}
use Rattle.sct_command.specs.TellingStates.{PlaysStates, RefusesStates}
use Rattle.sct_command.specs.Testing.{RefusesTests, TestsPass}
use Rattle.sct_command.specs.Writing.{RefusesToWrite, Writes, WritesPart, WritesText}
use Rattle.ruled_runs.specs.Met.{IsMet}
use Rattle.sct_command.specs.Words.{TellsLines, fault_line}
use Rattle.trace_player.specs.Channels.{SinkSeen, SourceSeen}
use Rattle.trace_player.specs.Trace.{Plays, Good, Leaves}
use Rattle.sct_command.specs.declared.fault.Fault.{Fault}
use Rattle.sct_command.specs.declared.fault.Fault.TheVariants as fault

-- ---- what was done

-- the whole trace of the input by the image in this file was written
pub record PlaysWhole (files : Option Contents) (name : List ℕ) (input old new : Option (List ℕ)) : Type 0 where
  pub image : Image
  pub loaded : IsLoaded files name image
  pub out : List (List ℕ)
  pub plays : Plays image input old new out Good

-- the file of one name has now the image in that of the other, in version 2, and the image's summary was written
pub record Migrates (files files' : Option Contents) (from to : List ℕ) (old new : Option (List ℕ)) : Type 0 where
  pub image : Image
  pub loaded : IsLoaded files from image
  pub bytes : List ℕ
  pub spelt : Spells 2 bytes image
  pub stored : Stores files files' to bytes
  pub written : Appends old new (summary_of image)

-- what was done for a request: a text or the bytes of an image, a whole trace, without active states, with them, or by rules, an
-- image of a text in a file or on the output, a text of SCL, an image in version 2, a summary of what compiles, tests that pass, a controller that
-- was stepped, or for none the help
abbrev pub Does : Option Contents → Option Contents → Option Request → Option (List ℕ) → Option (List ℕ)
    → Option (List ℕ) → Type 0
Does files files' (Some (Write wanted)) input old new = Writes (IsMadeFor files wanted) old new
Does files files' (Some (Run name workers)) input old new = PlaysWhole files name input old new
Does files files' (Some (RunWithStates name chart)) input old new = PlaysStates files name chart input old new
Does files files' (Some (RunBy name rules)) input old new = RunsUnder files files' name rules input old new
Does files files' (Some (Compile from to)) input old new = Compiles files files' from to old new
Does files files' (Some (WriteCompiled from)) input old new = Writes (AreOfProgram files from) old new
Does files files' (Some (Print name)) input old new = PrintsText files name old new
Does files files' (Some (Migrate from to)) input old new = Migrates files files' from to old new
Does files files' (Some (Explain name)) input old new = FindsImage files name old new
Does files files' (Some (Test writes words)) input old new = TestsPass writes files files' words old new
Does files files' (Some (Simulate name)) input old new = Simulates files name input old new
Does files files' None input old new = WritesText old new

-- ---- what is said beside it

-- beside what was done: the warnings of a text that was compiled, where they are wanted; of anything else nothing
abbrev pub SaysBeside : Option Contents → Option Request → Bool → List ℕ → Type 0
SaysBeside files (Some (Compile from to)) warns said = AreWarningsOf files from warns said
SaysBeside files (Some (WriteCompiled from)) warns said = AreWarningsOf files from warns said
SaysBeside files request warns said = said ≡ []

-- it went to a sink that counts its failures
pub record TellsBeside (files : Option Contents) (request : Option Request) (warns : Bool) (old new : Option (List ℕ))
    (failures failures' : ℕ) : Type 0 where
  pub said : List ℕ
  pub is : SaysBeside files request warns said
  pub goes : IsSaid said old new failures failures'

-- behind the line of a fault: a report of the text that was to be compiled; of anything else nothing
abbrev pub SaysOfRefusal : Option Contents → Option Request → Bool → Fault → List ℕ → Type 0
SaysOfRefusal files (Some (Compile from to)) wanted f said = SaysOfFault files from wanted f said
SaysOfRefusal files (Some (WriteCompiled from)) wanted f said = SaysOfFault files from wanted f said
SaysOfRefusal files request wanted f said = said ≡ []

-- ---- what was refused

-- what the player leaves that refuses the input of the image in this file, and the cause that is known of it
pub record StopsPlaying (files : Option Contents) (name : List ℕ) (input old new : Option (List ℕ))
    (f : PlayFault) (cause : Option Cause) : Type 0 where
  pub image : Image
  pub loaded : IsLoaded files name image
  pub leaves : Leaves image input old new f
  pub met : IsMet false image.program.variables input f cause

-- what a run leaves that is refused: nothing was written, but what the player left
abbrev pub RefusesRun : Option Contents → List ℕ → Option (List ℕ) → Option (List ℕ) → Option (List ℕ) → Fault → Type 0
RefusesRun files name input old new (fault.Play f cause) = StopsPlaying files name input old new f cause
RefusesRun files name input old new (fault.Files f) = FileLacksImage files name f × (new ≡ old)
RefusesRun files name input old new other = ⊥

-- there is no image in the first file, or the second cannot be written
abbrev pub IsNotMigrated : Option Contents → List ℕ → List ℕ → LoadFault → Type 0
IsNotMigrated files from to f = FileLacksImage files from f ⊎ IsNotStored to f

-- the image was stored, and a beginning of its summary was written
pub record MigratesPart (files files' : Option Contents) (from to : List ℕ) (old new : Option (List ℕ)) : Type 0 where
  pub image : Image
  pub loaded : IsLoaded files from image
  pub bytes : List ℕ
  pub spelt : Spells 2 bytes image
  pub stored : Stores files files' to bytes
  pub in_part : GrowsInto old new (summary_of image)

-- what a migration leaves that is refused: no file was written and nothing else, but where the output failed
abbrev pub RefusesMigration : Option Contents → Option Contents → List ℕ → List ℕ → Option (List ℕ) → Option (List ℕ)
    → Fault → Type 0
RefusesMigration files files' from to old new fault.Write = MigratesPart files files' from to old new
RefusesMigration files files' from to old new (fault.Files f) = IsNotMigrated files from to f × (files' ≡ files) × (new ≡ old)
RefusesMigration files files' from to old new other = ⊥

-- what is left where no request was made and the help could not be shown
abbrev pub RefusesHelp : Option (List ℕ) → Option (List ℕ) → Fault → Type 0
RefusesHelp old new (fault.Files load.Memory) = new ≡ old
RefusesHelp old new fault.Write = WritesPart old new
RefusesHelp old new other = ⊥

-- what a player leaves that refuses an input of an image, and the cause that is known of it
abbrev pub RefusesPlaying : Image → Option (List ℕ) → Option (List ℕ) → Option (List ℕ) → Fault → Type 0
RefusesPlaying image input old new (fault.Play f cause) = Leaves image input old new f × IsMet false image.program.variables input f cause
RefusesPlaying image input old new other = ⊥

-- what a request leaves that is refused for this fault
abbrev pub Refuses : Option Contents → Option Contents → Option Request → Option (List ℕ) → Option (List ℕ)
    → Option (List ℕ) → Fault → Type 0
Refuses files files' (Some (Write wanted)) input old new f = RefusesToWrite (IsMadeFor files wanted) (LacksWanted files wanted) old new f
Refuses files files' (Some (Run name workers)) input old new f = RefusesRun files name input old new f
Refuses files files' (Some (RunWithStates name chart)) input old new f = RefusesStates files name chart input old new f
Refuses files files' (Some (RunBy name rules)) input old new f = RefusesUnder files files' name rules input old new f
Refuses files files' (Some (Compile from to)) input old new f = RefusesCompile files files' from to old new f
Refuses files files' (Some (WriteCompiled from)) input old new f = RefusesWriting files from old new f
Refuses files files' (Some (Print name)) input old new f = RefusesPrinting files name old new f
Refuses files files' (Some (Migrate from to)) input old new f = RefusesMigration files files' from to old new f
Refuses files files' (Some (Explain name)) input old new f = RefusesExplaining files name old new f
Refuses files files' (Some (Test writes words)) input old new f = RefusesTests writes files files' words old new f
Refuses files files' (Some (Simulate name)) input old new f = RefusesSimulation files name input old new f
Refuses files files' None input old new f = RefusesHelp old new f

-- what is told of this fault, its line with what stands behind it, or the line of memory that was refused for it, went
-- to a sink that counts its failures: whole, or a beginning of it where the sink failed
pub record TellsFault (f : Fault) (wanted : Bool) (report : List ℕ) (old new : Option (List ℕ)) (failures failures' : ℕ) : Type 0 where
  pub text : List ℕ
  pub is : TellsLines f wanted report text ⊎ (text ≡ fault_line (codes "E52"))
  pub grows : GrowsInto old new text
  pub whole : failures' ≡ failures → Appends old new text

-- how often files failed where a request is refused: as the fault says. Of an explanation and of tests a failure is
-- told, and then the output may fail, or memory
abbrev pub CountsFiles : Option Request → Fault → ℕ → ℕ → Type 0
CountsFiles (Some (Explain name)) f old new = old + files_failed f ≤ new
CountsFiles (Some (Test writes words)) f old new = old + files_failed f ≤ new
CountsFiles request f old new = new ≡ old + files_failed f

-- of files: what they hold, and how often they failed
pub record FilesSeen : Type 0 where
  pub contents : Option Contents
  pub failures : ℕ

-- of all that a command is given
pub record Seen : Type 0 where
  pub files : FilesSeen
  pub input : SourceSeen
  pub output : SinkSeen
  pub errors : SinkSeen

-- a request was refused for one fault, of which all that is left tells: the output, how often files, the input and the
-- output failed, and the line of the fault
pub record IsRefused (before after : Seen) (request : Option Request) (wanted : Bool) : Type 0 where
  pub fault : Fault
  pub why : Refuses before.files.contents after.files.contents request before.input.to_come before.output.taken after.output.taken fault
  pub counts : CountsFiles request fault before.files.failures after.files.failures
  pub read : after.input.failures ≡ before.input.failures + reads_failed fault
  pub write : after.output.failures ≡ before.output.failures + writes_failed fault
  pub report : List ℕ
  pub reported : SaysOfRefusal before.files.contents request wanted fault report
  pub tells : TellsFault fault wanted report before.errors.taken after.errors.taken before.errors.failures after.errors.failures
