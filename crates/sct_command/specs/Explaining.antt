-- What is left where a source text is explained.
use Rattle.std.specs.Prelude.{ℕ, ◌≡◌, ◌⊎◌, Option, List, ◌++◌, codes}
use Rattle.std.specs.Io.KnownBytes.{Appends}
use Rattle.std.specs.Str.{IsUtf8}
use Rattle.sc_values.specs.Streams.{GrowsInto}
use Rattle.bytecode.specs.Image.{Image}
use Rattle.command_files.specs.declared.fault.LoadFault.{LoadFault}
use Rattle.command_files.specs.declared.fault.LoadFault.TheVariants as load
use Rattle.command_files.specs.FaultText.{shown_name}
use Rattle.command_files.specs.Files.{Contents, HasBytes}
use Rattle.command_files.specs.Sources.{IsCompiledFrom, FileLacksCompiled}
use Rattle.command_files.specs.Standing.{BytesLackSource, HasSource}
use Rattle.compiler.specs.FaultText.{fault_text}
use Rattle.diagnostics.specs.Reports.{Tells, text_fault}
use Rattle.diagnostics.specs.ListReports.{TellsEach}
use Rattle.command_texts.specs.Summary.{summary_of}
use Rattle.sct_command.specs.Warned.{IsWarned}
use Rattle.sct_command.specs.Writing.{WritesPart, WritesSome}
use Rattle.sct_command.specs.declared.fault.Fault.{Fault}
use Rattle.sct_command.specs.declared.fault.Fault.TheVariants as fault

-- what is said of an image of the program in the file of this name: its summary, and behind it the warnings of what is written there,
-- which name the file as it is shown
pub record IsFound (name bytes : List ℕ) (image : Image) (text : List ℕ) : Type 0 where
  pub warnings : List ℕ
  pub told : IsWarned (shown_name name) bytes warnings
  pub is : text ≡ summary_of image ++ warnings

-- it was written, or a beginning of it
pub record WritesFound (name bytes : List ℕ) (image : Image) (old new : Option (List ℕ)) : Type 0 where
  pub text : List ℕ
  pub found : IsFound name bytes image text
  pub written : Appends old new text

pub record WritesFoundPart (name bytes : List ℕ) (image : Image) (old new : Option (List ℕ)) : Type 0 where
  pub text : List ℕ
  pub found : IsFound name bytes image text
  pub in_part : GrowsInto old new text

-- what writing it leaves that is refused
abbrev pub RefusesFound : (name bytes : List ℕ) → Image → Option (List ℕ) → Option (List ℕ) → Fault → Type 0
RefusesFound name bytes image old new (fault.Files load.Memory) = new ≡ old
RefusesFound name bytes image old new fault.Write = WritesFoundPart name bytes image old new
RefusesFound name bytes image old new other = ⊥

-- the program in this file has an image, whose summary was written, with the warnings of what is written there behind it
pub record FindsImage (files : Option Contents) (name : List ℕ) (old new : Option (List ℕ)) : Type 0 where
  pub image : Image
  pub compiled : IsCompiledFrom files name image
  pub bytes : List ℕ
  pub held : HasBytes files name bytes
  pub writes : WritesFound name bytes image old new

-- the program in this file has an image, and a beginning of that was written
pub record FindsImagePart (files : Option Contents) (name : List ℕ) (old new : Option (List ℕ)) : Type 0 where
  pub image : Image
  pub compiled : IsCompiledFrom files name image
  pub bytes : List ℕ
  pub held : HasBytes files name bytes
  pub in_part : WritesFoundPart name bytes image old new

-- a beginning was written of what is said of the fault for which this file has no image
pub record ExplainsPart (files : Option Contents) (name : List ℕ) (old new : Option (List ℕ)) : Type 0 where
  pub fault : LoadFault
  pub none : FileLacksCompiled files name fault
  pub told : WritesPart old new

-- how a fault is told: that of a text by its number, that of a program with what it names
abbrev pub told_fault : LoadFault → List ℕ
told_fault (load.Text f) = text_fault f
told_fault (load.Program f) = fault_text f
told_fault (load.File shown) = codes "E64"
told_fault other = codes "E52"

-- of bytes that are a text with a fault each flaw is told: the report of its fault, and behind it those of the others
abbrev pub TellsEachFlaw : (name bytes : List ℕ) → LoadFault → (report : List ℕ) → Type 0
TellsEachFlaw name bytes (load.Text f) report = IsUtf8 bytes → TellsEach name bytes f report
TellsEachFlaw name bytes other report = Unit {0}

-- what is said of the fault of these bytes: it begins with the name of their file, as it is shown, and tells the fault, and
-- each flaw of a text
pub record IsReport (name bytes : List ℕ) (f : LoadFault) (report : List ℕ) : Type 0 where
  pub tells : Tells (shown_name name) (told_fault f) report
  pub flaws : TellsEachFlaw (shown_name name) bytes f report

-- the text of a file whose fault is told: the source in it, or, where it has none for this fault, what is written there
abbrev pub IsTextOf : Option Contents → (name bytes : List ℕ) → LoadFault → Type 0
IsTextOf files name bytes f = HasSource files name bytes ⊎ (HasBytes files name bytes × BytesLackSource bytes f)

-- what is said of the fault of a file: that of its text, where it has one
abbrev pub IsReportOf : Option Contents → (name : List ℕ) → LoadFault → (report : List ℕ) → Type 0
IsReportOf files name (load.File shown) report = Tells (shown_name name) (codes "E64") report
IsReportOf files name f report = (bytes : List ℕ) × IsTextOf files name bytes f × IsReport name bytes f report

-- that was written
pub record WritesReport (files : Option Contents) (name : List ℕ) (f : LoadFault) (old new : Option (List ℕ)) : Type 0 where
  pub text : List ℕ
  pub is : IsReportOf files name f text
  pub written : Appends old new text

-- what telling of a fault leaves that is refused
abbrev pub RefusesTelling : Option (List ℕ) → Option (List ℕ) → Fault → Type 0
RefusesTelling old new (fault.Files load.Memory) = new ≡ old
RefusesTelling old new fault.Write = WritesPart old new
RefusesTelling old new other = ⊥

-- what an explanation leaves: the fault for which the file has no image, and a report of it was written; where memory was
-- refused, some text or nothing; and a beginning where the output failed
abbrev pub RefusesExplaining : Option Contents → List ℕ → Option (List ℕ) → Option (List ℕ) → Fault → Type 0
RefusesExplaining files name old new (fault.Files load.Memory) = (new ≡ old) ⊎ WritesSome old new
RefusesExplaining files name old new fault.Write = FindsImagePart files name old new ⊎ ExplainsPart files name old new
RefusesExplaining files name old new (fault.Files other) = FileLacksCompiled files name other × WritesReport files name other old new
RefusesExplaining files name old new other = ⊥
