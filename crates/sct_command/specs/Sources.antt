-- What is left where a source text is compiled or printed.
use Rattle.std.specs.Prelude.{ℕ, ◌≡◌, ◌⊎◌, Option, List}
use Rattle.std.specs.Io.KnownBytes.{Appends}
use Rattle.sc_values.specs.Streams.{GrowsInto}
use Rattle.scl.specs.declared.program.Scl.{Scl}
use Rattle.scl_printer.specs.Layout.{text_of}
use Rattle.bytecode.specs.Image.{Image}
use Rattle.bytecode.specs.Spells.{Spells}
use Rattle.command_files.specs.Files.{Contents, Stores}
use Rattle.command_files.specs.Sources.{IsCompiledFrom, FileLacksCompiled, FileLacksProgram, IsSource}
use Rattle.command_files.specs.Storing.{IsNotStored}
use Rattle.command_texts.specs.Summary.{summary_of}
use Rattle.sct_command.specs.Writing.{RefusesToWrite}
use Rattle.sct_command.specs.declared.fault.Fault.{Fault}
use Rattle.sct_command.specs.declared.fault.Fault.TheVariants as fault

-- ---- what was done

-- the file of one name has now the image of the program in that of the other, in version 2, and the image's summary
-- was written
pub record Compiles (files files' : Option Contents) (from to : List ℕ) (old new : Option (List ℕ)) : Type 0 where
  pub image : Image
  pub compiled : IsCompiledFrom files from image
  pub bytes : List ℕ
  pub spelt : Spells 2 bytes image
  pub stored : Stores files files' to bytes
  pub written : Appends old new (summary_of image)

-- the text of the program in this file was written
pub record PrintsText (files : Option Contents) (name : List ℕ) (old new : Option (List ℕ)) : Type 0 where
  pub scl : Scl
  pub source : IsSource files name scl
  pub written : Appends old new (text_of scl)

-- the bytes are those of the image of the program in this file, in version 2
pub record AreOfProgram (files : Option Contents) (name bytes : List ℕ) : Type 0 where
  pub image : Image
  pub compiled : IsCompiledFrom files name image
  pub spelt : Spells 2 bytes image

-- ---- what was refused

-- the image was stored, and a beginning of its summary was written
pub record CompilesPart (files files' : Option Contents) (from to : List ℕ) (old new : Option (List ℕ)) : Type 0 where
  pub image : Image
  pub compiled : IsCompiledFrom files from image
  pub bytes : List ℕ
  pub spelt : Spells 2 bytes image
  pub stored : Stores files files' to bytes
  pub in_part : GrowsInto old new (summary_of image)

-- what compiling leaves that is refused: no file was written and nothing else, but where the output failed
abbrev pub RefusesCompile : Option Contents → Option Contents → List ℕ → List ℕ → Option (List ℕ) → Option (List ℕ)
    → Fault → Type 0
RefusesCompile files files' from to old new fault.Write = CompilesPart files files' from to old new
RefusesCompile files files' from to old new (fault.Files f) =
    (FileLacksCompiled files from f ⊎ IsNotStored to f) × (files' ≡ files) × (new ≡ old)
RefusesCompile files files' from to old new other = ⊥

-- what is left where the image was to be written to the output: nothing was written, but where the output failed
abbrev pub RefusesWriting : Option Contents → List ℕ → Option (List ℕ) → Option (List ℕ) → Fault → Type 0
RefusesWriting files from old new f = RefusesToWrite (AreOfProgram files from) (FileLacksCompiled files from) old new f

-- a beginning of the text of the program in this file was written
pub record PrintsPart (files : Option Contents) (name : List ℕ) (old new : Option (List ℕ)) : Type 0 where
  pub scl : Scl
  pub source : IsSource files name scl
  pub in_part : GrowsInto old new (text_of scl)

-- what printing leaves that is refused: nothing was written, but where the output failed
abbrev pub RefusesPrinting : Option Contents → List ℕ → Option (List ℕ) → Option (List ℕ) → Fault → Type 0
RefusesPrinting files name old new fault.Write = PrintsPart files name old new
RefusesPrinting files name old new (fault.Files f) = FileLacksProgram files name f × (new ≡ old)
RefusesPrinting files name old new other = ⊥
