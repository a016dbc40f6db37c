-- The program of the source in a file, and its image, or why there is none.
use Rattle.std.specs.Prelude.{ℕ, ◌≡◌, ◌⊎◌, Option, List}
use Rattle.std.specs.Str.{IsUtf8}
use Rattle.sc_text.specs.declared.read_fault.FaultKind.TheVariants as broken
use Rattle.sc_text.specs.declared.read_fault.ReadFault.TheVariants as read
use Rattle.scl.specs.declared.program.Scl.{Scl}
use Rattle.bytecode.specs.Image.{Image}
use Rattle.compiler.specs.declared.fault.CompileFault.TheVariants as compiling
use Rattle.compiler.specs.Texts.{IsImageOf, SclLacksImage}
use Rattle.compiler.specs.declared.sources.fault.SourceFault.{SourceFault}
use Rattle.compiler.specs.declared.sources.fault.SourceFault.TheVariants as unspelled
use Rattle.compiler.specs.Programs.{LacksProgram, SpellsProgram}
use Rattle.command_files.specs.declared.fault.LoadFault.{LoadFault}
use Rattle.command_files.specs.declared.fault.LoadFault.TheVariants as fault
use Rattle.command_files.specs.Files.{Contents}
use Rattle.command_files.specs.Standing.{HasSource, SourceLacks}

-- ---- what is there

-- the source in the file of this name is text, which spells this program
pub record IsSource (files : Option Contents) (name : List ℕ) (scl : Scl) : Type 0 where
  pub bytes : List ℕ
  pub held : HasSource files name bytes
  pub text : IsUtf8 bytes
  pub read : SpellsProgram bytes scl

-- the image is that of the program that these bytes spell as text
pub record SpellsImage (bytes : List ℕ) (image : Image) : Type 0 where
  pub scl : Scl
  pub text : IsUtf8 bytes
  pub read : SpellsProgram bytes scl
  pub compiled : IsImageOf scl image

-- the image is that of the program in this file
pub record IsCompiledFrom (files : Option Contents) (name : List ℕ) (image : Image) : Type 0 where
  pub scl : Scl
  pub source : IsSource files name scl
  pub compiled : IsImageOf scl image

-- ---- what is not there

-- why a text spells no program, as the fault of a file
abbrev pub loaded : SourceFault → LoadFault
loaded (unspelled.Text f) = fault.Text f
loaded (unspelled.Expansion f) = fault.Program (compiling.Expansion f)

abbrev pub TextLacksProgram : List ℕ → LoadFault → Type 0
TextLacksProgram text (fault.Text f) = LacksProgram text (unspelled.Text f)
TextLacksProgram text (fault.Program (compiling.Expansion f)) = LacksProgram text (unspelled.Expansion f)
TextLacksProgram text other = ⊥

-- why bytes spell no program: they are no text, which is told of their first place; or the text spells none
abbrev pub BytesLackProgram : List ℕ → LoadFault → Type 0
BytesLackProgram bytes (fault.Text f) =
    (¬ IsUtf8 bytes × (f ≡ read.Text broken.Token 0)) ⊎ (IsUtf8 bytes × TextLacksProgram bytes (fault.Text f))
BytesLackProgram bytes (fault.Program f) = IsUtf8 bytes × TextLacksProgram bytes (fault.Program f)
BytesLackProgram bytes other = ⊥

-- the bytes are text, which spells a program that has no image, for this fault
abbrev pub ProgramLacksImage : List ℕ → LoadFault → Type 0
ProgramLacksImage bytes (fault.Program f) = (scl : Scl) × IsUtf8 bytes × SpellsProgram bytes scl × SclLacksImage scl f
ProgramLacksImage bytes other = ⊥

-- why bytes spell no image: they spell no program, or one that has no image
abbrev pub BytesLackCompiled : List ℕ → LoadFault → Type 0
BytesLackCompiled bytes f = BytesLackProgram bytes f ⊎ ProgramLacksImage bytes f

-- why bytes have no image that could be given: they spell none; or memory was refused, which says nothing of them
abbrev pub BytesLackImage : List ℕ → LoadFault → Type 0
BytesLackImage bytes fault.Memory = Unit {0}
BytesLackImage bytes other = BytesLackCompiled bytes other

-- no program could be had from the file of this name, for this fault
abbrev pub FileLacksProgram : Option Contents → List ℕ → LoadFault → Type 0
FileLacksProgram files name f = SourceLacks BytesLackProgram files name f

-- there is no program in this file, or it has no image
abbrev pub FileLacksCompiled : Option Contents → List ℕ → LoadFault → Type 0
FileLacksCompiled files name f = SourceLacks BytesLackCompiled files name f
