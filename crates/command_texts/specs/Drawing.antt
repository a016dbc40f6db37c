-- The drawing of a source text.
use Rattle.std.specs.Prelude.{ℕ, ◌⊎◌, Option, List}
use Rattle.std.specs.Str.{IsUtf8}
use Rattle.sc_graph.specs.Program.{Program}
use Rattle.sc_text.specs.declared.language.Language.{Language}
use Rattle.sc_text.specs.declared.language.Language.TheVariants as language
use Rattle.sc_text.specs.FirstToken.{IsIn}
use Rattle.scl.specs.declared.program.Scl.{Scl}
use Rattle.scl_reader.specs.Read.{IsRead}
use Rattle.scl_graph.specs.Answers.{IsGraph, LacksGraph}
use Rattle.scl_graph.specs.declared.fault.GraphFault.{GraphFault}
use Rattle.compiler.specs.declared.fault.CompileFault.TheVariants as compiling
use Rattle.compiler.specs.Programs.{SpellsIn}
use Rattle.command_files.specs.declared.fault.LoadFault.{LoadFault}
use Rattle.command_files.specs.declared.fault.LoadFault.TheVariants as load
use Rattle.command_files.specs.Files.{Contents}
use Rattle.command_files.specs.Standing.{StandsFor, HasSource, BytesLackSource, SourceLacks}
use Rattle.command_files.specs.Sources.{TextLacksProgram, BytesLackProgram}

-- ---- what there is

-- what is drawn: of a chart itself, of an SCL program its graph
abbrev pub HasGraph : Language → Scl → Type 0
HasGraph language.Chart scl = Unit {0}
HasGraph language.Scl scl = (p : Program) × IsGraph scl p

-- the text spells a program, and in SCL one that has a graph
pub record HasDrawing (text : List ℕ) : Type 0 where
  pub language : Language
  pub is_in : IsIn text language
  pub scl : Scl
  pub spells : SpellsIn language text scl
  pub graph : HasGraph language scl

-- there is such a text in this file
pub record HasDrawingIn (files : Option Contents) (name : List ℕ) : Type 0 where
  pub bytes : List ℕ
  pub held : HasSource files name bytes
  pub is_text : IsUtf8 bytes
  pub drawn : HasDrawing bytes

-- these bytes stand for a source that is such a text
pub record HasDrawnSource (written : List ℕ) : Type 0 where
  pub source : List ℕ
  pub stands : StandsFor written source
  pub is_text : IsUtf8 source
  pub drawn : HasDrawing source

-- ---- why there is none

-- the text spells a program of SCL, which has no graph, for this fault
pub record SclTextLacksGraph (text : List ℕ) (f : GraphFault) : Type 0 where
  pub is_scl : IsIn text language.Scl
  pub scl : Scl
  pub read : IsRead text scl
  pub none : LacksGraph scl f

abbrev pub TextLacksGraph : List ℕ → LoadFault → Type 0
TextLacksGraph text load.Memory = Unit {0}
TextLacksGraph text (load.Program (compiling.Graph f)) = SclTextLacksGraph text f
TextLacksGraph text other = ⊥

-- why a text has no drawing: it spells no program, or in SCL one that has no graph
abbrev pub TextLacksDrawing : List ℕ → LoadFault → Type 0
TextLacksDrawing text f = TextLacksProgram text f ⊎ TextLacksGraph text f

-- why bytes have none
abbrev pub BytesLackDrawing : List ℕ → LoadFault → Type 0
BytesLackDrawing bytes f = BytesLackProgram bytes f ⊎ TextLacksGraph bytes f

-- there is no program in this file, or its text is SCL and has no graph
abbrev pub FileLacksDrawing : Option Contents → List ℕ → LoadFault → Type 0
FileLacksDrawing files name f = SourceLacks BytesLackDrawing files name f

-- these bytes stand for no source, or for one that has none
abbrev pub LacksDrawnSource : List ℕ → LoadFault → Type 0
LacksDrawnSource written f = BytesLackSource written f ⊎ ((source : List ℕ) × StandsFor written source × BytesLackDrawing source f)
