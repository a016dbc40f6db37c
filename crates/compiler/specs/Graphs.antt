-- The program of nodes that a source text makes, or why it makes none.
use Rattle.std.specs.Prelude.{ℕ, ◌⊎◌, List}
use Rattle.sc_text.specs.declared.read_fault.ReadFault.TheVariants as read
use Rattle.sc_graph.specs.Program.{Program}
use Rattle.scl.specs.declared.program.Scl.{Scl}
use Rattle.scl_graph.specs.Answers.{IsGraph, LacksGraph}
use Rattle.scl_graph.specs.declared.fault.GraphFault.{GraphFault}
use Rattle.scl_graph.specs.declared.fault.GraphFault.TheVariants as graph
use Rattle.abort_expansion.specs.declared.fault.ExpandFault.TheVariants as expansion
use Rattle.compiler.specs.declared.sources.fault.SourceFault.{SourceFault}
use Rattle.compiler.specs.declared.sources.fault.SourceFault.TheVariants as fault
use Rattle.compiler.specs.Programs.{LacksProgram, SpellsProgram}

-- ---- what it makes

-- the text spells an SCL program, or a chart that has one, and this is its graph
pub record Makes (text : List ℕ) (p : Program) : Type 0 where
  pub scl : Scl
  pub read : SpellsProgram text scl
  pub graph : IsGraph scl p

-- ---- why it makes none

-- the fault says something of the text, and not that memory was refused
abbrev pub SaysOfText : SourceFault → Type 0
SaysOfText (fault.Text read.Memory) = ⊥
SaysOfText (fault.Expansion expansion.Memory) = ⊥
SaysOfText other = Unit {0}

-- the text spells no program
pub record SpellsNone (text : List ℕ) : Type 0 where
  pub fault : SourceFault
  pub why : LacksProgram text fault
  pub said : SaysOfText fault

-- a graph is refused for this reason, and not because memory was
abbrev pub SaysOfProgram : GraphFault → Type 0
SaysOfProgram graph.Memory = ⊥
SaysOfProgram other = Unit {0}

-- the program has no graph
pub record IsGraphless (scl : Scl) : Type 0 where
  pub fault : GraphFault
  pub refused : LacksGraph scl fault
  pub said : SaysOfProgram fault

-- the text spells a program that has none
pub record SpellsGraphless (text : List ℕ) : Type 0 where
  pub scl : Scl
  pub read : SpellsProgram text scl
  pub none : IsGraphless scl

-- the text has a fault; it spells a chart that has no SCL program; or it spells a program that has no graph
abbrev pub MakesNone : List ℕ → Type 0
MakesNone text = SpellsNone text ⊎ SpellsGraphless text
