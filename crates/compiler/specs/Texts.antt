-- What compiling an SCL program gives: the image of its graph with the least tables, or why it has none.
use Rattle.sc_graph.specs.Program.{Program}
use Rattle.sc_graph.specs.Valid.{IsValid}
use Rattle.scl.specs.declared.program.Scl.{Scl}
use Rattle.scl.specs.Numbering.{numbered}
use Rattle.scl_graph.specs.Answers.{IsGraph, LacksGraph}
use Rattle.scl_graph_laws.specs.Keeps.{Keeps}
use Rattle.bytecode.specs.Image.{Image}
use Rattle.verifier.specs.declared.rule.Refusal.TheVariants as refusal
use Rattle.priority_weights.specs.LeastTables.{AreLeast}
use Rattle.compiler.specs.Compiled.{LacksImage}
use Rattle.compiler.specs.declared.fault.CompileFault.{CompileFault}
use Rattle.compiler.specs.declared.fault.CompileFault.TheVariants as fault

-- the image is valid, and its tables are the least; its program is the graph of the SCL program, and keeps its runs
pub record IsImageOf (scl : Scl) (image : Image) : Type 0 where
  pub graph : IsGraph scl image.program
  pub runs : ∥ Keeps (numbered scl) image.program ∥₁
  pub least : AreLeast image.program image.tables
  pub valid : IsValid image.program image.tables

-- the graph of an SCL program has no image, for this fault
pub record GraphLacksImage (scl : Scl) (f : CompileFault) : Type 0 where
  pub program : Program
  pub graph : IsGraph scl program
  pub refused : LacksImage program f

-- why an SCL program has no image: that it has no graph comes before what its graph lacks. No rule is broken: the graph
-- keeps the rules about the codes and the assignments of its steps
abbrev pub SclLacksImage : Scl → CompileFault → Type 0
SclLacksImage scl (fault.Graph f) = LacksGraph scl f
SclLacksImage scl (fault.Rule (refusal.Broken broken)) = ⊥
SclLacksImage scl other = GraphLacksImage scl other
