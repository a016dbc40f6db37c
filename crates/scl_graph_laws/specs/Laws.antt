-- The laws of the graph of a text.
use Rattle.sc_graph.specs.declared.place.Place.{Place}
use Rattle.sc_graph.specs.Program.{Program}
use Rattle.sc_graph.specs.Codes.{CodeAt, AssignmentAt}
use Rattle.sc_graph.specs.Valid.{IsFormed}
use Rattle.scl.specs.declared.program.Scl.{Scl}
use Rattle.scl.specs.Numbering.{Numbered, numbered}
use Rattle.scl.specs.Rules.{KeepsRules}
use Rattle.scl_graph.specs.Graph.{program_of}
use Rattle.scl_graph.specs.Loops.{HasNoEmptyLoop}
use Rattle.scl_graph.specs.Answers.{FitsImage, counts_in, IsGraph}
use Rattle.scl_graph_laws.specs.Settling.{Settling}
use Rattle.scl_graph_laws.specs.Mirrors.{Mirrors}
use Rattle.scl_graph_laws.specs.Keeps.{HaveOwnNames, Keeps}

-- each program that mirrors a text of which each place leads to a statement keeps its runs
abbrev pub GraphsKeepRuns : Type 0
GraphsKeepRuns = (p : Numbered) (q : Program) → Mirrors p q → Settling p.root → HaveOwnNames p.variables → Keeps p q

-- the program of an SCL program mirrors it, and so keeps its runs where no labels and gotos alone lead back to
-- themselves
pub record ProgramsKeepRuns : Type 0 where
  pub graph : (p : Scl) → Mirrors (numbered p) (program_of (numbered p))
  pub runs : (p : Scl) → KeepsRules p.name p.variables p.body → HasNoEmptyLoop (numbered p).root → Keeps (numbered p) (program_of (numbered p))

-- it is formed, where it has no more nodes and threads than an image may: it keeps the size rule, the budget aside, and
-- the structure rule
abbrev pub ProgramsAreFormed : Type 0
ProgramsAreFormed = (p : Scl) → KeepsRules p.name p.variables p.body → HasNoEmptyLoop (numbered p).root → FitsImage (counts_in p)
    → IsFormed (program_of (numbered p))

-- the rules about the codes and the assignments of steps are kept at each place
pub record KeepsStepRules (q : Program) : Type 0 where
  pub code : (at : Place) → CodeAt q at
  pub assignment : (at : Place) → AssignmentAt q at

-- it keeps them, where it has no more nodes and threads than an image may
abbrev pub ProgramsKeepStepRules : Type 0
ProgramsKeepStepRules = (p : Scl) → KeepsRules p.name p.variables p.body → HasNoEmptyLoop (numbered p).root →
    FitsImage (counts_in p) → KeepsStepRules (program_of (numbered p))

-- so what is answered as the graph of an SCL program keeps its runs, is formed, and keeps the rules about steps
abbrev pub AnsweredGraphs : Type 0
AnsweredGraphs = (p : Scl) (q : Program) → KeepsRules p.name p.variables p.body → IsGraph p q → Keeps (numbered p) q × IsFormed q × KeepsStepRules q
