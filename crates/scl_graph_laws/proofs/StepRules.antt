-- The program of an SCL program keeps the rules about codes and assignments.
use Rattle.sc_graph.specs.declared.place.Place.{Place}
use Rattle.sc_graph.specs.declared.place.Place.TheVariants as place
use Rattle.sc_graph.specs.Program.{Program}
use Rattle.sc_graph.specs.Codes.{CodeAt, AssignmentAt}
use Rattle.scl.specs.declared.program.Scl.{Scl}
use Rattle.scl.specs.Numbering.{numbered}
use Rattle.scl.specs.Rules.{KeepsRules}
use Rattle.scl_graph.specs.Graph.{program_of}
use Rattle.scl_graph.specs.Loops.{HasNoEmptyLoop}
use Rattle.scl_graph.specs.Answers.{FitsImage, counts_in}
use Rattle.scl_graph_laws.specs.Laws.{KeepsStepRules}
use Rattle.scl_graph_laws.proofs.Forming.{step_keeps}

module _ (p : Scl) (kept : KeepsRules p.name p.variables p.body) (no_loop : HasNoEmptyLoop (numbered p).root) (room : FitsImage (counts_in p)) where
  abbrev q : Program
  q = program_of (numbered p)

  codes_kept : (at : Place) → CodeAt q at
  codes_kept (place.Node n) = λ s h. (step_keeps p kept no_loop room n s h).0
  codes_kept place.Image = tt
  codes_kept (place.Variable x) = tt
  codes_kept (place.Thread t) = tt
  codes_kept (place.Pair m n) = tt

  assignments_kept : (at : Place) → AssignmentAt q at
  assignments_kept (place.Node n) = λ s h. (step_keeps p kept no_loop room n s h).1
  assignments_kept place.Image = tt
  assignments_kept (place.Variable x) = tt
  assignments_kept (place.Thread t) = tt
  assignments_kept (place.Pair m n) = tt

  pub program_keeps_step_rules : KeepsStepRules q
  program_keeps_step_rules = record { code = codes_kept; assignment = assignments_kept }
