use Rattle.std.proofs.Common.{arith}
use Rattle.sc_graph.specs.declared.place.Place.TheVariants as place
use Rattle.verifier.proofs.Everywhere.{assignments_kept}
use Rattle.verifier.proofs.assignments.assignment_fault.Goals as goal

pub assignment_holds-requires-clause-code : goal.assignment_holds-requires-clause-code
assignment_holds-requires-clause-code c = c.requires.codes (place.Node c.loop-n.n)

pub returns : goal.returns
returns c = assignments_kept c.args.program.now (λ n h. c.loop-n.invariant n (omega (arith, h)))
