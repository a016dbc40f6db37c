use Rattle.std.proofs.lemmas.Grind.{common_steps, elements}
use Rattle.std.proofs.Common.{arith, below_more}
use Rattle.program_edges.specs.Inside.NoConflicts.{NoConflictOn}
use Rattle.program_edges.proofs.Finding.{no_conflicts}
use Rattle.program_edges.proofs.conflicts.find_conflict.Goals as goal

pub loop-x-preserved : goal.loop-x-preserved
loop-x-preserved c = let here = rw c.in-None.is at c.in_ok-pair.ensures in below_more (NoConflictOn c.args.program.now) _ c.loop-x.invariant here

pub returns : goal.returns
returns c = no_conflicts c.args.program.now c.requires.formed (λ x h. c.loop-x.invariant x (omega (arith, h)))

pub returns-in-Some : goal.returns-in-Some
returns-in-Some c = grind (arith, common_steps) steps 2000000

pub conflict_over-requires-clause-updates : goal.conflict_over-requires-clause-updates
conflict_over-requires-clause-updates c = grind (arith, elements) steps 2000000

pub conflict_over-requires-clause-inits : goal.conflict_over-requires-clause-inits
conflict_over-requires-clause-inits c = grind (arith, elements) steps 2000000
