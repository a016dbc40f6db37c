use Rattle.std.proofs.lemmas.Grind.{common_steps}
use Rattle.std.proofs.Common.{arith}
use Rattle.probe.proofs.note.Note.learn.Goals as goal

pub returns-then-begins_with-clause-other : goal.returns-then-begins_with-clause-other
returns-then-begins_with-clause-other c = grind (arith, common_steps) steps 2000000

pub returns-then-begins_with-clause-own : goal.returns-then-begins_with-clause-own
returns-then-begins_with-clause-own c = grind (arith, common_steps) steps 2000000
