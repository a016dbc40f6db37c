use Rattle.std.proofs.Common.{arith}
use Rattle.std.proofs.lemmas.Grind.{common_steps, elements}
use Rattle.trace_lines.proofs.lines.Lines.refill.Goals as goal

pub returns-clause-more : goal.returns-clause-more
returns-clause-more g c = grind (arith, elements) steps 2000000

pub returns-clause-none_failed : goal.returns-clause-none_failed
returns-clause-none_failed g c = grind (arith, elements) steps 2000000

pub returns-clause-failed : goal.returns-clause-failed
returns-clause-failed g c = grind (arith, elements) steps 2000000

pub returns-clause-end : goal.returns-clause-end
returns-clause-end g c = grind (arith, elements) steps 2000000

pub returns-clause-going : goal.returns-clause-going
returns-clause-going g c = grind (arith, elements) steps 2000000

pub returns-clause-not_behind : goal.returns-clause-not_behind
returns-clause-not_behind g c = grind (arith, elements) steps 2000000

pub invariant_of-self : goal.invariant_of-self
invariant_of-self g c = grind (arith, elements) steps 2000000

pub returns-clause-bytes : goal.returns-clause-bytes
returns-clause-bytes g c = grind (arith, common_steps) steps 2000000
