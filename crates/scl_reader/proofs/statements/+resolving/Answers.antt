use Rattle.std.proofs.lemmas.Grind.{common_steps}
use Rattle.std.proofs.Common.{arith}
use Rattle.sc_text.specs.Flaws.{variable_names}
use Rattle.scl_reader.proofs.Looking.{fork_looked}
use Rattle.scl_reader.proofs.statements.+resolving.Goals as goal

pub statement-returns-after-loop-branch : goal.statement-returns-after-loop-branch
statement-returns-after-loop-branch t c =
    fork_looked (variable_names c.args.scope.now.variables.now) c.as_slice-branch-items.result.now c.in-Fork.branches c.in-Fork.join c.loop-branch.branch-index
    c.loop-branch.all c.args.text.now
    c.loop-branch-test.false c.loop-branch.invariant c.as_slice-branch-items.ensures c.in-Fork.is

pub statement-loop-branch-preserved : goal.statement-loop-branch-preserved
statement-loop-branch-preserved t c = grind (arith, common_steps) steps 2000000
