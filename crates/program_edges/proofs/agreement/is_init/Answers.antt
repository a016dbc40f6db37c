use Rattle.std.proofs.lemmas.Grind.{common_steps}
use Rattle.std.proofs.Common.{Some, sym, ap, ◌∙◌, arith}
use Rattle.program_edges.proofs.Agreeing.{init_there}
use Rattle.program_edges.proofs.agreement.is_init.Goals as goal

pub returns-in-Some-Assign : goal.returns-in-Some-Assign
returns-in-Some-Assign c =
    init_there c.args.program.now c.args.n c.args.x c.in-Some-Assign.variable c.in-Some-Assign.field-0-2 c.in-Some-Assign.field-0-1
    (sym c.in-Some-Assign.ensures ∙ ap Some c.in-Some-Assign.field-0-is)

pub returns-in_default-2 : goal.returns-in_default-2
returns-in_default-2 c = grind (arith, common_steps) steps 2000000

pub returns-in_default : goal.returns-in_default
returns-in_default c = grind (arith, common_steps) steps 2000000
