use Rattle.std.proofs.lemmas.Grind.{common_steps}
use Rattle.std.proofs.Common.{get_or, arith}
use Rattle.tick_core.proofs.Forbidding.{no_step, two_steps, forbidden_here}
use Rattle.tick_core.proofs.judging.forbidden.is_forbidden.Goals as goal

pub returns-then-are_concurrent : goal.returns-then-are_concurrent
returns-then-are_concurrent c =
    forbidden_here c.args.program.now c.args.steps.now c.args.first c.args.second
    (get_or c.args.steps.now c.args.first no_step) (get_or c.args.steps.now c.args.second no_step)
    (two_steps c.args.steps.now c.args.first c.args.second c.requires.before c.requires.within)
    c.requires.before c.may_precede.result c.may_precede.ensures (c.are_concurrent.ensures.0 c.if-are_concurrent.true)

pub returns-else-are_concurrent : goal.returns-else-are_concurrent
returns-else-are_concurrent c = grind (arith, common_steps) steps 2000000
