use Rattle.tick_core.proofs.Forbidding.{first_from, ordered_from, none_more_places}
use Rattle.tick_core.proofs.judging.forbidden.first_forbidden.Goals as goal

pub returns-in-Some : goal.returns-in-Some
returns-in-Some c =
    first_from c.args.program.now c.args.steps.now c.in-Some.first c.loop-second.second c.in-Some.ensures c.loop-second.invariant

pub loop-second-preserved : goal.loop-second-preserved
loop-second-preserved c = none_more_places c.args.program.now c.args.steps.now c.loop-second.second c.loop-second.invariant c.in_default.ensures

pub returns : goal.returns
returns c = ordered_from c.args.program.now c.args.steps.now c.loop-second.second c.loop-second-test.false c.loop-second.invariant
