use Rattle.std.proofs.lemmas.Grind.{elements, common_steps}
use Rattle.std.proofs.Common.{take, get_or, arith}
use Rattle.std.proofs.lemmas.Option.{slice_get-get_or}
use Rattle.tick_core.proofs.Replaying.{reached_by, some_step, runs_more}
use Rattle.tick_core.proofs.judging.replaying.replay.Goals as goal

pub step_if_enabled-requires-clause-configuration : goal.step_if_enabled-requires-clause-configuration
step_if_enabled-requires-clause-configuration c =
    (reached_by c.args.verified.now.program c.args.verified.now.tables c.args.control.now c.image.ensures.valid c.requires.begins
    (take c.loop-at.at c.args.run.now) c.loop-at.control c.loop-at.steps.items c.loop-at.invariant).configuration

pub step_if_enabled-requires-clause-defined : goal.step_if_enabled-requires-clause-defined
step_if_enabled-requires-clause-defined c enabled =
    some_step
    ((reached_by c.args.verified.now.program c.args.verified.now.tables c.args.control.now c.image.ensures.valid c.requires.begins
    (take c.loop-at.at c.args.run.now) c.loop-at.control c.loop-at.steps.items c.loop-at.invariant).defined (get_or c.args.run.now c.loop-at.at 0) enabled)

pub returns-in-None : goal.returns-in-None
returns-in-None c =
    record {
      thread = get_or c.args.run.now c.loop-at.at 0;
      is = slice_get-get_or c.args.run.now c.loop-at.at 0 c.loop-at-test.true;
      reached = c.loop-at.control;
      runs = c.loop-at.invariant.runs;
      idle = c.in-None.ensures;
    }

pub loop-at-preserved : goal.loop-at-preserved
loop-at-preserved c =
    runs_more c.args.verified.now.program c.args.control.now c.loop-at.control c.step_if_enabled.new.control c.args.run.now c.loop-at.at c.in-Some.node
    c.loop-at.steps.items c.push.new.self.items c.loop-at-test.true c.loop-at.invariant c.in-Some.ensures c.in_ok-push-in-Some.ensures.items

pub returns : goal.returns
returns c = grind (arith, elements) steps 2000000

pub step_if_enabled-requires-clause-kinds : goal.step_if_enabled-requires-clause-kinds
step_if_enabled-requires-clause-kinds c = grind (arith, common_steps) steps 2000000
