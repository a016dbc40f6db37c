use Rattle.tick_core.proofs.Taken.{forked_takes}
use Rattle.tick_core.proofs.stepping.take_step_at.Goals as goal

pub returns-in-Fork-clause-stepped : goal.returns-in-Fork-clause-stepped
returns-in-Fork-clause-stepped c =
    forked_takes c.args.program.now c.args.control.now _ c.args.thread _ _ _ _ c.in-Fork.is c.as_slice.ensures c.requires.defined c.fork.ensures
