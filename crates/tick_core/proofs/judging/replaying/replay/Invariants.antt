use Rattle.std.proofs.Common.{take}
use Rattle.tick_core.specs.Inside.Judging.{RunsBy}
use Rattle.tick_core.proofs.judging.replaying.replay.Given as goal

abbrev pub invariant-loop-at : goal.invariant-loop-at
invariant-loop-at l = RunsBy l.verified.program l.fn.control (take l.at l.run) l.control l.steps.items
