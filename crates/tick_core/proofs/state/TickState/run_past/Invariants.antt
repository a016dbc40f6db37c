use Rattle.std.proofs.Common.{◌-◌, length}
use Rattle.tick_core.specs.Inside.Turns.{RunsBy}
use Rattle.tick_core.proofs.state.TickState.run_past.Given as goal

abbrev pub invariant-loop-next : goal.invariant-loop-next
invariant-loop-next g l = RunsBy l.worker l.fn.self l.self l.next

abbrev pub decreases-loop-next : goal.decreases-loop-next
decreases-loop-next g l = l.self.image.tables.budget - length l.self.history
