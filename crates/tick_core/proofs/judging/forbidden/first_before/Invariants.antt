use Rattle.std.proofs.Common.{ℕ, ◌<◌}
use Rattle.sc_graph.specs.Threads.{ForkedApart}
use Rattle.tick_core.specs.Judging.{IsForbidden}
use Rattle.tick_core.specs.Inside.Judging.{acts_at}
use Rattle.tick_core.proofs.judging.forbidden.first_before.Given as goal

abbrev pub invariant-loop-first : goal.invariant-loop-first
invariant-loop-first l = (h : ℕ) → h < l.first → ¬ IsForbidden (ForkedApart l.program) (acts_at l.program l.steps) h l.second
