use Rattle.std.proofs.Common.{ℕ, ◌<◌}
use Rattle.sc_graph.specs.Threads.{ForkedApart}
use Rattle.tick_core.specs.Judging.{IsForbidden}
use Rattle.tick_core.specs.Inside.Judging.{acts_at}
use Rattle.tick_core.proofs.judging.forbidden.first_forbidden.Given as goal

abbrev pub invariant-loop-second : goal.invariant-loop-second
invariant-loop-second l = (k : ℕ) → k < l.second → (h : ℕ) → ¬ IsForbidden (ForkedApart l.program) (acts_at l.program l.steps) h k
