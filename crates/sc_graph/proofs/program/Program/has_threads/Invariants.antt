use Rattle.std.proofs.Common.{ℕ, ◌<◌, length, get_or}
use Rattle.sc_graph.proofs.program.Program.has_threads.Given as goal

abbrev pub invariant-loop-thread : goal.invariant-loop-thread
invariant-loop-thread l = (k d : ℕ) → k < l.thread-index → get_or l.threads k d < length l.self.threads
