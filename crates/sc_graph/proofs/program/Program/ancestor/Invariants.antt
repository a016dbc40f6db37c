use Rattle.std.proofs.Common.{ℕ, ◌↔◌, ◌-◌}
use Rattle.sc_graph.specs.Threads.{Descends}
use Rattle.sc_graph.proofs.program.Program.ancestor.Given as goal

abbrev pub invariant-loop : goal.invariant-loop
invariant-loop l = (u : ℕ) → Descends l.self l.generations l.thread u ↔ Descends l.self (l.generations - l.counter) l.at u
