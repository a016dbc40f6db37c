use Rattle.std.proofs.Common.{ℕ, ◌<◌}
use Rattle.verifier.specs.Inside.ByNode.{FlowsFrom}
use Rattle.verifier.proofs.flow.flow_fault.Given as goal

abbrev pub invariant-loop-m : goal.invariant-loop-m
invariant-loop-m l = (k : ℕ) → k < l.m → FlowsFrom l.program l.tables k
