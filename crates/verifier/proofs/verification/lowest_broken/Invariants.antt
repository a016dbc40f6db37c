use Rattle.std.proofs.Common.{◌+◌}
use Rattle.verifier.specs.Verdict.{KeepsBelow}
use Rattle.verifier.proofs.verification.lowest_broken.Given as goal

abbrev pub invariant-loop-rule : goal.invariant-loop-rule
invariant-loop-rule l = KeepsBelow l.program l.tables (31 + l.rule-index)
