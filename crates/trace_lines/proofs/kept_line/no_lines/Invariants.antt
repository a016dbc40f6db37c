use Rattle.std.proofs.Common.{◌≡◌, ℕ, [], Some, length, slice_get}
use Rattle.trace_lines.specs.declared.kept_line.KeptLine.{KeptLine as KeptLineOf}
use Rattle.trace_lines.proofs.kept_line.no_lines.Given as goal

abbrev pub invariant-loop-slot : goal.invariant-loop-slot
invariant-loop-slot l = record {
  number : length l.kept.items ≡ l._slot;
  none : (i : ℕ) (k : KeptLineOf) → slice_get l.kept.items i ≡ Some k → k.line.items ≡ [];
}
