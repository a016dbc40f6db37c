use Rattle.std.proofs.Common.{ℕ, ◌≡◌, false, length, get_or}
use Rattle.compiled_charts.proofs.marking.unmarked.Given as goal

abbrev pub invariant-loop-state : goal.invariant-loop-state
invariant-loop-state l = record {
  many : length l.marks.items ≡ l._state;
  none : (m : ℕ) → get_or l.marks.items m false ≡ false;
}
