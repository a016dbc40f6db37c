use Rattle.std.proofs.Common.{◌≡◌, length, map, take}
use Rattle.embedded_machine.specs.Rows.{row_of}
use Rattle.embedded_machine.proofs.rows.put_rows.Given as goal

abbrev pub invariant-loop-at : goal.invariant-loop-at
invariant-loop-at l = record {
  long : length l.rows ≡ length l.variables;
  same : take l.at l.rows ≡ map row_of (take l.at l.variables);
}
