use Rattle.std.proofs.Common.{◌≡◌, ◌++◌, drop}
use Rattle.trace_lines.specs.Inside.Rows.{rows_text}
use Rattle.trace_lines.proofs.output.write_rows.Given as goal

-- what is left shows what is missing
abbrev pub invariant-loop-row : goal.invariant-loop-row
invariant-loop-row l = l.line.items ++ rows_text (drop l.row-index l.rows) l.values ≡ l.fn.line.items ++ rows_text l.rows l.values
