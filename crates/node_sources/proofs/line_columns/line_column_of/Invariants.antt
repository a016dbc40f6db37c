use Rattle.std.proofs.Common.{take}
use Rattle.node_sources.specs.LinesColumns.{IsLineColumn}
use Rattle.node_sources.proofs.line_columns.line_column_of.Given as goal

abbrev pub invariant-loop-i : goal.invariant-loop-i
invariant-loop-i l = IsLineColumn (take l.i l.bytes) l.line_column
