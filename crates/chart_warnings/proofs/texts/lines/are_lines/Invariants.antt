use Rattle.std.proofs.Common.{◌≡◌, drop}
use Rattle.chart_warnings.specs.Lines.{are_lines}
use Rattle.chart_warnings.proofs.texts.lines.are_lines.Given as goal

abbrev pub invariant-loop-byte : goal.invariant-loop-byte
invariant-loop-byte l = are_lines l.left (drop l.byte-index l.text) ≡ are_lines l.count l.text
