use Rattle.std.proofs.Common.{codes, drop, map}
use denote.Text.{Utf8}
use denote.Shadow.{shadow}
use Rattle.scl.specs.Rules.{in_row, part_of, side_by_side, forked}
use Rattle.scl_printer.specs.Layout.{branches_text, statement_text, statements_text}
use Rattle.scl_printer.specs.Inside.Levels.{HasLevels}
use Rattle.scl_printer.specs.Inside.Writing.{Page, Writes, page}
use Rattle.scl_printer.proofs.statements.+writing.Given as goal

abbrev pub invariant-write_statement-loop-branch : goal.invariant-write_statement-loop-branch
invariant-write_statement-loop-branch g l = record {
  utf8 : shadow (Utf8 l.opening);
  levels : HasLevels l.level (forked 0 (side_by_side (map (map part_of) (drop l.branch-index l.branch-items))));
  written : (new : Page) → Writes (page (g.W.Sink.taken l.sink) (g.W.Sink.failures l.sink) l.buffered) new
      (branches_text l.opening (map (map (statement_text l.variables)) (drop l.branch-index l.branch-items)) l.level)
      → Writes (page (g.W.Sink.taken l.initial.sink) (g.W.Sink.failures l.initial.sink) l.initial.buffered) new
      (branches_text (codes "fork {") (map (map (statement_text l.variables)) l.branch-items) l.level);
}

abbrev pub invariant-write_statements-loop-statement : goal.invariant-write_statements-loop-statement
invariant-write_statements-loop-statement g l = record {
  levels : HasLevels l.level (in_row (map part_of (drop l.statement-index l.statements)));
  written : (new : Page) → Writes (page (g.W.Sink.taken l.sink) (g.W.Sink.failures l.sink) l.buffered) new
      (statements_text l.variables (drop l.statement-index l.statements) l.level)
      → Writes (page (g.W.Sink.taken l.initial.sink) (g.W.Sink.failures l.initial.sink) l.initial.buffered) new
      (statements_text l.variables l.statements l.level);
}
