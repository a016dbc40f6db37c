use Rattle.std.proofs.Common.{sym}
use Rattle.trace_lines.proofs.kept_line.is_kept_at.Goals as goal

pub returns-in-Some : goal.returns-in-Some
returns-in-Some c = λ h. record {
  one = c.in-Some.one.now;
  there = sym c.in-Some.ensures;
  is_line = (c.is_kept_in.ensures h).0;
  same = (c.is_kept_in.ensures h).1;
}
