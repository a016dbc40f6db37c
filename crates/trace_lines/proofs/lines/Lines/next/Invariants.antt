use Rattle.std.proofs.Common.{◌≡◌, ◌+◌, ◌-◌, ◌*◌, min, length, vec_len, true, false}
use Rattle.std.specs.Io.KnownBytes.{Consumes}
use Rattle.sc_values.specs.Streams.{StaysOpen}
use Rattle.trace_lines.specs.Lines.{line_limit, has_feed, ahead}
use Rattle.trace_lines.proofs.lines.Lines.next.Given as goal

abbrev pub invariant-loop-is_whole : goal.invariant-loop-is_whole
invariant-loop-is_whole g l = record {
  taken : Consumes (ahead l.fn.self (g.R.Source.to_come l.fn.source)) (ahead l.self (g.R.Source.to_come l.source)) l.line.items;
  no_feed : has_feed l.line.items ≡ false;
  none_failed : g.R.Source.failures l.source ≡ g.R.Source.failures l.fn.source;
  going : StaysOpen (g.R.Source.progress l.fn.source) (g.R.Source.progress l.source);
  at_hand : has_feed l.fn.self ≡ true → (l.source ≡ l.fn.source) × (has_feed l.self ≡ true);
}

abbrev pub decreases-loop-is_whole : goal.decreases-loop-is_whole
decreases-loop-is_whole g l = 2 * (line_limit + 1 - vec_len l.line) - min 1 (length l.self)
