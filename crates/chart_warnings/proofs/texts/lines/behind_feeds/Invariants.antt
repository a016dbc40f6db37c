use Rattle.std.proofs.Common.{◌≡◌, drop}
use Rattle.chart_warnings.specs.Lines.{behind_feeds}
use Rattle.chart_warnings.proofs.texts.lines.behind_feeds.Given as goal

abbrev pub invariant-loop-at : goal.invariant-loop-at
invariant-loop-at l = behind_feeds l.left (drop l.at l.text) ≡ behind_feeds l.feeds l.text
