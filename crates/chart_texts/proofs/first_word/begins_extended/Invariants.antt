use Rattle.std.proofs.Common.{◌-◌, ◌≤◌, length, drop}
use Rattle.chart_texts.proofs.Begins.{IsSame}
use Rattle.chart_texts.proofs.first_word.begins_extended.Given as goal

abbrev pub invariant-loop-at : goal.invariant-loop-at
invariant-loop-at l = record {
  within : l.at ≤ length l.text;
  same : IsSame l.text (drop l.at l.text);
}

abbrev pub decreases-loop-at : goal.decreases-loop-at
decreases-loop-at l = length l.text - l.at
