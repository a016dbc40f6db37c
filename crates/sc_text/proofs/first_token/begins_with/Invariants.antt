use Rattle.std.proofs.Common.{◌-◌, ◌≤◌, length, drop}
use Rattle.sc_text.proofs.FirstToken.{IsSame}
use Rattle.sc_text.proofs.first_token.begins_with.Given as goal

abbrev pub invariant-loop-at : goal.invariant-loop-at
invariant-loop-at l = record {
  within : l.at ≤ length l.text;
  same : IsSame l.word l.text (drop l.at l.text);
}

abbrev pub decreases-loop-at : goal.decreases-loop-at
decreases-loop-at l = length l.text - l.at
