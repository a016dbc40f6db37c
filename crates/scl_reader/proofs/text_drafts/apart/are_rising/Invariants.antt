use Rattle.std.proofs.Common.{◌<◌}
use Rattle.std.specs.List.{AllAdjacentBelow}
use Rattle.scl_reader.proofs.text_drafts.apart.are_rising.Given as goal

abbrev pub invariant-loop-at : goal.invariant-loop-at
invariant-loop-at l = record {
  some : 0 < l.at;
  each : AllAdjacentBelow (λ x y. x < y) l.numbers l.at;
}
