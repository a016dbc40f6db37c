use Rattle.std.proofs.Common.{◌≡◌, ◌≤◌, drop}
use Rattle.std.specs.Prelude.{max}
use Rattle.sc_text.specs.Flaws.{greatest_height}
use Rattle.sc_text.proofs.drafts.heights.greatest_height.Given as goal

abbrev pub invariant-loop-operation : goal.invariant-loop-operation
invariant-loop-operation l =
    (max l.greatest (greatest_height l.height (drop l.operation-index l.operations)) ≡ greatest_height 0 l.operations) × (l.height ≤ l.operation-index)
