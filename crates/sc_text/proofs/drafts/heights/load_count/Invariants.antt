use Rattle.std.proofs.Common.{◌≡◌, ◌+◌, ◌≤◌, count_by, drop}
use Rattle.sc_text.specs.Flaws.{is_load}
use Rattle.sc_text.proofs.drafts.heights.load_count.Given as goal

abbrev pub invariant-loop-operation : goal.invariant-loop-operation
invariant-loop-operation l =
    (l.count + count_by is_load (drop l.operation-index l.operations) ≡ count_by is_load l.operations) × (l.count ≤ l.operation-index)
