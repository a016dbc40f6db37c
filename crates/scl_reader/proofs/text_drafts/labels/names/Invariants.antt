use Rattle.std.proofs.Common.{◌≡◌, ◌++◌, drop}
use Rattle.scl_reader.specs.Flaws.{names}
use Rattle.scl_reader.proofs.text_drafts.labels.names.Given as goal

abbrev pub invariant-loop-at : goal.invariant-loop-at
invariant-loop-at l = l.names.items ++ names (drop l.at l.labels) ≡ names l.labels
