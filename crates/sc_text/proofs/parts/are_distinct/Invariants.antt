use Rattle.std.proofs.Common.{◌≡◌, drop}
use Rattle.sc_text.specs.Parts.{are_distinct}
use Rattle.sc_text.proofs.parts.are_distinct.Given as goal

abbrev pub invariant-loop-at : goal.invariant-loop-at
invariant-loop-at l = are_distinct (drop l.at l.names) ≡ are_distinct l.names
