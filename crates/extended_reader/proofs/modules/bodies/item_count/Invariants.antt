use Rattle.std.proofs.Common.{◌≡◌, ◌+◌, drop}
use Rattle.extended_reader.specs.Modules.{item_count}
use Rattle.extended_reader.proofs.modules.bodies.item_count.Given as goal

abbrev pub invariant-loop-at : goal.invariant-loop-at
invariant-loop-at l = l.at + item_count (drop l.at l.text) ≡ item_count l.text
