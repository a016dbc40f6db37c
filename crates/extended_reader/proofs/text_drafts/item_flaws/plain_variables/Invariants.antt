use Rattle.std.proofs.Common.{◌≡◌, ◌++◌, drop}
use Rattle.extended_reader.specs.Flaws.{plain_variables}
use Rattle.extended_reader.proofs.text_drafts.item_flaws.plain_variables.Given as goal

abbrev pub invariant-loop-item : goal.invariant-loop-item
invariant-loop-item l = l.all ++ plain_variables (drop l.item-index l.items) ≡ plain_variables l.items
