use Rattle.std.proofs.Common.{◌≡◌, ◌++◌, drop}
use Rattle.extended_reader.specs.Flaws.{signals}
use Rattle.extended_reader.proofs.text_drafts.emission_flaws.signals.Given as goal

abbrev pub invariant-loop-item : goal.invariant-loop-item
invariant-loop-item l = l.all ++ signals (drop l.item-index l.items) ≡ signals l.items
