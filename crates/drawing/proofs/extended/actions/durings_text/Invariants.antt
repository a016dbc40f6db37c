use Rattle.std.proofs.Common.{◌≡◌, ◌++◌, drop, string_bytes}
use Rattle.drawing.specs.Actions.{durings_text}
use Rattle.drawing.proofs.extended.actions.durings_text.Given as goal

abbrev pub invariant-loop-during : goal.invariant-loop-during
invariant-loop-during l =
    string_bytes l.text ++ durings_text l.symbols l.signals (drop l.during-index l.durings) ≡ durings_text l.symbols l.signals l.durings
