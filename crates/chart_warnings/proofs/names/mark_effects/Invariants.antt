use Rattle.std.proofs.Common.{◌≡◌, drop}
use Rattle.std.specs.List.{flat_map}
use Rattle.chart_warnings.specs.Inside.Marks.{by_effect, marked}
use Rattle.chart_warnings.proofs.names.mark_effects.Given as goal

abbrev pub invariant-loop-effect : goal.invariant-loop-effect
invariant-loop-effect l =
    marked (flat_map (by_effect l.way) (drop l.effect-index l.effects)) l.marks.items ≡
    marked (flat_map (by_effect l.way) l.effects) l.fn.marks.items
