use Rattle.std.proofs.Common.{◌≡◌, ◌++◌, drop}
use Rattle.chart_warnings.specs.ExtendedPlaces.{variable_places}
use Rattle.chart_warnings.proofs.extended.places.variable_places.Given as goal

abbrev pub invariant-loop-item : goal.invariant-loop-item
invariant-loop-item l = l.places ++ variable_places (drop l.item-index l.items) ≡ variable_places l.items
