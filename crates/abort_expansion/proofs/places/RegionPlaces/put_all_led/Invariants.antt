use Rattle.std.proofs.Common.{◌≡◌, ◌++◌, map, drop}
use Rattle.abort_expansion.specs.Transitions.{led}
use Rattle.abort_expansion.proofs.places.RegionPlaces.put_all_led.Given as goal

abbrev pub invariant-loop-transition : goal.invariant-loop-transition
invariant-loop-transition l = l.made ++ map (led l.self) (drop l.transition-index l.all) ≡ l.fn.made ++ map (led l.self) l.all
