use Rattle.std.proofs.Common.{◌≡◌, ◌++◌, map, drop, string_bytes}
use Rattle.core_charts.specs.Paths.{beside, paths_of_region, paths_of_state}
use Rattle.core_charts.proofs.elements.paths.+paths.Given as goal

abbrev pub invariant-add_regions-loop-region : goal.invariant-add_regions-loop-region
invariant-add_regions-loop-region l =
    map string_bytes l.paths.items ++ beside (map paths_of_region (drop l.region-index l.regions)) l.before ≡
    map string_bytes l.fn.paths.items ++ beside (map paths_of_region l.regions) l.before

abbrev pub invariant-add_states-loop-state : goal.invariant-add_states-loop-state
invariant-add_states-loop-state l =
    map string_bytes l.paths.items ++ beside (map paths_of_state (drop l.state-index l.states)) l.before ≡
    map string_bytes l.fn.paths.items ++ beside (map paths_of_state l.states) l.before
