use Rattle.std.proofs.Common.{◌≡◌, ◌++◌, Some, map, drop}
use Rattle.node_sources.specs.ChartOrigins.{origins_from}
use Rattle.node_sources.proofs.chart_origins.origins_of.Given as goal

abbrev pub invariant-loop-number : goal.invariant-loop-number
invariant-loop-number l =
    map Some l.origins ++ origins_from l.places l.program l.number (drop l.number l.elements) ≡ origins_from l.places l.program 0 l.elements
