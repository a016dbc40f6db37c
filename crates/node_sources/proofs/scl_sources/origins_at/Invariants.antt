use Rattle.std.proofs.Common.{◌≡◌, ◌++◌, Some, map, drop}
use Rattle.node_sources.specs.SclOrigins.{point_origin}
use Rattle.node_sources.proofs.scl_sources.origins_at.Given as goal

abbrev pub invariant-loop-number : goal.invariant-loop-number
invariant-loop-number l = map Some l.origins ++ map (point_origin l.spots) (drop l.number l.nodes) ≡ map (point_origin l.spots) l.nodes
