use Rattle.std.proofs.Common.{◌≡◌}
use Rattle.scl_graph.specs.Inside.Gathering.{place_of}
use Rattle.scl_graph.proofs.Placed.{place_from}
use Rattle.scl_graph.proofs.places.place_among.Given as goal

abbrev pub invariant-loop-place : goal.invariant-loop-place
invariant-loop-place l = place_from l.place l.labels l.name ≡ place_of l.labels l.name
