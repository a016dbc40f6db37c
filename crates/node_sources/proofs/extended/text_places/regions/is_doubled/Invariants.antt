use Rattle.std.proofs.Common.{◌≡◌, false, drop}
use Rattle.node_sources.specs.Origins.{is_doubled}
use Rattle.node_sources.proofs.extended.text_places.regions.is_doubled.Given as goal

abbrev pub invariant-loop-byte : goal.invariant-loop-byte
invariant-loop-byte l = is_doubled l.before (drop l.byte-index l.bytes) ≡ is_doubled false l.bytes
