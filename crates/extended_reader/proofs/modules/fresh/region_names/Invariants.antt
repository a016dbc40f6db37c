use Rattle.std.proofs.Common.{◌≡◌, ◌≤◌, ◌++◌, false, drop}
use Rattle.extended_reader.specs.Uses.{region_names}
use Rattle.extended_reader.proofs.modules.fresh.region_names.Given as goal

abbrev pub invariant-loop-token : goal.invariant-loop-token
invariant-loop-token l = record {
  shallow : l.depth ≤ l.token-index;
  names : l.names ++ region_names l.is_behind l.depth (drop l.token-index l.regions) ≡ region_names false 0 l.regions;
}
