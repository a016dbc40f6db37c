use Rattle.std.proofs.Common.{◌≡◌, ◌≤◌, ◌++◌, false, drop}
use Rattle.extended_reader.specs.Uses.{renamed_regions}
use Rattle.extended_reader.proofs.modules.replacing.renamed_regions.Given as goal

abbrev pub invariant-loop-token : goal.invariant-loop-token
invariant-loop-token l = record {
  shallow : l.depth ≤ l.token-index;
  all : l.all ++ renamed_regions l.names l.titles l.is_behind l.depth (drop l.token-index l.regions) ≡ renamed_regions l.names l.titles false 0 l.regions;
}
