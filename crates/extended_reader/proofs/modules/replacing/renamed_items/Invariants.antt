use Rattle.std.proofs.Common.{◌≡◌, ◌++◌, map, drop}
use Rattle.extended_reader.specs.Uses.{renamed_token}
use Rattle.extended_reader.proofs.modules.replacing.renamed_items.Given as goal

abbrev pub invariant-loop-token : goal.invariant-loop-token
invariant-loop-token l = l.all ++ map (renamed_token l.table) (drop l.token-index l.items) ≡ map (renamed_token l.table) l.items
