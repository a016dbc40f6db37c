use Rattle.std.proofs.Common.{◌≡◌, ◌++◌, drop}
use Rattle.extended_reader.specs.Uses.{own_names}
use Rattle.extended_reader.proofs.modules.fresh.own_names.Given as goal

abbrev pub invariant-loop-token : goal.invariant-loop-token
invariant-loop-token l = l.names ++ own_names l.by (drop l.token-index l.items) ≡ own_names l.fn.first l.items
