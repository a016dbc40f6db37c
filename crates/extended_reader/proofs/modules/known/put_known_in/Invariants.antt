use Rattle.std.proofs.Common.{◌≡◌, ◌++◌, drop}
use Rattle.extended_reader.specs.Known.{known_in}
use Rattle.extended_reader.proofs.modules.known.put_known_in.Given as goal

abbrev pub invariant-loop-token : goal.invariant-loop-token
invariant-loop-token l = l.known ++ known_in l.before l.by (drop l.token-index l.text) ≡ l.fn.known ++ known_in l.first l.first l.text
