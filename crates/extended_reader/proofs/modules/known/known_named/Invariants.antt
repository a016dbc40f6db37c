use Rattle.std.proofs.Common.{◌≡◌, drop}
use Rattle.extended_reader.specs.Known.{known_named}
use Rattle.extended_reader.proofs.modules.known.known_named.Given as goal

abbrev pub invariant-loop-one : goal.invariant-loop-one
invariant-loop-one l = known_named (drop l.one-index l.known) l.name ≡ known_named l.known l.name
