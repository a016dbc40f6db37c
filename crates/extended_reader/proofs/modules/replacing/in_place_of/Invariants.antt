use Rattle.std.proofs.Common.{◌≡◌, drop}
use Rattle.extended_reader.specs.Uses.{in_place_of}
use Rattle.extended_reader.proofs.modules.replacing.in_place_of.Given as goal

abbrev pub invariant-loop-one : goal.invariant-loop-one
invariant-loop-one l = in_place_of (drop l.one-index l.table) l.name ≡ in_place_of l.table l.name
