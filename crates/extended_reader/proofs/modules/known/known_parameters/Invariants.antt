use Rattle.std.proofs.Common.{◌≡◌, ◌++◌, map, drop}
use Rattle.extended_reader.specs.Known.{known_parameter}
use Rattle.extended_reader.proofs.modules.known.known_parameters.Given as goal

abbrev pub invariant-loop-parameter : goal.invariant-loop-parameter
invariant-loop-parameter l = l.known ++ map known_parameter (drop l.parameter-index l.parameters) ≡ map known_parameter l.parameters
