use Rattle.std.proofs.Common.{◌≡◌, [], drop}
use Rattle.extended_reader.specs.Modules.{right_parameters}
use Rattle.extended_reader.proofs.modules.bodies.right_parameters.Given as goal

abbrev pub invariant-loop-parameter : goal.invariant-loop-parameter
invariant-loop-parameter l = right_parameters l.before (drop l.parameter-index l.parameters) ≡ right_parameters [] l.parameters
