use Rattle.std.proofs.Common.{◌≡◌, drop}
use Rattle.extended_reader.specs.Known.{fitting}
use Rattle.extended_reader.proofs.modules.arguments.fitting.Given as goal

abbrev pub invariant-loop-parameter : goal.invariant-loop-parameter
invariant-loop-parameter l = fitting l.known (drop l.parameter-index l.parameters) l.left ≡ fitting l.known l.parameters l.arguments
