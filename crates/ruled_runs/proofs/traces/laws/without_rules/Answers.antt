use Rattle.std.proofs.Common.{refl}
use Rattle.ruled_runs.specs.Trace.{at_first}
use Rattle.ruled_runs.proofs.Ruled.{of_plain, to_plain}
use Rattle.ruled_runs.proofs.traces.laws.without_rules.Goals as goal

pub returns : goal.returns
returns c = λ image lines out end. (
  λ goes. to_plain image (at_first image.program) lines out end goes.0 refl goes.1,
  λ trace. of_plain image (at_first image.program) lines out end refl trace,
)
