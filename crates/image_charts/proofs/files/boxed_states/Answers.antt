use Rattle.std.proofs.Common.{rules}
use Rattle.image_charts.proofs.files.boxed_states.Goals as goal

pub returns-clause-found : goal.returns-clause-found
returns-clause-found c = search rules
