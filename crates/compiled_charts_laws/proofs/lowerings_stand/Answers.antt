use Rattle.compiled_charts_laws.proofs.Stands.{stand_alike}
use Rattle.compiled_charts_laws.proofs.lowerings_stand.Goals as goal

pub returns : goal.returns
returns c = stand_alike
