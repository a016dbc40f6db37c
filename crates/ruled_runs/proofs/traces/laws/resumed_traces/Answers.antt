use Rattle.ruled_runs.proofs.Ruled.{resumed}
use Rattle.ruled_runs.proofs.traces.laws.resumed_traces.Goals as goal

pub returns : goal.returns
returns c = resumed
