use Rattle.ruled_runs.proofs.Held.{one_saved}
use Rattle.ruled_runs.proofs.controls.laws.one_control.Goals as goal

pub returns : goal.returns
returns c = one_saved
