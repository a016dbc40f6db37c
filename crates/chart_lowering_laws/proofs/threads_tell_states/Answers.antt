use Rattle.chart_lowering_laws.proofs.ActiveStates.{active_is}
use Rattle.chart_lowering_laws.proofs.threads_tell_states.Goals as goal

pub returns : goal.returns
returns c = active_is
