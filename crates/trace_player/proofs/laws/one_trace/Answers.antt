use Rattle.trace_player.proofs.OneTrace.{one_trace}
use Rattle.trace_player.proofs.laws.one_trace.Goals as goal

pub returns : goal.returns
returns c = one_trace
