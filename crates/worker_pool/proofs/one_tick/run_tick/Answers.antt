use Rattle.std.proofs.Common.{rules}
use Rattle.worker_pool.proofs.one_tick.run_tick.Goals as goal

pub complete-requires-clause-image : goal.complete-requires-clause-image
complete-requires-clause-image g c = search rules

pub returns-in_err-state-2-clause-refused : goal.returns-in_err-state-2-clause-refused
returns-in_err-state-2-clause-refused g c = search rules
