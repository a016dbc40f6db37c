use Rattle.std.proofs.Common.{rules}
use Rattle.worker_pool.proofs.one_tick.fn.meet.scope+FnOnce.call_once.Goals as goal

pub scope-requires : goal.scope-requires
scope-requires g c = search rules
