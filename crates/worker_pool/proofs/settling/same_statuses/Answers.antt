use Rattle.std.proofs.lemmas.Slice.Eq.{slice_eq-Decides}
use Rattle.worker_pool.proofs.Statuses.{status_decides}
use Rattle.worker_pool.proofs.settling.same_statuses.Goals as goal

pub returns : goal.returns
returns c = λ h. (slice_eq-Decides status_decides _ _ _ c.eq.ensures).0 h
