use Rattle.std.proofs.lemmas.Slice.Eq.{slice_eq-Decides}
use Rattle.sc_values.proofs.Equality.{value_decides}
use Rattle.worker_pool.proofs.settling.same_values.Goals as goal

pub returns : goal.returns
returns c = λ h. (slice_eq-Decides value_decides _ _ _ c.eq.ensures).0 h
