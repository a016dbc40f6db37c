-- What a sink that did not fail took.
use Rattle.std.proofs.Common.{◌≡◌, ℕ, ◌+◌, Result, Ok, Err, OnOk, OnErr, arith}

-- where no failure was counted the bytes were taken
pub taken_whole : {A E : Type 0} (r : Result A E) (P : Type 0) (failures failures' : ℕ) → OnOk r P → OnErr r (failures' ≡ failures + 1) → failures' ≡ failures
    → P
taken_whole (Ok a) P failures failures' taken failed same = taken
taken_whole (Err e) P failures failures' taken failed same = absurd (omega (arith, failed, same))
