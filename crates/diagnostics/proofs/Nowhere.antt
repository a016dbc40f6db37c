-- A report that tells no place.
use Rattle.std.proofs.Common.{◌≡◌, ℕ, List, [], ◌++◌, Result, Ok, Err, IfOk, codes}
use Rattle.diagnostics.specs.Reports.{Tells}

pub told_in : {S E : Type 0} (bytes : S → List ℕ) (name fault rest : List ℕ) (r : Result S E)
    → IfOk r (λ s. bytes s ≡ name ++ (codes ": " ++ (fault ++ (codes ": " ++ rest)))) → IfOk r (λ s. Tells name fault (bytes s))
told_in bytes name fault rest (Ok s) is = record { place = []; rest = rest; is = is }
told_in bytes name fault rest (Err e) is = tt
