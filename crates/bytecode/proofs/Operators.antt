-- The operations from number 3 on.
use Rattle.std.proofs.Common.{◌≡◌, ℕ, zero, suc, ◌-◌, ◌≤◌, List, Option, Ok, refl, arith}
use Rattle.std.specs.Prelude.{slice_get}
use Rattle.sc_values.specs.declared.operation.Operation.{Operation}
use Rattle.bytecode.specs.Reading.{◌>>=◌, or_field}
use Rattle.bytecode.specs.Reading.Codes.{operators, operation_body}

pub operator_body : (bytes : List ℕ) (n : ℕ) (rest : List ℕ) (found : Option Operation) → 3 ≤ n → found ≡ slice_get operators (n - 3)
    → operation_body bytes n rest ≡ (or_field bytes found >>= λ operator. Ok (operator, rest))
unfolding operation_body
operator_body bytes zero rest found low e = absurd (omega arith)
operator_body bytes (suc zero) rest found low e = absurd (omega arith)
operator_body bytes (suc (suc zero)) rest found low e = absurd (omega arith)
operator_body bytes (suc (suc (suc n))) rest found low e =
    let k : suc (suc (suc n)) - 3 ≡ n = omega arith in
    rw (e, k) refl
