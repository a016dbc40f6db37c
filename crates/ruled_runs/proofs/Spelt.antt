-- A value as JSON spells itself.
use Rattle.std.proofs.Common.{◌≡◌, ◌^◌, ℤ, pos, negsuc, true, nat_lt, Some, refl, arith}
use Rattle.std.proofs.lemmas.Bool.Decides.{nat_tests}
use Rattle.serde_json.specs.Data.{number}
use Rattle.serde_json.specs.Find.{of_integer}
use Rattle.sc_values.specs.declared.value.Value.TheVariants as value
use Rattle.trace_lines.specs.Line.{is_int32}
use Rattle.ruled_runs.specs.Texts.{value_in}

pub whole_value : (z : ℤ) → is_int32 z ≡ true → value_in (number (of_integer z)) ≡ Some (value.Int z)
whole_value (pos n) small =
    let more : nat_lt n (2 ^ 63) ≡ true = grind (arith, nat_tests, small) in
    rw more (rw small refl)
whole_value (negsuc n) small = rw small refl
