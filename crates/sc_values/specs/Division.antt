-- Division of integers by a number that is not 0.
use Rattle.std.specs.Prelude.{Option, Some, None, zero, suc, ℤ, pos, negsuc, ◌-ℤ◌, ◌*ℤ◌}
use Rattle.std.specs.Int.RustNames.{int_div}
use Rattle.std.proofs.Math.Nat.{zero-lt-suc}
use Rattle.sc_values.specs.declared.divisor.Divisor.{Divisor}

-- each number but 0 is a divisor
abbrev pub divisor_of : ℤ → Option Divisor
divisor_of (pos zero) = None
divisor_of (pos (suc n)) = Some (record { number = pos (suc n); not_zero = zero-lt-suc n })
divisor_of (negsuc n) = Some (record { number = negsuc n; not_zero = zero-lt-suc n })

-- the quotient, rounded towards 0
abbrev pub quotient : ℤ → Divisor → ℤ
quotient n d = int_div n d.number

-- what that quotient leaves of n
abbrev pub remainder : ℤ → Divisor → ℤ
remainder n d = n -ℤ quotient n d *ℤ d.number
