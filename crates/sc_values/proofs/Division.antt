-- Division by a number of 32 bits, wrapping.
use Rattle.std.proofs.Common.{◌≡◌, ℕ, zero, suc, ◌≤◌, ◌<◌, ◌^◌, ◌%◌, ◌/◌, ℤ, pos, negsuc, neg_ℤ, refl, sym, ap, ◌∙◌, subst, Option, Some, unsigned_abs}
use Rattle.std.proofs.Common.{FitsSigned, to_z, of_z, arith}
use Rattle.std.proofs.Math.Bridge.{le_prop}
use Rattle.std.proofs.Math.Nat.{mod-eq_of_lt, div-le_self, zero-lt-suc}
use Rattle.std.proofs.lemmas.Int.{ints, quot-rem, rem_below, fits_signed_from_abs, int_wrap_fits}
use Rattle.std.specs.Int.{int_wrap, int_wrapping_div, cast_signed, w32}
use Rattle.std.specs.Int.RustNames.{int_div, int_rem}
use Rattle.sc_values.specs.declared.divisor.Divisor.{Divisor}
use Rattle.sc_values.specs.Division.{divisor_of, quotient, remainder}

-- a number whose size is at most 2 ^ 31 is wrapped by its bits
wraps_bits : (z : ℤ) → unsigned_abs z ≤ 2 ^ 31 → to_z w32 (of_z w32 z) ≡ int_wrap w32 z
unfolding int_wrap
wraps_bits (pos n) low = ap (cast_signed w32) (sym (mod-eq_of_lt (omega arith)))
wraps_bits (negsuc n) low =
    let whole : n % 2 ^ 32 ≡ n = mod-eq_of_lt (omega arith) in
    ap (cast_signed w32) (omega (arith, whole))

abs-neg : (n : ℕ) → unsigned_abs (neg_ℤ (pos n)) ≡ n
abs-neg zero = refl
abs-neg (suc n) = refl

no_more : (n d : ℤ) → unsigned_abs (int_div n d) ≤ unsigned_abs n
no_more (pos n) (pos d) = div-le_self n d
no_more (pos n) (negsuc d) = omega (arith, abs-neg (n / suc d), div-le_self n (suc d))
no_more (negsuc n) (pos d) = omega (arith, abs-neg (suc n / d), div-le_self (suc n) d)
no_more (negsuc n) (negsuc d) = div-le_self (suc n) (suc d)

size_low : (z : ℤ) → FitsSigned w32 z → unsigned_abs z ≤ 2 ^ 31
size_low (pos n) fits = omega (arith, fits.sfits)
size_low (negsuc n) fits = omega (arith, fits.sfits)

pub divided : (n : ℤ) (d : Divisor) → FitsSigned w32 n → int_wrapping_div w32 n d.number ≡ int_wrap w32 (quotient n d)
divided n d fits = wraps_bits (int_div n d.number) (omega (arith, no_more n d.number, size_low n fits))

pub left_over : (n : ℤ) (d : Divisor) → FitsSigned w32 d.number → int_rem n d.number ≡ int_wrap w32 (remainder n d)
left_over n d fits =
    let below = rem_below n d.number d.not_zero in
    let small : FitsSigned w32 (int_rem n d.number) = fits_signed_from_abs w32 (int_rem n d.number) (omega (arith, below, size_low d.number fits)) in
    let whole = quot-rem n d.number in
    let is : int_rem n d.number ≡ remainder n d = omega (arith, ints, whole) in
    sym (int_wrap_fits w32 (int_rem n d.number) small) ∙ ap (int_wrap w32) is

abbrev the_divisor : (n : ℤ) → 0 < unsigned_abs n → Divisor
the_divisor n some = record { number = n; not_zero = some }

-- a divisor is its number
pub same_divisor : (c d : Divisor) → c.number ≡ d.number → c ≡ d
same_divisor c d e =
    let P : ℤ → Type 0 = λ n. (some : 0 < unsigned_abs n) → the_divisor c.number c.not_zero ≡ the_divisor n some in
    subst P e (λ some. ap (the_divisor c.number) (le_prop c.not_zero some)) d.not_zero

is_divisor : (n : ℤ) (some : 0 < unsigned_abs n) → divisor_of n ≡ Some (the_divisor n some)
is_divisor (pos zero) some = absurd (omega (arith, some))
is_divisor (pos (suc n)) some = ap (λ p. Some (the_divisor (pos (suc n)) p)) (le_prop _ some)
is_divisor (negsuc n) some = ap (λ p. Some (the_divisor (negsuc n) p)) (le_prop _ some)

pub divisor_of-number : (d : Divisor) → divisor_of d.number ≡ Some d
divisor_of-number d = is_divisor d.number d.not_zero

abbrev given : Divisor → Option Divisor
given d = Some d

number_same : (c d : Divisor) → given c ≡ given d → d.number ≡ c.number
number_same c d e = let same : c ≡ d = cc in ap (λ x. x.number) (sym same)

pub divisor_of-is : (n : ℤ) (d : Divisor) → divisor_of n ≡ Some d → d.number ≡ n
divisor_of-is (pos zero) d e = absurd cc
divisor_of-is (pos (suc n)) d e = number_same (the_divisor (pos (suc n)) (zero-lt-suc n)) d e
divisor_of-is (negsuc n) d e = number_same (the_divisor (negsuc n) (zero-lt-suc n)) d e
