-- Names that are too long.
use Rattle.std.proofs.Common.{◌≡◌, ℕ, suc, ◌+◌, ◌≤◌, ◌<◌, Bool, true, false, List, [], ◌∷◌, ◌++◌, length, codes, arith, refl}
use Rattle.std.specs.Prelude.{◌&&◌, ◌||◌, nat_le}
use Rattle.std.specs.List.{list_all}
use Rattle.std.proofs.lemmas.List.{length-append}
use Rattle.std.proofs.lemmas.Bool.Decides.{nat_tests}
use Rattle.sc_values.specs.Name.{is_letter, is_digit, is_name}
use Rattle.extended_reader.specs.Uses.{joined_name}

last_of : (a b c : Bool) → (a && b && c) ≡ true → c ≡ true
last_of true true c e = e
last_of true false c e = absurd (cc)
last_of false b c e = absurd (cc)

within : (n : ℕ) → nat_le n 64 ≡ true → n ≤ 64
within n h = grind (arith, nat_tests)

short : (name : List ℕ) → is_name name ≡ true → length name ≤ 64
short [] e = absurd (cc)
short (b ∷ name) e = within (length (b ∷ name))
    (last_of (is_letter b) (list_all (λ byte. is_letter byte || is_digit byte) name) (nat_le (length (b ∷ name)) 64) e)

pub too_long : (usage name : List ℕ) → 64 < length usage + 1 + length name → is_name (joined_name usage name) ≡ true → ⊥
too_long usage name lt e =
    let le = short (joined_name usage name) e in
    let long : length (joined_name usage name) ≡ length usage + length (codes "_" ++ name) = length-append usage (codes "_" ++ name) in
    let more : length (codes "_" ++ name) ≡ suc (length name) = refl in
    omega (arith, le, long, more, lt)
