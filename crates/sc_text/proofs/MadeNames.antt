-- A word with a number behind it is a name.
use Rattle.std.proofs.Common.{◌≡◌, ℕ, ◌+◌, ◌<◌, ◌≤◌, ◌^◌, Bool, true, false, IsTrue, ◌||◌, ◌&&◌, List, [], ◌∷◌, ◌++◌, length, refl, ap, ◌∙◌, arith}
use Rattle.std.specs.Prelude.{decimal, nat_le}
use Rattle.std.specs.List.{list_all}
use Rattle.std.proofs.lemmas.Bool.{le-leb}
use Rattle.std.proofs.lemmas.List.{length-append}
use Rattle.std.proofs.lemmas.List.Folds.{list_all-append}
use Rattle.sc_values.specs.Name.{is_letter, is_digit, is_name}
use Rattle.sc_text.proofs.AddedNames.{digits_in_name, digits_few}
use Rattle.sc_text.specs.MadeNames.{numbered}

-- a word, and digits behind it
word_and_digits : (word digits : List ℕ) → list_all (λ byte. is_letter byte || is_digit byte) digits ≡ true
    → list_all (λ byte. is_letter byte || is_digit byte) word ≡ true
    → list_all (λ byte. is_letter byte || is_digit byte) (word ++ digits) ≡ true
word_and_digits word digits h k =
    list_all-append (λ byte. is_letter byte || is_digit byte) word digits ∙ ap (λ b. b && list_all (λ byte. is_letter byte || is_digit byte) digits) k ∙ h

and_first : (a b c : Bool) → IsTrue (a && b && c) → a ≡ true
and_first true b c h = refl
and_first false b c h = absurd cc

and_second : (a b c : Bool) → IsTrue (a && b && c) → b ≡ true
and_second true true c h = refl
and_second true false c h = absurd cc
and_second false b c h = absurd cc

pub numbered_is_name : (word : List ℕ) (n : ℕ) → n < 2 ^ 64 → IsTrue (is_name word) → length word ≤ 44 → IsTrue (is_name (numbered word n))
numbered_is_name [] n small named short = absurd cc
numbered_is_name (first ∷ rest) n small named short =
    let Letters : List ℕ → Bool = list_all (λ byte. is_letter byte || is_digit byte) in
    let fits : Bool = nat_le (length (first ∷ rest)) 64 in
    let digits : Letters (decimal n) ≡ true = digits_in_name n small in
    let few : length (decimal n) ≤ 20 = digits_few n small in
    let size : length (rest ++ decimal n) ≡ length rest + length (decimal n) = length-append rest (decimal n) in
    let begins : is_letter first ≡ true = and_first (is_letter first) (Letters rest) fits named in
    let letters : Letters (rest ++ decimal n) ≡ true = word_and_digits rest (decimal n) digits (and_second (is_letter first) (Letters rest) fits named) in
    rw begins (rw letters (le-leb (length (first ∷ (rest ++ decimal n))) 64 (omega (arith, few, size, short))))
