-- A name is text.
use Rattle.std.proofs.Common.{◌≡◌, ℕ, ◌<◌, true, ◌||◌, List, [], ◌∷◌, arith}
use Rattle.std.specs.List.{list_all}
use Rattle.std.specs.Str.{IsAscii, IsUtf8}
use Rattle.std.proofs.lemmas.Bool.{and_parts}
use Rattle.std.proofs.lemmas.Bool.Decides.{nat_tests}
use Rattle.std.proofs.lemmas.Str.{IsUtf8-from_ascii}
use Rattle.std.proofs.lemmas.Str.Ascii.{IsAscii-nil, IsAscii-cons}
use Rattle.sc_values.specs.Name.{is_letter, is_digit, is_name}

letter_ascii : (byte : ℕ) → is_letter byte ≡ true → byte < 128
letter_ascii byte h = grind (arith, nat_tests)

part_ascii : (byte : ℕ) → (is_letter byte || is_digit byte) ≡ true → byte < 128
part_ascii byte h = grind (arith, nat_tests)

rest_ascii : (bytes : List ℕ) → list_all (λ byte. is_letter byte || is_digit byte) bytes ≡ true → IsAscii bytes
rest_ascii [] h = IsAscii-nil
rest_ascii (byte ∷ bytes) h =
    let parts = and_parts _ _ h in
    IsAscii-cons byte bytes (part_ascii byte parts.0) (rest_ascii bytes parts.1)

pub name_ascii : (bytes : List ℕ) → is_name bytes ≡ true → IsAscii bytes
name_ascii [] h = IsAscii-nil
name_ascii (byte ∷ bytes) h =
    let parts = and_parts _ _ h in
    let both = and_parts _ _ parts.0 in
    IsAscii-cons byte bytes (letter_ascii byte both.0) (rest_ascii bytes both.1)

pub name_utf8 : (bytes : List ℕ) → is_name bytes ≡ true → IsUtf8 bytes
name_utf8 bytes h = IsUtf8-from_ascii bytes (name_ascii bytes h)
