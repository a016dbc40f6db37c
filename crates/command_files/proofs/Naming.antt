-- The names of files as they are shown: byte by byte, or character by character.
use Rattle.std.proofs.Common.{◌≡◌, ◌∙◌, ℕ, ◌+◌, ◌/◌, ◌<◌, ◌≤◌, ◌==◌, Bool, true, false, List, [], ◌∷◌, ◌++◌, map, refl, sym, ap, arith, cond, if◌then◌else◌}
use Rattle.std.proofs.Common.{◌⊎◌, inl, inr}
use Rattle.std.proofs.lemmas.List.{map-append, append_assoc}
use Rattle.std.proofs.lemmas.Str.{encode_ascii}
use Rattle.std.proofs.lemmas.Bool.Decides.{nat_tests}
use Rattle.std.specs.Char.{is_ascii_control}
use lib.Utf8.{encode, next}
use lib.Dec.{ltb}
use Rattle.std.specs.List.{list_any}
use Rattle.sc_text.specs.Pieces.{line_feed}
use Rattle.command_files.specs.FaultText.{shown_byte, shown_name}

-- a byte that is not ASCII is shown as it is
high : (b : ℕ) → 128 ≤ b → shown_byte b ≡ b
high b above = grind (arith, nat_tests)

-- what is shown of an ASCII character is one too
low : (b : ℕ) → b < 128 → shown_byte b < 128
low b below = go (is_ascii_control b)
  where
    go : (v : Bool) → (if v then 63 else b) < 128
    go true = omega arith
    go false = below

-- bytes that are shown as they are
abbrev IsKept : List ℕ → Type 0
IsKept bytes = map shown_byte bytes ≡ bytes

kept_cond : (v : Bool) (xs ys : List ℕ) → IsKept xs → IsKept ys → IsKept (cond v xs ys)
kept_cond true xs ys x y = x
kept_cond false xs ys x y = y

kept_cons : (b : ℕ) (xs : List ℕ) → 128 ≤ b → IsKept xs → IsKept (b ∷ xs)
kept_cons b xs above kept = let first = high b above in cc

kept_two : (b c : ℕ) → 128 ≤ b → 128 ≤ c → IsKept (b ∷ c ∷ [])
kept_two b c above over = kept_cons b (c ∷ []) above (kept_cons c [] over refl)

kept_three : (a b c : ℕ) → 128 ≤ a → 128 ≤ b → 128 ≤ c → IsKept (a ∷ b ∷ c ∷ [])
kept_three a b c high above over = kept_cons a (b ∷ c ∷ []) high (kept_two b c above over)

kept_encoded : (c : ℕ) → 128 ≤ c → IsKept (encode c)
unfolding encode
kept_encoded c above =
    kept_cond (ltb c 128) (c ∷ []) _ (kept_cons c [] above refl)
    (kept_cond (ltb c 2048) ((192 + c / 64) ∷ next c ∷ []) _ (kept_two (192 + c / 64) (next c) (omega arith) (omega arith))
    (kept_cond (ltb c 65536) ((224 + c / 4096) ∷ next (c / 64) ∷ next c ∷ []) ((240 + c / 262144) ∷ next (c / 4096) ∷ next (c / 64) ∷ next c ∷ [])
    (kept_three (224 + c / 4096) (next (c / 64)) (next c) (omega arith) (omega arith) (omega arith))
    (kept_cons (240 + c / 262144) (next (c / 4096) ∷ next (c / 64) ∷ next c ∷ []) (omega arith)
    (kept_three (next (c / 4096)) (next (c / 64)) (next c) (omega arith) (omega arith) (omega arith)))))

below_or : (c : ℕ) → (c < 128) ⊎ (128 ≤ c)
below_or c = grind arith

-- the bytes of a character, as they are shown, are those of the character as it is shown
pub shown_letter : (c : ℕ) → shown_name (encode c) ≡ encode (shown_byte c)
shown_letter c = go (below_or c)
  where
    go : (c < 128) ⊎ (128 ≤ c) → shown_name (encode c) ≡ encode (shown_byte c)
    go (inl below) = ap shown_name (encode_ascii c below) ∙ sym (encode_ascii (shown_byte c) (low c below))
    go (inr above) = kept_encoded c above ∙ sym (ap encode (high c above))

-- one more character of a name was shown
pub one_shown : (shown shown' rest rest' name : List ℕ) (c : ℕ) → shown ++ shown_name rest ≡ shown_name name →
    rest ≡ encode c ++ rest' → shown' ≡ shown ++ encode (shown_byte c) → shown' ++ shown_name rest' ≡ shown_name name
one_shown shown shown' rest rest' name c so_far first more =
    let split : shown_name rest ≡ shown_name (encode c) ++ shown_name rest' = ap shown_name first ∙ map-append shown_byte (encode c) rest' in
    let letter = shown_letter c in
    let same : shown' ++ shown_name rest' ≡ (shown ++ encode (shown_byte c)) ++ shown_name rest' = ap (λ s. s ++ shown_name rest') more in
    let joined : (shown ++ encode (shown_byte c)) ++ shown_name rest' ≡ shown ++ (encode (shown_byte c) ++ shown_name rest') = append_assoc shown
    (encode (shown_byte c)) (shown_name rest') in
    same ∙ joined ∙ ap (λ s. shown ++ (s ++ shown_name rest')) (sym letter) ∙ ap (λ s. shown ++ s) (sym split) ∙ so_far

abbrev is_feed : ℕ → Bool
is_feed byte = byte == line_feed

-- no byte is shown as a line feed
no_feed : (b : ℕ) → is_feed (shown_byte b) ≡ false
no_feed b = go (is_ascii_control b) refl
  where
    go : (v : Bool) → is_ascii_control b ≡ v → is_feed (if v then 63 else b) ≡ false
    go true control = refl
    go false other = grind (arith, nat_tests)

pub one_line : (name : List ℕ) → list_any is_feed (shown_name name) ≡ false
one_line [] = refl
one_line (b ∷ name) =
    let first = no_feed b in
    let rest = one_line name in
    cc
