-- Words, and the JSON object that they make: each is the name of an input, which is true then, or has its value behind `=`.
use Rattle.std.specs.Prelude.{ℕ, Bool, true, false, List, [], ◌∷◌, ◌++◌, codes, length, nat_lt, if◌then◌else◌}
use Rattle.std.specs.List.{position_or_len, before_first, after_first}
use Rattle.json.specs.Print.{quoted}
use Rattle.serde_json.specs.Written.{comma_if}
use Rattle.simulation.specs.Pieces.{is_between, pieces}

abbrev pub is_equals : ℕ → Bool
is_equals byte = is_between 61 byte

-- what stands before the first `=`, or all
abbrev pub name_in : List ℕ → List ℕ
name_in word = before_first is_equals word

-- what stands behind it; `true` where there is none
abbrev pub value_in : List ℕ → List ℕ
value_in word = if nat_lt (position_or_len is_equals word) (length word) then after_first is_equals word else codes "true"

abbrev pub member_text : List ℕ → List ℕ
member_text word = quoted (name_in word) ++ 58 ∷ value_in word

-- the members of words, of which those that are empty make none
abbrev pub members_of : Bool → List (List ℕ) → List ℕ
members_of later [] = []
members_of later ([] ∷ words) = members_of later words
members_of later ((byte ∷ word) ∷ words) = comma_if later ++ (member_text (byte ∷ word) ++ members_of true words)

abbrev pub words_in : List ℕ → List (List ℕ)
words_in text = pieces 32 text

abbrev pub object_of : List ℕ → List ℕ
object_of text = 123 ∷ (members_of false (words_in text) ++ 125 ∷ [])
