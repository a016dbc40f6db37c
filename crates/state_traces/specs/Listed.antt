-- The member that tells of active states, by the paths of all states as JSON writes them, and the numbers of those that are active.
use Rattle.std.specs.Prelude.{ℕ, Bool, true, false, List, [], ◌∷◌, ◌++◌, codes, get_or}
use Rattle.serde_json.specs.Written.{comma_if}

-- the text at a place; an empty one where there is none
abbrev pub text_at : List (List ℕ) → ℕ → List ℕ
text_at shown n = get_or shown n (34 ∷ 34 ∷ [])

-- the texts at these places, with the bracket that ends the array
abbrev pub list_text : Bool → List (List ℕ) → List ℕ → List ℕ
list_text later shown [] = 93 ∷ []
list_text later shown (n ∷ ns) = comma_if later ++ (text_at shown n ++ list_text true shown ns)

-- the member, with a comma before it, and the brace that ends the object
abbrev pub states_text : List (List ℕ) → List ℕ → List ℕ
states_text shown ns = codes ",\"states\":[" ++ (list_text false shown ns ++ 125 ∷ [])
