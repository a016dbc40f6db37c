-- The states of a chart, as they are shown: by their paths, of which each slash leads into a superstate.
use Rattle.std.specs.Prelude.{ℕ, ◌+◌, ◌==◌, Bool, true, false, List, [], ◌∷◌, ◌++◌, codes, get_or}
use Rattle.std.specs.List.{list_any}
use Rattle.simulation.specs.Pieces.{pieces}

-- how a state begins that is active, and one that is not
abbrev pub mark : Bool → List ℕ
mark true = codes "  * "
mark false = codes "    "

-- a state is set in by each superstate that it lies in, and shows its region and its own name
abbrev pub set_in : Bool → List (List ℕ) → List ℕ
set_in active [] = []
set_in active (own ∷ []) = mark active ++ (own ++ codes "\n")
set_in active (outer ∷ inner ∷ pieces) = codes "    " ++ set_in active (inner ∷ pieces)

abbrev pub state_line : Bool → List ℕ → List ℕ
state_line active path = set_in active (pieces 47 path)

-- all states, from this number on, of which those of these numbers are active
abbrev pub tree_from : ℕ → List (List ℕ) → List ℕ → List ℕ
tree_from n [] active = []
tree_from n (path ∷ paths) active = state_line (list_any (λ m. m == n) active) path ++ tree_from (n + 1) paths active

abbrev pub tree_text : List (List ℕ) → List ℕ → List ℕ
tree_text paths active = tree_from 0 paths active

-- the states of these numbers alone, by their paths
abbrev pub active_text : List (List ℕ) → List ℕ → List ℕ
active_text paths [] = []
active_text paths (n ∷ ns) = codes "  in " ++ (get_or paths n [] ++ (10 ∷ active_text paths ns))
