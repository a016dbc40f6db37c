-- A line of output that tells more than the line of a trace does: more members stand behind the number of its tick.
use Rattle.std.specs.Prelude.{ℕ, codes, List, [], ◌∷◌, ◌++◌, get_or}
use Rattle.serde_json.specs.Data.{Data, number, string, unsigned, array, object, Items, no_items, item, Members, no_members, member}
use Rattle.serde_json.specs.Written.{compact_text}
use Rattle.trace_lines.specs.Lines.{line_feed}

-- a tick of this number and so many steps, with what it shows, and more
abbrev pub told_data : ℕ → ℕ → Members → Members → Data
told_data tick steps shown more =
    object (member (codes "out") (object shown) (member (codes "steps") (number (unsigned steps))
    (member (codes "tick") (number (unsigned tick)) more)))

abbrev pub told_line : ℕ → ℕ → Members → Members → List ℕ
told_line tick steps shown more = compact_text (told_data tick steps shown more) ++ line_feed ∷ []

-- texts, one behind the other
abbrev pub texts : List (List ℕ) → Items
texts [] = no_items
texts (first ∷ rest) = item (string first) (texts rest)

-- the member that tells of active states, by their paths
abbrev pub states_member : List (List ℕ) → Members
states_member paths = member (codes "states") (array (texts paths)) no_members

-- the paths of the states of these numbers
abbrev pub paths_at : List (List ℕ) → List ℕ → List (List ℕ)
paths_at paths [] = []
paths_at paths (n ∷ ns) = get_or paths n [] ∷ paths_at paths ns
