-- The names of the files that stand beside a program's text.
use Rattle.std.specs.Prelude.{ℕ, ◌-◌, Bool, ◌&&◌, List, ◌∷◌, ◌++◌, Option, Some}
use Rattle.std.specs.Prelude.{None, codes, filter, is_some, length, map, take, drop, if◌then◌else◌, unwrap_or}
use Rattle.std.specs.List.{list_any}
use Rattle.std.specs.Str.{bytes_eq}

-- a name without this ending, where it has it
abbrev pub without : List ℕ → List ℕ → Option (List ℕ)
without ending name =
    let before = length name - length ending in
    if bytes_eq (drop before name) ending then Some (take before name) else None

abbrev pub or_else : Option (List ℕ) → Option (List ℕ) → Option (List ℕ)
or_else (Some front) other = Some front
or_else None other = other

-- a name without its ending, where it ends as that of a chart, of an extended chart or of a program
abbrev pub front : List ℕ → Option (List ℕ)
front name = or_else (without (codes ".chart") name) (or_else (without (codes ".extended") name) (without (codes ".scl") name))

-- the name of a text without its ending; another name is whole
abbrev pub stem : List ℕ → List ℕ
stem name = unwrap_or (front name) name

-- the name of the file beside a text, with this ending
abbrev pub beside : List ℕ → List ℕ → List ℕ
beside name ending = stem name ++ ending

-- ---- the tests in a folder

-- a name that ends as that of a text
abbrev pub is_text : List ℕ → Bool
is_text name = is_some (front name)

-- the name of a text, beside which there are ticks among these names
abbrev pub is_test : List (List ℕ) → List ℕ → Bool
is_test names name = is_text name && list_any (bytes_eq (beside name (codes ".ticks"))) names

-- a name in a folder, behind that of the folder and a slash
abbrev pub in_folder : List ℕ → List ℕ → List ℕ
in_folder folder name = unwrap_or (without (codes "/") folder) folder ++ (47 ∷ name)

-- the names of a folder that are those of tests, in the folder
abbrev pub tests_in : List ℕ → List (List ℕ) → List (List ℕ)
tests_in folder names = map (in_folder folder) (filter (is_test names) names)
