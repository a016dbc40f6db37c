-- An image as a line of JSON, for programs that read it: its variables in their order, each with name, kind and role; the
-- paths of the states of its chart, where they are given; and how many nodes and threads it has, and its budget.
-- Names and paths have no sign that JSON would want otherwise.
use Rattle.std.specs.Prelude.{ℕ, Option, Some, None, List, [], ◌∷◌, ◌++◌, map, length, codes, decimal}
use Rattle.sc_graph.specs.declared.program.Variable.{Variable}
use Rattle.bytecode.specs.Image.{Image}
use Rattle.image_listing.specs.Words.{kind_text, role_text}

abbrev pub quoted : List ℕ → List ℕ
quoted text = codes "\"" ++ (text ++ codes "\"")

-- items behind the first, each behind a comma
abbrev pub further : List (List ℕ) → List ℕ
further [] = []
further (item ∷ items) = codes "," ++ (item ++ further items)

abbrev pub in_row : List (List ℕ) → List ℕ
in_row [] = []
in_row (item ∷ items) = item ++ further items

abbrev pub variable_json : Variable → List ℕ
variable_json v =
    codes "{\"name\":\"" ++ (v.name ++ (codes "\",\"kind\":\"" ++ (kind_text v.kind
    ++ (codes "\",\"role\":\"" ++ (role_text v.role ++ codes "\"}")))))

abbrev pub states_json : Option (List (List ℕ)) → List ℕ
states_json None = []
states_json (Some paths) = codes ",\"states\":[" ++ (in_row (map quoted paths) ++ codes "]")

abbrev pub image_json : Option (List (List ℕ)) → Image → List ℕ
image_json paths i =
    codes "{\"variables\":[" ++ (in_row (map variable_json i.program.variables) ++ (codes "]" ++ (states_json paths
    ++ (codes ",\"nodes\":" ++ (decimal (length i.program.nodes) ++ (codes ",\"threads\":"
    ++ (decimal (length i.program.threads) ++ (codes ",\"budget\":" ++ (decimal i.tables.budget ++ codes "}\n")))))))))
