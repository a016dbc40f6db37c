-- The inputs among variables, by their names.
use Rattle.std.specs.Prelude.{◌≡◌, ℕ, Option, Some, None, List, ◌∷◌, drop, String}
use Rattle.std.specs.BTreeMap.{BTreeMap, get_by_text}
use Rattle.std.specs.declared.alloc.Global.{Global}
use Rattle.sc_graph.specs.declared.program.Variable.{Variable}
use Rattle.trace_lines.specs.Line.{input_of}

-- each name has the input that it names
abbrev pub NamesInputs : List Variable → BTreeMap (String Global) Variable → Type 0
NamesInputs variables named = (name : List ℕ) → get_by_text named name ≡ input_of variables name

-- the first, or else the second
abbrev pub first_of : {A : Type 0} → Option A → Option A → Option A
first_of (Some a) b = Some a
first_of None b = b

-- each name has the input that it names, once the variables from this place on are added
abbrev pub NamesBefore : List Variable → ℕ → BTreeMap (String Global) Variable → Type 0
NamesBefore variables place named =
    (name : List ℕ) → first_of (get_by_text named name) (input_of (drop place variables) name) ≡ input_of variables name

-- one variable was added, where it is an input and none of its name was there
abbrev pub Adds : Variable → BTreeMap (String Global) Variable → BTreeMap (String Global) Variable → Type 0
Adds a old new = (name : List ℕ) (rest : List Variable) →
    first_of (get_by_text new name) (input_of rest name) ≡ first_of (get_by_text old name) (input_of (a ∷ rest) name)
