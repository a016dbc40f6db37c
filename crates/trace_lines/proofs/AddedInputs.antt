-- How inputs are added by their names.
use Rattle.std.proofs.Common.{◌≡◌, ℕ, Bool, true, false, List, Option, Some, None, String, Global, BTreeMap, refl, ap, sym, ◌∙◌, cond, ◌&&◌, is_some, bytes_eq}
use Rattle.std.proofs.lemmas.Slice.Eq.{bytes_eq-Decides}
use Rattle.std.specs.BTreeMap.{get_by_text}
use Rattle.sc_graph.specs.declared.program.Variable.{Variable}
use Rattle.trace_lines.specs.Line.{is_input, input_of}
use Rattle.trace_lines.specs.Inside.Named.{Adds, first_of}

-- an input of a new name was added
added_by : (b r : Bool) (old new i : Option Variable) (a : Variable) → r ≡ true → (b ≡ true → old ≡ None) → new ≡ cond b (Some a) old
    → first_of new i ≡ first_of old (cond (r && b) (Some a) i)
added_by true r old new i a said none is = rw (is, said, none refl)
added_by false r old new i a said none is = rw (is, said)

same_name : (old : BTreeMap (String Global) Variable) (a name : List ℕ) → bytes_eq a name ≡ true → get_by_text old name ≡ get_by_text old a
same_name old a name said = ap (get_by_text old) (sym ((bytes_eq-Decides a name).0 said))

pub adds_new : (a : Variable) (old new : BTreeMap (String Global) Variable) → is_input a.role ≡ true → get_by_text old a.name ≡ None
    → ((name : List ℕ) → get_by_text new name ≡ cond (bytes_eq a.name name) (Some a) (get_by_text old name)) → Adds a old new
adds_new a old new said none is = λ name rest.
    added_by (bytes_eq a.name name) (is_input a.role) (get_by_text old name) (get_by_text new name) (input_of rest name) a said
    (λ same. same_name old a.name name same ∙ none) (is name)

pub none_of : {A : Type 0} (o : Option A) → is_some o ≡ false → o ≡ None
none_of None e = refl
none_of (Some a) e = absurd cc
