-- One more member of a line.
use Rattle.std.proofs.Common.{◌≡◌, ℕ, List, [], ◌∷◌, ◌++◌, Option, Some, None, option_map, refl, ap, sym, append_assoc}
use Rattle.serde_json.specs.Data.{Data, Members, member}
use Rattle.sc_values.specs.declared.value.Value.{Value}
use Rattle.sc_graph.specs.declared.program.Variable.{Variable}
use Rattle.trace_lines.specs.Line.{given, inputs_of}

option_map-one_more : {A : Type 0} (xs : List A) (x : A) (rest : Option (List A))
    → option_map (λ ys. xs ++ ys) (option_map (λ ys. x ∷ ys) rest) ≡ option_map (λ ys. (xs ++ x ∷ []) ++ ys) rest
option_map-one_more xs x None = refl
option_map-one_more xs x (Some ys) = ap Some (sym (append_assoc xs (x ∷ []) ys))

-- what a member gives moves from what is to come to what stands
pub inputs_of-one_more : (variables : List Variable) (stand : List (List ℕ × Value)) (name : List ℕ) (d : Data) (rest : Members) (g : List ℕ × Value)
    → given variables name d ≡ Some g
    → option_map (λ ys. stand ++ ys) (inputs_of variables (member name d rest)) ≡ option_map (λ ys. (stand ++ g ∷ []) ++ ys) (inputs_of variables rest)
inputs_of-one_more variables stand name d rest g e = rw e (option_map-one_more stand g (inputs_of variables rest))
