-- The inputs among variables in the order of their names, each with a value of its kind.
use Rattle.std.specs.Prelude.{◌≡◌, ⊤, ℕ, ◌≤◌, List, [], ◌∷◌, true, Some, slice_get}
use Rattle.json.specs.Token.{Token}
use Rattle.sc_values.specs.declared.value.Value.{Value}
use Rattle.sc_values.specs.Operator.{kind_of}
use Rattle.sc_graph.specs.declared.program.Variable.{Variable}
use Rattle.trace_lines.specs.Line.{input_of}
use Rattle.trace_lines.specs.Inside.Members.{GivesFirst, BeginsGiving}
use Rattle.trace_lines.specs.Inside.Ordered.{AreInOrder, is_behind_last, with_given}

-- an input has this name, and the kind of the value
pub record IsInput (variables : List Variable) (e : List ℕ × Value) : Type 0 where
  pub input : Variable
  pub there : input_of variables e.0 ≡ Some input
  pub kinded : input.kind ≡ kind_of e.1

abbrev pub AreInputs : List Variable → List (List ℕ × Value) → Type 0
AreInputs variables [] = ⊤
AreInputs variables (e ∷ es) = IsInput variables e × AreInputs variables es

-- these are inputs, in the order of their names
pub record ListsInputs (variables : List Variable) (es : List (List ℕ × Value)) : Type 0 where
  pub inputs : AreInputs variables es
  pub in_order : AreInOrder es

-- each of these from this place on is behind those that were given values
pub record AreBehind (es : List (List ℕ × Value)) (from : ℕ) (found : List (List ℕ × Value)) : Type 0 where
  pub all : (i : ℕ) (e : List ℕ × Value) → from ≤ i → slice_get es i ≡ Some e → is_behind_last e.0 found ≡ true

-- the one at the first place was given the value, and those from `from` on are behind all that were given values
pub record WasGiven (es : List (List ℕ × Value)) (p : ℕ × Value) (old : List (List ℕ × Value)) (from : ℕ) (new : List (List ℕ × Value)) : Type 0 where
  pub one : List ℕ × Value
  pub there : slice_get es p.0 ≡ Some one
  pub gained : new ≡ with_given (one.0, p.1) old
  pub behind : AreBehind es from new

-- the first token is a value, with which a member of this name gives it to the one at the place, and the others are left
pub record GivesFirstTo (variables : List Variable) (es : List (List ℕ × Value)) (name : List ℕ) (ts left : List Token) (p : ℕ × Value) : Type 0 where
  pub one : List ℕ × Value
  pub there : slice_get es p.0 ≡ Some one
  pub gives : GivesFirst variables name ts left (one.0, p.1)

-- the tokens begin with a member that gives the value to the one at the place, and the others are left
pub record BeginsGivingTo (variables : List Variable) (es : List (List ℕ × Value)) (ts left : List Token) (p : ℕ × Value) : Type 0 where
  pub one : List ℕ × Value
  pub there : slice_get es p.0 ≡ Some one
  pub gives : BeginsGiving variables ts left (one.0, p.1)
