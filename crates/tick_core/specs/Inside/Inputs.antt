-- What one input of a tick needs.
use Rattle.std.specs.Prelude.{ℕ, ◌≡◌, ◌≢◌, Some, List, slice_get, take}
use Rattle.sc_values.specs.declared.value.Value.{Value}
use Rattle.sc_values.specs.Operator.{kind_of}
use Rattle.sc_graph.specs.declared.program.Variable.{Variable}
use Rattle.sc_graph.specs.declared.program.Role.TheVariants as role

-- the input is for this variable, which is an input variable of its kind
pub record IsFor (variable : Variable) (input : List ℕ × Value) : Type 0 where
  pub name : variable.name ≡ input.0
  pub role : variable.role ≡ role.Input
  pub kind : variable.kind ≡ kind_of input.1

-- the input is for the variable at this place
pub record IsForAt (variables : List Variable) (input : List ℕ × Value) (place : ℕ) : Type 0 where
  pub variable : Variable
  pub is : slice_get variables place ≡ Some variable
  pub fits : IsFor variable input

-- the input is for one of these variables
pub record NamesInput (variables : List Variable) (input : List ℕ × Value) : Type 0 where
  pub number : ℕ
  pub variable : Variable
  pub is : slice_get variables number ≡ Some variable
  pub fits : IsFor variable input

-- no input before the one at this place has its name
pub record IsFirstOfItsName (inputs : List (List ℕ × Value)) (at : ℕ) (input : List ℕ × Value) : Type 0 where
  pub each : (i : ℕ) (a : List ℕ × Value) → slice_get (take at inputs) i ≡ Some a → a.0 ≢ input.0

-- what each input at its place needs
pub record IsAcceptedAt (variables : List Variable) (inputs : List (List ℕ × Value)) (at : ℕ) (input : List ℕ × Value) : Type 0 where
  pub named : NamesInput variables input
  pub new : IsFirstOfItsName inputs at input
