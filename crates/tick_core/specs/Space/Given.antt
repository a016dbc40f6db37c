-- What the inputs of a tick give to each variable.
use Rattle.std.specs.Prelude.{ℕ, ◌≡◌, Option, Some, List, length, slice_get}
use Rattle.sc_values.specs.declared.value.Value.{Value}
use Rattle.sc_graph.specs.declared.program.Variable.{Variable}
use Rattle.sc_graph.specs.declared.control.Control.{Control}
use Rattle.sc_graph.specs.Program.{Program}
use Rattle.sc_graph.specs.Tick.{Inputs, given}

-- no two variables have one name
pub record HasOwnNames (variables : List Variable) : Type 0 where
  pub each : (x y : ℕ) (a b : Variable) → slice_get variables x ≡ Some a → slice_get variables y ≡ Some b → a.name ≡ b.name → x ≡ y

-- for each variable the value that these inputs give to its name
pub record Gives (variables : List Variable) (inputs : Inputs) (values : List (Option Value)) : Type 0 where
  pub long : length values ≡ length variables
  pub each : (x : ℕ) (a : Variable) → slice_get variables x ≡ Some a → slice_get values x ≡ Some (given inputs a.name)

-- a value is given to the variable at this place
pub record IsGiven (values : List (Option Value)) (place : ℕ) : Type 0 where
  pub value : Value
  pub is : slice_get values place ≡ Some (Some value)

-- a value for each variable and a status for each thread
pub record HasPlaces (p : Program) (c : Control) : Type 0 where
  pub values : length c.variables ≡ length p.variables
  pub statuses : length c.statuses ≡ length p.threads
