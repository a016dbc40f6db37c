-- Values, statuses and inputs as the numbers that cross to a caller in C: a cell each.
use Rattle.std.specs.Prelude.{ℕ, ◌≡◌, ◌+◌, ◌-◌, nat_eq, nat_lt, ℤ, pos, true, false, if◌then◌else◌, Option, Some, None, List, [], ◌∷◌, map}
use Rattle.std.specs.Ordering.{int_eq}
use Rattle.sc_values.specs.declared.value.Value.{Value}
use Rattle.sc_values.specs.declared.value.Value.TheVariants as value
use Rattle.sc_values.specs.declared.value.Kind.{Kind}
use Rattle.sc_values.specs.declared.value.Kind.TheVariants as kind
use Rattle.sc_graph.specs.declared.program.Variable.{Variable}
use Rattle.sc_graph.specs.declared.program.Role.{Role}
use Rattle.sc_graph.specs.declared.program.Role.TheVariants as role
use Rattle.sc_graph.specs.declared.control.Control.{Control}
use Rattle.sc_graph.specs.declared.control.Status.{Status}
use Rattle.sc_graph.specs.declared.control.Status.TheVariants as status
use Rattle.sc_graph.specs.Tick.{Inputs}

-- an integer stands for itself, `false` is 0 and `true` is 1
abbrev pub value_cell : Value → ℤ
value_cell (value.Bool b) = if b then pos 1 else pos 0
value_cell (value.Int n) = n

-- the value of this kind that a cell holds: any number is an integer, 0 and 1 alone are truth values
abbrev pub value_in : Kind → ℤ → Option Value
value_in kind.Int n = Some (value.Int n)
value_in kind.Bool n = if int_eq n (pos 0) then Some (value.Bool false) else if int_eq n (pos 1) then Some (value.Bool true) else None

-- 0 is absent and 1 at the end; else the number of a node is in the low 16 bits, and above them 2 is waiting, 3 paused
-- and 4 at the node
abbrev pub status_cell : Status → ℕ
status_cell status.Absent = 0
status_cell status.Ended = 1
status_cell (status.Waiting n) = 131072 + n
status_cell (status.Paused n) = 196608 + n
status_cell (status.At n) = 262144 + n

-- the status that a cell holds
abbrev pub status_in : ℕ → Option Status
status_in n =
    if nat_eq n 0 then Some status.Absent
    else if nat_eq n 1 then Some status.Ended
    else if nat_lt n 131072 then None
    else if nat_lt n 196608 then Some (status.Waiting (n - 131072))
    else if nat_lt n 262144 then Some (status.Paused (n - 196608))
    else if nat_lt n 327680 then Some (status.At (n - 262144))
    else None

-- the cells hold this configuration: one for each variable, and one for each thread
pub record HoldControl (values : List ℤ) (statuses : List ℕ) (c : Control) : Type 0 where
  pub of_variables : map value_cell c.variables ≡ values
  pub of_threads : map status_cell c.statuses ≡ statuses

-- what the cell of a variable gives before these inputs: of an input its value, else nothing
abbrev pub with_input : Variable → Role → Option Value → Inputs → Inputs
with_input x role.Input (Some v) inputs = (x.name, v) ∷ inputs
with_input x role other inputs = inputs

-- the inputs that cells give, one cell for each variable
abbrev pub inputs_in : List Variable → List ℤ → Inputs
inputs_in [] cells = []
inputs_in (x ∷ variables) [] = []
inputs_in (x ∷ variables) (n ∷ cells) = with_input x x.role (value_in x.kind n) (inputs_in variables cells)
