-- What a call asks of the machine and of what it is handed, and why it is refused.
use Rattle.std.specs.Prelude.{ℕ, ◌≡◌, ◌≤◌, ◌<◌, ◌⊎◌, ℤ, Bool, true, false, ◌&&◌, Option, Some, None, List, [], ◌∷◌, length, map, take, IsTrue}
use Rattle.sc_graph.specs.Program.{Program}
use Rattle.sc_graph.specs.declared.program.Variable.{Variable}
use Rattle.sc_graph.specs.declared.program.Role.{Role}
use Rattle.sc_graph.specs.declared.program.Role.TheVariants as role
use Rattle.sc_graph.specs.declared.control.Control.{Control}
use Rattle.sc_graph.specs.Tick.{Rests}
use Rattle.sc_values.specs.declared.value.Value.{Value}
use Rattle.embedded_machine.specs.declared.fault.MachineFault.{MachineFault}
use Rattle.embedded_machine.specs.declared.fault.MachineFault.TheVariants as fault
use Rattle.embedded_machine.specs.declared.rows.VariableRow.{VariableRow}
use Rattle.embedded_machine.specs.Cells.{HoldControl, value_in}
use Rattle.embedded_machine.specs.Opened.{OpenedImage, ended_by_zero}
use Rattle.embedded_machine.specs.Rows.{row_of}
use Rattle.embedded_machine.specs.Ticks.{Resting}

-- what the cell of a variable holds may be given: of an input a value, of any other variable anything
abbrev pub may_give : Role → Option Value → Bool
may_give role.Input None = false
may_give other given = true

-- there is a cell for each variable, and each that is an input's holds a value of its kind
abbrev pub give_inputs : List Variable → List ℤ → Bool
give_inputs [] [] = true
give_inputs (x ∷ variables) (n ∷ cells) = may_give x.role (value_in x.kind n) && give_inputs variables cells
give_inputs variables cells = false

-- a tick may be taken by the inputs in cells, and there is a cell for the value of each variable
pub record AreForTick (inputs values : List ℤ) (m : Resting) : Type 0 where
  pub given : IsTrue (give_inputs m.opened.image.program.variables inputs)
  pub shown : length values ≡ length m.opened.image.program.variables

-- there is a cell for each variable, and one for each thread
pub record AreForControl (values : List ℤ) (statuses : List ℕ) (c : Control) : Type 0 where
  pub of_variables : length values ≡ length c.variables
  pub of_threads : length statuses ≡ length c.statuses

-- the cells hold a configuration in which the program rests
pub record HoldRest (values : List ℤ) (statuses : List ℕ) (p : Program) : Type 0 where
  pub control : Control
  pub held : HoldControl values statuses control
  pub rests : Rests p control

abbrev pub HoldRestOf : List ℤ → List ℕ → Resting → Type 0
HoldRestOf values statuses m = HoldRest values statuses m.opened.image.program

-- its chart has a state of this number
abbrev pub HasState : ℕ → Resting → Type 0
HasState number m = number < length m.opened.states.paths

-- the names of its variables, and of its chart's states, as they go out
abbrev pub names_out : OpenedImage → List ℕ
names_out opened = ended_by_zero (map (λ x. x.name) opened.image.program.variables)

abbrev pub states_out : OpenedImage → List ℕ
states_out opened = ended_by_zero opened.states.paths

-- there is a row for each variable, and room for the names
pub record HaveRoom (rows : List VariableRow) (names states : List ℕ) (m : Resting) : Type 0 where
  pub of_rows : length rows ≡ length m.opened.image.program.variables
  pub of_names : length (names_out m.opened) ≤ length names
  pub of_states : length (states_out m.opened) ≤ length states

-- the rows tell the variables, and the buffers begin with the names
pub record TellNames (rows : List VariableRow) (names states : List ℕ) (m : Resting) : Type 0 where
  pub rows_are : rows ≡ map row_of m.opened.image.program.variables
  pub names_are : take (length (names_out m.opened)) names ≡ names_out m.opened
  pub states_are : take (length (states_out m.opened)) states ≡ states_out m.opened

-- a call that asks for this is refused for this reason, since it is not so
pub record Lacks (asked : Type 0) (reason told : MachineFault) : Type 0 where
  pub told_is : told ≡ reason
  pub lacks : asked → ⊥

-- the same of a call that takes memory, which may be refused
abbrev pub LacksOrMemory : (asked : Type 0) → (reason told : MachineFault) → Type 0
LacksOrMemory asked reason told = (told ≡ fault.Memory) ⊎ Lacks asked reason told

-- a call to a handle is refused: it holds no machine, or the machine lacks what the call asks for
abbrev pub HeldLacks : (asked : Resting → Type 0) → (reason : MachineFault) → Option Resting → (told : MachineFault) → Type 0
HeldLacks asked reason None told = told ≡ fault.Closed
HeldLacks asked reason (Some m) told = Lacks (asked m) reason told

abbrev pub HeldLacksOrMemory : (asked : Resting → Type 0) → (reason : MachineFault) → Option Resting → (told : MachineFault) → Type 0
HeldLacksOrMemory asked reason None told = told ≡ fault.Closed
HeldLacksOrMemory asked reason (Some m) told = LacksOrMemory (asked m) reason told

-- a call that asks for no more than a machine, and takes memory, is refused
abbrev pub ClosedOrMemory : Option Resting → (told : MachineFault) → Type 0
ClosedOrMemory None told = told ≡ fault.Closed
ClosedOrMemory (Some m) told = told ≡ fault.Memory
