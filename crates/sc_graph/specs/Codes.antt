-- The rules of codes: each is well formed, and what it gives fits where it goes.
use Rattle.std.specs.Prelude.{ℕ, ◌≡◌, ◌≢◌, Some, List, Contains}
use Rattle.sc_values.specs.declared.value.Kind.{Kind}
use Rattle.sc_values.specs.declared.value.Kind.TheVariants as kind_is
use Rattle.sc_values.specs.declared.operation.Operation.{Operation}
use Rattle.sc_values.specs.Operator.{kind_combined}
use Rattle.sc_values.specs.Code.{code_kind, loads, IsWellFormed}
use Rattle.sc_graph.specs.declared.program.Role.TheVariants as role
use Rattle.sc_graph.specs.declared.program.Step.{Step}
use Rattle.sc_graph.specs.declared.program.Step.TheVariants as step
use Rattle.sc_graph.specs.declared.place.Place.{Place}
use Rattle.sc_graph.specs.declared.place.Place.TheVariants as place
use Rattle.sc_graph.specs.Program.{Program, step_at, kind_at, role_at, kinds}

abbrev pub StepIsWellFormed : Program → Step → Type 0
StepIsWellFormed p (step.Assign x code next) = IsWellFormed (kinds p) code
StepIsWellFormed p (step.Update x f code next) = IsWellFormed (kinds p) code
StepIsWellFormed p (step.Cond code on_true on_false) = IsWellFormed (kinds p) code
    × (code_kind code (kinds p) ≡ Some kind_is.Bool)
StepIsWellFormed p other = Unit {0}

-- the well-formed code rule at a place
abbrev pub CodeAt : Program → Place → Type 0
CodeAt p (place.Node n) = (s : Step) → step_at p n ≡ Some s → StepIsWellFormed p s
CodeAt p other = Unit {0}

-- what a code gives is of the kind of the variable that it is written to, which is no input
pub record IsWritten (p : Program) (x : ℕ) (code : List Operation) : Type 0 where
  pub gives : Kind
  pub code_gives : code_kind code (kinds p) ≡ Some gives
  pub variable_takes : kind_at p x ≡ Some gives
  pub no_input : role_at p x ≢ Some role.Input

abbrev pub StepIsAssigned : Program → Step → Type 0
StepIsAssigned p (step.Assign x code next) = IsWritten p x code
StepIsAssigned p (step.Update x f code next) =
    IsWritten p x code × (kind_at p x ≡ Some (kind_combined f)) × ¬ Contains (loads code) x
StepIsAssigned p other = Unit {0}

-- the assignment kind rule at a place
abbrev pub AssignmentAt : Program → Place → Type 0
AssignmentAt p (place.Node n) = (s : Step) → step_at p n ≡ Some s → StepIsAssigned p s
AssignmentAt p other = Unit {0}
