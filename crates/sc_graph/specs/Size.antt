-- The size and range rule: counts within their limits, and each number names something.
use Rattle.std.specs.Prelude.{ℕ, zero, suc, ◌≡◌, ◌≢◌, ◌+◌, ◌<◌, ◌≤◌, Bool, true, false, Option, Some, None, List, length, slice_get, take, count_by, All}
use Rattle.sc_values.specs.declared.operation.Operation.{Operation}
use Rattle.sc_values.specs.Code.{loads}
use Rattle.sc_graph.specs.declared.program.Variable.{Variable}
use Rattle.sc_graph.specs.declared.program.Role.{Role}
use Rattle.sc_graph.specs.declared.program.Role.TheVariants as role
use Rattle.sc_graph.specs.declared.program.Thread.{Thread}
use Rattle.sc_graph.specs.declared.program.Node.{Node}
use Rattle.sc_graph.specs.declared.program.Step.{Step}
use Rattle.sc_graph.specs.declared.program.Step.TheVariants as step
use Rattle.sc_graph.specs.declared.tables.Tables.{Tables}
use Rattle.sc_graph.specs.declared.place.Place.{Place}
use Rattle.sc_graph.specs.declared.place.Place.TheVariants as place
use Rattle.sc_graph.specs.Limits.{variable_limit, output_limit, thread_limit, node_limit, child_limit, ancestor_limit, budget_limit}
use Rattle.sc_graph.specs.Program.{Program, owner_of}
use Rattle.sc_graph.specs.Threads.{Descends}

abbrev pub is_output : Role → Bool
is_output role.Output = true
is_output other = false

pub record CountsFit (p : Program) : Type 0 where
  pub variables : length p.variables ≤ variable_limit
  pub some_thread : 1 ≤ length p.threads
  pub threads : length p.threads ≤ thread_limit
  pub some_node : 1 ≤ length p.nodes
  pub nodes : length p.nodes ≤ node_limit

-- the name of variable x is none of an earlier one, and x is no output past the limit
pub record VariableFits (p : Program) (x : ℕ) (a : Variable) : Type 0 where
  pub new_name : (y : ℕ) (b : Variable) → y < x → slice_get p.variables y ≡ Some b → b.name ≢ a.name
  pub outputs : a.role ≡ role.Output → count_by (λ b. is_output b.role) (take (x + 1) p.variables) ≤ output_limit

-- the root has no parent, and every other thread one of smaller number
abbrev pub ParentFits : ℕ → Option ℕ → Type 0
ParentFits zero parent = parent ≡ None
ParentFits (suc t) None = ⊥
ParentFits (suc t) (Some parent) = parent < suc t

pub record ThreadFits (p : Program) (t : ℕ) (a : Thread) : Type 0 where
  pub parent : ParentFits t a.parent
  pub ancestors : (u : ℕ) → ¬ Descends p (ancestor_limit + 1) t u
  pub entry : owner_of p a.entry ≡ Some t

abbrev pub InNodes : Program → ℕ → Type 0
InNodes p n = n < length p.nodes

abbrev pub InVariables : Program → ℕ → Type 0
InVariables p x = x < length p.variables

abbrev pub LoadsFit : Program → List Operation → Type 0
LoadsFit p code = All (InVariables p) (loads code)

-- no child stands twice
abbrev pub AreDistinct : List ℕ → Type 0
AreDistinct children = (i j a b : ℕ) → i < j → slice_get children i ≡ Some a → slice_get children j ≡ Some b → a ≢ b

pub record ChildrenFit (p : Program) (children : List ℕ) : Type 0 where
  pub some_child : 1 ≤ length children
  pub few : length children ≤ child_limit
  pub threads : All (λ k. k < length p.threads) children
  pub distinct : AreDistinct children

abbrev pub StepFits : Program → Step → Type 0
StepFits p (step.Assign x code next) = InVariables p x × LoadsFit p code × InNodes p next
StepFits p (step.Update x f code next) = InVariables p x × LoadsFit p code × InNodes p next
StepFits p (step.Cond code on_true on_false) = LoadsFit p code × InNodes p on_true × InNodes p on_false
StepFits p (step.Fork children join) = ChildrenFit p children × InNodes p join
StepFits p (step.Join next) = InNodes p next
StepFits p (step.Surf depth) = InNodes p depth
StepFits p (step.Depth next) = InNodes p next
StepFits p step.Exit = Unit {0}

pub record NodeFits (p : Program) (a : Node) : Type 0 where
  pub owner : a.owner < length p.threads
  pub fits : StepFits p a.step

-- the rule for a program alone, at a place
abbrev pub ProgramFitsAt : Program → Place → Type 0
ProgramFitsAt p place.Image = CountsFit p
ProgramFitsAt p (place.Variable x) = (a : Variable) → slice_get p.variables x ≡ Some a → VariableFits p x a
ProgramFitsAt p (place.Thread t) = (a : Thread) → slice_get p.threads t ≡ Some a → ThreadFits p t a
ProgramFitsAt p (place.Node n) = (a : Node) → slice_get p.nodes n ≡ Some a → NodeFits p a
ProgramFitsAt p (place.Pair m n) = Unit {0}

-- the budget's own limit
abbrev pub BudgetFitsAt : Tables → Place → Type 0
BudgetFitsAt q place.Image = q.budget ≤ budget_limit
BudgetFitsAt q other = Unit {0}

-- the size and range rule at a place
abbrev pub SizeAt : Program → Tables → Place → Type 0
SizeAt p q at = ProgramFitsAt p at × BudgetFitsAt q at
