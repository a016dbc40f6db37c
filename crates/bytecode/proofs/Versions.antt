-- What the first version of the layout can say, later ones can say.
use Rattle.std.proofs.Common.{ℕ, ◌≤◌, List, [], ◌∷◌, ap, arith}
use Rattle.std.specs.Prelude.{slice_set}
use Rattle.std.specs.List.{AllByRecursion}
use Rattle.sc_values.specs.declared.value.Value.TheVariants as value
use Rattle.sc_values.specs.declared.operation.Operation.{Operation}
use Rattle.sc_values.specs.declared.operation.Operation.TheVariants as op
use Rattle.sc_values.specs.declared.operator.UnaryOperator.TheVariants as unary
use Rattle.sc_graph.specs.declared.program.Step.{Step}
use Rattle.sc_graph.specs.declared.program.Step.TheVariants as step
use Rattle.bytecode.specs.declared.rows.NodeRow.{NodeRow}
use Rattle.bytecode.specs.Image.{Image}
use Rattle.bytecode.specs.Layout.{spelling, rows_of_nodes}
use Rattle.bytecode.specs.Fits.{SayableOperation, SayableCode, SayableStep, SayableNode, SayableImage}
use Rattle.bytecode.specs.Spells.{Spells}

all_later : {A : Type 0} (P Q : A → Type 0) → ((x : A) → P x → Q x) → (xs : List A) → AllByRecursion P xs → AllByRecursion Q xs
all_later P Q each [] all = tt
all_later P Q each (x ∷ xs) all = (each x all.0, all_later P Q each xs all.1)

operation_later : (v w : ℕ) → v ≤ w → (o : Operation) → SayableOperation v o → SayableOperation w o
operation_later v w le (op.Literal (value.Bool b)) fits = tt
operation_later v w le (op.Literal (value.Int n)) fits = fits
operation_later v w le (op.Load x) fits = fits
operation_later v w le (op.Unary unary.Negate) fits = tt
operation_later v w le (op.Unary unary.Not) fits = tt
operation_later v w le (op.Unary (unary.Divide d)) fits = (omega (arith, le, fits.0), fits.1)
operation_later v w le (op.Unary (unary.Remainder d)) fits = (omega (arith, le, fits.0), fits.1)
operation_later v w le (op.Binary f) fits = tt

code_later : (v w : ℕ) → v ≤ w → (code : List Operation) → SayableCode v code → SayableCode w code
code_later v w le code fits = (fits.0, all_later (SayableOperation v) (SayableOperation w) (operation_later v w le) code fits.1)

step_later : (v w : ℕ) → v ≤ w → (s : Step) → SayableStep v s → SayableStep w s
step_later v w le step.Exit fits = tt
step_later v w le (step.Assign variable code next) fits = (fits.0, fits.1, code_later v w le code fits.2)
step_later v w le (step.Update variable combine code next) fits = (fits.0, fits.1, code_later v w le code fits.2)
step_later v w le (step.Cond code target other) fits = (fits.0, fits.1, code_later v w le code fits.2)
step_later v w le (step.Fork children join) fits = fits
step_later v w le (step.Join next) fits = fits
step_later v w le (step.Surf depth) fits = fits
step_later v w le (step.Depth next) fits = fits

node_later : (v w : ℕ) → v ≤ w → (n : NodeRow) → SayableNode v n → SayableNode w n
node_later v w le n fits = record {
  owner = fits.owner;
  priority = fits.priority;
  weight = fits.weight;
  step = step_later v w le n.node.step fits.step;
}

image_later : (v w : ℕ) → v ≤ w → (i : Image) → SayableImage v i → SayableImage w i
image_later v w le i fits = record {
  variables_counted = fits.variables_counted;
  threads_counted = fits.threads_counted;
  nodes_counted = fits.nodes_counted;
  lengths = fits.lengths;
  variables = fits.variables;
  threads = fits.threads;
  nodes = all_later (SayableNode v) (SayableNode w) (node_later v w le) (rows_of_nodes i) fits.nodes;
  budget = fits.budget;
}

pub spelled_in_2 : (bytes : List ℕ) (i : Image) → Spells 1 bytes i → Spells 2 (slice_set bytes 4 2) i
unfolding spelling
spelled_in_2 bytes i spells = record {
  fits = image_later 1 2 (omega arith) i spells.fits;
  spelt = ap (λ (b : List ℕ). slice_set b 4 2) spells.spelt;
}
