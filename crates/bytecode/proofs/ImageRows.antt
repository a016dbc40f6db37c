-- An image and its rows: the rows of threads and nodes say all of an image but its variables and its budget.
use Rattle.std.proofs.Common.{◌≡◌, ℕ, zero, suc, ◌<◌, Bool, List, [], ◌∷◌, length, map, Option, Some, None, refl, ap, subst, arith}
use Rattle.std.specs.Prelude.{IfSome, slice_get, ◌≢◌}
use Rattle.std.specs.List.{AllByRecursion}
use Rattle.sc_graph.specs.Layout.{FitsLayout, CountsChildren}
use Rattle.sc_graph.specs.Limits.{no_parent}
use Rattle.sc_graph.specs.declared.program.Variable.{Variable}
use Rattle.sc_graph.specs.declared.program.Thread.{Thread}
use Rattle.sc_graph.specs.declared.program.Node.{Node}
use Rattle.sc_graph.specs.declared.program.Step.{Step}
use Rattle.sc_graph.specs.declared.program.Step.TheVariants as step
use Rattle.bytecode.specs.declared.rows.ThreadRow.{ThreadRow}
use Rattle.bytecode.specs.declared.rows.NodeRow.{NodeRow}
use Rattle.bytecode.specs.Layout.{thread_rows, node_rows}
use Rattle.bytecode.specs.Inside.Columns.{AreThreads, AreNodes}
use Rattle.bytecode.specs.Fits.{SayableThread, SayableStep, SayableNode, SayableImage}
use Rattle.bytecode.specs.Reading.Image.{image_of}

-- ---- rows to columns and back

pub thread_rows_back : (rows : List ThreadRow) → thread_rows (map (λ t. t.thread) rows) (map (λ t. t.bound) rows) ≡ rows
thread_rows_back [] = refl
thread_rows_back (row ∷ rows) = ap (λ (others : List ThreadRow). row ∷ others) (thread_rows_back rows)

pub node_rows_back : (rows : List NodeRow) → node_rows (map (λ n. n.node) rows) (map (λ n. n.priority) rows) (map (λ n. n.weight) rows)
    (map (λ n. n.end_bit) rows) ≡ rows
node_rows_back [] = refl
node_rows_back (row ∷ rows) = ap (λ (others : List NodeRow). row ∷ others) (node_rows_back rows)

-- ---- columns to rows and back

record ThreadColumns (threads : List Thread) (bounds : List ℕ) (rows : List ThreadRow) : Type 0 where
  threads_back : map (λ t. t.thread) rows ≡ threads
  bounds_back : map (λ t. t.bound) rows ≡ bounds

thread_columns : (threads : List Thread) (bounds : List ℕ) (count : ℕ) → AreThreads threads bounds count
    → ThreadColumns threads bounds (thread_rows threads bounds)
thread_columns [] [] count k = record { threads_back = refl; bounds_back = refl }
thread_columns [] (b ∷ bounds) count k = absurd (omega (arith, k.threads_counted, k.bounds_counted))
thread_columns (t ∷ threads) [] count k = absurd (omega (arith, k.threads_counted, k.bounds_counted))
thread_columns (t ∷ threads) (b ∷ bounds) count k =
    let others = thread_columns threads bounds (length threads)
    (record { threads_counted = refl; bounds_counted = omega (arith, k.threads_counted, k.bounds_counted) }) in
    record { threads_back = ap (λ (xs : List Thread). t ∷ xs) others.threads_back; bounds_back = ap (λ (xs : List ℕ). b ∷ xs) others.bounds_back }

record NodeColumns (nodes : List Node) (priorities weights : List ℕ) (end_bits : List Bool) (rows : List NodeRow) : Type 0 where
  nodes_back : map (λ n. n.node) rows ≡ nodes
  priorities_back : map (λ n. n.priority) rows ≡ priorities
  weights_back : map (λ n. n.weight) rows ≡ weights
  end_bits_back : map (λ n. n.end_bit) rows ≡ end_bits

node_columns : (nodes : List Node) (priorities weights : List ℕ) (end_bits : List Bool) (count : ℕ) → AreNodes nodes priorities weights end_bits count
    → NodeColumns nodes priorities weights end_bits (node_rows nodes priorities weights end_bits)
node_columns [] [] [] [] count k = record { nodes_back = refl; priorities_back = refl; weights_back = refl; end_bits_back = refl }
node_columns [] (p ∷ ps) ws es count k = absurd (omega (arith, k.nodes_counted, k.priorities_counted))
node_columns [] [] (w ∷ ws) es count k = absurd (omega (arith, k.nodes_counted, k.weights_counted))
node_columns [] [] [] (e ∷ es) count k = absurd (omega (arith, k.nodes_counted, k.end_bits_counted))
node_columns (n ∷ ns) [] ws es count k = absurd (omega (arith, k.nodes_counted, k.priorities_counted))
node_columns (n ∷ ns) (p ∷ ps) [] es count k = absurd (omega (arith, k.nodes_counted, k.weights_counted))
node_columns (n ∷ ns) (p ∷ ps) (w ∷ ws) [] count k = absurd (omega (arith, k.nodes_counted, k.end_bits_counted))
node_columns (n ∷ ns) (p ∷ ps) (w ∷ ws) (e ∷ es) count k =
    let others = node_columns ns ps ws es (length ns) (record {
      nodes_counted = refl;
      priorities_counted = omega (arith, k.nodes_counted, k.priorities_counted);
      weights_counted = omega (arith, k.nodes_counted, k.weights_counted);
      end_bits_counted = omega (arith, k.nodes_counted, k.end_bits_counted);
    }) in
    record {
      nodes_back = ap (λ (xs : List Node). n ∷ xs) others.nodes_back;
      priorities_back = ap (λ (xs : List ℕ). p ∷ xs) others.priorities_back;
      weights_back = ap (λ (xs : List ℕ). w ∷ xs) others.weights_back;
      end_bits_back = ap (λ (xs : List Bool). e ∷ xs) others.end_bits_back;
    }

-- the image that is made of the rows of these columns
pub image_is : (variables : List Variable) (threads : List Thread) (bounds : List ℕ) (nodes : List Node) (priorities weights : List ℕ) (end_bits : List Bool)
    (budget t n : ℕ)
    → AreThreads threads bounds t → AreNodes nodes priorities weights end_bits n
    → image_of variables (thread_rows threads bounds) (node_rows nodes priorities weights end_bits) budget
    ≡ record {
      program = record { variables = variables; threads = threads; nodes = nodes };
      tables = record { priorities = priorities; weights = weights; end_bits = end_bits; bounds = bounds; budget = budget };
    }
image_is variables threads bounds nodes priorities weights end_bits budget t n ts ns =
    let a = thread_columns threads bounds t ts in
    let b = node_columns nodes priorities weights end_bits n ns in
    λ i. record {
      program = record { variables = variables; threads = a.threads_back i; nodes = b.nodes_back i };
      tables = record { priorities = b.priorities_back i; weights = b.weights_back i; end_bits = b.end_bits_back i; bounds = a.bounds_back i; budget = budget };
    }

-- ---- what fits an image fits its program

counts_children : (version : ℕ) (s : Step) → (SayableStep version) s → CountsChildren s
counts_children version step.Exit fits = tt
counts_children version (step.Assign variable code next) fits = tt
counts_children version (step.Update variable combine code next) fits = tt
counts_children version (step.Cond code target other) fits = tt
counts_children version (step.Fork children join) fits = fits.1
counts_children version (step.Join next) fits = tt
counts_children version (step.Surf depth) fits = tt
counts_children version (step.Depth next) fits = tt

abbrev node_given : Node → Option Node
node_given x = Some x

counts_of : (a x : Node) → node_given a ≡ node_given x → CountsChildren a.step → CountsChildren x.step
counts_of a x e counts = let same : a ≡ x = cc in subst (λ (n : Node). CountsChildren n.step) same counts

children_counted : (version : ℕ) (rows : List NodeRow) → AllByRecursion (SayableNode version) rows → (n : ℕ) (x : Node) → slice_get (map (λ r. r.node) rows) n
    ≡ Some x → CountsChildren x.step
children_counted version [] all n x e = absurd cc
children_counted version (row ∷ rows) all zero x e = counts_of row.node x e ((counts_children version) row.node.step all.0.step)
children_counted version (row ∷ rows) all (suc n) x e = (children_counted version) rows all.1 n x e

no_such_parent : (parent : Option ℕ) → IfSome parent (λ p. p < no_parent) → parent ≢ Some no_parent
no_such_parent None fits e = absurd cc
no_such_parent (Some p) fits e = let same : p ≡ no_parent = cc in absurd (omega (arith, same, fits))

abbrev thread_given : Thread → Option Thread
thread_given x = Some x

parent_same : (a x : Thread) → thread_given a ≡ thread_given x → a.parent ≢ Some no_parent → x.parent ≢ Some no_parent
parent_same a x e is = let same : a ≡ x = cc in subst (λ (t : Thread). t.parent ≢ Some no_parent) same is

parents : (rows : List ThreadRow) → AllByRecursion SayableThread rows → (t : ℕ) (x : Thread) → slice_get (map (λ r. r.thread) rows) t ≡ Some x
    → x.parent ≢ Some no_parent
parents [] all t x e = absurd cc
parents (row ∷ rows) all zero x e = parent_same row.thread x e (no_such_parent row.thread.parent all.0.parent)
parents (row ∷ rows) all (suc t) x e = parents rows all.1 t x e

-- the columns of these rows fit the layout
pub rows_fit : (version : ℕ) (variables : List Variable) (threads : List ThreadRow) (nodes : List NodeRow) (budget : ℕ)
    → (SayableImage version) (image_of variables threads nodes budget)
    → FitsLayout variables (map (λ t. t.thread) threads) (map (λ n. n.node) nodes)
rows_fit version variables threads nodes budget fits = record {
  variables_counted = fits.variables_counted;
  threads_counted = fits.threads_counted;
  nodes_counted = fits.nodes_counted;
  children_counted = children_counted version nodes (subst (AllByRecursion (SayableNode version)) (node_rows_back nodes) fits.nodes);
  parents = parents threads (subst (AllByRecursion SayableThread) (thread_rows_back threads) fits.threads);
}
