-- Rows and columns: threads and nodes, and their entries in the tables.
use Rattle.std.proofs.Common.{◌≡◌, ℕ, zero, suc, ◌+◌, ◌<◌, Bool, false, List, [], ◌∷◌, ◌++◌, length, get_or, take, refl, sym, ap, ◌∙◌, add-one, arith}
use Rattle.std.specs.Prelude.{slice_get, unwrap_or}
use Rattle.std.specs.List.{AllByRecursion}
use Rattle.std.proofs.lemmas.List.{length-append}
use Rattle.sc_graph.specs.declared.program.Thread.{Thread}
use Rattle.sc_graph.specs.declared.program.Node.{Node}
use Rattle.bytecode.specs.declared.rows.ThreadRow.{ThreadRow}
use Rattle.bytecode.specs.declared.rows.NodeRow.{NodeRow}
use Rattle.bytecode.specs.Layout.{thread_rows, node_rows}
use Rattle.bytecode.specs.Inside.Columns.{AreThreads, AreNodes}

-- the length of a list that grew by one
abbrev pub grown : {A : Type 0} (xs : List A) (x : A) (count : ℕ) → length xs ≡ count → length (xs ++ x ∷ []) ≡ count + 1
grown xs x count e = omega (arith, length-append xs (x ∷ []), e)

pub thread_rows_push : (threads : List Thread) (bounds : List ℕ) (count : ℕ) (row : ThreadRow) → AreThreads threads bounds count
    → thread_rows (threads ++ row.thread ∷ []) (bounds ++ row.bound ∷ []) ≡ thread_rows threads bounds ++ row ∷ []
thread_rows_push [] [] count row k = refl
thread_rows_push [] (b ∷ bounds) count row k = absurd (omega (arith, k.threads_counted, k.bounds_counted))
thread_rows_push (t ∷ threads) [] count row k = absurd (omega (arith, k.threads_counted, k.bounds_counted))
thread_rows_push (t ∷ threads) (b ∷ bounds) count row k =
    ap (λ (rows : List ThreadRow). record { thread = t; bound = b } ∷ rows)
    (thread_rows_push threads bounds (length threads) row
    (record { threads_counted = refl; bounds_counted = omega (arith, k.threads_counted, k.bounds_counted) }))

pub are_threads_push : (threads : List Thread) (bounds : List ℕ) (count : ℕ) (row : ThreadRow) → AreThreads threads bounds count
    → AreThreads (threads ++ row.thread ∷ []) (bounds ++ row.bound ∷ []) (count + 1)
are_threads_push threads bounds count row k = record {
  threads_counted = grown threads row.thread count k.threads_counted;
  bounds_counted = grown bounds row.bound count k.bounds_counted;
}

pub node_rows_push : (nodes : List Node) (priorities weights : List ℕ) (end_bits : List Bool) (count : ℕ) (row : NodeRow)
    → AreNodes nodes priorities weights end_bits count
    → node_rows (nodes ++ row.node ∷ []) (priorities ++ row.priority ∷ []) (weights ++ row.weight ∷ []) (end_bits ++ row.end_bit ∷ [])
    ≡ node_rows nodes priorities weights end_bits ++ row ∷ []
node_rows_push [] [] [] [] count row k = refl
node_rows_push [] (p ∷ ps) ws es count row k = absurd (omega (arith, k.nodes_counted, k.priorities_counted))
node_rows_push [] [] (w ∷ ws) es count row k = absurd (omega (arith, k.nodes_counted, k.weights_counted))
node_rows_push [] [] [] (e ∷ es) count row k = absurd (omega (arith, k.nodes_counted, k.end_bits_counted))
node_rows_push (n ∷ ns) [] ws es count row k = absurd (omega (arith, k.nodes_counted, k.priorities_counted))
node_rows_push (n ∷ ns) (p ∷ ps) [] es count row k = absurd (omega (arith, k.nodes_counted, k.weights_counted))
node_rows_push (n ∷ ns) (p ∷ ps) (w ∷ ws) [] count row k = absurd (omega (arith, k.nodes_counted, k.end_bits_counted))
node_rows_push (n ∷ ns) (p ∷ ps) (w ∷ ws) (e ∷ es) count row k =
    ap (λ (rows : List NodeRow). record { node = n; priority = p; weight = w; end_bit = e } ∷ rows)
    (node_rows_push ns ps ws es (length ns) row (record {
      nodes_counted = refl;
      priorities_counted = omega (arith, k.nodes_counted, k.priorities_counted);
      weights_counted = omega (arith, k.nodes_counted, k.weights_counted);
      end_bits_counted = omega (arith, k.nodes_counted, k.end_bits_counted);
    }))

pub are_nodes_push : (nodes : List Node) (priorities weights : List ℕ) (end_bits : List Bool) (count : ℕ) (row : NodeRow)
    → AreNodes nodes priorities weights end_bits count
    → AreNodes (nodes ++ row.node ∷ []) (priorities ++ row.priority ∷ []) (weights ++ row.weight ∷ []) (end_bits ++ row.end_bit ∷ []) (count + 1)
are_nodes_push nodes priorities weights end_bits count row k = record {
  nodes_counted = grown nodes row.node count k.nodes_counted;
  priorities_counted = grown priorities row.priority count k.priorities_counted;
  weights_counted = grown weights row.weight count k.weights_counted;
  end_bits_counted = grown end_bits row.end_bit count k.end_bits_counted;
}

-- one row more, as a loop over the threads or the nodes goes
pub thread_rows_next : (threads : List Thread) (bounds : List ℕ) (t : ℕ) (d : Thread) → t < length threads → t < length bounds
    → thread_rows (take (suc t) threads) bounds ≡ thread_rows (take t threads) bounds ++ record { thread = get_or threads t d; bound = get_or bounds t 0 } ∷ []
thread_rows_next [] bounds t d lt lb = absurd (omega arith)
thread_rows_next (x ∷ threads) [] t d lt lb = absurd (omega arith)
thread_rows_next (x ∷ threads) (b ∷ bounds) zero d lt lb = refl
thread_rows_next (x ∷ threads) (b ∷ bounds) (suc t) d lt lb =
    ap (λ (rows : List ThreadRow). record { thread = x; bound = b } ∷ rows) (thread_rows_next threads bounds t d (omega arith) (omega arith))

pub node_rows_next : (nodes : List Node) (priorities weights : List ℕ) (end_bits : List Bool) (n : ℕ) (d : Node)
    → n < length nodes → n < length priorities → n < length weights → n < length end_bits
    → node_rows (take (suc n) nodes) priorities weights end_bits
    ≡ node_rows (take n nodes) priorities weights end_bits
    ++ record { node = get_or nodes n d; priority = get_or priorities n 0; weight = get_or weights n 0; end_bit = unwrap_or (slice_get end_bits n) false } ∷ []
node_rows_next [] ps ws es n d ln lp lw le = absurd (omega arith)
node_rows_next (x ∷ xs) [] ws es n d ln lp lw le = absurd (omega arith)
node_rows_next (x ∷ xs) (p ∷ ps) [] es n d ln lp lw le = absurd (omega arith)
node_rows_next (x ∷ xs) (p ∷ ps) (w ∷ ws) [] n d ln lp lw le = absurd (omega arith)
node_rows_next (x ∷ xs) (p ∷ ps) (w ∷ ws) (e ∷ es) zero d ln lp lw le = refl
node_rows_next (x ∷ xs) (p ∷ ps) (w ∷ ws) (e ∷ es) (suc n) d ln lp lw le =
    ap (λ (rows : List NodeRow). record { node = x; priority = p; weight = w; end_bit = e } ∷ rows)
    (node_rows_next xs ps ws es n d (omega arith) (omega arith) (omega arith) (omega arith))

pub thread_rows_more : (threads : List Thread) (bounds : List ℕ) (t : ℕ) (row : ThreadRow) (d : Thread) → t < length threads → t < length bounds
    → row.thread ≡ get_or threads t d → row.bound ≡ get_or bounds t 0
    → thread_rows (take (t + 1) threads) bounds ≡ thread_rows (take t threads) bounds ++ row ∷ []
thread_rows_more threads bounds t row d lt lb et eb =
    rw add-one (thread_rows_next threads bounds t d lt lb ∙ (λ i. thread_rows (take t threads) bounds ++ record { thread = sym et i; bound = sym eb i } ∷ []))

pub node_rows_more : (nodes : List Node) (priorities weights : List ℕ) (end_bits : List Bool) (n : ℕ) (row : NodeRow)
    → n < length nodes → n < length priorities → n < length weights → n < length end_bits
    → row.node ≡ get_or nodes n row.node → row.priority ≡ get_or priorities n 0 → row.weight ≡ get_or weights n 0
    → row.end_bit ≡ unwrap_or (slice_get end_bits n) false
    → node_rows (take (n + 1) nodes) priorities weights end_bits ≡ node_rows (take n nodes) priorities weights end_bits ++ row ∷ []
node_rows_more nodes priorities weights end_bits n row ln lp lw le en ep ew ee =
    rw add-one (node_rows_next nodes priorities weights end_bits n row.node ln lp lw le
    ∙ (λ i. node_rows (take n nodes) priorities weights end_bits ++ record {
      node = sym en i;
      priority = sym ep i;
      weight = sym ew i;
      end_bit = sym ee i;
    } ∷ []))

-- what holds of all, and of one more
pub all_push : {A : Type 0} (P : A → Type 0) (xs : List A) (x : A) → AllByRecursion P xs → P x → AllByRecursion P (xs ++ x ∷ [])
all_push P [] x all here = (here, tt)
all_push P (y ∷ ys) x all here = (all.0, all_push P ys x all.1 here)
