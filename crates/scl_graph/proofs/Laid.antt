-- The nodes of a thread are laid statement by statement.
use Rattle.std.proofs.Common.{◌≡◌, ℕ, suc, ◌+◌, ◌<◌, add-one, drop, drop-cons, get_or, length, Result, Ok, Err, List, [], ◌∷◌, ◌++◌, map, refl, ap, sym, subst}
use Rattle.std.proofs.Common.{◌∙◌, append_assoc, arith}
use Rattle.std.specs.Result.{IfOk}
use Rattle.std.proofs.lemmas.List.{append-nil}
use Rattle.sc_values.specs.declared.expression.Expr.{Expr}
use Rattle.sc_values.specs.Expr.{postorder}
use Rattle.sc_values.specs.Assignment.{assignment_of}
use Rattle.sc_graph.specs.declared.program.Node.{Node}
use Rattle.sc_graph.specs.declared.program.Step.TheVariants as step
use Rattle.scl.specs.declared.statement.Statement.{Statement}
use Rattle.scl.specs.declared.statement.Statement.TheOpen.{Statement-F}
use Rattle.scl.specs.declared.statement.Statement.TheOpen as tree
use Rattle.scl.specs.declared.statement.Statement.TheVariants as variant
use Rattle.scl.specs.declared.statement.Statement.TheViews.{out-Statement}
use Rattle.scl.specs.declared.statement.Statement.TheFolds.{fold_out-Statement, map-Statement}
use Rattle.scl.specs.Block.{Block, End}
use Rattle.scl.specs.Places.{threads_of}
use Rattle.scl.specs.Numbering.{Piece, piece, piece_of, in_row, branches_from, beyond}
use Rattle.scl_graph.specs.declared.numbers.NodeNumbers.{NodeNumbers}
use Rattle.scl_graph.specs.declared.way.Way.{Way}
use Rattle.scl_graph.specs.Graph.{way, own, node, assigns}
use Rattle.scl_graph.specs.Counting.{counts_of, counts_of_all}
use Rattle.scl_graph.specs.Inside.Laying.{HasRoom, IsLaid, with_goto, after, past, text, way_at, way_behind, way_in, children}
use Rattle.scl_graph.proofs.Pieces.{piece_of_assign, piece_of_label, piece_of_goto, piece_of_pause, piece_of_if, piece_of_fork}
use Rattle.scl_graph.proofs.Before.{own_before, made_before}

-- where a text leads
leads_at : (y : Statement-F Statement) (rest : List Statement) (at : NodeNumbers) (g : ℕ) (behind : Way)
    → ((m : NodeNumbers) (h : ℕ) → m.node ≡ at.node → way (text rest m h) behind ≡ way_in rest at.node behind)
    → way (let p : Piece = piece (map-Statement Statement Piece piece_of y) in
    p.made (with_goto at g) ((in_row (map piece_of rest)).made (beyond (with_goto at g) p.counts) (End 0))) behind
    ≡ way_at y at.node (way_in rest at.node behind)
leads_at (tree.Assign x e) rest at g behind h = refl
leads_at (tree.Label name) rest at g behind h = h (record { node = at.node + 0; thread = at.thread + 0; base = at.base + 0 }) (g + 0) (omega arith)
leads_at (tree.Goto name) rest at g behind h = refl
leads_at tree.Pause rest at g behind h = refl
leads_at (tree.If e a b) rest at g behind h = refl
leads_at (tree.Fork branches) rest at g behind h = refl

pub leads_in : (statements : List Statement) (at : NodeNumbers) (g : ℕ) (behind : Way) (n : ℕ) → at.node ≡ n → way (text statements at g) behind
    ≡ way_in statements n behind
leads_in [] at g behind n e = refl
leads_in (s ∷ rest) at g behind n e =
    let Leads : Piece → Type 0 = λ p. way (p.made (with_goto at g) ((in_row (map piece_of rest)).made (beyond (with_goto at g) p.counts) (End 0))) behind
    ≡ way_at (out-Statement s) at.node (way_in rest at.node behind) in
    subst Leads (sym (fold_out-Statement Piece piece s)) (leads_at (out-Statement s) rest at g behind (λ m h. leads_in rest m h behind at.node))
    ∙ ap (λ m. way_at (out-Statement s) m (way_in rest m behind)) e

-- where a thread goes on behind a statement
behind_at : (y : Statement-F Statement) (rest : List Statement) (here : NodeNumbers) (ahead behind : Way)
    → ahead ≡ way_at y here.node (way_in rest here.node behind)
    → way_behind y rest (here.node + (piece (map-Statement Statement Piece piece_of y)).counts.nodes) ahead behind
    ≡ way_in rest (here.node + (piece (map-Statement Statement Piece piece_of y)).counts.nodes) behind
behind_at (tree.Assign x e) rest here ahead behind is = refl
behind_at (tree.Label name) rest here ahead behind is =
    let node : here.node ≡ here.node + 0 = omega arith in
    is ∙ ap (λ m. way_in rest m behind) node
behind_at (tree.Goto name) rest here ahead behind is = refl
behind_at tree.Pause rest here ahead behind is = refl
behind_at (tree.If e a b) rest here ahead behind is = refl
behind_at (tree.Fork branches) rest here ahead behind is = refl

pub leads_behind : (s : Statement) (rest : List Statement) (here : NodeNumbers) (ahead behind : Way) → ahead ≡ way_in (s ∷ rest) here.node behind
    → way_behind (out-Statement s) rest (past here (counts_of s)).node ahead behind ≡ way_in rest (past here (counts_of s)).node behind
leads_behind s rest here ahead behind is =
    let Leads : Piece → Type 0 = λ p. way_behind (out-Statement s) rest (here.node + p.counts.nodes) ahead behind
    ≡ way_in rest (here.node + p.counts.nodes) behind in
    subst Leads (sym (fold_out-Statement Piece piece s)) (behind_at (out-Statement s) rest here ahead behind is)

-- a list from an index on begins with what stands there
pub split_at : {A : Type 0} (xs : List A) (i : ℕ) (x : A) → i < length xs → x ≡ get_or xs i x → drop i xs ≡ x ∷ drop (i + 1) xs
split_at xs i x lt is = rw add-one (drop-cons xs i x lt ∙ ap (λ y. y ∷ drop (suc i) xs) (sym is))

-- what has room for statements has room for each of them
room_first : (at : NodeNumbers) (s : Statement) (rest : List Statement) → HasRoom at (counts_of_all (s ∷ rest)) → HasRoom at (counts_of s)
room_first at s rest h =
    record {
      small = record { nodes = omega (arith, h.small.nodes); threads = omega (arith, h.small.threads); lower = omega (arith, h.small.lower) };
      node = omega (arith, h.node);
      thread = omega (arith, h.thread);
      base = omega (arith, h.base);
    }

pub room_at : (at : NodeNumbers) (xs : List Statement) (i : ℕ) (s : Statement) → HasRoom at (counts_of_all (drop i xs)) → i < length xs
    → s ≡ get_or xs i s → HasRoom at (counts_of s)
room_at at xs i s room lt is =
    let Fits : List Statement → Type 0 = λ zs. HasRoom at (counts_of_all zs) in
    room_first at s (drop (i + 1) xs) (subst Fits (split_at xs i s lt is) room)

-- what has room for statements has room behind the first of them
pub room_more : (at : NodeNumbers) (s : Statement) (rest : List Statement) → HasRoom at (counts_of_all (s ∷ rest))
    → HasRoom (past at (counts_of s)) (counts_of_all rest)
room_more at s rest h =
    let nodes : _ = h.node in
    let threads : _ = h.thread in
    let base : _ = h.base in
    record {
      small = record { nodes = omega (arith, h.small.nodes); threads = omega (arith, h.small.threads); lower = omega (arith, h.small.lower) };
      node = omega (arith, nodes);
      thread = omega (arith, threads);
      base = omega (arith, base);
    }

pub ok_then : {T E : Type 0} (r : Result T E) (P Q : T → Type 0) → ((v : T) → P v → Q v) → IfOk r P → IfOk r Q
ok_then (Ok v) P Q f h = f v h
ok_then (Err e) P Q f h = h

-- nothing is laid
pub laid_none : (target : Way → ℕ) (t : ℕ) (at : NodeNumbers) (behind : Way) (nodes : List Node) → IsLaid target t [] at behind nodes nodes
laid_none target t at behind nodes = record { each = λ g. sym (append-nil nodes) }

-- a statement is laid, and then those behind it
pub laid_more : (target : Way → ℕ) (t : ℕ) (s : Statement) (rest : List Statement) (at : NodeNumbers) (behind : Way) (a b c : List Node)
    → IsLaid target t (s ∷ []) at (way_in rest (past at (counts_of s)).node behind) a b
    → IsLaid target t rest (past at (counts_of s)) behind b c
    → IsLaid target t (s ∷ rest) at behind a c
laid_more target t s rest at behind a b c one others = record {
  each = λ g.
      let h : ℕ = g + (piece_of s).counts.gotos in
      let next : NodeNumbers = past at (counts_of s) in
      let k : Block = text rest next h in
      let first : Block = (piece_of s).made (with_goto at g) (End 0) in
      others.each h
      ∙ ap (λ r. r ++ own target t k behind) (one.each g)
      ∙ append_assoc a (own target t first (way_in rest next.node behind)) (own target t k behind)
      ∙ ap (λ w. a ++ (own target t first w ++ own target t k behind)) (sym (leads_in rest next h behind next.node refl))
      ∙ ap (λ r. a ++ r) (sym (own_before target t first k behind))
      ∙ ap (λ r. a ++ own target t r behind) (sym (made_before s (with_goto at g) k));
}

-- a statement by itself
by_piece : (target : Way → ℕ) (t : ℕ) (s : Statement) (at : NodeNumbers) (behind : Way) (old new : List Node) (p : Piece) → piece_of s ≡ p
    → ((g : ℕ) → new ≡ old ++ own target t (p.made (with_goto at g) (End 0)) behind) → IsLaid target t (s ∷ []) at behind old new
by_piece target t s at behind old new p is h = record { each = λ g. h g ∙ ap (λ q. old ++ own target t (q.made (with_goto at g) (End 0)) behind) (sym is) }

pub laid_label : (target : Way → ℕ) (t : ℕ) (s : Statement) (at : NodeNumbers) (behind : Way) (nodes : List Node) (name : List ℕ)
    → s ≡ variant.Label name → IsLaid target t (s ∷ []) at behind nodes nodes
laid_label target t s at behind nodes name is =
    by_piece target t s at behind nodes nodes (piece (tree.Label name)) (ap piece_of is ∙ piece_of_label name) (λ g. sym (append-nil nodes))

pub laid_goto : (target : Way → ℕ) (t : ℕ) (s : Statement) (at : NodeNumbers) (behind : Way) (nodes : List Node) (name : List ℕ)
    → s ≡ variant.Goto name → IsLaid target t (s ∷ []) at behind nodes nodes
laid_goto target t s at behind nodes name is =
    by_piece target t s at behind nodes nodes (piece (tree.Goto name)) (ap piece_of is ∙ piece_of_goto name) (λ g. sym (append-nil nodes))

pub laid_assign : (target : Way → ℕ) (t : ℕ) (s : Statement) (at : NodeNumbers) (behind : Way) (old new : List Node) (x : ℕ) (e : Expr)
    → s ≡ variant.Assign x e → new ≡ old ++ node t (assigns x (assignment_of x e) (target behind)) ∷ [] → IsLaid target t (s ∷ []) at behind old new
laid_assign target t s at behind old new x e is h =
    by_piece target t s at behind old new (piece (tree.Assign x e)) (ap piece_of is ∙ piece_of_assign x e) (λ g. h)

pub laid_pause : (target : Way → ℕ) (t : ℕ) (s : Statement) (at : NodeNumbers) (behind : Way) (old new : List Node)
    → s ≡ variant.Pause → new ≡ old ++ node t (step.Surf (suc at.node)) ∷ node t (step.Depth (target behind)) ∷ [] → IsLaid target t (s ∷ []) at behind old new
laid_pause target t s at behind old new is h =
    by_piece target t s at behind old new (piece tree.Pause) (ap piece_of is ∙ piece_of_pause) (λ g. h)

threads_are : (branches : List (List Statement)) (at : NodeNumbers) (g : ℕ) → threads_of (branches_from (map (map piece_of) branches) (with_goto at g))
    ≡ children branches at.thread
threads_are [] at g = refl
threads_are (b ∷ branches) at g =
    let c : _ = (in_row (map piece_of b)).counts in
    ap (λ r. at.thread ∷ r) (threads_are branches (record { node = at.node + 0; thread = at.thread + suc c.threads; base = at.base + (suc c.nodes + c.lower) })
    (g + c.gotos))

pub laid_fork : (target : Way → ℕ) (t : ℕ) (s : Statement) (at : NodeNumbers) (behind : Way) (old new : List Node) (branches : List (List Statement))
    → s ≡ variant.Fork branches
    → new ≡ old ++ node t (step.Fork (children branches at.thread) (suc at.node)) ∷ node t (step.Join (target behind)) ∷ []
    → IsLaid target t (s ∷ []) at behind old new
laid_fork target t s at behind old new branches is h =
    by_piece target t s at behind old new (piece (tree.Fork (map (map piece_of) branches))) (ap piece_of is ∙ piece_of_fork branches)
    (λ g. h ∙ ap (λ ks. old ++ node t (step.Fork ks (suc at.node)) ∷ node t (step.Join (target behind)) ∷ []) (sym (threads_are branches at g)))

pub laid_if : (target : Way → ℕ) (t : ℕ) (s : Statement) (at : NodeNumbers) (behind : Way) (old tested middle new : List Node) (e : Expr) (a b : List Statement)
    → s ≡ variant.If e a b
    → tested ≡ old ++ node t
    (step.Cond (postorder e) (target (way_in a (1 + at.node) behind)) (target (way_in b (1 + at.node + (counts_of_all a).nodes) behind))) ∷ []
    → IsLaid target t a (after 1 at) behind tested middle
    → IsLaid target t b (past (after 1 at) (counts_of_all a)) behind middle new
    → IsLaid target t (s ∷ []) at behind old new
laid_if target t s at behind old tested middle new e a b is h first second =
    by_piece target t s at behind old new (piece (tree.If e (map piece_of a) (map piece_of b))) (ap piece_of is ∙ piece_of_if e a b) (λ g.
    let inner : NodeNumbers = after 1 at in
    let c : _ = (in_row (map piece_of a)).counts in
    let p : Block = text a inner g in
    let q : Block = text b (past inner (counts_of_all a)) (g + c.gotos) in
    let test : Way → Way → Node = λ v w. node t (step.Cond (postorder e) (target v) (target w)) in
    let v : Way = way_in a (1 + at.node) behind in
    let w : Way = way_in b (1 + at.node + (counts_of_all a).nodes) behind in
    let laid : List Node = own target t p behind in
    let rest : List Node = own target t q behind in
    second.each (g + c.gotos)
    ∙ ap (λ r. r ++ rest) (first.each g ∙ ap (λ r. r ++ laid) h)
    ∙ ap (λ r. r ++ rest) (append_assoc old (test v w ∷ []) laid)
    ∙ append_assoc old (test v w ∷ laid) rest
    ∙ ap (λ u. old ++ (test u w ∷ (laid ++ rest))) (sym (leads_in a inner g behind (1 + at.node) refl))
    ∙ ap (λ u. old ++ (test (way p behind) u ∷ (laid ++ rest)))
    (sym (leads_in b (past inner (counts_of_all a)) (g + c.gotos) behind (1 + at.node + (counts_of_all a).nodes) refl))
    ∙ ap (λ r. old ++ (test (way p behind) (way q behind) ∷ r)) (sym (append-nil (laid ++ rest))))
