-- The threads that a text forks are laid branch by branch.
use Rattle.std.proofs.Common.{◌≡◌, ◌≤◌, ◌<◌, ℕ, ◌+◌, arith, Option, Some, List, [], ◌∷◌, ◌++◌, drop, get_or, length, map, refl, ap, sym, subst, ◌∙◌}
use Rattle.std.proofs.Common.{append_assoc}
use Rattle.std.proofs.lemmas.List.{append-nil}
use Rattle.sc_values.specs.declared.expression.Expr.{Expr}
use Rattle.sc_graph.specs.Limits.{count_limit}
use Rattle.sc_graph.specs.declared.program.Node.{Node}
use Rattle.sc_graph.specs.declared.program.Thread.{Thread}
use Rattle.sc_graph.specs.declared.program.Step.TheVariants as step
use Rattle.scl.specs.declared.statement.Statement.{Statement}
use Rattle.scl.specs.declared.statement.Statement.TheOpen as tree
use Rattle.scl.specs.declared.statement.Statement.TheVariants as variant
use Rattle.scl.specs.Block.{Block, End, Assign, Label, Goto, Pause, If, Fork, Branches}
use Rattle.scl.specs.Labels.{before}
use Rattle.scl.specs.Numbering.{Piece, piece, piece_of, in_row, branches_from, beyond}
use Rattle.scl.specs.Numbering as numbering
use Rattle.scl.proofs.Sums.{total_before}
use Rattle.scl_graph.specs.declared.numbers.NodeCounts.{NodeCounts}
use Rattle.scl_graph.specs.declared.numbers.NodeNumbers.{NodeNumbers}
use Rattle.scl_graph.specs.declared.way.Way.{Way}
use Rattle.scl_graph.specs.declared.way.Way.TheVariants as leads
use Rattle.scl_graph.specs.Graph.{way, own, node, end, of_thread, nodes_below, below, among, thread, forked, forked_among}
use Rattle.scl_graph.specs.Counting.{counts_of, counts_of_all, sizes}
use Rattle.scl_graph.specs.Inside.Laying.{HasRoom, IsLaid, after, past, text, way_in, with_goto}
use Rattle.scl_graph.specs.Inside.Forking.{AreForkedLaid, AreBranchesLaid, HasBranchRoom, HasBranchesRoom, IsThreadLaid, body, inside, past_branch}
use Rattle.scl_graph.proofs.Before.{made_before, own_before, way_before, before_before, end_before}
use Rattle.scl_graph.proofs.Laid.{leads_in, split_at}
use Rattle.scl_graph.proofs.Pieces.{piece_of_assign, piece_of_label, piece_of_goto, piece_of_pause, piece_of_if, piece_of_fork}

-- statements stand before what follows them
pub all_before : (statements : List Statement) (at : numbering.Numbers) (k : Block) → (in_row (map piece_of statements)).made at k
    ≡ before ((in_row (map piece_of statements)).made at (End 0)) k
all_before [] at k = refl
all_before (s ∷ rest) at k =
    let next : numbering.Numbers = beyond at (piece_of s).counts in
    let others : Block → Block = (in_row (map piece_of rest)).made next in
    let first : Block = (piece_of s).made at (End 0) in
    made_before s at (others k)
    ∙ ap (before first) (all_before rest next k)
    ∙ sym (before_before first (others (End 0)) k)
    ∙ ap (λ b. before b k) (sym (made_before s at (others (End 0))))

below_before : (target : Way → ℕ) (b k : Block) → below target (before b k) ≡ below target b ++ below target k
below_before target =
    total_before (nodes_below target)
    (record { nothing = λ nodes. refl; three = append_assoc; label = λ name first second. refl; fork = append_assoc })

forked_before : (target : Way → ℕ) (t : ℕ) (b k : Block) → forked target t (before b k) ≡ forked target t b ++ forked target t k
forked_before target t (End n) k = refl
forked_before target t (Assign n x e rest) k = forked_before target t rest k
forked_before target t (Label name rest) k = forked_before target t rest k
forked_before target t (Goto g name rest) k = forked_before target t rest k
forked_before target t (Pause n rest) k = forked_before target t rest k
forked_before target t (If n e first second rest) k =
    ap (λ r. (forked target t first ++ forked target t second) ++ r) (forked_before target t rest k)
    ∙ sym (append_assoc (forked target t first ++ forked target t second) (forked target t rest) (forked target t k))
forked_before target t (Fork n branches rest) k =
    ap (λ r. forked_among target t branches ++ r) (forked_before target t rest k)
    ∙ sym (append_assoc (forked_among target t branches) (forked target t rest) (forked target t k))

-- a thread's text, and then its end
body_is : (statements : List Statement) (at : NodeNumbers) (g : ℕ) → body statements at g
    ≡ before (text statements at g) (End (at.node + (counts_of_all statements).nodes))
body_is statements at g = all_before statements (with_goto at g) (End (at.node + (counts_of_all statements).nodes))

pub below_body : (target : Way → ℕ) (statements : List Statement) (at : NodeNumbers) (g : ℕ) → below target (body statements at g)
    ≡ below target (text statements at g)
below_body target statements at g =
    ap (below target) (body_is statements at g)
    ∙ below_before target (text statements at g) (End (at.node + (counts_of_all statements).nodes))
    ∙ append-nil (below target (text statements at g))

pub forked_body : (target : Way → ℕ) (t : ℕ) (statements : List Statement) (at : NodeNumbers) (g : ℕ) → forked target t (body statements at g)
    ≡ forked target t (text statements at g)
forked_body target t statements at g =
    ap (forked target t) (body_is statements at g)
    ∙ forked_before target t (text statements at g) (End (at.node + (counts_of_all statements).nodes))
    ∙ append-nil (forked target t (text statements at g))

-- a thread is laid: its entry, its nodes, and its end
pub thread_laid : (target : Way → ℕ) (parent : Option ℕ) (t : ℕ) (statements : List Statement) (at : NodeNumbers) (olds news : List Thread)
    (old middle new : List Node)
    → news ≡ olds ++ record { parent = parent; entry = target (way_in statements at.node (leads.At (at.node + (counts_of_all statements).nodes))) } ∷ []
    → IsLaid target t statements at (leads.At (at.node + (counts_of_all statements).nodes)) old middle
    → new ≡ middle ++ node t step.Exit ∷ []
    → IsThreadLaid target parent t statements at olds news old new
thread_laid target parent t statements at olds news old middle new entered laid ended =
    let n : ℕ = at.node + (counts_of_all statements).nodes in
    let made : ℕ → Block = λ g. before (text statements at g) (End n) in
    let last : Way = leads.At n in
    let Entry : Way → Thread = λ w. record { parent = parent; entry = target w } in
    let exit : List Node = node t step.Exit ∷ [] in
    record {
      threads = λ g.
          entered
          ∙ ap (λ w. olds ++ Entry w ∷ []) (sym (leads_in statements at g last at.node refl))
          ∙ ap (λ w. olds ++ Entry w ∷ []) (sym (way_before (text statements at g) (End n) last))
          ∙ ap (λ m. olds ++ Entry (way (made g) (leads.At m)) ∷ []) (sym (end_before (text statements at g) (End n)))
          ∙ ap (λ b. olds ++ Entry (way b (leads.At (end b))) ∷ []) (sym (body_is statements at g));
      nodes = λ g.
          ended
          ∙ ap (λ r. r ++ exit) (laid.each g)
          ∙ append_assoc old (own target t (text statements at g) last) exit
          ∙ ap (λ r. old ++ (r ++ exit)) (sym (append-nil (own target t (text statements at g) last)))
          ∙ ap (λ r. old ++ (r ++ exit)) (sym (own_before target t (text statements at g) (End n) last))
          ∙ ap (λ m. old ++ (own target t (made g) (leads.At m) ++ exit)) (sym (end_before (text statements at g) (End n)))
          ∙ ap (λ b. old ++ of_thread target t b) (sym (body_is statements at g));
    }

pub forked_none : (target : Way → ℕ) (t : ℕ) (at : NodeNumbers) (threads : List Thread) (nodes : List Node)
    → AreForkedLaid target t [] at threads threads nodes nodes
forked_none target t at threads nodes = record { threads = λ g. sym (append-nil threads); nodes = λ g. sym (append-nil nodes) }

pub forked_more : (target : Way → ℕ) (t : ℕ) (s : Statement) (rest : List Statement) (at : NodeNumbers) (x y z : List Thread) (a b c : List Node)
    → AreForkedLaid target t (s ∷ []) at x y a b → AreForkedLaid target t rest (past at (counts_of s)) y z b c → AreForkedLaid target t (s ∷ rest) at x z a c
forked_more target t s rest at x y z a b c one others =
    let first : ℕ → Block = λ g. (piece_of s).made (with_goto at g) (End 0) in
    let k : ℕ → Block = λ g. text rest (past at (counts_of s)) (g + (piece_of s).counts.gotos) in
    record {
      threads = λ g.
          others.threads (g + (piece_of s).counts.gotos)
          ∙ ap (λ r. r ++ forked target t (k g)) (one.threads g)
          ∙ append_assoc x (forked target t (first g)) (forked target t (k g))
          ∙ ap (λ r. x ++ r) (sym (forked_before target t (first g) (k g)))
          ∙ ap (λ r. x ++ forked target t r) (sym (made_before s (with_goto at g) (k g)));
      nodes = λ g.
          others.nodes (g + (piece_of s).counts.gotos)
          ∙ ap (λ r. r ++ below target (k g)) (one.nodes g)
          ∙ append_assoc a (below target (first g)) (below target (k g))
          ∙ ap (λ r. a ++ r) (sym (below_before target (first g) (k g)))
          ∙ ap (λ r. a ++ below target r) (sym (made_before s (with_goto at g) (k g)));
    }

by_piece : (target : Way → ℕ) (t : ℕ) (s : Statement) (at : NodeNumbers) (olds news : List Thread) (old new : List Node) (p : Piece) → piece_of s ≡ p
    → ((g : ℕ) → news ≡ olds ++ forked target t (p.made (with_goto at g) (End 0))) → ((g : ℕ) → new ≡ old ++ below target (p.made (with_goto at g) (End 0)))
    → AreForkedLaid target t (s ∷ []) at olds news old new
by_piece target t s at olds news old new p is h k =
    record {
      threads = λ g. h g ∙ ap (λ q. olds ++ forked target t (q.made (with_goto at g) (End 0))) (sym is);
      nodes = λ g. k g ∙ ap (λ q. old ++ below target (q.made (with_goto at g) (End 0))) (sym is);
    }

pub forked_assign : (target : Way → ℕ) (t : ℕ) (s : Statement) (at : NodeNumbers) (threads : List Thread) (nodes : List Node) (x : ℕ) (e : Expr)
    → s ≡ variant.Assign x e → AreForkedLaid target t (s ∷ []) at threads threads nodes nodes
forked_assign target t s at threads nodes x e is = by_piece target t s at threads threads nodes nodes (piece (tree.Assign x e))
    (ap piece_of is ∙ piece_of_assign x e) (λ g. sym (append-nil threads)) (λ g. sym (append-nil nodes))

pub forked_label : (target : Way → ℕ) (t : ℕ) (s : Statement) (at : NodeNumbers) (threads : List Thread) (nodes : List Node) (name : List ℕ)
    → s ≡ variant.Label name → AreForkedLaid target t (s ∷ []) at threads threads nodes nodes
forked_label target t s at threads nodes name is = by_piece target t s at threads threads nodes nodes (piece (tree.Label name))
    (ap piece_of is ∙ piece_of_label name) (λ g. sym (append-nil threads)) (λ g. sym (append-nil nodes))

pub forked_goto : (target : Way → ℕ) (t : ℕ) (s : Statement) (at : NodeNumbers) (threads : List Thread) (nodes : List Node) (name : List ℕ) →
    s ≡ variant.Goto name
    → AreForkedLaid target t (s ∷ []) at threads threads nodes nodes
forked_goto target t s at threads nodes name is = by_piece target t s at threads threads nodes nodes (piece (tree.Goto name))
    (ap piece_of is ∙ piece_of_goto name) (λ g. sym (append-nil threads)) (λ g. sym (append-nil nodes))

pub forked_pause : (target : Way → ℕ) (t : ℕ) (s : Statement) (at : NodeNumbers) (threads : List Thread) (nodes : List Node) → s ≡ variant.Pause
    → AreForkedLaid target t (s ∷ []) at threads threads nodes nodes
forked_pause target t s at threads nodes is = by_piece target t s at threads threads nodes nodes (piece tree.Pause) (ap piece_of is ∙ piece_of_pause)
    (λ g. sym (append-nil threads)) (λ g. sym (append-nil nodes))

pub forked_if : (target : Way → ℕ) (t : ℕ) (s : Statement) (at : NodeNumbers) (x y z : List Thread) (l m n : List Node) (e : Expr) (a b : List Statement)
    → s ≡ variant.If e a b
    → AreForkedLaid target t a (after 1 at) x y l m → AreForkedLaid target t b (past (after 1 at) (counts_of_all a)) y z m n
    → AreForkedLaid target t (s ∷ []) at x z l n
forked_if target t s at x y z l m n e a b is first second =
    let p : ℕ → Block = text a (after 1 at) in
    let h : ℕ → ℕ = λ g. g + (in_row (map piece_of a)).counts.gotos in
    let q : ℕ → Block = λ g. text b (past (after 1 at) (counts_of_all a)) (h g) in
    by_piece target t s at x z l n (piece (tree.If e (map piece_of a) (map piece_of b))) (ap piece_of is ∙ piece_of_if e a b)
    (λ g. second.threads (h g) ∙ ap (λ r. r ++ forked target t (q g)) (first.threads g) ∙ append_assoc x (forked target t (p g)) (forked target t (q g))
    ∙ ap (λ r. x ++ r) (sym (append-nil (forked target t (p g) ++ forked target t (q g)))))
    (λ g. second.nodes (h g) ∙ ap (λ r. r ++ below target (q g)) (first.nodes g) ∙ append_assoc l (below target (p g)) (below target (q g))
    ∙ ap (λ r. l ++ r) (sym (append-nil (below target (p g) ++ below target (q g)))))

pub forked_fork : (target : Way → ℕ) (t : ℕ) (s : Statement) (at : NodeNumbers) (olds news : List Thread) (old new : List Node)
    (branches : List (List Statement))
    → s ≡ variant.Fork branches
    → AreBranchesLaid target t branches at olds news old new → AreForkedLaid target t (s ∷ []) at olds news old new
forked_fork target t s at olds news old new branches is laid =
    let made : ℕ → Branches = λ g. branches_from (map (map piece_of) branches) (with_goto at g) in
    by_piece target t s at olds news old new (piece (tree.Fork (map (map piece_of) branches))) (ap piece_of is ∙ piece_of_fork branches)
    (λ g. laid.threads g ∙ ap (λ r. olds ++ r) (sym (append-nil (forked_among target t (made g)))))
    (λ g. laid.nodes g ∙ ap (λ r. old ++ r) (sym (append-nil (among target (made g)))))

pub branches_none : (target : Way → ℕ) (t : ℕ) (at : NodeNumbers) (threads : List Thread) (nodes : List Node)
    → AreBranchesLaid target t [] at threads threads nodes nodes
branches_none target t at threads nodes = record { threads = λ g. sym (append-nil threads); nodes = λ g. sym (append-nil nodes) }

pub branches_more : (target : Way → ℕ) (t : ℕ) (b : List Statement) (branches : List (List Statement)) (at : NodeNumbers) (w x y z : List Thread)
    (k l m n : List Node)
    → IsThreadLaid target (Some t) at.thread b (inside at (counts_of_all b)) w x k l
    → AreForkedLaid target at.thread b (inside at (counts_of_all b)) x y l m
    → AreBranchesLaid target t branches (past_branch at (counts_of_all b)) y z m n
    → AreBranchesLaid target t (b ∷ branches) at w z k n
branches_more target t b branches at w x y z k l m n one nested others =
    let c : _ = (in_row (map piece_of b)).counts in
    let more : ℕ → Branches = λ g. branches_from (map (map piece_of) branches) (with_goto (past_branch at (counts_of_all b)) (g + c.gotos)) in
    let made : ℕ → Block = body b (inside at (counts_of_all b)) in
    record {
      threads = λ g.
          let entry : Thread = thread target (Some t) (made g) in
          let below_it : List Thread = forked target at.thread (made g) in
          let rest : List Thread = forked_among target t (more g) in
          others.threads (g + c.gotos)
          ∙ ap (λ r. r ++ rest) (nested.threads g ∙ ap (λ r. x ++ r) (sym (forked_body target at.thread b (inside at (counts_of_all b)) g))
          ∙ ap (λ r. r ++ below_it) (one.threads g))
          ∙ ap (λ r. r ++ rest) (append_assoc w (entry ∷ []) below_it)
          ∙ append_assoc w (entry ∷ below_it) rest;
      nodes = λ g.
          let own_nodes : List Node = of_thread target at.thread (made g) in
          let below_it : List Node = below target (made g) in
          let rest : List Node = among target (more g) in
          others.nodes (g + c.gotos)
          ∙ ap (λ r. r ++ rest) (nested.nodes g ∙ ap (λ r. l ++ r) (sym (below_body target b (inside at (counts_of_all b)) g))
          ∙ ap (λ r. r ++ below_it) (one.nodes g))
          ∙ ap (λ r. r ++ rest) (append_assoc k own_nodes below_it)
          ∙ append_assoc k (own_nodes ++ below_it) rest;
    }

-- the branches from an index on begin with what stands there
pub branches_at : (at : NodeNumbers) (items : List (List Statement)) (i : ℕ) (b body : List Statement) → HasBranchesRoom at (drop i items)
    → i < length items → b ≡ get_or items i b → body ≡ b → HasBranchesRoom at (body ∷ drop (i + 1) items)
branches_at at items i b body room lt is same =
    subst (λ x. HasBranchesRoom at (x ∷ drop (i + 1) items)) (sym same) (subst (λ zs. HasBranchesRoom at zs) (split_at items i b lt is) room)

-- a branch and what follows it have room where all have
pub branch_room : (at : NodeNumbers) (b : List Statement) (branches : List (List Statement)) → HasBranchesRoom at (b ∷ branches)
    → HasBranchRoom at (counts_of_all b)
branch_room at b branches h = record { thread = omega (arith, h.thread); base = omega (arith, h.base) }

pub inner_room : (at : NodeNumbers) (b : List Statement) (branches : List (List Statement)) → HasBranchesRoom at (b ∷ branches)
    → HasRoom (inside at (counts_of_all b)) (counts_of_all b)
inner_room at b branches h =
    record {
      small = record { nodes = omega (arith, h.small.lower); threads = omega (arith, h.small.threads); lower = omega (arith, h.small.lower) };
      node = omega (arith, h.base);
      thread = omega (arith, h.thread);
      base = omega (arith, h.base);
    }

pub further_room : (at : NodeNumbers) (b : List Statement) (branches : List (List Statement)) → HasBranchesRoom at (b ∷ branches)
    → HasBranchesRoom (past_branch at (counts_of_all b)) branches
further_room at b branches h =
    record {
      small = record { nodes = omega (arith, h.small.nodes); threads = omega (arith, h.small.threads); lower = omega (arith, h.small.lower) };
      thread = omega (arith, h.thread);
      base = omega (arith, h.base);
    }

-- the branches of a fork have room where the fork has
pub fork_room : (at : NodeNumbers) (s : Statement) (branches : List (List Statement)) → s ≡ variant.Fork branches → HasRoom at (counts_of s)
    → HasBranchesRoom at branches
fork_room at s branches is room =
    let Fits : NodeCounts → Type 0 = λ c. HasRoom at c in
    let h : HasRoom at (sizes (piece (tree.Fork (map (map piece_of) branches))).counts) = subst Fits
    (ap counts_of is ∙ ap (λ p. sizes p.counts) (piece_of_fork branches)) room in
    record {
      small = record { nodes = omega (arith, h.small.nodes); threads = omega (arith, h.small.threads); lower = omega (arith, h.small.lower) };
      thread = omega (arith, h.thread);
      base = omega (arith, h.base);
    }

-- the lists of an if have room where the if has
if_counts : (s : Statement) (e : Expr) (a b : List Statement) → s ≡ variant.If e a b
    → counts_of s ≡ sizes (piece (tree.If e (map piece_of a) (map piece_of b))).counts
if_counts s e a b is = ap counts_of is ∙ ap (λ p. sizes p.counts) (piece_of_if e a b)

pub if_room_node : (at : NodeNumbers) (s : Statement) (e : Expr) (a b : List Statement) → s ≡ variant.If e a b → HasRoom at (counts_of s)
    → at.node + 1 ≤ count_limit
if_room_node at s e a b is room =
    let h : _ = (subst (λ c. HasRoom at c) (if_counts s e a b is) room).node in omega (arith, h)

pub if_room_first : (at : NodeNumbers) (s : Statement) (e : Expr) (a b : List Statement) → s ≡ variant.If e a b → HasRoom at (counts_of s)
    → HasRoom (after 1 at) (counts_of_all a)
if_room_first at s e a b is room =
    let h : HasRoom at (sizes (piece (tree.If e (map piece_of a) (map piece_of b))).counts) = subst (λ c. HasRoom at c) (if_counts s e a b is) room in
    record {
      small = record { nodes = omega (arith, h.small.nodes); threads = omega (arith, h.small.threads); lower = omega (arith, h.small.lower) };
      node = omega (arith, h.node);
      thread = omega (arith, h.thread);
      base = omega (arith, h.base);
    }

pub if_room_second : (at : NodeNumbers) (s : Statement) (e : Expr) (a b : List Statement) → s ≡ variant.If e a b → HasRoom at (counts_of s)
    → HasRoom (past (after 1 at) (counts_of_all a)) (counts_of_all b)
if_room_second at s e a b is room =
    let h : HasRoom at (sizes (piece (tree.If e (map piece_of a) (map piece_of b))).counts) = subst (λ c. HasRoom at c) (if_counts s e a b is) room in
    record {
      small = record { nodes = omega (arith, h.small.nodes); threads = omega (arith, h.small.threads); lower = omega (arith, h.small.lower) };
      node = omega (arith, h.node);
      thread = omega (arith, h.thread);
      base = omega (arith, h.base);
    }
