-- The numbers of a text run on: nodes within a thread, threads, and the nodes of the threads below.
use Rattle.std.proofs.Common.{◌≡◌, ℕ, suc, ◌+◌, List, [], ◌∷◌, map, refl, sym, ap, subst, ◌∙◌, arith}
use Rattle.sc_values.specs.declared.expression.Expr.{Expr}
use Rattle.scl.specs.declared.statement.Statement.{Statement}
use Rattle.scl.specs.declared.statement.Statement.TheOpen.{Statement-F}
use Rattle.scl.specs.declared.statement.Statement.TheOpen as text
use Rattle.scl.specs.declared.statement.Statement.TheFolds.{fold-roll-Statement, ind-Statement, map-Statement}
use Rattle.scl.specs.Block.{Block, End, Assign, Label, Goto, Pause, If, Fork, Branches, NoMore, Branch}
use Rattle.scl.specs.Numbering.{Piece, Counts, Numbers, piece, piece_of, in_row, beyond, inside, thread_body, branches_from, branch_counts, all_branch_counts}
use Rattle.scl.specs.Sums.{Sum, total, total_among}
use Rattle.scl_graph.specs.Graph.{end}

-- the nodes of a thread in a part of its text, without its end
abbrev pub own_nodes : Block → ℕ
own_nodes (End n) = 0
own_nodes (Assign n x e rest) = suc (own_nodes rest)
own_nodes (Label name rest) = own_nodes rest
own_nodes (Goto g name rest) = own_nodes rest
own_nodes (Pause n rest) = suc (suc (own_nodes rest))
own_nodes (If n e first second rest) = suc (own_nodes first + (own_nodes second + own_nodes rest))
own_nodes (Fork n branches rest) = suc (suc (own_nodes rest))

-- the threads below
abbrev pub threads_counted : Sum ℕ
threads_counted =
    record { nothing = 0; together = λ a b. a + b; label = λ name count. count; fork = λ a b. a + b; branch = λ t body count. suc count }

abbrev pub thread_count : Block → ℕ
thread_count = total threads_counted

abbrev pub threads_among : Branches → ℕ
threads_among = total_among threads_counted

-- the nodes of these
abbrev pub nodes_counted : Sum ℕ
nodes_counted = record threads_counted { branch = λ t body count. suc (own_nodes body) + count }

abbrev pub lower_nodes : Block → ℕ
lower_nodes = total nodes_counted

abbrev pub lower_among : Branches → ℕ
lower_among = total_among nodes_counted

abbrev mutual
  -- the own nodes begin at n, the threads below at t, and the nodes of these at b
  pub IsNumbered : Block → ℕ → ℕ → ℕ → Type 0
  IsNumbered (End m) n t b = Unit {0}
  IsNumbered (Assign m x e rest) n t b = (m ≡ n) × IsNumbered rest (suc n) t b
  IsNumbered (Label name rest) n t b = IsNumbered rest n t b
  IsNumbered (Goto g name rest) n t b = IsNumbered rest n t b
  IsNumbered (Pause m rest) n t b = (m ≡ n) × IsNumbered rest (suc (suc n)) t b
  IsNumbered (If m e first second rest) n t b =
      (m ≡ n) × IsNumbered first (suc n) t b
      × IsNumbered second (suc n + own_nodes first) (t + thread_count first) (b + lower_nodes first)
      × IsNumbered rest (suc n + (own_nodes first + own_nodes second)) (t + (thread_count first + thread_count second))
      (b + (lower_nodes first + lower_nodes second))
  IsNumbered (Fork m branches rest) n t b = (m ≡ n) × AreNumbered branches t b × IsNumbered rest (suc (suc n)) (t + threads_among branches)
      (b + lower_among branches)

  pub AreNumbered : Branches → ℕ → ℕ → Type 0
  AreNumbered NoMore t b = Unit {0}
  AreNumbered (Branch u body more) t b =
      (u ≡ t) × (end body ≡ b + own_nodes body) × IsNumbered body b (suc t) (b + suc (own_nodes body))
      × AreNumbered more (t + suc (thread_count body)) (b + suc (own_nodes body + lower_nodes body))

pub numbered_at : (k : Block) (n t b m u c : ℕ) → n ≡ m → t ≡ u → b ≡ c → IsNumbered k n t b → IsNumbered k m u c
numbered_at k n t b m u c i j l h = subst (λ n. IsNumbered k n u c) i (subst (λ t. IsNumbered k n t c) j (subst (λ b. IsNumbered k n t b) l h))

pub branches_at : (k : Branches) (t b u c : ℕ) → t ≡ u → b ≡ c → AreNumbered k t b → AreNumbered k u c
branches_at k t b u c j l h = subst (λ t. AreNumbered k t c) j (subst (λ b. AreNumbered k t b) l h)

-- a piece of the text adds what it counts, and numbers run on in it
pub record RunsOn (p : Piece) : Type 0 where
  pub own : (at : Numbers) (k : Block) → own_nodes (p.made at k) ≡ p.counts.nodes + own_nodes k
  pub threads : (at : Numbers) (k : Block) → thread_count (p.made at k) ≡ p.counts.threads + thread_count k
  pub lower : (at : Numbers) (k : Block) → lower_nodes (p.made at k) ≡ p.counts.lower + lower_nodes k
  pub ends : (at : Numbers) (k : Block) → end (p.made at k) ≡ end k
  pub numbered : (at : Numbers) (k : Block) → IsNumbered k (at.node + p.counts.nodes) (at.thread + p.counts.threads) (at.base + p.counts.lower)
      → IsNumbered (p.made at k) at.node at.thread at.base

abbrev pub AllRunOn : List Piece → Type 0
AllRunOn [] = Unit {0}
AllRunOn (p ∷ pieces) = RunsOn p × AllRunOn pieces

pub row_runs_on : (pieces : List Piece) → AllRunOn pieces → RunsOn (in_row pieces)
row_runs_on [] h = record {
  own = λ at k. omega arith;
  threads = λ at k. omega arith;
  lower = λ at k. omega arith;
  ends = λ at k. refl;
  numbered = λ at k h. numbered_at k (at.node + 0) (at.thread + 0) (at.base + 0) at.node at.thread at.base (omega arith) (omega arith) (omega arith) h;
}
row_runs_on (p ∷ pieces) h =
    let others : RunsOn (in_row pieces) = row_runs_on pieces h.1 in
    let c : Counts = (in_row pieces).counts in
    let rest : Numbers → Block → Block = λ at k. (in_row pieces).made (beyond at p.counts) k in
    record {
      own = λ at k. omega (arith, h.0.own at (rest at k), others.own (beyond at p.counts) k);
      threads = λ at k. omega (arith, h.0.threads at (rest at k), others.threads (beyond at p.counts) k);
      lower = λ at k. omega (arith, h.0.lower at (rest at k), others.lower (beyond at p.counts) k);
      ends = λ at k. h.0.ends at (rest at k) ∙ others.ends (beyond at p.counts) k;
      numbered = λ at k from.
          h.0.numbered at (rest at k) (others.numbered (beyond at p.counts) k
          (numbered_at k (at.node + (p.counts.nodes + c.nodes)) (at.thread + (p.counts.threads + c.threads)) (at.base + (p.counts.lower + c.lower))
          (at.node + p.counts.nodes + c.nodes) (at.thread + p.counts.threads + c.threads) (at.base + p.counts.lower + c.lower)
          (omega arith) (omega arith) (omega arith) from));
    }

-- ---- each statement

assign_runs_on : (x : ℕ) (e : Expr) → RunsOn (piece (text.Assign x e))
assign_runs_on x e = record {
  own = λ at k. omega arith;
  threads = λ at k. omega arith;
  lower = λ at k. omega arith;
  ends = λ at k. refl;
  numbered = λ at k h. (
    refl,
    numbered_at k (at.node + 1) (at.thread + 0) (at.base + 0) (suc at.node) at.thread at.base (omega arith) (omega arith)
        (omega arith) h,
  );
}

label_runs_on : (name : List ℕ) → RunsOn (piece (text.Label name))
label_runs_on name = record {
  own = λ at k. omega arith;
  threads = λ at k. omega arith;
  lower = λ at k. omega arith;
  ends = λ at k. refl;
  numbered = λ at k h. numbered_at k (at.node + 0) (at.thread + 0) (at.base + 0) at.node at.thread at.base (omega arith) (omega arith) (omega arith) h;
}

goto_runs_on : (name : List ℕ) → RunsOn (piece (text.Goto name))
goto_runs_on name = record {
  own = λ at k. omega arith;
  threads = λ at k. omega arith;
  lower = λ at k. omega arith;
  ends = λ at k. refl;
  numbered = λ at k h. numbered_at k (at.node + 0) (at.thread + 0) (at.base + 0) at.node at.thread at.base (omega arith) (omega arith) (omega arith) h;
}

pause_runs_on : RunsOn (piece text.Pause)
pause_runs_on = record {
  own = λ at k. omega arith;
  threads = λ at k. omega arith;
  lower = λ at k. omega arith;
  ends = λ at k. refl;
  numbered = λ at k h. (
    refl,
    numbered_at k (at.node + 2) (at.thread + 0) (at.base + 0) (suc (suc at.node)) at.thread at.base (omega arith) (omega arith)
        (omega arith) h,
  );
}

-- a list that stands by itself
inner : (p : Piece) → RunsOn p → (at : Numbers) → IsNumbered (p.made at (End 0)) at.node at.thread at.base
inner p h at = h.numbered at (End 0) tt

module _ (e : Expr) (a b : List Piece) (first : RunsOn (in_row a)) (second : RunsOn (in_row b)) where
  abbrev at_first : Numbers → Numbers
  at_first at = record at { node = 1 + at.node }

  abbrev at_second : Numbers → Numbers
  at_second at = beyond (at_first at) (in_row a).counts

  if_numbered : (at : Numbers) (k : Block) → IsNumbered k (at.node + (1 + ((in_row a).counts.nodes + (in_row b).counts.nodes)))
      (at.thread + (0 + ((in_row a).counts.threads + (in_row b).counts.threads))) (at.base + (0 + ((in_row a).counts.lower + (in_row b).counts.lower)))
      → IsNumbered ((piece (text.If e a b)).made at k) at.node at.thread at.base
  if_numbered at k h =
      let f : Block = (in_row a).made (at_first at) (End 0) in
      let s : Block = (in_row b).made (at_second at) (End 0) in
      let fo : own_nodes f ≡ (in_row a).counts.nodes + 0 = first.own (at_first at) (End 0) in
      let ft : thread_count f ≡ (in_row a).counts.threads + 0 = first.threads (at_first at) (End 0) in
      let fl : lower_nodes f ≡ (in_row a).counts.lower + 0 = first.lower (at_first at) (End 0) in
      let so : own_nodes s ≡ (in_row b).counts.nodes + 0 = second.own (at_second at) (End 0) in
      let st : thread_count s ≡ (in_row b).counts.threads + 0 = second.threads (at_second at) (End 0) in
      let sl : lower_nodes s ≡ (in_row b).counts.lower + 0 = second.lower (at_second at) (End 0) in (
        refl,
        numbered_at f (1 + at.node) at.thread at.base (suc at.node) at.thread at.base (omega arith) refl refl (inner (in_row a) first (at_first at)),
        numbered_at s (1 + at.node + (in_row a).counts.nodes) (at.thread + (in_row a).counts.threads) (at.base + (in_row a).counts.lower)
            (suc at.node + own_nodes f) (at.thread + thread_count f) (at.base + lower_nodes f) (omega (arith, fo)) (omega (arith, ft)) (omega (arith, fl))
            (inner (in_row b) second (at_second at)),
        numbered_at k (at.node + (1 + ((in_row a).counts.nodes + (in_row b).counts.nodes)))
            (at.thread + (0 + ((in_row a).counts.threads + (in_row b).counts.threads))) (at.base + (0 + ((in_row a).counts.lower + (in_row b).counts.lower)))
            (suc at.node + (own_nodes f + own_nodes s)) (at.thread + (thread_count f + thread_count s)) (at.base + (lower_nodes f + lower_nodes s))
            (omega (arith, fo, so)) (omega (arith, ft, st)) (omega (arith, fl, sl)) h,
      )

  if_runs_on : RunsOn (piece (text.If e a b))
  if_runs_on = record {
    own = λ at k. omega (arith, first.own (at_first at) (End 0), second.own (at_second at) (End 0));
    threads = λ at k. omega (arith, first.threads (at_first at) (End 0), second.threads (at_second at) (End 0));
    lower = λ at k. omega (arith, first.lower (at_first at) (End 0), second.lower (at_second at) (End 0));
    ends = λ at k. refl;
    numbered = if_numbered;
  }

abbrev AllRows : List (List Piece) → Type 0
AllRows [] = Unit {0}
AllRows (b ∷ branches) = RunsOn (in_row b) × AllRows branches

-- what a branch counts
own_of_branch : (b : List Piece) → RunsOn (in_row b) → (n : ℕ) (at : Numbers) → own_nodes (thread_body (in_row b) n at) ≡ (in_row b).counts.nodes
own_of_branch b h n at = let o : _ = h.own (record at { node = n }) (End (n + (in_row b).counts.nodes)) in omega (arith, o)

threads_of_branch : (b : List Piece) → RunsOn (in_row b) → (n : ℕ) (at : Numbers) → thread_count (thread_body (in_row b) n at) ≡ (in_row b).counts.threads
threads_of_branch b h n at = let o : _ = h.threads (record at { node = n }) (End (n + (in_row b).counts.nodes)) in omega (arith, o)

lower_of_branch : (b : List Piece) → RunsOn (in_row b) → (n : ℕ) (at : Numbers) → lower_nodes (thread_body (in_row b) n at) ≡ (in_row b).counts.lower
lower_of_branch b h n at = let o : _ = h.lower (record at { node = n }) (End (n + (in_row b).counts.nodes)) in omega (arith, o)

among_threads : (branches : List (List Piece)) → AllRows branches → (at : Numbers) → threads_among (branches_from branches at)
    ≡ (all_branch_counts branches).threads
among_threads [] h at = refl
among_threads (b ∷ branches) h at =
    let c : Counts = (in_row b).counts in
    omega (arith, threads_of_branch b h.0 at.base (inside at c), among_threads branches h.1 (beyond at (branch_counts c)))

among_lower : (branches : List (List Piece)) → AllRows branches → (at : Numbers) → lower_among (branches_from branches at) ≡ (all_branch_counts branches).lower
among_lower [] h at = refl
among_lower (b ∷ branches) h at =
    let c : Counts = (in_row b).counts in
    omega (
      arith,
      own_of_branch b h.0 at.base (inside at c),
      lower_of_branch b h.0 at.base (inside at c),
      among_lower branches h.1 (beyond at (branch_counts c)),
    )

pub no_nodes : (branches : List (List Piece)) → (all_branch_counts branches).nodes ≡ 0
no_nodes [] = refl
no_nodes (b ∷ branches) = omega (arith, no_nodes branches)

branches_numbered : (branches : List (List Piece)) → AllRows branches → (at : Numbers) → AreNumbered (branches_from branches at) at.thread at.base
branches_numbered [] h at = tt
branches_numbered (b ∷ branches) h at =
    let c : Counts = (in_row b).counts in
    let body : Block = thread_body (in_row b) at.base (inside at c) in
    let o : own_nodes body ≡ c.nodes = own_of_branch b h.0 at.base (inside at c) in
    let t : thread_count body ≡ c.threads = threads_of_branch b h.0 at.base (inside at c) in
    let l : lower_nodes body ≡ c.lower = lower_of_branch b h.0 at.base (inside at c) in (
      refl,
      h.0.ends (record (inside at c) { node = at.base }) (End (at.base + c.nodes)) ∙ ap (λ m. at.base + m) (sym o),
      numbered_at body at.base (suc at.thread) (at.base + suc c.nodes) at.base (suc at.thread) (at.base + suc (own_nodes body)) refl refl (omega (arith, o))
          (h.0.numbered (record (inside at c) { node = at.base }) (End (at.base + c.nodes)) tt),
      branches_at (branches_from branches (beyond at (branch_counts c))) (at.thread + suc c.threads) (at.base + (suc c.nodes + c.lower))
          (at.thread + suc (thread_count body)) (at.base + suc (own_nodes body + lower_nodes body)) (omega (arith, t)) (omega (arith, o, l))
          (branches_numbered branches h.1 (beyond at (branch_counts c))),
    )

fork_runs_on : (branches : List (List Piece)) → AllRows branches → RunsOn (piece (text.Fork branches))
fork_runs_on branches h = record {
  own = λ at k. omega (arith, no_nodes branches);
  threads = λ at k. omega (arith, among_threads branches h at);
  lower = λ at k. omega (arith, among_lower branches h at);
  ends = λ at k. refl;
  numbered = λ at k from. (
    refl,
    branches_numbered branches h at,
    numbered_at k (at.node + (2 + (all_branch_counts branches).nodes)) (at.thread + (0 + (all_branch_counts branches).threads))
        (at.base + (0 + (all_branch_counts branches).lower))
        (suc (suc at.node)) (at.thread + threads_among (branches_from branches at)) (at.base + lower_among (branches_from branches at))
        (omega (arith, no_nodes branches)) (omega (arith, among_threads branches h at)) (omega (arith, among_lower branches h at)) from,
  );
}

-- ---- each text

abbrev Known : Type 0
Known = (s : Statement) × RunsOn (piece_of s)

known_row : (xs : List Known) → AllRunOn (map piece_of (map (λ x. x.0) xs))
known_row [] = tt
known_row (x ∷ xs) = (x.1, known_row xs)

known_rows : (xss : List (List Known)) → AllRows (map (map piece_of) (map (map (λ x. x.0)) xss))
known_rows [] = tt
known_rows (xs ∷ xss) = (row_runs_on _ (known_row xs), known_rows xss)

at_layer : (y : Statement-F Known) → RunsOn (piece (map-Statement Statement Piece piece_of (map-Statement Known Statement (λ x. x.0) y)))
at_layer (text.Assign x e) = assign_runs_on x e
at_layer (text.Label name) = label_runs_on name
at_layer (text.Goto name) = goto_runs_on name
at_layer text.Pause = pause_runs_on
at_layer (text.If e a b) = if_runs_on e (map piece_of (map (λ x. x.0) a)) (map piece_of (map (λ x. x.0) b)) (row_runs_on _ (known_row a))
    (row_runs_on _ (known_row b))
at_layer (text.Fork branches) = fork_runs_on (map (map piece_of) (map (map (λ x. x.0)) branches)) (known_rows branches)

pub statement_runs_on : (s : Statement) → RunsOn (piece_of s)
statement_runs_on = ind-Statement (λ s. RunsOn (piece_of s))
    (λ x y is. subst RunsOn (sym (fold-roll-Statement Piece piece x)) (subst (λ z. RunsOn (piece (map-Statement Statement Piece piece_of z))) is (at_layer y)))
