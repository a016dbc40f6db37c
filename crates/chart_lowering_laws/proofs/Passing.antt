-- Past statements of a thread's text, on no if's branch.
use Rattle.std.proofs.Common.{◌≡◌, ℕ, ◌+◌, List, [], ◌∷◌, ◌++◌, refl, ap, subst, arith}
use Rattle.scl.specs.declared.statement.Statement.{Statement}
use Rattle.scl.specs.declared.statement.Statement.TheOpen.{Statement-F}
use Rattle.scl.specs.declared.statement.Statement.TheOpen as text
use Rattle.scl.specs.declared.statement.Statement.TheViews.{out-Statement}
use Rattle.scl.specs.declared.statement.Statement.TheFolds.{fold_out-Statement, map-Statement}
use Rattle.scl.specs.Block.{Block}
use Rattle.scl.specs.Numbering.{Piece, Numbers, piece, piece_of, beyond}
use Rattle.scl_graph_laws.proofs.Scopes.{KeepsScopes}
use Rattle.scl_graph_laws.proofs.Searching.{own_labels}
use Rattle.chart_lowering_laws.proofs.Labels.{text_labels, own_made}
use Rattle.chart_lowering_laws.proofs.Texts.{made}
use Rattle.chart_lowering_laws.proofs.Counting.{threads_in}
use Rattle.chart_lowering_laws.proofs.Finding.{MainPlace, main_assign, main_label, main_goto, main_pause, main_if, main_fork}

module _ (root : Block) (keeps : KeepsScopes root) where
  pub pass_one : (t : ℕ) (s : Statement) (at : Numbers) (k : Block) → MainPlace root keeps t ((piece_of s).made at k) → MainPlace root keeps t k
  pass_one t s at k m = by (out-Statement s) (subst (λ (p : Piece). MainPlace root keeps t (p.made at k)) (fold_out-Statement Piece piece s) m)
    where
      by : (y : Statement-F Statement) → MainPlace root keeps t ((piece (map-Statement Statement Piece piece_of y)).made at k) → MainPlace root keeps t k
      by (text.Assign x e) m = main_assign root keeps t at.node x e k m
      by (text.Label name) m = main_label root keeps t name k m
      by (text.Goto name) m = main_goto root keeps t at.goto name k m
      by text.Pause m = main_pause root keeps t at.node k m
      by (text.If e a b) m = main_if root keeps t at.node e _ _ k m
      by (text.Fork branches) m = main_fork root keeps t at.node _ k m

  -- what stands behind statements, and the number of the next thread there
  pub record Passed (t : ℕ) (xs ys : List Statement) (at : Numbers) (k : Block) : Type 0 where
    pub next : Numbers
    pub thread : next.thread ≡ at.thread + threads_in xs
    pub place : MainPlace root keeps t (made ys next k)

  pub pass : (t : ℕ) (xs ys : List Statement) (at : Numbers) (k : Block) → MainPlace root keeps t (made (xs ++ ys) at k) → Passed t xs ys at k
  pass t [] ys at k m = record { next = at; thread = omega arith; place = m }
  pass t (x ∷ xs) ys at k m =
      let rest : Passed t xs ys (beyond at (piece_of x).counts) k = pass t xs ys (beyond at (piece_of x).counts) k
      (pass_one t x at (made (xs ++ ys) (beyond at (piece_of x).counts) k) m) in
      let h : rest.next.thread ≡ (at.thread + (piece_of x).counts.threads) + threads_in xs = rest.thread in
      record { next = rest.next; thread = omega (arith, h); place = rest.place }

  -- and in front of them, whatever follows
  pub record Front (t : ℕ) (xs ys : List Statement) (at : Numbers) (k : Block) : Type 0 where
    pub more : Block
    pub place : MainPlace root keeps t (made xs at more)
    pub labels : own_labels more ≡ text_labels ys ++ own_labels k

  pub front_of : (t : ℕ) (xs ys : List Statement) (at : Numbers) (k : Block) → MainPlace root keeps t (made (xs ++ ys) at k) → Front t xs ys at k
  front_of t xs ys at k m =
      let s : (next : Numbers) × (made (xs ++ ys) at k ≡ made xs at (made ys next k)) = same xs at in
      record { more = made ys s.0 k; place = subst (MainPlace root keeps t) s.1 m; labels = own_made ys s.0 k }
    where
      same : (xs : List Statement) (at : Numbers) → (next : Numbers) × (made (xs ++ ys) at k ≡ made xs at (made ys next k))
      same [] at = (at, refl)
      same (x ∷ xs) at =
          let rest : (next : Numbers) × (made (xs ++ ys) (beyond at (piece_of x).counts) k ≡ made xs (beyond at (piece_of x).counts) (made ys next k)) =
          same xs (beyond at (piece_of x).counts) in
          (rest.0, ap ((piece_of x).made at) rest.1)
