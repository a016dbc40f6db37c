-- A list of statements, and then what follows it: where it leads, and its nodes.
use Rattle.std.proofs.Common.{◌≡◌, ℕ, ◌∷◌, ◌++◌, refl, ap, sym, subst, ◌∙◌, append_assoc}
use Rattle.sc_graph.specs.declared.program.Node.{Node}
use Rattle.scl.specs.declared.statement.Statement.{Statement}
use Rattle.scl.specs.declared.statement.Statement.TheOpen.{Statement-F}
use Rattle.scl.specs.declared.statement.Statement.TheOpen as text
use Rattle.scl.specs.declared.statement.Statement.TheViews.{out-Statement}
use Rattle.scl.specs.declared.statement.Statement.TheFolds.{fold_out-Statement, map-Statement}
use Rattle.scl.specs.Block.{Block, End, Assign, Label, Goto, Pause, If, Fork}
use Rattle.scl.specs.Labels.{before}
use Rattle.scl.specs.Numbering.{Piece, Numbers, piece, piece_of}
use Rattle.scl_graph.specs.declared.way.Way.{Way}
use Rattle.scl_graph.specs.Graph.{way, own, node, end}
use Rattle.sc_values.specs.Expr.{postorder}
use Rattle.sc_graph.specs.declared.program.Step.TheVariants as step

pub way_before : (b k : Block) (behind : Way) → way (before b k) behind ≡ way b (way k behind)
way_before (End n) k behind = refl
way_before (Assign n x e rest) k behind = refl
way_before (Label name rest) k behind = way_before rest k behind
way_before (Goto g name rest) k behind = refl
way_before (Pause n rest) k behind = refl
way_before (If n e first second rest) k behind = refl
way_before (Fork n branches rest) k behind = refl

pub before_before : (b k l : Block) → before (before b k) l ≡ before b (before k l)
before_before (End n) k l = refl
before_before (Assign n x e rest) k l = ap (Assign n x e) (before_before rest k l)
before_before (Label name rest) k l = ap (Label name) (before_before rest k l)
before_before (Goto g name rest) k l = ap (Goto g name) (before_before rest k l)
before_before (Pause n rest) k l = ap (Pause n) (before_before rest k l)
before_before (If n e first second rest) k l = ap (If n e first second) (before_before rest k l)
before_before (Fork n branches rest) k l = ap (Fork n branches) (before_before rest k l)

pub end_before : (b k : Block) → end (before b k) ≡ end k
end_before (End n) k = refl
end_before (Assign n x e rest) k = end_before rest k
end_before (Label name rest) k = end_before rest k
end_before (Goto g name rest) k = end_before rest k
end_before (Pause n rest) k = end_before rest k
end_before (If n e first second rest) k = end_before rest k
end_before (Fork n branches rest) k = end_before rest k

pub own_before : (target : Way → ℕ) (t : ℕ) (b k : Block) (behind : Way) → own target t (before b k) behind
    ≡ own target t b (way k behind) ++ own target t k behind
own_before target t (End n) k behind = refl
own_before target t (Assign n x e rest) k behind =
    ap (λ w. own target t (Assign n x e (End 0)) w ++ own target t (before rest k) behind) (way_before rest k behind)
    ∙ ap (λ r. own target t (Assign n x e (End 0)) (way rest (way k behind)) ++ r) (own_before target t rest k behind)
own_before target t (Label name rest) k behind = own_before target t rest k behind
own_before target t (Goto g name rest) k behind = own_before target t rest k behind
own_before target t (Pause n rest) k behind =
    ap (λ w. own target t (Pause n (End 0)) w ++ own target t (before rest k) behind) (way_before rest k behind)
    ∙ ap (λ r. own target t (Pause n (End 0)) (way rest (way k behind)) ++ r) (own_before target t rest k behind)
own_before target t (If n e first second rest) k behind =
    let test : Way → Node = λ w. node t (step.Cond (postorder e) (target (way first w)) (target (way second w))) in
    let inside : Way = way rest (way k behind) in
    ap (λ w. test w ∷ ((own target t first w ++ own target t second w) ++ own target t (before rest k) behind)) (way_before rest k behind)
    ∙ ap (λ r. test inside ∷ ((own target t first inside ++ own target t second inside) ++ r)) (own_before target t rest k behind)
    ∙ ap (λ r. test inside ∷ r)
    (sym (append_assoc (own target t first inside ++ own target t second inside) (own target t rest (way k behind)) (own target t k behind)))
own_before target t (Fork n branches rest) k behind =
    ap (λ w. own target t (Fork n branches (End 0)) w ++ own target t (before rest k) behind) (way_before rest k behind)
    ∙ ap (λ r. own target t (Fork n branches (End 0)) (way rest (way k behind)) ++ r) (own_before target t rest k behind)

made_at : (y : Statement-F Statement) (at : Numbers) (k : Block) → (piece (map-Statement Statement Piece piece_of y)).made at k
    ≡ before ((piece (map-Statement Statement Piece piece_of y)).made at (End 0)) k
made_at (text.Assign x e) at k = refl
made_at (text.Label name) at k = refl
made_at (text.Goto name) at k = refl
made_at text.Pause at k = refl
made_at (text.If e a b) at k = refl
made_at (text.Fork branches) at k = refl

-- a statement stands before what follows it
pub made_before : (s : Statement) (at : Numbers) (k : Block) → (piece_of s).made at k ≡ before ((piece_of s).made at (End 0)) k
made_before s at k = let P : Piece → Type 0 = λ p. p.made at k ≡ before (p.made at (End 0)) k in
    subst P (sym (fold_out-Statement Piece piece s)) (made_at (out-Statement s) at k)
