-- The nodes of a state's text, in its own thread and below it, are as many as the row of nodes to states has for it.
use Rattle.std.proofs.Common.{◌≡◌, ℕ, suc, ◌+◌, Bool, true, false, if◌then◌else◌, Option, Some, None, List, [], ◌∷◌, ◌++◌, map, length, refl, sym, ap}
use Rattle.std.proofs.Common.{length-append, subst, ◌∙◌, arith}
use Rattle.std.proofs.lemmas.List.{length-map}
use Rattle.sc_values.specs.declared.expression.Expr.{Expr}
use Rattle.scl_graph.proofs.Resolved.{pieces_map}
use Rattle.core_charts.specs.declared.region.Effect.{Effect}
use Rattle.core_charts.specs.declared.region.Transition.{Transition}
use Rattle.scl.specs.declared.statement.Statement.{Statement}
use Rattle.scl.specs.declared.statement.Statement.TheVariants as statement
use Rattle.scl.specs.Numbering.{Counts, piece_of, pieces_of, in_row}
use Rattle.chart_lowering.specs.declared.targets.Targets.{Targets}
use Rattle.chart_lowering.specs.Lowering.{label, label_name, assignment, taken, tested, transitions, label_at}
use Rattle.chart_lowering.specs.Lowering.{leaves_surely, is_sure}
use Rattle.node_states.specs.Nodes as row
use Rattle.chart_lowering_laws.proofs.Texts.{assign_piece, label_piece, goto_piece, if_piece}

abbrev pub counts_of : List Statement → Counts
counts_of statements = (in_row (pieces_of statements)).counts

-- so many nodes in their own thread, and so many in the threads below it
pub record Has (statements : List Statement) (own below : ℕ) : Type 0 where
  pub nodes : (counts_of statements).nodes ≡ own
  pub lower : (counts_of statements).lower ≡ below

pub has_as : (statements : List Statement) (n l m k : ℕ) → n ≡ m → l ≡ k → Has statements n l → Has statements m k
has_as statements n l m k same same_below h = record { nodes = h.nodes ∙ same; lower = h.lower ∙ same_below }

pub has_none : Has [] 0 0
has_none = record { nodes = refl; lower = refl }

pub has_first : (s : Statement) (rest : List Statement) (n l m k : ℕ) → (piece_of s).counts.nodes ≡ n → (piece_of s).counts.lower ≡ l → Has rest m k →
    Has (s ∷ rest) (n + m) (l + k)
has_first s rest n l m k one below h = record {
  nodes = let more : (counts_of rest).nodes ≡ m = h.nodes in omega (arith, one, more);
  lower = let more : (counts_of rest).lower ≡ k = h.lower in omega (arith, below, more);
}

pub has_append : (a b : List Statement) (n l m k : ℕ) → Has a n l → Has b m k → Has (a ++ b) (n + m) (l + k)
has_append a b n l m k h i = record {
  nodes = let x : (counts_of a).nodes ≡ n = h.nodes in let y : (counts_of b).nodes ≡ m = i.nodes in let s : _ = nodes_append a b in omega (arith, x, y, s);
  lower = let x : (counts_of a).lower ≡ l = h.lower in let y : (counts_of b).lower ≡ k = i.lower in let s : _ = lower_append a b in omega (arith, x, y, s);
}
  where
    nodes_append : (a b : List Statement) → (counts_of (a ++ b)).nodes ≡ (counts_of a).nodes + (counts_of b).nodes
    nodes_append [] b = omega arith
    nodes_append (s ∷ a) b = let h : _ = nodes_append a b in omega (arith, h)

    lower_append : (a b : List Statement) → (counts_of (a ++ b)).lower ≡ (counts_of a).lower + (counts_of b).lower
    lower_append [] b = omega arith
    lower_append (s ∷ a) b = let h : _ = lower_append a b in omega (arith, h)

-- ---- texts that fork nothing

pub label_first : (n : ℕ) (rest : List Statement) (m k : ℕ) → Has rest m k → Has (label n ∷ rest) m k
label_first n rest m k h =
    has_as (label n ∷ rest) (0 + m) (0 + k) m k (omega arith) (omega arith)
    (has_first (label n) rest 0 0 m k (ap (λ p. p.counts.nodes) (label_piece (label_name n))) (ap (λ p. p.counts.lower) (label_piece (label_name n))) h)

pub goto_first : (name : List ℕ) (rest : List Statement) (m k : ℕ) → Has rest m k → Has (statement.Goto name ∷ rest) m k
goto_first name rest m k h =
    has_as (statement.Goto name ∷ rest) (0 + m) (0 + k) m k (omega arith) (omega arith)
    (has_first (statement.Goto name) rest 0 0 m k (ap (λ p. p.counts.nodes) (goto_piece name)) (ap (λ p. p.counts.lower) (goto_piece name)) h)

does_has : (name : List ℕ) (effects : List Effect) → Has (map assignment effects ++ statement.Goto name ∷ []) (length effects) 0
does_has name [] = goto_first name [] 0 0 has_none
does_has name (e ∷ effects) =
    let rest : List Statement = map assignment effects ++ statement.Goto name ∷ [] in
    has_as (assignment e ∷ rest) (1 + length effects) (0 + 0) (suc (length effects)) 0 (omega arith) (omega arith)
    (has_first (assignment e) rest 1 0 (length effects) 0 (ap (λ p. p.counts.nodes) (assign_piece e.variable e.value))
    (ap (λ p. p.counts.lower) (assign_piece e.variable e.value)) (does_has name effects))

pub taken_has : (at : Targets) (t : Transition) → Has (taken at t) (length (row.effects t)) 0
taken_has at t = subst (λ n. Has (taken at t) n 0) (sym (length-map t.effects (λ _. None))) (does_has (label_at at t.target) t.effects)

-- what follows tests is there unless they are surely taken
abbrev pub unless : Bool → ℕ → ℕ
unless true n = 0
unless false n = n

pub tests_have : (at : Targets) (ts : List Transition) (rest : List Statement) (n : ℕ) → Has rest n 0 →
    Has (transitions at ts rest) (length (row.tests ts) + unless (leaves_surely ts) n) 0
tests_have at [] rest n h = has_as rest n 0 (0 + n) 0 (omega arith) refl h
tests_have at (t ∷ ts) rest n h = by t.trigger (tests_have at ts rest n h)
  where
    by : (o : Option Expr) → Has (transitions at ts rest) (length (row.tests ts) + unless (leaves_surely ts) n) 0 →
        Has (tested o (taken at t) (transitions at ts rest))
        (length (row.tested o (row.effects t) (row.tests ts)) + unless (if is_sure o then true else leaves_surely ts) n) 0
    by None k = has_as (taken at t) (length (row.effects t)) 0 (length (row.effects t) + 0) 0 (omega arith) refl (taken_has at t)
    by (Some e) k =
        let inside : Has (taken at t) (length (row.effects t)) 0 = taken_has at t in
        let same : (in_row (map piece_of (taken at t))).counts ≡ counts_of (taken at t) = ap (λ ps. (in_row ps).counts) (sym (pieces_map (taken at t))) in
        let nodes : (in_row (map piece_of (taken at t))).counts.nodes ≡ length (row.effects t) = ap (λ (c : Counts). c.nodes) same ∙ inside.nodes in
        let lower : (in_row (map piece_of (taken at t))).counts.lower ≡ 0 = ap (λ (c : Counts). c.lower) same ∙ inside.lower in
        let sum : length (row.effects t ++ row.tests ts) ≡ length (row.effects t) + length (row.tests ts) = length-append (row.effects t) (row.tests ts) in
        let more : ℕ = unless (leaves_surely ts) n in
        has_as (statement.If e (taken at t) [] ∷ transitions at ts rest) (suc (length (row.effects t)) + (length (row.tests ts) + more)) (0 + 0)
        (suc (length (row.effects t ++ row.tests ts)) + more) 0 (omega (arith, sum)) (omega arith)
        (has_first (statement.If e (taken at t) []) (transitions at ts rest) (suc (length (row.effects t))) 0 (length (row.tests ts) + more) 0
        (ap (λ p. p.counts.nodes) (if_piece e (taken at t) []) ∙ omega (arith, nodes))
        (ap (λ p. p.counts.lower) (if_piece e (taken at t) []) ∙ omega (arith, lower)) k)
