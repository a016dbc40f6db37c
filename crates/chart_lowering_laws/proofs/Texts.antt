-- What the statements of a lowering are, with their numbers; and where gotos lead.
use Rattle.std.proofs.Common.{◌≡◌, ℕ, zero, suc, Option, Some, None, List, [], ◌∷◌, ◌++◌, map, option_and_then, refl, sym, ap, subst, ◌∙◌}
use Rattle.std.proofs.lemmas.Option.{none-some}
use Rattle.sc_values.specs.declared.expression.Expr.{Expr}
use Rattle.scl_graph.proofs.Resolved.{pieces_map}
use Rattle.core_charts.specs.declared.region.Effect.{Effect}
use Rattle.core_charts.specs.declared.region.Transition.{Transition}
use Rattle.scl.specs.declared.statement.Statement.{Statement}
use Rattle.scl.specs.declared.statement.Statement.TheVariants as statement
use Rattle.scl.specs.declared.statement.Statement.TheVariants.{rolls-Assign, rolls-Label, rolls-Goto, rolls-Pause, rolls-If, rolls-Fork}
use Rattle.scl.specs.declared.statement.Statement.TheOpen as text
use Rattle.scl.specs.declared.statement.Statement.TheFolds.{fold-roll-Statement}
use Rattle.scl.specs.Block.{Block, End, Assign, Goto}
use Rattle.scl.specs.Labels.{Front, Jumps, Begins, front, before, behind_label, label_count, reached_by, settled}
use Rattle.scl.specs.Numbering.{Piece, Numbers, piece, piece_of, pieces_of, in_row, beyond, after_nodes}
use Rattle.chart_lowering.specs.declared.targets.Targets.{Targets}
use Rattle.chart_lowering.specs.Lowering.{assignment, taken, tested, transitions, label_at}
use Rattle.chart_lowering_laws.specs.Layout.{Acts, Tests, Tries}

-- ---- single statements

pub assign_piece : (x : ℕ) (e : Expr) → piece_of (statement.Assign x e) ≡ piece (text.Assign x e)
assign_piece x e = ap piece_of (sym (rolls-Assign x e)) ∙ fold-roll-Statement Piece piece (text.Assign x e)

pub label_piece : (name : List ℕ) → piece_of (statement.Label name) ≡ piece (text.Label name)
label_piece name = ap piece_of (sym (rolls-Label name)) ∙ fold-roll-Statement Piece piece (text.Label name)

pub goto_piece : (name : List ℕ) → piece_of (statement.Goto name) ≡ piece (text.Goto name)
goto_piece name = ap piece_of (sym (rolls-Goto name)) ∙ fold-roll-Statement Piece piece (text.Goto name)

pub pause_piece : piece_of statement.Pause ≡ piece text.Pause
pause_piece = ap piece_of (sym rolls-Pause) ∙ fold-roll-Statement Piece piece text.Pause

pub if_piece : (e : Expr) (a b : List Statement) → piece_of (statement.If e a b) ≡ piece (text.If e (map piece_of a) (map piece_of b))
if_piece e a b = ap piece_of (sym (rolls-If e a b)) ∙ fold-roll-Statement Piece piece (text.If e a b)

pub fork_piece : (branches : List (List Statement)) → piece_of (statement.Fork branches) ≡ piece (text.Fork (map (map piece_of) branches))
fork_piece branches = ap piece_of (sym (rolls-Fork branches)) ∙ fold-roll-Statement Piece piece (text.Fork branches)

-- what a list of statements is, from these numbers on, with what follows
abbrev pub made : List Statement → Numbers → Block → Block
made statements at k = (in_row (pieces_of statements)).made at k

-- ---- where a goto leads

reached_more : (root : Block) (m : ℕ) (f : Front) (first : Block) → reached_by root m f ≡ Some first → reached_by root (suc m) f ≡ Some first
reached_more root m (Begins todo) first h = h
reached_more root zero (Jumps g name) first h = absurd (none-some first h)
reached_more root (suc m) (Jumps g name) first h = by (behind_label root name) h (reached_more root m)
  where
    by : (o : Option Block) → option_and_then (λ k. reached_by root m (front k)) o ≡ Some first →
        ((f : Front) (first : Block) → reached_by root m f ≡ Some first → reached_by root (suc m) f ≡ Some first) →
        option_and_then (λ k. reached_by root (suc m) (front k)) o ≡ Some first
    by None h more = absurd (none-some first h)
    by (Some k) h more = more (front k) first h

-- a goto leads where its label does
pub goto_leads : (root : Block) (g : ℕ) (name : List ℕ) (rest k first : Block) → behind_label root name ≡ Some k →
    settled root (Goto g name rest) ≡ Some first → settled root k ≡ Some first
goto_leads root g name rest k first found h = by (label_count root) h
  where
    by : (m : ℕ) → reached_by root m (Jumps g name) ≡ Some first → reached_by root m (front k) ≡ Some first
    by zero h = absurd (none-some first h)
    by (suc m) h = reached_more root m (front k) first (sym (ap (option_and_then (λ k. reached_by root m (front k))) found) ∙ h)

-- ---- transitions

-- a goto of the text leads to what is behind its label
abbrev GotoLeads : Block → List ℕ → Block → Type 0
GotoLeads root name into = (g : ℕ) (rest : Block) → settled root (Goto g name rest) ≡ settled root into

-- effects, and then a goto
pub acts_text : (root into : Block) (name : List ℕ) → GotoLeads root name into → (effects : List Effect) (at : Numbers) (k : Block) →
    Acts root into effects (made (map assignment effects ++ statement.Goto name ∷ []) at k)
acts_text root into name leads [] at k = ap (λ p. settled root (p.made at k)) (goto_piece name) ∙ leads at.goto k
acts_text root into name leads (e ∷ effects) at k =
    let rest : List Statement = map assignment effects ++ statement.Goto name ∷ [] in
    subst (λ p. Acts root into (e ∷ effects) (p.made at (made rest (beyond at p.counts) k))) (sym (assign_piece e.variable e.value)) (
      at.node,
      made rest (beyond at (piece (text.Assign e.variable e.value)).counts) k,
      refl,
      acts_text root into name leads effects
          (beyond at (piece (text.Assign e.variable e.value)).counts) k,
    )

-- effects and a goto, and then what follows
pub before_taken : (name : List ℕ) (effects : List Effect) (at : Numbers) (k : Block) →
    before (made (map assignment effects ++ statement.Goto name ∷ []) at (End 0)) k ≡ made (map assignment effects ++ statement.Goto name ∷ []) at k
before_taken name [] at k = ap (λ p. before (p.made at (End 0)) k) (goto_piece name) ∙ sym (ap (λ p. p.made at k) (goto_piece name))
before_taken name (e ∷ effects) at k =
    let rest : List Statement = map assignment effects ++ statement.Goto name ∷ [] in
    ap (λ p. before (p.made at (made rest (beyond at p.counts) (End 0))) k) (assign_piece e.variable e.value)
    ∙ ap (Assign at.node e.variable e.value) (before_taken name effects (beyond at (piece (text.Assign e.variable e.value)).counts) k)
    ∙ sym (ap (λ p. p.made at (made rest (beyond at p.counts) k)) (assign_piece e.variable e.value))

-- the text of transitions tries them, in whatever follows
pub tries_text : (root pause : Block) (at : Targets) (into : Transition → Block) → ((t : Transition) → GotoLeads root (label_at at t.target) (into t)) →
    (ts : List Transition) (rest : List Statement) (n : Numbers) (k : Block) →
    ((m : Numbers) → Tries root (λ t todo. Acts root (into t) t.effects todo) pause [] (made rest m k)) →
    Tries root (λ t todo. Acts root (into t) t.effects todo) pause ts (made (transitions at ts rest) n k)
tries_text root pause at into leads [] rest n k last = last n
tries_text root pause at into leads (t ∷ ts) rest n k last = by t.trigger (λ m. tries_text root pause at into leads ts rest m k last)
  where
    by : (o : Option Expr) → ((m : Numbers) → Tries root (λ t todo. Acts root (into t) t.effects todo) pause ts (made (transitions at ts rest) m k)) →
        Tests root o (λ todo. Acts root (into t) t.effects todo) (Tries root (λ t todo. Acts root (into t) t.effects todo) pause ts)
        (made (tested o (taken at t) (transitions at ts rest)) n k)
    by None further = acts_text root (into t) (label_at at t.target) (leads t) t.effects n k
    by (Some e) further =
        let does : List Statement = taken at t in
        let others : List Statement = transitions at ts rest in
        let whole : Piece = piece (text.If e (map piece_of does) []) in
        let a : Block = (in_row (map piece_of does)).made (after_nodes 1 n) (End 0) in
        let after : Block = made others (beyond n whole.counts) k in
        subst (λ p. Tests root (Some e) (λ todo. Acts root (into t) t.effects todo) (Tries root (λ t todo. Acts root (into t) t.effects todo) pause ts)
        (p.made n (made others (beyond n p.counts) k))) (sym (if_piece e does [])) (
          n.node,
          a,
          End 0,
          after,
          refl,
          subst (Acts root (into t) t.effects)
              (sym (ap (λ ps. before ((in_row ps).made (after_nodes 1 n) (End 0)) after) (sym (pieces_map does)) ∙ before_taken (label_at at t.target) t.effects
              (after_nodes 1 n) after))
              (acts_text root (into t) (label_at at t.target) (leads t) t.effects (after_nodes 1 n) after),
          further (beyond n whole.counts),
        )
