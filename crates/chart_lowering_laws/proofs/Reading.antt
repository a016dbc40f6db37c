-- Reading the text of transitions at its place: where their labels are found, and no goto leads round.
use Rattle.std.proofs.Common.{true, false, if◌then◌else◌, ◌≡◌, refl, ℕ, Option, Some, None, List, [], ◌∷◌, ◌++◌, map, sym, ap, subst, ◌∙◌}
use Rattle.sc_text.proofs.EachItem.{Each}
use Rattle.sc_values.specs.declared.expression.Expr.{Expr}
use Rattle.scl_graph.proofs.Resolved.{pieces_map}
use Rattle.core_charts.specs.declared.region.Effect.{Effect}
use Rattle.core_charts.specs.declared.region.Transition.{Transition}
use Rattle.scl.specs.declared.statement.Statement.{Statement}
use Rattle.scl.specs.declared.statement.Statement.TheVariants as statement
use Rattle.scl.specs.declared.statement.Statement.TheOpen as text
use Rattle.scl.specs.Block.{Block, End, Assign, Goto, If}
use Rattle.scl.specs.Labels.{before, behind_label, settled}
use Rattle.scl.specs.Places.{Place, after_assign, in_first}
use Rattle.scl.specs.Numbering.{Piece, Numbers, piece, piece_of, in_row, beyond, after_nodes}
use Rattle.scl_graph_laws.specs.Settling.{EachSettles}
use Rattle.chart_lowering.specs.declared.targets.Targets.{Targets}
use Rattle.chart_lowering.specs.Lowering.{is_sure, leaves_surely, assignment, taken, tested, transitions, label_at}
use Rattle.chart_lowering_laws.specs.Layout.{Acts, Tests, Tries}
use Rattle.scl_graph_laws.proofs.Scopes.{KeepsScopes}
use Rattle.chart_lowering_laws.proofs.Finding.{MainPlace, main_if}
use Rattle.chart_lowering_laws.proofs.Texts.{made, assign_piece, goto_piece, if_piece, before_taken, goto_leads}

module _ (root : Block) (keeps : KeepsScopes root) (settles : EachSettles root) (v : ℕ) where
  -- a goto at its place leads where its label does
  goto_at : (g : ℕ) (name : List ℕ) (rest into : Block) → behind_label root name ≡ Some into → Place root v (Goto g name rest) →
      settled root (Goto g name rest) ≡ settled root into
  goto_at g name rest into found place =
      let s : (first : Block) × (settled root (Goto g name rest) ≡ Some first) = settles v (Goto g name rest) place in
      s.1 ∙ sym (goto_leads root g name rest into s.0 found s.1)

  pub acts_at : (name : List ℕ) (into : Block) → behind_label root name ≡ Some into → (effects : List Effect) (at : Numbers) (k : Block) →
      Place root v (made (map assignment effects ++ statement.Goto name ∷ []) at k) →
      Acts root into effects (made (map assignment effects ++ statement.Goto name ∷ []) at k)
  acts_at name into found [] at k place =
      subst (λ (p : Piece). settled root (p.made at k) ≡ settled root into) (sym (goto_piece name))
      (goto_at at.goto name k into found (subst (λ (p : Piece). Place root v (p.made at k)) (goto_piece name) place))
  acts_at name into found (e ∷ effects) at k place =
      let rest : List Statement = map assignment effects ++ statement.Goto name ∷ [] in
      let after : Block = made rest (beyond at (piece (text.Assign e.variable e.value)).counts) k in
      let here : Place root v (Assign at.node e.variable e.value after) = subst (λ (p : Piece). Place root v (p.made at (made rest (beyond at p.counts) k)))
      (assign_piece e.variable e.value) place in
      subst (λ (p : Piece). Acts root into (e ∷ effects) (p.made at (made rest (beyond at p.counts) k))) (sym (assign_piece e.variable e.value)) (
        at.node,
        after,
        refl,
        acts_at name into found effects (beyond at (piece (text.Assign e.variable e.value)).counts) k
            (after_assign v at.node e.variable e.value after here),
      )

  -- transitions, of which each finds the label of its target; what follows them is looked at where one may fail
  pub tries_at : (pause : Block) (at : Targets) (into : Transition → Block) (ts : List Transition) →
      Each (λ t. behind_label root (label_at at t.target) ≡ Some (into t)) ts → (rest : List Statement) (n : Numbers) (k : Block) →
      MainPlace root keeps v (made (transitions at ts rest) n k) →
      (leaves_surely ts ≡ false → (m : Numbers) → MainPlace root keeps v (made rest m k) → Tries root (λ t todo. Acts root (into t) t.effects todo) pause []
      (made rest m k)) →
      Tries root (λ t todo. Acts root (into t) t.effects todo) pause ts (made (transitions at ts rest) n k)
  tries_at pause at into [] found rest n k place last = last refl n place
  tries_at pause at into (t ∷ ts) found rest n k place last = by t.trigger place last (λ m here more. tries_at pause at into ts found.1 rest m k here more)
    where
      by : (o : Option Expr) → MainPlace root keeps v (made (tested o (taken at t) (transitions at ts rest)) n k) →
          ((if is_sure o then true else leaves_surely ts) ≡ false → (m : Numbers) → MainPlace root keeps v (made rest m k) →
          Tries root (λ t todo. Acts root (into t) t.effects todo) pause [] (made rest m k)) →
          ((m : Numbers) → MainPlace root keeps v (made (transitions at ts rest) m k) →
          (leaves_surely ts ≡ false → (m : Numbers) → MainPlace root keeps v (made rest m k) →
          Tries root (λ t todo. Acts root (into t) t.effects todo) pause [] (made rest m k)) →
          Tries root (λ t todo. Acts root (into t) t.effects todo) pause ts (made (transitions at ts rest) m k)) →
          Tests root o (λ todo. Acts root (into t) t.effects todo) (Tries root (λ t todo. Acts root (into t) t.effects todo) pause ts)
          (made (tested o (taken at t) (transitions at ts rest)) n k)
      by None here last further = acts_at (label_at at t.target) (into t) found.0 t.effects n k here.place
      by (Some e) here last further =
          let does : List Statement = taken at t in
          let others : List Statement = transitions at ts rest in
          let whole : Piece = piece (text.If e (map piece_of does) []) in
          let a : Block = (in_row (map piece_of does)).made (after_nodes 1 n) (End 0) in
          let after : Block = made others (beyond n whole.counts) k in
          let place_too : MainPlace root keeps v (If n.node e a (End 0) after) =
          subst (λ (p : Piece). MainPlace root keeps v (p.made n (made others (beyond n p.counts) k))) (if_piece e does []) here in
          let same : before a after ≡ made does (after_nodes 1 n) after = ap (λ ps. before ((in_row ps).made (after_nodes 1 n) (End 0)) after)
          (sym (pieces_map does)) ∙ before_taken (label_at at t.target) t.effects (after_nodes 1 n) after in
          subst (λ (p : Piece). Tests root (Some e) (λ todo. Acts root (into t) t.effects todo)
          (Tries root (λ t todo. Acts root (into t) t.effects todo) pause ts) (p.made n (made others (beyond n p.counts) k))) (sym (if_piece e does [])) (
            n.node,
            a,
            End 0,
            after,
            refl,
            subst (Acts root (into t) t.effects) (sym same)
                (acts_at (label_at at t.target) (into t) found.0 t.effects (after_nodes 1 n) after
                (subst (Place root v) same (in_first v n.node e a (End 0) after place_too.place))),
            further (beyond n whole.counts) (main_if root keeps v n.node e a (End 0) after place_too) last,
          )

-- what is done may be said otherwise
pub tries_map : (root pause : Block) (P Q : Transition → Block → Type 0) (ts : List Transition) → Each (λ t. (todo : Block) → P t todo → Q t todo) ts →
    (todo : Block) → Tries root P pause ts todo → Tries root Q pause ts todo
tries_map root pause P Q [] h todo x = x
tries_map root pause P Q (t ∷ ts) h todo x = by t.trigger x (tries_map root pause P Q ts h.1)
  where
    by : (o : Option Expr) → Tests root o (P t) (Tries root P pause ts) todo → ((todo : Block) → Tries root P pause ts todo → Tries root Q pause ts todo) →
        Tests root o (Q t) (Tries root Q pause ts) todo
    by None x more = h.0 todo x
    by (Some e) x more = (x.0, x.1, x.2, x.3, x.4, h.0 (before x.1 x.3) x.5, more (before x.2 x.3) x.6)
