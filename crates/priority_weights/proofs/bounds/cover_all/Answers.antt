use mathlib.Core.Bool.{true≢false}
use Rattle.std.proofs.lemmas.Grind.{elements}
use Rattle.std.proofs.Common.{ℕ, ◌<◌, List, inl, inr, sum, sym, ◌∙◌, subst, arith}
use Rattle.std.specs.Prelude.{slice_index}
use Rattle.sc_graph.proofs.Each.{below_or_at}
use Rattle.priority_weights.specs.Inside.Bounds.{AreUnder, IsCovered}
use Rattle.priority_weights.proofs.Bounding.{more_after}
use Rattle.priority_weights.proofs.bounds.cover_all.Goals.{then-cover, else-cover}
use Rattle.priority_weights.proofs.bounds.cover_all.Goals as goal

pub loop-node-preserved : goal.loop-node-preserved
loop-node-preserved c =
    let p = c.args.program.now in
    let w = slice_index c.args.weights.now in
    let first = c.args.bounds.now in
    let old = c.loop-node.bounds in
    let new = c.cover.new.bounds in
    let before = c.loop-node.invariant in
    elim c.if-cover.branch [
      | then-cover w' ↦
          let raised = rw w'.if-cover.true at c.cover.ensures in
          let is = w'.raised-is in
          record {
            under = raised.under;
            more = λ e. more_after c.loop-node.raised first old new before.more before.same raised.more;
            same = λ e. absurd (true≢false (sym is ∙ e));
            kept = λ e. absurd (true≢false (sym is ∙ e));
          }
      | else-cover w' ↦
          let covered = rw w'.if-cover.false at c.cover.ensures in
          let is = w'.raised-is in
          let P : List ℕ → Type 0 = λ xs. AreUnder p w xs in
          let Q : List ℕ → Type 0 = λ xs. sum first < sum xs in
          record {
            under = subst P (sym covered.0) before.under;
            more = λ e. subst Q (sym covered.0) (before.more (sym is ∙ e));
            same = λ e. covered.0 ∙ before.same (sym is ∙ e);
            kept = λ e n lt within. elim (below_or_at n c.loop-node.node lt) [
              | inl less ↦ before.kept (sym is ∙ e) n less within
              | inr at ↦ (let R : List ℕ → Type 0 = λ xs. IsCovered p w (slice_index xs) n in subst R (before.same (sym is ∙ e)) (covered.1 n at within))
            ];
          }
    ]

pub returns : goal.returns
returns c = grind (arith, elements) steps 2000000
