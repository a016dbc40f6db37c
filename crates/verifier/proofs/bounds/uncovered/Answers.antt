use Rattle.std.proofs.Common.{◌≡◌, ◌<◌, ◌≤◌, ◌+◌, ℕ, List, length, Some, sym, ◌∙◌, subst}
use Rattle.sc_graph.specs.Program.{step_at, owner_of}
use Rattle.sc_graph.specs.Limits.{child_limit}
use Rattle.sc_graph.specs.Tables.{weight, bound}
use Rattle.sc_graph.specs.Costs.{child_bounds, BoundAt}
use Rattle.sc_graph.specs.declared.program.Step.TheVariants as step
use Rattle.sc_graph.specs.declared.place.Place.TheVariants as place
use Rattle.verifier.specs.Inside.ByNode.{IsCovered}
use Rattle.verifier.proofs.Covering.{few_children, covered_depth, covered_fork, over_depth, over_fork}
use Rattle.verifier.proofs.Answer.{answer_turned}
use Rattle.verifier.proofs.bounds.uncovered.Goals as goal

pub join_cost-needed-requires : goal.join_cost-needed-requires
join_cost-needed-requires c =
    let s : step_at c.args.program.now c.args.n ≡ Some (step.Fork c.in-Some-Fork.children c.in-Some-Fork.join) = cc c.in-Some-Fork.ensures in
    let P : List ℕ → Type 0 = λ l. length l ≤ child_limit in
    subst P (sym c.as_slice.ensures) (few_children c.args.program.now c.args.tables.now c.requires c.args.n c.in-Some-Fork.join c.in-Some-Fork.children s)

pub returns-in-Some-Depth : goal.returns-in-Some-Depth
returns-in-Some-Depth c =
    let p = c.args.program.now in
    let q = c.args.tables.now in
    let n = c.args.n in
    let m = c.in-Some-Depth.field-0-0 in
    let s : step_at p n ≡ Some (step.Depth m) = cc c.in-Some-Depth.ensures in
    let o : c.owner.result ≡ owner_of p n = c.owner.ensures in
    let w : c.from.result ≡ weight q n = cc in
    answer_turned c.exceeded.result
    ((t : ℕ) → c.owner.result ≡ Some t → c.from.result ≤ bound q t)
    (IsCovered p q n)
    (λ t. (c.owner.result ≡ Some t) × (bound q t < c.from.result))
    (λ t. ¬ BoundAt p q (place.Thread t))
    (λ h. covered_depth p q n m s (λ t e. let P : ℕ → Type 0 = λ k. k ≤ bound q t in subst P w (h t (o ∙ e))))
    (λ t h. over_depth p q c.requires n m t s (sym o ∙ h.0, let P : ℕ → Type 0 = λ k. bound q t < k in subst P w h.1))
    c.exceeded.ensures

pub returns-in-Some-Fork : goal.returns-in-Some-Fork
returns-in-Some-Fork c =
    let p = c.args.program.now in
    let q = c.args.tables.now in
    let n = c.args.n in
    let j = c.in-Some-Fork.join in
    let ks = c.in-Some-Fork.children in
    let s : step_at p n ≡ Some (step.Fork ks j) = cc c.in-Some-Fork.ensures in
    let o : c.owner-in-Some-Fork.result ≡ owner_of p j = c.owner-in-Some-Fork.ensures in
    let Q : List ℕ → Type 0 = λ l. c.join_cost-needed.result ≡ weight q j + child_bounds q l in
    let w : c.join_cost-needed.result ≡ weight q j + child_bounds q ks = subst Q c.as_slice.ensures c.join_cost-needed.ensures in
    answer_turned c.exceeded-in-Some-Fork.result
    ((t : ℕ) → c.owner-in-Some-Fork.result ≡ Some t → c.join_cost-needed.result ≤ bound q t)
    (IsCovered p q n)
    (λ t. (c.owner-in-Some-Fork.result ≡ Some t) × (bound q t < c.join_cost-needed.result))
    (λ t. ¬ BoundAt p q (place.Thread t))
    (λ h. covered_fork p q n j ks s (λ t e. let P : ℕ → Type 0 = λ k. k ≤ bound q t in subst P w (h t (o ∙ e))))
    (λ t h. over_fork p q c.requires n j t ks s (sym o ∙ h.0, let P : ℕ → Type 0 = λ k. bound q t < k in subst P w h.1))
    c.exceeded-in-Some-Fork.ensures
