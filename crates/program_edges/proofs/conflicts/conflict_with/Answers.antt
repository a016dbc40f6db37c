use mathlib.Core.Bool.{true≢false}
use Rattle.std.proofs.Common.{ℕ, ◌≡◌, get_or, arith, below_more, true, sym, ◌∙◌}
use Rattle.sc_graph.specs.Protocol.{WriteConflict}
use Rattle.program_edges.proofs.Variables.{of_each}
use Rattle.program_edges.proofs.conflicts.conflict_with.Goals as goal

pub loop-n-preserved : goal.loop-n-preserved
loop-n-preserved c =
    let P : ℕ → Type 0 = λ k. ¬ WriteConflict c.args.program.now c.args.m (get_or c.args.nodes.now k 0) in
    below_more P _ c.loop-n.invariant (λ w.
    absurd (let e : c.is_conflict.result ≡ true = c.is_conflict.ensures.1 w in true≢false (sym e ∙ c.if-is_conflict.false)))

pub returns : goal.returns
returns c =
    let P : ℕ → Type 0 = λ n. ¬ WriteConflict c.args.program.now c.args.m n in
    of_each c.args.nodes.now P (λ k h. c.loop-n.invariant k (omega (arith, h)))

pub returns-then-is_conflict : goal.returns-then-is_conflict
returns-then-is_conflict c = c.is_conflict.ensures.0 c.if-is_conflict.true

pub returns-then-not-has_company : goal.returns-then-not-has_company
returns-then-not-has_company c = λ n at w.
    let e : c.has_company.result ≡ true = c.has_company.ensures n w.concurrent in
    true≢false (sym e ∙ c.if-not-has_company.true)
