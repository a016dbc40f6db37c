use mathlib.Core.Bool.{true≢false}
use Rattle.std.proofs.Common.{ℕ, ◌≡◌, ◌∙◌, true, sym, get_or, arith, below_more}
use Rattle.program_edges.specs.AlongVariables.{FallsTo}
use Rattle.program_edges.proofs.Variables.{of_each}
use Rattle.priority_weights.proofs.kept.falls_to_all.Goals as goal

pub loop-n-preserved : goal.loop-n-preserved
loop-n-preserved c =
    let P : ℕ → Type 0 = λ k. FallsTo c.args.edges.now c.args.table.now c.args.m (get_or c.args.seconds.now k 0) in
    below_more P _ c.loop-n.invariant (c.falls_to.ensures.0 c.if-not-falls_to.false)

pub returns-then-not-has_company : goal.returns-then-not-has_company
returns-then-not-has_company c = λ yes n at. record {
  falls = λ concurrent. absurd (
      let e : c.has_company.result ≡ true = c.has_company.ensures n concurrent in
      let f = c.if-not-has_company.true in
      true≢false (sym e ∙ f));
}

pub returns : goal.returns
returns c =
    let P : ℕ → Type 0 = λ n. FallsTo c.args.edges.now c.args.table.now c.args.m n in
    let end = c.loop-n-test.false in
    λ yes. of_each c.args.seconds.now P (λ k h. c.loop-n.invariant k (omega (arith, h, end)))
