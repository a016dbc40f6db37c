use mathlib.Core.Bool.{true≢false}
use Rattle.std.proofs.Common.{◌∙◌, refl, sym}
use Rattle.sc_graph.proofs.Distinct.{not_distinct, distinct_more, distinct_all}
use Rattle.sc_graph.proofs.size.are_distinct.Goals as goal

pub returns-then-is_among : goal.returns-then-is_among
returns-then-is_among c = (
  λ no. absurd (true≢false (sym no)),
  λ distinct. absurd (not_distinct c.args.threads.now c.loop-i.i c.loop-i-test.true (c.is_among.ensures.0 c.if-is_among.true) distinct),
)

pub loop-i-preserved : goal.loop-i-preserved
loop-i-preserved c =
    distinct_more c.args.threads.now c.loop-i.i c.loop-i-test.true
    (λ there. let e = c.is_among.ensures.1 there in true≢false (sym e ∙ c.if-is_among.false))
    c.loop-i.invariant

pub returns : goal.returns
returns c = (λ yes. distinct_all c.args.threads.now c.loop-i.i c.loop-i-test.false c.loop-i.invariant, λ distinct. refl)
