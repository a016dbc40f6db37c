use mathlib.Core.Bool.{true≢false}
use Rattle.std.proofs.lemmas.Grind.{common_steps}
use Rattle.std.proofs.Common.{◌≡◌, true, arith, sym, ◌∙◌}
use Rattle.program_edges.proofs.conflicts.is_conflict.Goals as goal

pub returns-then-not-nodes_clash : goal.returns-then-not-nodes_clash
returns-then-not-nodes_clash c = (
  λ e. absurd (true≢false (sym e)),
  λ w. let e : c.nodes_clash.result ≡ true = c.nodes_clash.ensures.1 w.clash in absurd (true≢false (sym e ∙ c.if-not-nodes_clash.true)),
)

pub returns : goal.returns
returns c = (
  λ e. record { in_order = c.if-n-m.false; concurrent = c.are_concurrent.ensures.0 e; clash = c.nodes_clash.ensures.0 c.if-not-nodes_clash.false },
  λ w. c.are_concurrent.ensures.1 w.concurrent,
)

pub returns-then-n-m : goal.returns-then-n-m
returns-then-n-m c = grind (arith, common_steps) steps 2000000
