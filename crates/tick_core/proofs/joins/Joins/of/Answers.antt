use Rattle.std.proofs.Common.{◌∙◌, ◌+◌, sym, ap, subst, arith}
use Rattle.sc_graph.specs.Valid.{IsValid}
use Rattle.tick_core.specs.Space.Joins.{FindsForks, FindsBelow}
use Rattle.tick_core.proofs.NotedForks.{noted_more, noted_all}
use Rattle.tick_core.proofs.joins.Joins.of.Goals as goal

pub loop-node-preserved : goal.loop-node-preserved
loop-node-preserved c =
    subst (λ xs. FindsBelow c.program-program.result.now xs (c.loop-node.node + 1)) (sym c.note_node.ensures)
    (noted_more c.program-program.result.now c.loop-node.forks.items c.loop-node.node
    (omega (arith, c.loop-node-test.true, c.node_count-node-end.ensures.count)) c.loop-node.invariant)

pub returns : goal.returns
returns c =
    subst (λ p. FindsForks p c.loop-node.forks.items) (c.program-program.ensures ∙ ap (λ i. i.program) c.image.ensures.value)
    (noted_all c.program-program.result.now c.args.verified.now.tables c.loop-node.forks.items c.loop-node.node
    (subst (λ p. IsValid p c.args.verified.now.tables) (sym (c.program-program.ensures ∙ ap (λ i. i.program) c.image.ensures.value)) c.image.ensures.valid)
    (omega (arith, c.loop-node-test.false, c.node_count-node-end.ensures.count)) c.loop-node.invariant)
