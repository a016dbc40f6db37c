use Rattle.std.proofs.lemmas.Grind.{elements}
use Rattle.std.proofs.Common.{ap, ◌∙◌, refl, slice_get, arith}
use Rattle.sc_graph.specs.Inside.Fits.{ChildrenStand}
use Rattle.sc_graph.proofs.Each.{each_more, each_of_all}
use Rattle.sc_graph.proofs.resting.all_children_stand.Goals as goal

pub loop-node-preserved : goal.loop-node-preserved
loop-node-preserved c =
    each_more (ChildrenStand c.args.control.now) _ _ _ c.loop-node-test.true c.node-item.is c.loop-node.invariant
    (c.children_stand.ensures.0 c.if-not-children_stand.false)

pub returns : goal.returns
returns c = (
  λ yes. record {
    each = λ n x is.
        each_of_all (ChildrenStand c.args.control.now) _ _ c.loop-node-test.false c.loop-node.invariant n x
        (ap (λ xs. slice_get xs n) c.nodes-node-items.ensures ∙ is);
  },
  λ all. refl,
)

pub returns-then-not-children_stand : goal.returns-then-not-children_stand
returns-then-not-children_stand c = grind (arith, elements) steps 2000000
