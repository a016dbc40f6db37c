use Rattle.std.proofs.Common.{ℕ, ◌+◌, ◌≤◌, List, map, ap, subst, ◌∙◌, arith}
use Rattle.scl_graph.specs.declared.hops.Hop.{Hop}
use Rattle.scl_graph.specs.Inside.Settling.{AreNodes, further}
use Rattle.scl_graph.proofs.Circling.{after_doubled, after_nodes, after_none}
use Rattle.scl_graph.proofs.hops.settled.Goals as goal

pub loop-gotos-init : goal.loop-gotos-init
loop-gotos-init c = after_none c.args.hops.items

pub loop-gotos-preserved : goal.loop-gotos-preserved
loop-gotos-preserved c =
    let m : ℕ = c.loop-gotos.gotos in
    let table : List Hop = c.loop-gotos.table.items in
    let first : _ = c.saturating_add.ensures in
    let second : _ = c.saturating_add-gotos.ensures in
    let le : c.saturating_add-gotos.result ≤ m + m + 1 = omega (arith, first, second) in
    after_doubled c.args.hops.items table c.in_ok-table.table.items m c.saturating_add-gotos.result c.loop-gotos.invariant
    (c.in_ok-table.ensures ∙ ap (λ t. map (further t) t) c.as_slice-in-loop-gotos.ensures.value) le

pub returns-then-are_nodes : goal.returns-then-are_nodes
returns-then-are_nodes c =
    after_nodes c.args.hops.items c.loop-gotos.table.items c.loop-gotos.gotos c.loop-gotos.invariant
    (subst AreNodes c.as_slice.ensures.value (c.are_nodes.ensures c.if-are_nodes.true))
