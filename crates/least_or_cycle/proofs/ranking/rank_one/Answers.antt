use Rattle.std.proofs.lemmas.Grind.{common_steps}
use Rattle.std.proofs.Common.{◌≡◌, ◌<◌, ◌≤◌, ◌+◌, length, slice_index, arith, refl}
use Rattle.least_or_cycle.proofs.Ranked.{room, ranked_more, none_found}
use Rattle.least_or_cycle.proofs.ranking.rank_one.Goals as goal

pub overflow_add-ranks : goal.overflow_add-ranks
overflow_add-ranks g c =
    let lt : c.args.node < length c.args.ranks.now = omega arith in
    let none : slice_index c.args.ranks.now c.args.node ≡ 0 = omega arith in
    let h : slice_index c.args.ranks.now c.in-Some.next + 1 ≤ length c.args.ranks.now = room (g.G.Graph.leads c.args.graph.now) c.args.target c.args.ranks.now
    c.args.node c.in-Some.next c.requires.ranks lt none in
    omega (arith, h)

pub returns-in-Some : goal.returns-in-Some
returns-in-Some g c =
    ranked_more (g.G.Graph.leads c.args.graph.now) c.args.target c.args.ranks.now c.args.node c.in-Some.next _ c.requires.ranks (omega arith)
    (omega arith) c.in-Some.ensures

pub returns-in-None : goal.returns-in-None
returns-in-None g c =
    (refl, none_found (g.G.Graph.leads c.args.graph.now) c.args.target c.args.ranks.now c.args.node _ c.requires.ranks (omega arith) c.in-None.ensures)

pub bounds-ranks-next : goal.bounds-ranks-next
bounds-ranks-next g c = grind (arith, common_steps) steps 2000000
