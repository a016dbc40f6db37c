use Rattle.std.proofs.lemmas.Grind.{common_steps, elements}
use Rattle.std.proofs.Common.{◌≢◌, ℕ, List, slice_index, sym, subst, arith}
use Rattle.least_or_cycle.specs.Walks.{LeadsTo}
use Rattle.least_or_cycle.specs.Inside.Tracing.{IsTraced}
use Rattle.least_or_cycle.proofs.Walking.{traced_more}
use Rattle.least_or_cycle.proofs.cycles.trace.Goals as goal

pub loop-at-preserved : goal.loop-at-preserved
loop-at-preserved g c =
    let leads = g.G.Graph.leads c.args.graph.now in
    let P : List ℕ → Type 0 = λ xs. IsTraced leads c.args.ranks.now c.args.start xs c.in-Some.next in
    let Q : ℕ → Type 0 = λ below. LeadsTo leads c.args.ranks.now c.loop-at.at below c.in-Some.next in
    let to : LeadsTo leads c.args.ranks.now c.loop-at.at (slice_index c.args.ranks.now c.loop-at.at) c.in-Some.next = subst Q c.from.ensures c.in-Some.ensures
    in
    let ne : c.loop-at.at ≢ c.args.start = c.loop-at-test.true in
    subst P (sym c.in_ok-push-2.ensures.items)
    (traced_more leads c.args.ranks.now c.args.start c.loop-at.walk.items c.loop-at.at c.in-Some.next c.requires.ranks c.loop-at.invariant ne to)

pub unreachable-requires : goal.unreachable-requires
unreachable-requires g c =
    let leads = g.G.Graph.leads c.args.graph.now in
    let ne : c.loop-at.at ≢ c.args.start = c.loop-at-test.true in
    let w = c.requires.ranks.falls c.loop-at.at c.loop-at.invariant.ranked ne in
    let Q : ℕ → Type 0 = λ below. LeadsTo leads c.args.ranks.now c.loop-at.at below w.0 in
    c.in-None.ensures w.0 (subst Q (sym c.from.ensures) w.1)

pub returns : goal.returns
returns g c = grind (arith, elements) steps 2000000

pub bounds-ranks-at : goal.bounds-ranks-at
bounds-ranks-at g c = grind (arith, common_steps) steps 2000000
