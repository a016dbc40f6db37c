use Rattle.std.proofs.Common.{ℕ, List, subst, sym}
use Rattle.program_edges.proofs.Standing.{StandUpTo, stand_none, stand_more, stand_all}
use Rattle.program_edges.proofs.extremes.extremes_of.Goals as goal

pub loop-n-init : goal.loop-n-init
loop-n-init g c =
    let p = c.args.program.now in
    let q = g.N.Numbers.table c.args.numbers.now in
    subst (λ (l : List ℕ). StandUpTo p q c.args.extreme c.args.nodes.now l 0) (sym c.new-chosen.ensures) (stand_none p q c.args.extreme c.args.nodes.now)

pub loop-n-preserved : goal.loop-n-preserved
loop-n-preserved g c =
    stand_more c.args.program.now (g.N.Numbers.table c.args.numbers.now) c.args.extreme c.args.nodes.now c.loop-n.chosen c.take_in.new.chosen c.loop-n.n-index
    c.loop-n-test.true c.loop-n.invariant c.in_ok-take_in.ensures

pub returns : goal.returns
returns g c = stand_all c.args.program.now (g.N.Numbers.table c.args.numbers.now) c.args.extreme c.args.nodes.now c.loop-n.chosen c.loop-n.n-index
    c.loop-n-test.false c.loop-n.invariant
