use Rattle.std.proofs.Common.{◌∙◌, sym}
use Rattle.sc_graph.proofs.Climbs.{climbs_on, climbs_back, climbs_not}
use Rattle.sc_graph.proofs.program.Program.ancestor.Goals as goal

pub returns-in-None : goal.returns-in-None
returns-in-None c = record {
  none = λ u d.
      climbs_not c.args.self.now c.args.generations c.loop.counter c.loop.at u c.loop-test.true (sym c.parent.ensures ∙ c.in-None.is)
      ((c.loop.invariant u).0 d);
}

pub loop-preserved : goal.loop-preserved
loop-preserved c = λ u. (
  λ d. climbs_on c.args.self.now c.args.generations c.loop.counter c.loop.at c.in-Some.parent u c.loop-test.true (sym c.parent.ensures ∙ c.in-Some.is)
      ((c.loop.invariant u).0 d),
  λ d. (c.loop.invariant u).1 (climbs_back c.args.self.now c.args.generations c.loop.counter c.loop.at c.in-Some.parent u c.loop-test.true
      (sym c.parent.ensures ∙ c.in-Some.is) d),
)
