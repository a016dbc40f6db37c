use Rattle.sc_graph.specs.Accesses.{access_of}
use Rattle.sc_graph.proofs.Preceding.{may_unless_clash, may_not}
use Rattle.sc_graph.proofs.program.Step.may_precede.Goals as goal

pub returns-then-not-precedes : goal.returns-then-not-precedes
returns-then-not-precedes c =
    may_unless_clash c.precedes.result c.clashes.result (access_of c.args.self.now) (access_of c.args.other.now) c.if-not-precedes.true c.precedes.ensures
    c.clashes.ensures

pub returns-else-not-precedes : goal.returns-else-not-precedes
returns-else-not-precedes c =
    may_not c.precedes.result (access_of c.args.self.now) (access_of c.args.other.now) c.if-not-precedes.false c.precedes.ensures
