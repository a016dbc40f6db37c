use Rattle.std.proofs.Common.{◌≡◌, drop}
use Rattle.scl_graph.specs.Inside.Gathering.{landing_in}
use Rattle.scl_graph.proofs.landing.landing_of.Given as goal

abbrev pub invariant-loop-statement : goal.invariant-loop-statement
invariant-loop-statement l = landing_in (drop l.statement-index l.statements) l.node l.goto l.behind ≡ landing_in l.statements l.node l.goto l.behind
