use Rattle.std.proofs.Common.{◌≡◌, drop}
use Rattle.scl_graph.specs.Inside.Totals.{HasRoom, totals_of_all}
use Rattle.scl_graph.specs.Inside.Gathering.{IsGathered, Noted, landing_in}
use Rattle.scl_graph.proofs.gathering.+gathering.Given as goal

abbrev pub invariant-gather-loop-i : goal.invariant-gather-loop-i
invariant-gather-loop-i l = record {
  room : HasRoom l.here (totals_of_all (drop l.i l.statements));
  ahead : l.ahead ≡ landing_in (drop l.i l.statements) l.here.node l.here.goto l.behind;
  gathered : (new : Noted) → IsGathered (drop l.i l.statements) l.here l.behind l.labels new → IsGathered l.statements l.fn.at l.behind l.initial.labels new;
}
