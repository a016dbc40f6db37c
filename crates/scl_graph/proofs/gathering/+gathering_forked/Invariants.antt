use Rattle.std.proofs.Common.{[], ◌∷◌, drop}
use Rattle.scl_graph.specs.Inside.Totals.{HasBranchesRoom, HasRoom, totals_of_all}
use Rattle.scl_graph.specs.Inside.Gathering.{AreBranchesGathered, AreForkedGathered, Noted}
use Rattle.scl_graph.proofs.gathering.+gathering_forked.Given as goal

abbrev pub invariant-gather_forked-loop-i : goal.invariant-gather_forked-loop-i
invariant-gather_forked-loop-i l = record {
  room : HasRoom l.here (totals_of_all (drop l.i l.statements));
  gathered : (new : Noted) → AreForkedGathered (drop l.i l.statements) l.here l.labels new → AreForkedGathered l.statements l.fn.at l.initial.labels new;
}

abbrev pub invariant-gather_forked_by-loop-place : goal.invariant-gather_forked_by-loop-place
invariant-gather_forked_by-loop-place l = record {
  room : HasBranchesRoom l.here (drop l.place l.bodies);
  gathered : (new : Noted) → AreBranchesGathered (drop l.place l.bodies) l.here l.labels new
      → AreForkedGathered (l.statement ∷ []) l.fn.at l.initial.labels new;
}
