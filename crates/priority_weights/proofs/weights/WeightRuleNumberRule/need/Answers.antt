use Rattle.std.proofs.Common.{ℕ, List, sym, subst}
use Rattle.std.specs.Prelude.{slice_index}
use Rattle.sc_graph.specs.Program.{Program}
use Rattle.least_or_cycle.specs.Least.{IsNeeded}
use Rattle.priority_weights.specs.Inside.Entries.{bits, WeightKept}
use Rattle.priority_weights.proofs.Rooms.{step_placed}
use Rattle.priority_weights.proofs.Weighing.{weight_needed}
use Rattle.priority_weights.proofs.weights.WeightRuleNumberRule.need.Goals as goal

pub step_weight-requires : goal.step_weight-requires
step_weight-requires c = (step_placed c.self.inside.program.now c.self.invariant c.args.place c.in-Some.step.now (sym c.in-Some.ensures)).3

pub returns-in-Some : goal.returns-in-Some
returns-in-Some c =
    let p = c.self.inside.program.now in
    let P : (Program × List ℕ) → Type 0 = λ v. IsNeeded (WeightKept v.0 (bits (slice_index v.1))) c.args.table.now c.args.place c.step_weight.result in
    subst P c.self.view_is
    (weight_needed p (bits (slice_index c.self.inside.ends.now)) c.args.table.now c.args.place c.step_weight.result c.in-Some.step.now c.requires
    (sym c.in-Some.ensures) c.step_weight.ensures)
