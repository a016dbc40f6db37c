use Rattle.std.proofs.Common.{ℕ, ◌≡◌, ◌<◌, ◌||◌, false, length, get_or, drop}
use Rattle.std.specs.List.{list_any}
use Rattle.node_states.specs.Active.{is_number, rests_in}
use Rattle.compiled_charts.proofs.marking.mark_all.Given as goal

abbrev pub invariant-loop-status : goal.invariant-loop-status
invariant-loop-status l = record {
  many : length l.marks.items ≡ length l.fn.marks.items;
  each : (m : ℕ) → m < length l.fn.marks.items →
      (get_or l.marks.items m false || list_any (λ s. is_number m (rests_in l.nodes s)) (drop l.status-index l.statuses)) ≡
      (get_or l.fn.marks.items m false || list_any (λ s. is_number m (rests_in l.nodes s)) l.statuses);
}
