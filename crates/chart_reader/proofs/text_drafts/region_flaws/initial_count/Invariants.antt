use Rattle.std.proofs.Common.{◌≡◌, ◌+◌, ◌≤◌, count_by, drop}
use Rattle.chart_reader.specs.declared.text_drafts.draft.DraftRegion.TheViews.{out-DraftState}
use Rattle.chart_reader.proofs.text_drafts.region_flaws.initial_count.Given as goal

abbrev pub invariant-loop-state : goal.invariant-loop-state
invariant-loop-state l =
    (l.count + count_by (λ s. (out-DraftState s).is_initial) (drop l.state-index l.states) ≡ count_by (λ s. (out-DraftState s).is_initial) l.states) ×
    (l.count ≤ l.state-index)
