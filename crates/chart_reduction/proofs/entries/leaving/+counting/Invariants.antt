use Rattle.std.proofs.Common.{◌≡◌, ◌+◌, map, drop}
use Rattle.std.specs.Prelude.{fold}
use Rattle.chart_reduction.specs.Exits.{LeftRegion, LeftState, notes, notes_in, left_region, left_state}
use Rattle.chart_reduction.proofs.entries.leaving.+counting.Given as goal

abbrev pub invariant-notes_in-loop-region : goal.invariant-notes_in-loop-region
invariant-notes_in-loop-region l =
    fold (λ a (r : LeftRegion). a + notes r) l.count (map left_region (drop l.region-index l.regions)) ≡ notes_in (map left_region l.regions)

abbrev pub invariant-inside-loop-state : goal.invariant-inside-loop-state
invariant-inside-loop-state l =
    fold (λ a (s : LeftState). a + s.inside) l.count (map left_state (drop l.state-index l.state-items)) ≡ (left_region l.region).inside
