use Rattle.std.proofs.Common.{◌≡◌, ◌++◌, drop, map}
use Rattle.chart_texts.specs.Renaming.{shown_region, shown_state}
use Rattle.chart_texts.proofs.printer.renaming.+renaming.Given as goal

abbrev pub invariant-shown_regions-loop-region : goal.invariant-shown_regions-loop-region
invariant-shown_regions-loop-region l =
    l.all ++ map (shown_region l.word) (drop l.region-index l.regions) ≡ map (shown_region l.word) l.regions

abbrev pub invariant-shown_states-loop-state : goal.invariant-shown_states-loop-state
invariant-shown_states-loop-state l =
    l.all ++ map (shown_state l.word) (drop l.state-index l.states) ≡ map (shown_state l.word) l.states
