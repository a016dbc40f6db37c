use Rattle.std.proofs.Common.{◌≡◌, ◌++◌, drop, map}
use Rattle.chart_texts.specs.Renaming.{rivals_in, rivals_of_region, rivals_of_state}
use Rattle.chart_texts.proofs.printer.names.+naming.Given as goal

abbrev pub invariant-put_rivals-loop-region : goal.invariant-put_rivals-loop-region
invariant-put_rivals-loop-region l =
    l.names.items ++ rivals_in (map rivals_of_region (drop l.region-index l.regions)) ≡
    l.fn.names.items ++ rivals_in (map rivals_of_region l.regions)

abbrev pub invariant-put_rivals_of_region-loop-state : goal.invariant-put_rivals_of_region-loop-state
invariant-put_rivals_of_region-loop-state l =
    l.names.items ++ rivals_in (map rivals_of_state (drop l.state-index l.state-items)) ≡
    l.fn.names.items ++ rivals_of_region l.region
