use Rattle.std.proofs.Common.{◌≡◌, ◌++◌, drop}
use Rattle.chart_reader.specs.Flaws.{region_names}
use Rattle.chart_reader.proofs.text_drafts.region_flaws.region_names.Given as goal

abbrev pub invariant-loop-region : goal.invariant-loop-region
invariant-loop-region l = l.names ++ region_names (drop l.region-index l.regions) ≡ region_names l.regions
