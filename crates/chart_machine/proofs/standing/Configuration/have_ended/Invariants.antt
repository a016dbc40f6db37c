use Rattle.std.proofs.Common.{◌≡◌, drop}
use Rattle.std.specs.List.{list_all}
use Rattle.chart_machine.specs.Turns.{has_ended, standing_of}
use Rattle.chart_machine.proofs.standing.Configuration.have_ended.Given as goal

abbrev pub invariant-loop-region : goal.invariant-loop-region
invariant-loop-region l =
    list_all (λ r. has_ended (standing_of l.self r)) (drop l.region-index l.regions) ≡ list_all (λ r. has_ended (standing_of l.self r)) l.regions
