-- All that was proved, passed on from one place, so that the check reads each file.
use Rattle.std.proofs.Common.{◌≡◌, ℕ, refl}
pub use Rattle.preemption_laws.proofs.OneEnd.{one_end}
pub use Rattle.preemption_laws.proofs.AssignmentsSwap.{assignments_swap}
pub use Rattle.preemption_laws.proofs.WritesSwap.{changes_swap}
pub use Rattle.preemption_laws.proofs.ApartTogether.{are_apart, forks_none}
pub use Rattle.preemption_laws.proofs.SitsStill.{sits_apart}
pub use Rattle.preemption_laws.proofs.SitsAtStart.{sits_initially, sits_at_start}
pub use Rattle.preemption_laws.proofs.CoreCompletes.{completes_to}
pub use Rattle.preemption_laws.proofs.StepRuns.{step_run, start_run}
pub use Rattle.preemption_laws.proofs.ChartRuns.{ticks_end}
pub use Rattle.preemption_laws.proofs.RanksReact.{has_reaction}
pub use Rattle.preemption_laws.proofs.OneReaction.{one_reaction}
pub use Rattle.preemption_laws.proofs.ChartsSit.{one_list_of_ends}
pub use Rattle.preemption_laws.proofs.CappedRanks.{capped_are_ranks}
pub use Rattle.preemption_laws.proofs.GraphRuns.{goes_to_nodes, comes_own}
pub use Rattle.preemption_laws.proofs.StillAtJoins.{has_stepped}
pub use Rattle.preemption_laws.proofs.MonitorsLow.{guards_low}
pub use Rattle.preemption_laws.proofs.QuietRuns.{steps_keep, coming_keeps}
pub use Rattle.preemption_laws.proofs.RanksOfCharts.{has_capped_ranks, charts_react}
pub use Rattle.preemption_laws.proofs.NextCapped.{first_capped, next_capped}
pub use Rattle.preemption_laws.proofs.LinesAhead.{low_once_stepped, once_stepped_above, stepped_ahead, once_stepped_on, once_stepped_both}
pub use Rattle.preemption_laws.proofs.LinesAhead.{ahead_on, ahead_within, ahead_less, ahead_both, enabled_ahead}
pub use Rattle.preemption_laws.proofs.GreatestPriority.{all_ahead, all_once_stepped}
pub use Rattle.preemption_laws.proofs.LowLines.{lines_stay_low}
pub use Rattle.preemption_laws.proofs.ApartInCore.{apart_in_core, thread_there, monitor_there}
pub use Rattle.preemption_laws.proofs.CappedSteps.{uncapped, line_kept, idle_is}
pub use Rattle.preemption_laws.proofs.OthersLow.{others_low}
pub use Rattle.preemption_laws.proofs.BelowInGraph.{below_there}
pub use Rattle.preemption_laws.proofs.StillWaits.{turn_still, lies_or_not, elsewhere_from}
pub use Rattle.preemption_laws.proofs.NextLow.{ahead_free, ahead_behind, lines_next, joins_next}
pub use Rattle.preemption_laws.proofs.IdleInside.{lines_idle, joins_idle}
pub use Rattle.preemption_laws.proofs.OpenedThreads.{waits_there}
pub use Rattle.preemption_laws.proofs.OwnSteps.{touched_climbs, has_own_step}
pub use Rattle.preemption_laws.proofs.StepLow.{step_low}
pub use Rattle.preemption_laws.proofs.GuardsLow.{guard_low}
pub use Rattle.preemption_laws.proofs.NoResumes.{no_resumes}
pub use Rattle.preemption_laws.proofs.TestsThere.{tests_there}
pub use Rattle.preemption_laws.proofs.ChecksBeside.{test_below}
pub use Rattle.preemption_laws.proofs.RaiseNodes.{leads_to_effect, taken_lower}
pub use Rattle.preemption_laws.proofs.ChartOrder.{in_order}
pub use Rattle.preemption_laws.proofs.CoreTurns.{taken_by}
pub use Rattle.preemption_laws.proofs.StepsInside.{stays, turn_same}
pub use Rattle.preemption_laws.proofs.StepNodes.{steps_come_to_nodes, priorities_order_steps}

pub checked : ◌≡◌ {A = ℕ} 0 0
checked = refl
