-- All that was proved, passed on from one place, so that the check reads each file.
use Rattle.std.proofs.Common.{◌≡◌, ℕ, refl}
pub use Rattle.abort_expansion_laws.proofs.StagesKept.{stages_kept}
pub use Rattle.abort_expansion_laws.proofs.Supplying.{climbs_step}
pub use Rattle.abort_expansion_laws.proofs.EachSpared.{each_spared}
pub use Rattle.abort_expansion_laws.proofs.TablesCorrespond.{is_pair}
pub use Rattle.abort_expansion_laws.proofs.ListsOfTicks.{ticks_kept}
pub use Rattle.abort_expansion_laws.proofs.LowPriorities.{low_under_kept, never_before}
pub use Rattle.abort_expansion_laws.proofs.MoreValues.{value_over_more, up_verdict, lowered_verdict}
pub use Rattle.abort_expansion_laws.proofs.Unchanged.{stands_kept, stands_same, stands_other}
pub use Rattle.abort_expansion_laws.proofs.RegionGoesOn.{goes_on}
pub use Rattle.abort_expansion_laws.proofs.StageReached.{stage_kept, inside_in, holds_other}
pub use Rattle.abort_expansion_laws.proofs.ImageSteps.{image_segment}
pub use Rattle.abort_expansion_laws.proofs.KnownVariables.{trigger_known, stepped, present_there}
pub use Rattle.abort_expansion_laws.proofs.TestFails.{failing_followed}
pub use Rattle.abort_expansion_laws.proofs.SilentSteps.{silent_step, no_step, climbs_at, climbs_home, climbs_over}
pub use Rattle.abort_expansion_laws.proofs.Leaving.{leaves, joined}
pub use Rattle.abort_expansion_laws.proofs.AllLeave.{all_leave}
pub use Rattle.abort_expansion_laws.proofs.MonitorGoesOn.{monitor_goes_on}
pub use Rattle.abort_expansion_laws.proofs.MonitorSteps.{watched_segment}
pub use Rattle.abort_expansion_laws.proofs.StrongNotTaken.{not_taken_followed}
pub use Rattle.abort_expansion_laws.proofs.DropsOut.{dropped_out}
pub use Rattle.abort_expansion_laws.proofs.StrongTestsQuiet.{quiet_kept, spares}
pub use Rattle.abort_expansion_laws.proofs.StrongLeaves.{may_leave}
pub use Rattle.abort_expansion_laws.proofs.FlagAccess.{put_access, raised_access, number_access}
pub use Rattle.abort_expansion_laws.proofs.CoreSteps.{takes, writes_last}
pub use Rattle.abort_expansion_laws.proofs.AbortNext.{AbortNext}
pub use Rattle.abort_expansion_laws.proofs.Answering.{tests_fail, answered}
pub use Rattle.abort_expansion_laws.proofs.AbortTaken.{answering_on, emptied}
pub use Rattle.abort_expansion_laws.proofs.AbortAnswered.{related1, abort_followed}
pub use Rattle.abort_expansion_laws.proofs.SuperstateLeft.{chart_takes}
pub use Rattle.abort_expansion_laws.proofs.AbortFollowed.{with_effects, without_effects}
pub use Rattle.abort_expansion_laws.proofs.StagesAfterDrop.{outer_stage, others_stay, reached_now}
pub use Rattle.abort_expansion_laws.proofs.StrongTaken.{strong_followed, strong_entered}
pub use Rattle.abort_expansion_laws.proofs.WeakLeaves.{idle_may_leave}
pub use Rattle.abort_expansion_laws.proofs.WeakTaken.{weak_followed, weak_entered}
pub use Rattle.abort_expansion_laws.proofs.TerminationNext.{core_over, child_thread_ended}
pub use Rattle.abort_expansion_laws.proofs.TerminationImage.{image_step}
pub use Rattle.abort_expansion_laws.proofs.StayingTerminates.{staying_terminates, staying_enters}
pub use Rattle.abort_expansion_laws.proofs.TerminationJoins.{monitor_ends, joins_it, is_joined}
pub use Rattle.abort_expansion_laws.proofs.SplitTerminates.{split_terminates, split_enters}
pub use Rattle.abort_expansion_laws.proofs.WeakNotTaken.{not_taken_followed as weak_not_taken_followed}
pub use Rattle.abort_expansion_laws.proofs.TestHolds.{holding_followed}
pub use Rattle.abort_expansion_laws.proofs.AssignedVariables.{assigned_known}
pub use Rattle.abort_expansion_laws.proofs.EffectFollowed.{effect_followed}
pub use Rattle.abort_expansion_laws.proofs.EntryTestFails.{opening_on_followed}
pub use Rattle.abort_expansion_laws.proofs.Owed.{Enters, Begins}
pub use Rattle.abort_expansion_laws.proofs.CoreOver.{over_too}
pub use Rattle.abort_expansion_laws.proofs.EnteringSimple.{simple_once, no_count}
pub use Rattle.abort_expansion_laws.proofs.TakenAtOnce.{taken_on}
pub use Rattle.abort_expansion_laws.proofs.LastEffect.{last_effect}
pub use Rattle.abort_expansion_laws.proofs.SeenAlike.{seen_variables, seen_active}
pub use Rattle.abort_expansion_laws.proofs.Pending.{Pending, behind_unprepared}
pub use Rattle.abort_expansion_laws.proofs.SettledInOrder.{settles}
pub use Rattle.abort_expansion_laws.proofs.CounterValues.{counted_value, counted_access}
pub use Rattle.abort_expansion_laws.proofs.StartingRegions.{waits_on}
pub use Rattle.abort_expansion_laws.proofs.CalmPending.{all_calm}
pub use Rattle.abort_expansion_laws.proofs.CountedDown.{counted_down}
pub use Rattle.abort_expansion_laws.proofs.Resets.{puts, entered_with, prepares, resets_are, strong_reset, weak_reset, counter_reset}
pub use Rattle.abort_expansion_laws.proofs.FailedChecks.{checks_fail}
pub use Rattle.abort_expansion_laws.proofs.OpensFork.{opens_fork, strong_down, weak_down, counter_full}
pub use Rattle.abort_expansion_laws.proofs.JoinsFork.{continues_with, joins_fork}
pub use Rattle.abort_expansion_laws.proofs.WaitsAfterJoin.{joined_pending, reached_then}
pub use Rattle.abort_expansion_laws.proofs.ForkJoined.{joined_up}
pub use Rattle.abort_expansion_laws.proofs.EnteredSettles.{entered_settles}
pub use Rattle.abort_expansion_laws.proofs.WalkSide.{walk_side}
pub use Rattle.abort_expansion_laws.proofs.WalkState.{walk_state}
pub use Rattle.abort_expansion_laws.proofs.WalkStates.{walk_states}
pub use Rattle.abort_expansion_laws.proofs.WalkRegion.{walk_region}
pub use Rattle.abort_expansion_laws.proofs.ChartWalk.{regions_walk, rows_have}
pub use Rattle.abort_expansion_laws.proofs.RowsOfCharts.{rows_of_chart}
pub use Rattle.abort_expansion_laws.proofs.MoreRows.{map_of_chart, opening_rows, counter_rows}
pub use Rattle.abort_expansion_laws.proofs.MonitorLooks.{looked_before}
pub use Rattle.abort_expansion_laws.proofs.LooksBefore.{looked_first}
pub use Rattle.abort_expansion_laws.proofs.FrontFirst.{front_first}
pub use Rattle.abort_expansion_laws.proofs.OpenedInside.{opened_elsewhere}
pub use Rattle.abort_expansion_laws.proofs.LaterTicks.{woken_related}
pub use Rattle.abort_expansion_laws.proofs.LocalVariables.{added_are_local}
pub use Rattle.abort_expansion_laws.proofs.TickRows.{alone_rows, fork_rows, start_rows, later_ticks_begin}
pub use Rattle.abort_expansion_laws.proofs.ChecksInside.{checks_pass}
pub use Rattle.abort_expansion_laws.proofs.LastStrongFails.{related_then}
pub use Rattle.abort_expansion_laws.proofs.LastStrongFollowed.{last_strong_followed}
pub use Rattle.abort_expansion_laws.proofs.IdleChart.{nobody_guards, idle}
pub use Rattle.abort_expansion_laws.proofs.LastTests.{tests_end, all_passed}
pub use Rattle.abort_expansion_laws.proofs.LeftTests.{all_end}
pub use Rattle.abort_expansion_laws.proofs.RestsAtLast.{rests_at_last}
pub use Rattle.abort_expansion_laws.proofs.StillBegun.{still_begun, charts_stay_begun, starts_begun}
pub use Rattle.abort_expansion_laws.proofs.TicksFinish.{ticks_finish}
pub use Rattle.abort_expansion_laws.proofs.RestedCharts.{rested_over, rested_seen}
pub use Rattle.abort_expansion_laws.proofs.WalkedWhole.{entered}
pub use Rattle.abort_expansion_laws.proofs.OpenedInside.{charts_enter}
pub use Rattle.abort_expansion_laws.proofs.FreshInside.{look, fresh_begins}
pub use Rattle.abort_expansion_laws.proofs.InitialPairs.{both_begin, watcher_stands}
pub use Rattle.abort_expansion_laws.proofs.BeginningSorts.{sort_of}
pub use Rattle.abort_expansion_laws.proofs.JustEntered.{reach}
pub use Rattle.abort_expansion_laws.proofs.EnteredWaits.{entered_waits}
pub use Rattle.abort_expansion_laws.proofs.EnteredMonitors.{entered_watched, entered_flags}
pub use Rattle.abort_expansion_laws.proofs.EnteredOver.{entered_over}
pub use Rattle.abort_expansion_laws.proofs.OpenedRowsHold.{opened_rows}
pub use Rattle.abort_expansion_laws.proofs.ChartsOpened.{charts_opened, charts_settle}
pub use Rattle.abort_expansion_laws.proofs.TopRegions.{top_there}
pub use Rattle.abort_expansion_laws.proofs.ChartEntered.{chart_reach}
pub use Rattle.abort_expansion_laws.proofs.FirstTickWaits.{first_sound, first_pending}
pub use Rattle.abort_expansion_laws.proofs.FirstTickBegins.{first_tick_begins, first_begun}
pub use Rattle.abort_expansion_laws.proofs.TicksBegin.{ticks_begin}
pub use Rattle.abort_expansion_laws.proofs.TargetEntered.{target_sort}
pub use Rattle.abort_expansion_laws.proofs.ArrivedReached.{arrived_lives, arrived_reached}
pub use Rattle.abort_expansion_laws.proofs.ArrivedWaits.{arrived_waits}
pub use Rattle.abort_expansion_laws.proofs.ArrivedPending.{arrived_pending}
pub use Rattle.abort_expansion_laws.proofs.ArrivedSound.{arrived_sound}
pub use Rattle.abort_expansion_laws.proofs.ArrivedStages.{arrived_stages}
pub use Rattle.abort_expansion_laws.proofs.TargetArrives.{target_arrives}
pub use Rattle.abort_expansion_laws.proofs.EntryTestHolds.{entry_followed, entry_taken}
pub use Rattle.abort_expansion_laws.proofs.EntryPassed.{entry_passed}
pub use Rattle.abort_expansion_laws.proofs.OpenForks.{all_over, not_over, fork_of}
pub use Rattle.abort_expansion_laws.proofs.ForkOver.{fork_over}
pub use Rattle.abort_expansion_laws.proofs.StagesInside.{none_comes}
pub use Rattle.abort_expansion_laws.proofs.StagesEntered.{reached_then as entered_stages}
pub use Rattle.abort_expansion_laws.proofs.FinalTarget.{final_sound}
pub use Rattle.abort_expansion_laws.proofs.FinalTargetValues.{flag_stored, counter_stored}
pub use Rattle.abort_expansion_laws.proofs.FinalTargetWaits.{final_waits}
pub use Rattle.abort_expansion_laws.proofs.FinalTargetOver.{final_over}
pub use Rattle.abort_expansion_laws.proofs.FinalTargetPending.{final_pending, final_stages}
pub use Rattle.abort_expansion_laws.proofs.Entering.{enters}
pub use Rattle.abort_expansion_laws.proofs.TargetsEntered.{targets_are_entered}
pub use Rattle.abort_expansion_laws.proofs.MonitorsApart.{monitor_apart}
pub use Rattle.abort_expansion_laws.proofs.DelayedBefore.{late_before, first_prompt}
pub use Rattle.abort_expansion_laws.proofs.OwnTests.{owns_initially, owns_at_start, owns_still}
pub use Rattle.abort_expansion_laws.proofs.TestTargets.{targets_there, ends_untested}
pub use Rattle.abort_expansion_laws.proofs.QuietBegins.{monitors_stay_low, quiet_begins}
pub use Rattle.abort_expansion_laws.proofs.CheckNodes.{wakes_low}
pub use Rattle.abort_expansion_laws.proofs.QuietAtStart.{starts_low}
pub use Rattle.abort_expansion_laws.proofs.TestsSpared.{tests_are_spared}
pub use Rattle.abort_expansion_laws.proofs.FlagStages.{early_fits, outer_fits}
pub use Rattle.abort_expansion_laws.proofs.StepsByCase.{step_followed, each_step_followed}
pub use Rattle.abort_expansion_laws.proofs.StepsReady.{steps_ready, ticks_ready}
pub use Rattle.abort_expansion_laws.proofs.MonitorsReady.{get_ready}
pub use Rattle.abort_expansion_laws.proofs.ChecksNext.{region_next, monitor_next}

pub checked : ◌≡◌ {A = ℕ} 0 0
checked = refl
