-- What is laid out as a lowering of a chart keeps its steps, and its ticks.
use Rattle.std.proofs.Common.{◌≡◌, ℕ, Some, []}
use Rattle.sc_values.specs.Runs.{Ends, IsOver}
use Rattle.sc_graph.specs.Tick.{Inputs}
use Rattle.chart_machine.specs.declared.standing.Configuration.{Configuration}
use Rattle.chart_machine.specs.declared.table.Table.{Table}
use Rattle.chart_machine.specs.Machine.{machine as chart_machine, start as chart_start}
use Rattle.scl.specs.Numbering.{Numbered}
use Rattle.scl.specs.Meaning.{State, step, machine, start}
use Rattle.chart_lowering_laws.specs.Layout.{Layout, Lowers}
use Rattle.chart_lowering_laws.specs.Corresponds.{Corresponds}
use Rattle.chart_lowering_laws.specs.Follows.{Answers, AtEnd, Follows}
use Rattle.scl_graph_laws.specs.Alike.{EndsAlike}
use Rattle.chart_lowering_laws.specs.Keeps.{AtRest, AtRestBack, LeavesJoins, KeepsSteps, KeepsTicks, KeepsRuns}
use Rattle.chart_lowering_laws.specs.WhichShow.{region_shows, thread_shows}
use Rattle.chart_lowering_laws.proofs.Following.{both_answers, follows_ends}
use Rattle.chart_lowering_laws.proofs.Updating.{After}
use Rattle.chart_lowering_laws.proofs.Catching.{no_answer, weaker, weaker_by}
use Rattle.chart_lowering_laws.proofs.ByRegions.{step_followed, step_followed_by, shown_of}
use Rattle.chart_lowering_laws.proofs.Resting.{AllRest, all_rest}
use Rattle.chart_lowering_laws.proofs.Apart.{apart, apart_back}
use Rattle.chart_lowering_laws.proofs.RegionsWait.{Keeps, threads_silent, regions_silent, regions_wait}
use Rattle.chart_lowering_laws.proofs.Quieting.{AllQuiet, all_quiet}
use Rattle.chart_lowering_laws.proofs.ByThreads.{Good, quiet_follows}
use Rattle.chart_lowering_laws.proofs.ByThreads.{shown_of as shown_of_thread}
use Rattle.chart_lowering_laws.proofs.ThreadsWait.{KeepsToo, threads_wait}
use Rattle.chart_lowering_laws.proofs.Ending.{chart_over}
use Rattle.chart_lowering_laws.proofs.Starting.{starts}
use Rattle.chart_lowering_laws.proofs.Beginning.{begins}
use Rattle.chart_lowering_laws.proofs.Reactions.{keeps_reactions}

module _ (k : Table) (p : Numbered) (l : Layout) (low : Lowers k p l) where
  pub program_follows : Follows (chart_machine k) (machine p) region_shows thread_shows (Corresponds k p l) (AtRest k p l)
  program_follows = record {
    step = λ c d s t corr steps. weaker (machine p) thread_shows s (After k p l c t d) (Corresponds k p l d) (shown_of k p l low c t) (λ f after. after.0)
        (step_followed k p l low c s corr t d steps);
    over = λ c s corr over.
        weaker (machine p) thread_shows s (AllRest k p l low c over) (AtEnd (chart_machine k) (machine p) (AtRest k p l) c) []
        (λ f rest. (rest.idle, record { corresponds = rest.corresponds; over = over; over_too = rest.idle }))
        (all_rest k p l low c over s corr);
    apart = apart k p l low;
  }

  -- each end of the chart's tick is one of the program's
  pub chart_ends : (inputs : Inputs) (c : Configuration) (s : State) (d : Configuration) → AtRest k p l c s →
      Ends (chart_machine k) (chart_start k inputs c) d →
      EndsAlike (machine p) Configuration (AtRest k p l) d (start p inputs s)
  chart_ends inputs c s d rest ends =
      let begun : Corresponds k p l (chart_start k inputs c) (start p inputs s) = starts k p l low inputs c s rest in
      follows_ends (chart_machine k) (machine p) region_shows thread_shows (Corresponds k p l) (AtRest k p l) (Keeps k p l low) program_follows
      (threads_silent p) (regions_wait k p l low)
      (chart_start k inputs c) d (start p inputs s) begun (start p inputs s, begun) ends

  pub chart_follows : Follows (machine p) (chart_machine k) thread_shows region_shows (λ s c. Corresponds k p l c s) (AtRestBack k p l)
  chart_follows = record {
    step = λ s f c t corr steps. chart_step s f c t corr steps;
    over = λ s c corr over.
        let done : IsOver (chart_machine k) c = chart_over k p l low c s corr over in
        no_answer (chart_machine k) region_shows c (AtEnd (machine p) (chart_machine k) (AtRestBack k p l) s)
        (done, record { corresponds = corr; over = done; over_too = over });
    apart = apart_back k p l low;
  }
    where
      chart_step : (s f : State) (c : Configuration) (t : ℕ) → Corresponds k p l c s → step p t s ≡ Some f → Answers (chart_machine k) region_shows c
          (λ d. Corresponds k p l d f) (shown_of_thread k p l low s t)
      chart_step s f c t corr steps =
          let calm : Answers (chart_machine k) region_shows c (AllQuiet k p l low s c) [] = all_quiet k p l low s c corr in
          both_answers (chart_machine k) region_shows c (AllQuiet k p l low s c) (λ d. Corresponds k p l d f) [] (shown_of_thread k p l low s t) calm
          (weaker (chart_machine k) region_shows calm.end (Good k p l low s calm.end calm.good.corresponds calm.good.all t f steps) (λ d. Corresponds k p l d f)
          (shown_of_thread k p l low s t) (λ d good. good.0)
          (quiet_follows k p l low s calm.end calm.good.corresponds calm.good.all t f steps))

  -- each end of the program's tick is one of the chart's
  pub text_ends : (inputs : Inputs) (c : Configuration) (s e : State) → AtRest k p l c s → Ends (machine p) (start p inputs s) e →
      EndsAlike (chart_machine k) State (AtRestBack k p l) e (chart_start k inputs c)
  text_ends inputs c s e rest ends =
      let begun : Corresponds k p l (chart_start k inputs c) (start p inputs s) = starts k p l low inputs c s rest in
      follows_ends (machine p) (chart_machine k) thread_shows region_shows (λ s c. Corresponds k p l c s) (AtRestBack k p l) (KeepsToo k p l low) chart_follows
      (regions_silent k) (threads_wait k p l low)
      (start p inputs s) e (chart_start k inputs c) begun (chart_start k inputs c, begun) ends

  keeps_steps : KeepsSteps k p l
  keeps_steps = record {
    begins = begins k p l low;
    starts = starts k p l low;
    silent = (regions_silent k, threads_silent p);
    there = program_follows;
    joins = λ c d s t corr steps. weaker_by (machine p) thread_shows s (LeavesJoins t) (After k p l c t d) (Corresponds k p l d) (shown_of k p l low c t)
        (λ f after. after.0) (step_followed_by k p l low c s corr t d steps);
    back = chart_follows;
  }

  keeps_ticks : KeepsTicks k p l
  keeps_ticks = record { begins = begins k p l low; ends = chart_ends; ends_back = text_ends }

  pub keeps_runs : KeepsRuns k p l
  keeps_runs = record { steps = keeps_steps; ticks = keeps_ticks; reactions = keeps_reactions k p l keeps_ticks }
