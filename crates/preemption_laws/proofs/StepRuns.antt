-- Each step of a chart, and each start of a tick, has a run of its core chart that stands for it, at the end of which all monitors have looked. Where a
-- region tests an opened superstate, its thread steps there, unless nobody inside has anything left to do behind it.
use Rattle.std.proofs.Common.{◌≡◌, ℕ, ◌≤◌, Some, option_and_then, List, [], ◌∷◌, ◌++◌, length, Contains, refl, sym, ap, subst, ◌∙◌, arith}
use Rattle.std.specs.List.{list_any}
use Rattle.std.proofs.lemmas.List.Elements.{Contains-append_left}
use Rattle.sc_values.specs.Runs.{Machine, replay, Act, act_of}
use Rattle.core_charts.specs.declared.features.Features.TheVariants as features
use Rattle.core_charts.specs.declared.region.Transition.{Transition}
use Rattle.core_charts.specs.Aborts.{has_aborts}
use Rattle.core_charts.specs.Chart.{Chart}
use Rattle.core_charts.specs.Rules.{IsChart}
use Rattle.core_charts.specs.Tests.{is_weak}
use Rattle.chart_machine.specs.declared.standing.Standing.TheVariants as at
use Rattle.chart_machine.specs.declared.standing.Configuration.{Configuration}
use Rattle.chart_machine.specs.declared.table.Table.{Table}
use Rattle.chart_machine.specs.Machine.{machine}
use Rattle.chart_machine.specs.Steps.{step}
use Rattle.chart_machine.specs.Table.{table}
use Rattle.chart_machine.specs.Turns.{standing_of}
use Rattle.abort_expansion.specs.Expansion.{expanded}
use Rattle.chart_machine_laws.specs.Tree.{IsThere, around}
use Rattle.abort_expansion_laws.specs.CoreRows.{own, Images, CoreRows}
use Rattle.abort_expansion_laws.specs.Related.{Related}
use Rattle.abort_expansion_laws.specs.Segments.{threads, Follows}
use Rattle.abort_expansion_laws.specs.StageReached.{some_work, stage_of, Stage}
use Rattle.abort_expansion_laws.specs.Stages.{Entry, Correspondence, chart_log}
use Rattle.abort_expansion_laws.proofs.FlagStages.{early_stages}
use Rattle.abort_expansion_laws.proofs.KnownVariables.{present_there}
use Rattle.abort_expansion_laws.proofs.MonitorsReady.{AllReady}
use Rattle.abort_expansion_laws.proofs.Owed.{Started}
use Rattle.abort_expansion_laws.proofs.OwnTests.{OwnTests}
use Rattle.abort_expansion_laws.proofs.ToldSteps.{ToldHere}
use Rattle.abort_expansion_laws.proofs.StageReached.{one_at_least}
use Rattle.abort_expansion_laws.proofs.StepsReady.{StepReady, steps_ready, ticks_ready}
use Rattle.abort_expansion_laws.proofs.TicksOfCharts as ticks
use Rattle.preemption_laws.proofs.OwnSteps.{touched, touched_climbs, has_own_step}

-- ---- a part of the core's run, and what comes behind it

module _ (n : Machine) (k : Correspondence) (Told : n.Configuration → Entry → Type 0) where
  pub replay_behind : (log : List Entry) (d e : n.Configuration) (more : List ℕ) → Follows n k Told d log e →
      replay n (threads k log ++ more) d ≡ replay n more e
  replay_behind [] d e more follows = ap (replay n more) follows
  replay_behind (y ∷ log) d e more follows =
      ap (option_and_then (replay n (threads k log ++ more))) follows.2.1 ∙ replay_behind log follows.2.0 e more follows.2.2

  -- it has a step
  some_step : (log : List Entry) (act : Act) (more : List ℕ) → chart_log log ≡ act ∷ [] → 1 ≤ length (threads k log ++ more)
  some_step [] act more charted = absurd cc
  some_step (y ∷ log) act more charted = omega arith

module _ (c : Chart) (rules : IsChart features.Extended c) (core_rules : IsChart features.Core (expanded c)) where
  abbrev k : Table
  k = table c

  abbrev core : Table
  core = table (expanded c)

  abbrev i : Images
  i = ticks.i c rules core_rules

  abbrev rows : CoreRows k core i
  rows = ticks.rows c rules core_rules

  abbrev corr : Correspondence
  corr = ticks.corr c rules core_rules

  abbrev Told : Configuration → Entry → Type 0
  Told = ToldHere c rules core_rules

  pub record StepRun (now d : Configuration) (r : ℕ) (next : Configuration) : Type 0 where
    pub run : List ℕ
    pub last : Configuration
    pub runs : replay (machine core) run d ≡ Some last
    pub some : 1 ≤ length run
    pub own : (s : ℕ) (t : Transition) (tests : List Transition) → standing_of now r ≡ at.Within s (t ∷ tests) →
        stage_of k next (standing_of next r) ≤ 1 → Contains run (i.thread_of r)
    pub ready : AllReady k core i next last

  module _ (now d : Configuration) (related : Related k core i now d) (owns : OwnTests k now) (r : ℕ) (next : Configuration)
      (goes : step k r now ≡ Some next) where
    both : StepReady c rules core_rules now d r next
    both = steps_ready c rules core_rules now d related owns r next goes

    -- weak flags around count as written early
    abbrev at_stages : Correspondence
    at_stages = ticks.corr_at c rules core_rules (early_stages c rules core_rules (around k r))

    in_first : (s : ℕ) (t : Transition) (tests : List Transition) → standing_of now r ≡ at.Within s (t ∷ tests) →
        stage_of k next (standing_of next r) ≤ 1 → Contains (threads at_stages both.step.log) (i.thread_of r)
    in_first s t tests was low_stage =
        has_own_step at_stages r (act_of (machine k) now r) refl both.step.log (Stage k i.thread_of now d) stage_now
        (both.step.climbs (touched at_stages r) (touched_climbs at_stages r (Stage k i.thread_of next both.step.last) stage_next))
        both.step.fits both.step.charted
      where
        there : IsThere k r
        there =
            present_there k core i now d related r
            (λ out. let wrong : at.Outside ≡ at.Within s (t ∷ tests) = sym out ∙ was in absurd cc)

        stage_now : Stage k i.thread_of now d (i.thread_of r) 1
        stage_now =
            record {
              regions = λ u there same.
                  subst (λ v. 1 ≤ stage_of k now (standing_of now v)) (rows.region_once r u same)
                  (subst (λ x. 1 ≤ stage_of k now x) (sym was)
                  (one_at_least (has_aborts (own k s)) (some_work k now s) (list_any (λ z. is_weak z.kind) (t ∷ tests))));
              chart = λ same. omega arith;
            }

        stage_next : (n : ℕ) → Stage k i.thread_of next both.step.last (i.thread_of r) n → n ≤ 1
        stage_next n reached = let most = reached.regions r there refl in omega (most, low_stage, arith)

    pub step_run : StepRun now d r next
    step_run =
        record {
          run = threads at_stages both.step.log ++ (threads corr both.looks.log ++ []);
          last = both.looks.last;
          runs =
              replay_behind (machine core) at_stages Told both.step.log d both.step.last (threads corr both.looks.log ++ []) both.step.follows
              ∙ replay_behind (machine core) corr Told both.looks.log both.step.last both.looks.last [] both.looks.follows;
          some =
              some_step (machine core) at_stages Told both.step.log (act_of (machine k) now r) (threads corr both.looks.log ++ [])
              both.step.charted;
          own = λ s t tests was low_stage.
              Contains-append_left (threads at_stages both.step.log) (threads corr both.looks.log ++ []) (i.thread_of r)
              (in_first s t tests was low_stage);
          ready = both.looks.reaches;
        }

  -- ---- as a tick starts

  pub record StartRun (now d : Configuration) : Type 0 where
    pub run : List ℕ
    pub last : Configuration
    pub runs : replay (machine core) run d ≡ Some last
    pub ready : AllReady k core i now last

  pub start_run : (now d : Configuration) → Started k core i now d → StartRun now d
  start_run now d started =
      let first = ticks_ready c rules core_rules now d started in
      record {
        run = threads corr first.log ++ [];
        last = first.last;
        runs = replay_behind (machine core) corr Told first.log d first.last [] first.follows;
        ready = first.reaches;
      }
