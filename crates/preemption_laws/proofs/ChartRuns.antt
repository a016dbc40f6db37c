-- Within a tick each run of a chart has one of its core chart that is no shorter. So each tick of it comes to an end; and where it does, the core chart
-- rests alike, if maybe not by an admissible run.
use Rattle.std.proofs.Common.{◌≡◌, ℕ, ◌+◌, ◌≤◌, inl, inr, Some, List, []}
use Rattle.std.proofs.Common.{◌∷◌, ◌++◌, length, slice_get, refl, sym, ap, subst, ◌∙◌, arith}
use Rattle.std.proofs.lemmas.List.{length-map, length-append}
use Rattle.std.proofs.lemmas.Option.{same_Some}
use Rattle.sc_values.specs.Operator.{kind_of}
use Rattle.sc_values.specs.Runs.{replay, Completes, Ends}
use Rattle.sc_graph.specs.declared.control.Control.{Control}
use Rattle.sc_graph.specs.Tick.{Inputs, AreAccepted, values_at_start}
use Rattle.sc_graph.specs.Tick as graph_tick
use Rattle.core_charts.specs.declared.features.Features.TheVariants as features
use Rattle.core_charts.specs.Chart.{Chart}
use Rattle.core_charts.specs.Rules.{IsChart}
use Rattle.chart_machine.specs.declared.standing.Configuration.{Configuration}
use Rattle.chart_machine.specs.declared.table.Table.{Table}
use Rattle.chart_machine.specs.Table.{table}
use Rattle.chart_machine.specs.Machine.{machine, initial, start}
use Rattle.scl.specs.Numbering.{numbered}
use Rattle.scl_graph.specs.Graph.{program_of}
use Rattle.abort_expansion.specs.Expansion.{expanded}
use Rattle.scl_graph_laws.proofs.RunsKept.{program_keeps_runs}
use Rattle.chart_machine_laws.specs.Progress.{KeepKinds, IsReached, begun}
use Rattle.chart_machine_laws.specs.Progress.{first as reached_first}
use Rattle.chart_lowering_laws.specs.Laws.{IsLowering}
use Rattle.chart_lowering_laws.proofs.Following.{replay_append}
use Rattle.compiled_charts_laws.proofs.TickStarts as tick_starts
use Rattle.abort_expansion_laws.specs.CoreRows.{Images}
use Rattle.abort_expansion_laws.specs.Preemption.{chart_machine, HasImage}
use Rattle.abort_expansion_laws.specs.Related.{Related}
use Rattle.abort_expansion_laws.specs.Segments.{threads}
use Rattle.abort_expansion_laws.specs.Stages.{Entry, Correspondence}
use Rattle.abort_expansion_laws.specs.Ticks.{Reaction, AllOf}
use Rattle.abort_expansion_laws.proofs.Owed.{Started}
use Rattle.abort_expansion_laws.proofs.OwnTests.{OwnTests}
use Rattle.abort_expansion_laws.proofs.BetweenTicks.{RestsAlike, started}
use Rattle.abort_expansion_laws.proofs.OwnTestsKept.{own_tests_kept}
use Rattle.abort_expansion_laws.proofs.FlagStages.{usual}
use Rattle.abort_expansion_laws.proofs.RestedCharts.{rested_over}
use Rattle.abort_expansion_laws.proofs.StillBegun.{HasBegun, charts_stay_begun}
use Rattle.abort_expansion_laws.proofs.TicksOfCharts as ticks
use Rattle.abort_expansion_laws.proofs.TicksFinish.{ticks_finish}
use Rattle.abort_expansion_laws.proofs.ToldSteps.{told_silent, ToldHere}
use Rattle.abort_expansion_laws.proofs.TestsSpared.{is_valid, takes}
use Rattle.preemption_laws.specs.Bounded.{last_of, GoesOn, EndsEachTick, TicksEnd}
use Rattle.preemption_laws.proofs.ByRank.{Begins, begins}
use Rattle.preemption_laws.proofs.CoreRuns.{Within, within_on, most_silent, longest, tick_within}
use Rattle.preemption_laws.proofs.CoreCompletes.{completes_to}
use Rattle.preemption_laws.proofs.RunsComplete.{start_value, kind_at, in_front, reached_on, Completed, completed}
use Rattle.preemption_laws.proofs.StepRuns.{replay_behind, StepRun, step_run, StartRun, start_run}

module _ (c : Chart) (rules : IsChart features.Extended c) (core_rules : IsChart features.Core (expanded c)) where
  abbrev k : Table
  k = table c

  abbrev core : Table
  core = table (expanded c)

  abbrev i : Images
  i = ticks.i c rules core_rules

  abbrev corr : Correspondence
  corr = ticks.corr c rules core_rules

  abbrev Told : Configuration → Entry → Type 0
  Told = ToldHere c rules core_rules

  -- a run of the core chart that is no shorter than this
  record CoreRuns (d : Configuration) (least : ℕ) : Type 0 where
    run : List ℕ
    end : Configuration
    runs : replay (machine core) run d ≡ Some end
    long : least ≤ length run

  follows_run : (run : List ℕ) (now last d : Configuration) → Related k core i now d → OwnTests k now → replay (machine k) run now ≡ Some last →
      CoreRuns d (length run)
  follows_run [] now last d related owns runs = record { run = []; end = d; runs = refl; long = omega arith }
  follows_run (r ∷ run) now last d related owns runs =
      let b : Begins (machine k) r run now last = begins (machine k) r run now last runs in
      let one : StepRun c rules core_rules now d r b.next = step_run c rules core_rules now d related owns r b.next b.steps in
      let rest : CoreRuns one.last (length run) =
      follows_run run b.next last one.last one.ready.related ((own_tests_kept c rules core_rules).steps now b.next r owns b.steps) b.rest in
      let some = one.some in
      let long = rest.long in
      let size = length-append one.run rest.run in
      record {
        run = one.run ++ rest.run;
        end = rest.end;
        runs = replay_append (machine core) one.run rest.run d one.last one.runs ∙ rest.runs;
        long = omega (some, long, size, arith);
      }

  -- from the start of a tick
  tick_runs : (run : List ℕ) (now last d : Configuration) → Started k core i now d → OwnTests k now → replay (machine k) run now ≡ Some last →
      CoreRuns d (length run)
  tick_runs run now last d started owns runs =
      let first : StartRun c rules core_rules now d = start_run c rules core_rules now d started in
      let rest : CoreRuns first.last (length run) = follows_run run now last first.last first.ready.related owns runs in
      let long = rest.long in
      let size = length-append first.run rest.run in
      record {
        run = first.run ++ rest.run;
        end = rest.end;
        runs = replay_append (machine core) first.run rest.run d first.last first.runs ∙ rest.runs;
        long = omega (long, size, arith);
      }

  -- ---- to the end of a tick

  -- where the core chart comes to, and what holds there of both
  record Comes (last d : Configuration) : Type 0 where
    run : List ℕ
    end : Configuration
    runs : replay (machine core) run d ≡ Some end
    related : Related k core i last end
    has_begun : HasBegun k last
    owns : OwnTests k last

  comes_along : (run : List ℕ) (now last d : Configuration) → Related k core i now d → HasBegun k now → OwnTests k now →
      replay (machine k) run now ≡ Some last → Comes last d
  comes_along [] now last d related has_begun owns runs =
      let same : now ≡ last = same_Some now last runs in
      record {
        run = [];
        end = d;
        runs = refl;
        related = subst (λ z. Related k core i z d) same related;
        has_begun = subst (HasBegun k) same has_begun;
        owns = subst (OwnTests k) same owns;
      }
  comes_along (r ∷ run) now last d related has_begun owns runs =
      let b : Begins (machine k) r run now last = begins (machine k) r run now last runs in
      let one : StepRun c rules core_rules now d r b.next = step_run c rules core_rules now d related owns r b.next b.steps in
      let rest : Comes last one.last =
      comes_along run b.next last one.last one.ready.related (charts_stay_begun features.Extended c rules now b.next r b.steps has_begun)
      ((own_tests_kept c rules core_rules).steps now b.next r owns b.steps) b.rest in
      record {
        run = one.run ++ rest.run;
        end = rest.end;
        runs = replay_append (machine core) one.run rest.run d one.last one.runs ∙ rest.runs;
        related = rest.related;
        has_begun = rest.has_begun;
        owns = rest.owns;
      }

  -- the core chart completes the tick too, and rests alike
  record Rested (last d : Configuration) : Type 0 where
    run : List ℕ
    end : Configuration
    completes : Completes (machine core) run d end
    rested : ticks.HasRested c rules core_rules last end
    owns : OwnTests k last

  comes_to_rest : (run : List ℕ) (now last d : Configuration) → Started k core i now d → OwnTests k now → Completes (machine k) run now last →
      Rested last d
  comes_to_rest run now last d started owns completes =
      let first : StartRun c rules core_rules now d = start_run c rules core_rules now d started in
      let there : Comes last first.last =
      comes_along run now last first.last first.ready.related (ticks.started_begun c rules core_rules now d started) owns completes.runs in
      let ends = ticks_finish c rules core_rules (usual c rules core_rules) Told (told_silent k core i) last there.end there.related completes.over
      there.has_begun in
      record {
        run = first.run ++ (there.run ++ (threads corr ends.log ++ []));
        end = ends.last;
        completes =
            record {
              runs =
                  replay_append (machine core) first.run (there.run ++ (threads corr ends.log ++ [])) d first.last first.runs
                  ∙ (replay_append (machine core) there.run (threads corr ends.log ++ []) first.last there.end there.runs
                  ∙ replay_behind (machine core) corr Told ends.log there.end ends.last [] ends.follows);
              over = rested_over c rules core_rules last ends.last ends.reaches completes.over;
            };
        rested = record { rests = ends.reaches; over = completes.over };
        owns = there.owns;
      }

  -- ---- between two ticks

  module _ (image : HasImage c) (low : IsLowering (expanded c) image.scl) where
    -- the graph rests where the core chart does
    abbrev pub GraphRests : Configuration → Type 0
    GraphRests d = (m : Control) × tick_starts.Between (expanded c) image.scl image.tables low (is_valid c image) d m

    pub record BothRest (before d : Configuration) : Type 0 where
      pub alike : RestsAlike c rules core_rules before d
      pub owns : OwnTests k before
      pub reached : IsReached k before
      pub graph : GraphRests d

    begin_resting : BothRest (initial k) (initial core)
    begin_resting =
        record {
          alike = inl (refl, refl);
          owns = (own_tests_kept c rules core_rules).initially;
          reached = reached_first;
          graph = (
            graph_tick.initial (program_of (numbered image.scl)),
            tick_starts.begins (expanded c) image.scl image.tables low (is_valid c image),
          );
        }

    keeps_kinds : (inputs : Inputs) (before d : Configuration) → AreAccepted image.program inputs → BothRest before d → KeepKinds k.variables inputs
    keeps_kinds inputs before d accepted both j x v is input gives =
        let x_rests = both.graph.1 in
        let nodes = program_keeps_runs image.scl low.rules low.no_loop in
        let begun_alike = nodes.starts inputs x_rests.state both.graph.0 (takes c image inputs accepted) x_rests.corresponds in
        let there : slice_get image.scl.variables j ≡ Some x =
        ap (λ xs. slice_get xs j) (low.variables ∙ (ticks.rows c rules core_rules).variables)
        ∙ in_front k.variables (ticks.rows c rules core_rules).added j x is in
        let sizes : length image.scl.variables ≡ length x_rests.state.variables =
        sym (length-map image.scl.variables (λ y. y.kind)) ∙ (ap length (sym x_rests.corresponds.kinds) ∙ length-map x_rests.state.variables kind_of) in
        kind_at (values_at_start inputs image.scl.variables x_rests.state.variables) image.scl.variables j v x begun_alike.kinds
        (start_value inputs image.scl.variables x_rests.state.variables j x v sizes there input gives) there

    start_reached : (inputs : Inputs) (before d : Configuration) → AreAccepted image.program inputs → BothRest before d → IsReached k (start k inputs before)
    start_reached inputs before d accepted both = begun before inputs both.reached (keeps_kinds inputs before d accepted both)

    after_tick : (inputs : Inputs) (before last d : Configuration) → AreAccepted image.program inputs → BothRest before d →
        Ends (machine k) (start k inputs before) last → (e : Configuration) × BothRest last e
    after_tick inputs before last d accepted both ends =
        let there : Rested last (start core inputs d) =
        comes_to_rest ends.run (start k inputs before) last (start core inputs d) (started c rules core_rules inputs before d both.alike)
        ((own_tests_kept c rules core_rules).starts inputs before both.owns) ends.complete in (
          there.end,
          record {
            alike = inr there.rested;
            owns = there.owns;
            reached = reached_on features.Extended c rules ends.run (start k inputs before) last (start_reached inputs before d accepted both)
                ends.complete.runs;
            graph =
                completes_to (expanded c) image.scl image.tables low (is_valid c image) inputs (takes c image inputs accepted) d both.graph.0 both.graph.1
                there.run there.end there.completes;
          },
        )

    after_ticks : (inputs : List Inputs) (ends : List Configuration) (before d : Configuration) → BothRest before d → AllOf (AreAccepted image.program) inputs →
        Reaction (chart_machine c) inputs before ends → (e : Configuration) × BothRest (last_of before ends) e
    after_ticks [] [] before d both accepted reaction = (d, both)
    after_ticks (g ∷ inputs) (last ∷ ends) before d both accepted reaction =
        let one = after_tick g before last d accepted.0 both reaction.0 in after_ticks inputs ends last one.0 one.1 accepted.1 reaction.1
    after_ticks [] (last ∷ ends) before d both accepted reaction = absurd reaction
    after_ticks (g ∷ inputs) [] before d both accepted reaction = absurd reaction

    -- ---- no run of a tick is longer than this

    abbrev pub most_steps : ℕ
    most_steps = most_silent (expanded c) image.scl + longest (expanded c) image.scl image.tables.budget

    module _ (inputs : List Inputs) (ends : List Configuration) (next : Inputs) (accepted : AllOf (AreAccepted image.program) inputs)
        (takes_next : AreAccepted image.program next) (reaction : Reaction (chart_machine c) inputs (initial k) ends) where
      abbrev pub before : Configuration
      before = last_of (initial k) ends

      pub resting : (d : Configuration) × BothRest before d
      resting = after_ticks inputs ends (initial k) (initial core) begin_resting accepted reaction

      pub tick_bounded : Within (machine k) most_steps (start k next before)
      tick_bounded run d runs =
          let other : CoreRuns (start core next resting.0) (length run) =
          tick_runs run (start k next before) d (start core next resting.0) (started c rules core_rules next before resting.0 resting.1.alike)
          ((own_tests_kept c rules core_rules).starts next before resting.1.owns) runs in
          let few = tick_within (expanded c) image.scl low image.tables (is_valid c image) next (takes c image next takes_next) resting.0 resting.1.graph.0
          resting.1.graph.1 other.run other.end other.runs in
          let long = other.long in omega (few, long, arith)

      pub tick_reached : IsReached k (start k next before)
      tick_reached = start_reached next before resting.0 takes_next resting.1

      tick_goes_on : (run : List ℕ) (d : Configuration) → replay (machine k) run (start k next before) ≡ Some d → GoesOn (chart_machine c) d
      tick_goes_on run d runs =
          let rest : Completed features.Extended c rules d =
          completed features.Extended c rules most_steps d
          (reached_on features.Extended c rules run (start k next before) d tick_reached runs)
          (within_on (machine k) run most_steps (start k next before) d runs tick_bounded) in
          record { run = rest.run; end = rest.end; completes = rest.completes }

    pub each_tick_ends : EndsEachTick (chart_machine c) (AreAccepted image.program)
    each_tick_ends = record { most = most_steps; bounded = tick_bounded; goes_on = tick_goes_on }

pub ticks_end : TicksEnd
ticks_end c rules image low = each_tick_ends c rules low.core image low
