-- The law of weak aborts inside of weak ones, from its parts: tick for tick the core chart ends where the chart does.
use Rattle.std.proofs.Common.{◌≡◌, inr, Some, List, [], ◌∷◌, length, slice_get, sym, ap, subst, ◌∙◌}
use Rattle.std.proofs.lemmas.List.{length-map}
use Rattle.sc_values.specs.Operator.{kind_of}
use Rattle.sc_values.specs.Runs.{Ends}
use Rattle.sc_graph.specs.Tick.{Inputs, AreAccepted, values_at_start}
use Rattle.sc_graph.specs.Tick as graph_tick
use Rattle.core_charts.specs.declared.features.Features.TheVariants as features
use Rattle.core_charts.specs.Chart.{Chart}
use Rattle.core_charts.specs.Rules.{IsChart}
use Rattle.chart_machine.specs.declared.standing.Configuration.{Configuration}
use Rattle.chart_machine.specs.declared.table.Table.{Table}
use Rattle.chart_machine.specs.Machine.{machine, initial, start}
use Rattle.chart_machine_laws.specs.Progress.{KeepKinds, IsReached, begun as reached_begun}
use Rattle.chart_machine_laws.specs.Progress.{first as reached_first}
use Rattle.chart_machine_laws.specs.Tree.{around}
use Rattle.scl_graph_laws.proofs.RunsKept.{program_keeps_runs}
use Rattle.abort_expansion.specs.Expansion.{expanded}
use Rattle.chart_lowering_laws.specs.Laws.{IsLowering}
use Rattle.compiled_charts_laws.proofs.TickStarts as tick_starts
use Rattle.abort_expansion_laws.specs.Preemption.{chart_machine, SeenAlike, HasImage}
use Rattle.abort_expansion_laws.specs.Ticks.{Reaction, AllOf, EachAlike, Keeps}
use Rattle.abort_expansion_laws.proofs.ListsOfTicks.{KeepsTicks, ticks_kept}
use Rattle.abort_expansion_laws.proofs.OwnTests.{OwnTests}
use Rattle.abort_expansion_laws.proofs.BetweenTicks.{begin_resting, seen}
use Rattle.abort_expansion_laws.proofs.OwnTestsKept.{own_tests_kept}
use Rattle.abort_expansion_laws.proofs.RestedCharts.{rested_over}
use Rattle.abort_expansion_laws.proofs.TicksOfCharts as ticks
use Rattle.abort_expansion_laws.proofs.ToldSteps.{ToldHere}
use Rattle.abort_expansion_laws.proofs.TestsSpared.{takes}
use Rattle.preemption_laws.specs.Reacts.{ReactsInOneWay}
use Rattle.preemption_laws.specs.StepNodes.{Alike}
use Rattle.preemption_laws.proofs.ByRank.{begins, holds_along}
use Rattle.preemption_laws.proofs.OneEnd.{one_end}
use Rattle.preemption_laws.proofs.RanksOfCharts.{charts_react}
use Rattle.preemption_laws.proofs.RunsComplete.{start_value, kind_at, reached_on}
use Rattle.preemption_laws.proofs.SitsAtStart.{Tops}
use Rattle.preemption_laws.proofs.ChartWaits.{follows}
use Rattle.preemption_laws.proofs.CoreEnds.{core_has_end}
use Rattle.preemption_laws.proofs.CoreGround.{core_ground, core_tops}
use Rattle.preemption_laws.proofs.CoreTries.{start_tries}
use Rattle.preemption_laws.proofs.EndsWait.{core_waits}
use Rattle.preemption_laws.proofs.Ground.{Ground}
use Rattle.preemption_laws.proofs.KnownReads.{CoreReads, IsKnown, known_still, known_initially, known_at_start}
use Rattle.preemption_laws.proofs.Parts as parts
use Rattle.preemption_laws.proofs.Parts.{RestBoth}
use Rattle.preemption_laws.proofs.SameRest.{same_rest}
use Rattle.preemption_laws.proofs.SoundCores.{IsSound, not_guarded}
use Rattle.preemption_laws.proofs.StillTurns.{still_sound}
use Rattle.preemption_laws.proofs.WaitRanks.{RanksFrom}
use Rattle.preemption_laws.proofs.WaitStarts.{ranks_first}
use Rattle.preemption_laws.proofs.WaitsApart.{waits_apart}

module _ (c : Chart) (rules : IsChart features.Extended c) (image : HasImage c) (low : IsLowering (expanded c) image.scl)
    (given : CoreReads c rules low.core) where
  abbrev k : Table
  k = parts.k c rules image low

  abbrev core : Table
  core = parts.core c rules image low

  abbrev settled : Configuration → Configuration
  settled = parts.settled c rules image low

  abbrev ground : Ground core
  ground = core_ground c rules low.core

  abbrev tops : Tops core
  tops = core_tops c rules low.core

  abbrev Known : Configuration → Type 0
  Known d = IsKnown c rules low.core given d

  abbrev Rests : Configuration → Configuration → Type 0
  Rests = RestBoth c rules image low given

  -- ---- a tick

  module _ (inputs : Inputs) (before d : Configuration) (accepted : AreAccepted image.program inputs) (rests : Rests before d) where
    abbrev begun : Configuration
    begun = start core inputs d

    accepted_too : AreAccepted (parts.G c rules image low) inputs
    accepted_too = takes c image inputs accepted

    alike : Alike (expanded c) image.scl begun (graph_tick.start (parts.G c rules image low) inputs rests.graph.0)
    alike = tick_starts.starts_alike (expanded c) image.scl image.tables low (parts.valid c rules image low) inputs accepted_too d rests.graph.0 rests.graph.1

    sound_there : Known begun
    sound_there = known_at_start c rules low.core given inputs d rests.sound

    -- what is given for an input is of its kind
    keeps_kinds : KeepKinds core.variables inputs
    keeps_kinds j x v is input gives =
        let at_rest = rests.graph.1 in
        let nodes = program_keeps_runs image.scl low.rules low.no_loop in
        let begun_alike = nodes.starts inputs at_rest.state rests.graph.0 accepted_too at_rest.corresponds in
        let there : slice_get image.scl.variables j ≡ Some x = ap (λ xs. slice_get xs j) low.variables ∙ is in
        let sizes : length image.scl.variables ≡ length at_rest.state.variables =
        sym (length-map image.scl.variables (λ y. y.kind))
        ∙ (ap length (sym at_rest.corresponds.kinds) ∙ length-map at_rest.state.variables kind_of) in
        kind_at (values_at_start inputs image.scl.variables at_rest.state.variables) image.scl.variables j v x begun_alike.kinds
        (start_value inputs image.scl.variables at_rest.state.variables j x v sizes there input gives) there

    reached_there : IsReached core begun
    reached_there = reached_begun d inputs rests.reached keeps_kinds

    has_end : (e : Configuration) × Ends (machine core) begun e
    has_end =
        core_has_end (expanded c) image.scl image.tables low (parts.valid c rules image low) inputs accepted_too d rests.graph.0 rests.graph.1

    ranks : RanksFrom (parts.waits c rules image low) (settled begun)
    ranks =
        ranks_first (expanded c) low.core image.scl image.tables low (parts.valid c rules image low) (parts.looks c rules image low) given.known ground
        begun (graph_tick.start (parts.G c rules image low) inputs rests.graph.0) alike sound_there.is_core reached_there
        (start_tries core (parts.looks c rules image low) given.known ground tops inputs d) inputs

    -- whichever ends the chart and the core chart have of it, they rest alike there
    module _ (last e : Configuration) (ends : Ends (machine k) (start k inputs before) last) (core_ends : Ends (machine core) begun e) where
      followed : (x : Configuration) × Ends (parts.waits c rules image low) (settled begun) (settled x) × ticks.HasRested c rules low.core last x
      followed = follows c rules image low given inputs before d accepted rests last ends

      sound_at_end : Known e
      sound_at_end =
          holds_along (machine core) Known (known_still c rules low.core given) core_ends.run begun e sound_there core_ends.complete.runs

      one_there : settled followed.0 ≡ settled e
      one_there =
          one_end (parts.waits c rules image low) (IsSound core (parts.looks c rules image low) given.known ground)
          (waits_apart core (parts.looks c rules image low) given.known ground) ranks.ranked (settled begun) ranks.known
          (still_sound core (parts.looks c rules image low) given.known ground begun sound_there.is_core) ranks.holds (settled followed.0) (settled e)
          followed.1
          (core_waits core (parts.looks c rules image low) given.known ground begun e sound_there.is_core
          (start_tries core (parts.looks c rules image low) given.known ground tops inputs d) core_ends)

      same : followed.0 ≡ e
      same =
          same_rest core (parts.looks c rules image low) followed.0 e one_there
          (λ q. not_guarded core (parts.looks c rules image low) given.known ground e sound_at_end.is_core.forms (around core q))
          (rested_over c rules low.core last followed.0 followed.2.rests followed.2.over) core_ends.complete.over

      rest_there : Rests last e
      rest_there =
          record {
            both =
                record {
                  alike = inr (subst (ticks.HasRested c rules low.core last) same followed.2);
                  rests = (parts.spares c rules image low).goes_on inputs d e accepted rests.both.rests core_ends;
                  holds =
                      holds_along (machine k) (OwnTests k) (own_tests_kept c rules low.core).steps ends.run (start k inputs before) last
                      ((own_tests_kept c rules low.core).starts inputs before rests.both.holds)
                      ends.complete.runs;
                };
            graph =
                tick_starts.goes_to (expanded c) image.scl image.tables low (parts.valid c rules image low) inputs accepted_too d rests.graph.0
                rests.graph.1 e core_ends;
            sound = sound_at_end;
            reached = reached_on features.Core (expanded c) low.core core_ends.run begun e reached_there core_ends.complete.runs;
          }

  -- ---- lists of ticks

  first : Rests (initial k) (initial core)
  first =
      record {
        both =
            begin_resting c rules low.core (AreAccepted image.program) (ToldHere c rules low.core) (parts.spares c rules image low) (OwnTests k)
            (own_tests_kept c rules low.core);
        graph = (
          graph_tick.initial (parts.G c rules image low),
          tick_starts.begins (expanded c) image.scl image.tables low (parts.valid c rules image low),
        );
        sound = known_initially c rules low.core given;
        reached = reached_first;
      }

  seen_there : (before d : Configuration) → Rests before d → SeenAlike c before d
  seen_there before d rests = seen c rules low.core before d rests.both.alike

  keeps_ticks : KeepsTicks (chart_machine c) (chart_machine (expanded c)) (AreAccepted image.program) (SeenAlike c)
  keeps_ticks =
      record {
        Rests = Rests;
        begins = first;
        tick = λ inputs before last d accepted rests ends.
            let e : (e : Configuration) × Ends (machine core) (start core inputs d) e = has_end inputs before d accepted rests in
            (e.0, e.1, rest_there inputs before d accepted rests last e.0 ends e.1);
        seen = seen_there;
      }

  -- each list of ends of the chart has one of its core chart that is seen alike
  pub chart_is_kept : Keeps (chart_machine c) (chart_machine (expanded c)) (AreAccepted image.program) (SeenAlike c)
  chart_is_kept = ticks_kept (chart_machine c) (chart_machine (expanded c)) (AreAccepted image.program) (SeenAlike c) keeps_ticks

  -- and whichever lists of ends both have, they are seen alike
  all_alike : (inputs : List Inputs) (ds es : List Configuration) (before d : Configuration) → Rests before d → AllOf (AreAccepted image.program) inputs →
      Reaction (chart_machine c) inputs before ds → Reaction (chart_machine (expanded c)) inputs d es → EachAlike (λ e d. SeenAlike c d e) es ds
  all_alike [] [] [] before d rests accepted reacts core_reacts = tt
  all_alike (g ∷ inputs) (last ∷ ds) (e ∷ es) before d rests accepted reacts core_reacts =
      let next : Rests last e = rest_there g before d accepted.0 rests last e reacts.0 core_reacts.0 in
      (seen_there last e next, all_alike inputs ds es last e next accepted.1 reacts.1 core_reacts.1)
  all_alike [] (last ∷ ds) es before d rests accepted reacts core_reacts = absurd reacts
  all_alike [] [] (e ∷ es) before d rests accepted reacts core_reacts = absurd core_reacts
  all_alike (g ∷ inputs) [] es before d rests accepted reacts core_reacts = absurd reacts
  all_alike (g ∷ inputs) (last ∷ ds) [] before d rests accepted reacts core_reacts = absurd core_reacts

  -- so its core chart does no more
  pub core_does_no_more : Keeps (chart_machine (expanded c)) (chart_machine c) (AreAccepted image.program) (λ e d. SeenAlike c d e)
  core_does_no_more inputs es accepted core_reacts =
      let those : ReactsInOneWay c inputs = charts_react c rules image low inputs accepted in
      record {
        others = those.ends;
        reaction = those.reacts;
        alike = all_alike inputs those.ends es (initial k) (initial core) first accepted those.reacts core_reacts;
      }
