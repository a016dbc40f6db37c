-- How a chart and its core chart rest between ticks, where aborts may lie in weak ones.
use Rattle.std.proofs.Common.{ℕ, List}
use Rattle.sc_values.specs.Runs.{Machine}
use Rattle.sc_graph.specs.declared.control.Control.{Control}
use Rattle.sc_graph.specs.Program.{Program}
use Rattle.sc_graph.specs.Tick.{AreAccepted}
use Rattle.sc_graph.specs.Valid.{IsValid}
use Rattle.core_charts.specs.declared.features.Features.TheVariants as features
use Rattle.core_charts.specs.declared.region.Transition.{Transition}
use Rattle.core_charts.specs.Chart.{Chart}
use Rattle.core_charts.specs.Rules.{IsChart}
use Rattle.chart_machine.specs.declared.standing.Configuration.{Configuration}
use Rattle.chart_machine.specs.declared.table.Table.{Table}
use Rattle.chart_machine.specs.Table.{table}
use Rattle.chart_machine_laws.specs.Progress.{IsReached}
use Rattle.scl.specs.Numbering.{numbered}
use Rattle.scl_graph.specs.Graph.{program_of}
use Rattle.abort_expansion.specs.Expansion.{expanded}
use Rattle.chart_lowering_laws.specs.Laws.{IsLowering}
use Rattle.compiled_charts_laws.proofs.TickStarts as tick_starts
use Rattle.abort_expansion_laws.specs.CoreRows.{Images}
use Rattle.abort_expansion_laws.specs.Preemption.{HasImage}
use Rattle.abort_expansion_laws.proofs.OwnTests.{OwnTests}
use Rattle.abort_expansion_laws.proofs.BetweenTicks.{SparesTests, BothRest}
use Rattle.abort_expansion_laws.proofs.TestsSpared.{tests_are_spared, is_valid}
use Rattle.abort_expansion_laws.proofs.TicksOfCharts as ticks
use Rattle.abort_expansion_laws.proofs.ToldSteps.{ToldHere}
use Rattle.preemption_laws.specs.Looks.{looks_of}
use Rattle.preemption_laws.specs.Waiting.{still, waiting_machine}
use Rattle.preemption_laws.proofs.KnownReads.{CoreReads, IsKnown}

module _ (c : Chart) (rules : IsChart features.Extended c) (image : HasImage c) (low : IsLowering (expanded c) image.scl) where
  abbrev pub k : Table
  k = table c

  abbrev pub core : Table
  core = table (expanded c)

  abbrev pub i : Images
  i = ticks.i c rules low.core

  abbrev pub looks : ℕ → List Transition
  looks = looks_of k core i

  abbrev pub waits : Machine
  waits = waiting_machine core looks

  abbrev pub settled : Configuration → Configuration
  settled = still core looks

  abbrev pub G : Program
  G = program_of (numbered image.scl)

  abbrev pub valid : IsValid G image.tables
  valid = is_valid c image

  -- the graph rests where the core chart does
  abbrev pub Between : Configuration → Control → Type 0
  Between = tick_starts.Between (expanded c) image.scl image.tables low valid

  abbrev pub spares : SparesTests c rules low.core (AreAccepted image.program) (ToldHere c rules low.core)
  spares = tests_are_spared c rules low.core image

  abbrev pub Resting : Configuration → Configuration → Type 0
  Resting =
      BothRest c rules low.core (AreAccepted image.program) (ToldHere c rules low.core) spares (OwnTests k)

  -- what is known of the rows of the core chart
  module _ (given : CoreReads c rules low.core) where
    abbrev pub Known : Configuration → Type 0
    Known d = IsKnown c rules low.core given d

    -- between two ticks: the core chart's configuration is the end of an admissible run, or the first
    pub record RestBoth (before d : Configuration) : Type 0 where
      pub both : Resting before d
      pub graph : (m : Control) × Between d m
      pub sound : Known d
      pub reached : IsReached core d
