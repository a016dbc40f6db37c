-- Each end of a tick of a chart has one of the machine that waits, at a core configuration that rests like the chart.
use Rattle.std.proofs.Common.{◌∙◌}
use Rattle.sc_values.specs.Runs.{Ends}
use Rattle.sc_graph.specs.Tick.{Inputs, AreAccepted}
use Rattle.core_charts.specs.declared.features.Features.TheVariants as features
use Rattle.core_charts.specs.Chart.{Chart}
use Rattle.core_charts.specs.Rules.{IsChart}
use Rattle.chart_machine.specs.declared.standing.Configuration.{Configuration}
use Rattle.chart_machine.specs.declared.table.Table.{Table}
use Rattle.chart_machine.specs.Machine.{machine, start}
use Rattle.abort_expansion.specs.Expansion.{expanded}
use Rattle.chart_lowering_laws.specs.Laws.{IsLowering}
use Rattle.abort_expansion_laws.specs.Preemption.{HasImage}
use Rattle.abort_expansion_laws.proofs.TicksOfCharts as ticks
use Rattle.preemption_laws.proofs.CoreGround.{core_ground}
use Rattle.preemption_laws.proofs.CoreTries.{held}
use Rattle.preemption_laws.proofs.Erased.{Erased, erased}
use Rattle.preemption_laws.proofs.Ground.{Ground}
use Rattle.preemption_laws.proofs.KnownReads.{CoreReads, IsKnown, known_at_start, looks_around, knows}
use Rattle.preemption_laws.proofs.Parts as parts
use Rattle.preemption_laws.proofs.Parts.{RestBoth}
use Rattle.preemption_laws.proofs.QuietLogs.{quiet_runs}
use Rattle.preemption_laws.proofs.QuietTick.{QuietRun, quiet_run}
use Rattle.preemption_laws.proofs.StillTurns.{turn_still}
use Rattle.preemption_laws.proofs.WaitsOver.{KnowsWaiting, waits_over}

module _ (c : Chart) (rules : IsChart features.Extended c) (image : HasImage c) (low : IsLowering (expanded c) image.scl)
    (given : CoreReads c rules low.core) where
  abbrev core : Table
  core = parts.core c rules image low

  abbrev settled : Configuration → Configuration
  settled = parts.settled c rules image low

  abbrev Known : Configuration → Type 0
  Known d = IsKnown c rules low.core given d

  abbrev ground : Ground core
  ground = core_ground c rules low.core

  knows_waiting : KnowsWaiting c rules low.core Known
  knows_waiting =
      record {
        enabled_too = λ d t is goes. turn_still core (parts.looks c rules image low) given.known ground d is.is_core t goes;
        held = λ d t s tests is stands. held core (parts.looks c rules image low) given.known ground d is.is_core t s tests stands;
        seen_weak = looks_around c rules low.core given;
      }

  pub follows : (inputs : Inputs) (before d : Configuration) → AreAccepted image.program inputs →
      RestBoth c rules image low given before d → (last : Configuration) →
      Ends (machine (parts.k c rules image low)) (start (parts.k c rules image low) inputs before) last →
      (x : Configuration) × Ends (parts.waits c rules image low) (settled (start core inputs d)) (settled x) × ticks.HasRested c rules low.core last x
  follows inputs before d accepted rests last ends = (
    quiet.core_last,
    record {
      run = there.run;
      complete =
          record {
            runs = there.runs;
            over = waits_over c rules low.core last quiet.core_last quiet.rested Known knows_waiting quiet.sound;
          };
      admissible = there.admissible;
    },
    quiet.rested,
  )
    where
      begun : Configuration
      begun = start core inputs d

      known_there : Known begun
      known_there = known_at_start c rules low.core given inputs d rests.sound

      quiet : QuietRun c rules low.core Known (knows c rules low.core given) begun last
      quiet = quiet_run c rules low.core Known (knows c rules low.core given) image inputs before last d accepted rests.both known_there ends

      there : Erased core (parts.looks c rules image low) given.known ground begun quiet.core_last
      there =
          erased core (parts.looks c rules image low) given.known ground quiet.run begun quiet.core_last known_there.is_core
          (quiet_runs core (parts.looks c rules image low) quiet.run begun ∙ quiet.runs) quiet.ordered
