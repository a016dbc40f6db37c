-- Each tick begins, and each step is followed, so that all monitors that have their turn with a weak test are at it.
use Rattle.std.proofs.Common.{◌≡◌, ℕ, Some, []}
use Rattle.core_charts.specs.declared.features.Features.TheVariants as features
use Rattle.core_charts.specs.Chart.{Chart}
use Rattle.core_charts.specs.Rules.{IsChart}
use Rattle.chart_machine.specs.declared.standing.Configuration.{Configuration}
use Rattle.chart_machine.specs.declared.table.Table.{Table}
use Rattle.chart_machine.specs.Table.{table}
use Rattle.chart_machine.specs.Steps.{step}
use Rattle.chart_machine.specs.Machine.{machine}
use Rattle.abort_expansion.specs.Expansion.{expanded}
use Rattle.chart_machine_laws.specs.Tree.{around}
use Rattle.abort_expansion_laws.specs.CoreRows.{Images}
use Rattle.abort_expansion_laws.specs.Related.{Related}
use Rattle.abort_expansion_laws.specs.Stages.{Entry, NoneReached}
use Rattle.abort_expansion_laws.proofs.Segments.{Segment, segment_on}
use Rattle.abort_expansion_laws.proofs.StageReached.{Stage}
use Rattle.abort_expansion_laws.proofs.MonitorsReady.{AllReady, get_ready}
use Rattle.abort_expansion_laws.proofs.MoreRows.{opening_rows, strong_at, counter_rows}
use Rattle.abort_expansion_laws.proofs.Owed.{Started}
use Rattle.abort_expansion_laws.proofs.OwnTests.{OwnTests}
use Rattle.abort_expansion_laws.proofs.RowsOfCharts as whole
use Rattle.abort_expansion_laws.proofs.CasesFollowed.{Followed}
use Rattle.abort_expansion_laws.proofs.FlagStages.{usual, early_stages}
use Rattle.abort_expansion_laws.proofs.StepsByCase.{each_step_followed}
use Rattle.abort_expansion_laws.proofs.TicksOfCharts as ticks
use Rattle.abort_expansion_laws.proofs.TicksBegin.{ticks_begin}
use Rattle.abort_expansion_laws.proofs.ToldSteps.{told_silent, ToldHere}

module _ (c : Chart) (rules : IsChart features.Extended c) (core_rules : IsChart features.Core (expanded c)) where
  abbrev k : Table
  k = table c

  abbrev core : Table
  core = table (expanded c)

  abbrev i : Images
  i = whole.i c rules core_rules

  abbrev Told : Configuration → Entry → Type 0
  Told = ToldHere c rules core_rules

  readied : (now d : Configuration) → Related k core i now d →
      Segment (machine core) (ticks.corr c rules core_rules) Told d (Stage k i.thread_of now d) (λ z. Stage k i.thread_of now z) [] (AllReady k core i now)
  readied now d related =
      get_ready k core i (ticks.rows c rules core_rules) (ticks.nested c rules core_rules) (ticks.counts c rules core_rules)
      (ticks.written_at c rules core_rules) (counter_rows c rules core_rules) (opening_rows c rules core_rules) (strong_at c rules core_rules)
      (whole.super_there c rules core_rules) Told (told_silent k core i) now d related

  -- each step is followed, and then the monitors look
  pub record StepReady (now d : Configuration) (r : ℕ) (next : Configuration) : Type 0 where
    pub step : Followed c rules core_rules (early_stages c rules core_rules (around k r)) now d r next
    pub looks : Segment (machine core) (ticks.corr c rules core_rules) Told step.last (Stage k i.thread_of next step.last) (Stage k i.thread_of next) []
        (AllReady k core i next)

  pub steps_ready : (now d : Configuration) → Related k core i now d → OwnTests k now → (r : ℕ) (next : Configuration) → step k r now ≡ Some next →
      StepReady now d r next
  steps_ready now d related owns r next goes =
      let first = each_step_followed c rules core_rules now d related owns r next goes in
      record { step = first; looks = readied next first.last first.reaches }

  pub ticks_ready : (now d : Configuration) → Started k core i now d →
      Segment (machine core) (ticks.corr c rules core_rules) Told d NoneReached (Stage k i.thread_of now) [] (AllReady k core i now)
  ticks_ready now d started =
      let first = ticks_begin c rules core_rules (usual c rules core_rules) Told (told_silent k core i) now d started in
      segment_on (machine core) (ticks.corr c rules core_rules) Told d NoneReached (Stage k i.thread_of now) (Stage k i.thread_of now) [] []
      (Related k core i now) (AllReady k core i now) first (readied now first.last first.reaches)
