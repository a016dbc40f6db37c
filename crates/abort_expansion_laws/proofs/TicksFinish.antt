-- Each tick of a chart ends at rest: what its core has held back fails, or is passed.
use Rattle.std.proofs.Common.{ℕ, Option, []}
use Rattle.sc_values.specs.Access.{Access}
use Rattle.sc_values.specs.Runs.{IsOver}
use Rattle.core_charts.specs.declared.features.Features.TheVariants as features
use Rattle.core_charts.specs.Chart.{Chart}
use Rattle.core_charts.specs.Rules.{IsChart}
use Rattle.chart_machine.specs.declared.standing.Configuration.{Configuration}
use Rattle.chart_machine.specs.declared.table.Table.{Table}
use Rattle.chart_machine.specs.Table.{table}
use Rattle.chart_machine.specs.Machine.{machine}
use Rattle.abort_expansion.specs.Expansion.{expanded}
use Rattle.abort_expansion_laws.specs.Stages.{Entry, Silent}
use Rattle.abort_expansion_laws.specs.CoreRows.{Images, pair}
use Rattle.abort_expansion_laws.specs.Related.{Related}
use Rattle.abort_expansion_laws.specs.StageReached.{Stage}
use Rattle.abort_expansion_laws.proofs.Segments.{Segment}
use Rattle.abort_expansion_laws.proofs.Owed.{Resting}
use Rattle.abort_expansion_laws.proofs.RowsOfCharts as whole
use Rattle.abort_expansion_laws.proofs.MoreRows.{opening_rows, is_counter}
use Rattle.abort_expansion_laws.proofs.TickRows.{alone_rows, start_rows}
use Rattle.abort_expansion_laws.proofs.RestsAtLast.{rests_at_last}
use Rattle.abort_expansion_laws.proofs.StillBegun.{HasBegun}
use Rattle.abort_expansion_laws.proofs.FlagStages.{FlagStages}

module _ (c : Chart) (rules : IsChart features.Extended c) (core_rules : IsChart features.Core (expanded c)) (stages : FlagStages c rules core_rules)
    (Told : Configuration → Entry → Type 0)
    (told : (e : Configuration) (t : ℕ) (stage : Option (ℕ × ℕ)) (a : Access) → Told e (Silent t stage a)) where
  abbrev k : Table
  k = table c

  abbrev core : Table
  core = table (expanded c)

  abbrev i : Images
  i = whole.i c rules core_rules

  pub ticks_finish : (at_end core_at_end : Configuration) → Related k core i at_end core_at_end → IsOver (machine k) at_end →
      HasBegun k at_end →
      Segment (machine core)
      (pair k core i (whole.rows_of_chart c rules core_rules) (whole.tree c rules core_rules).nested (is_counter c rules core_rules)
      stages.written_at) Told core_at_end (Stage k i.thread_of at_end core_at_end) (Stage k i.thread_of at_end) []
      (Resting k core i at_end)
  ticks_finish at_end core_at_end related over begun =
      rests_at_last k core i (whole.rows_of_chart c rules core_rules) (alone_rows c rules core_rules) (whole.tree c rules core_rules).nested
      (is_counter c rules core_rules) stages.written_at stages.counters (opening_rows c rules core_rules)
      (start_rows c rules core_rules) stages.low Told told at_end core_at_end related
      (whole.tree c rules core_rules).deeper over begun
