-- Each tick of an expanded chart begins: what the first one enters settles, and later ones begin without a step of the core.
use Rattle.std.proofs.Common.{ℕ, Option, [], subst, sym}
use Rattle.sc_values.specs.Access.{Access}
use Rattle.core_charts.specs.declared.features.Features.TheVariants as features
use Rattle.core_charts.specs.Chart.{Chart}
use Rattle.core_charts.specs.Rules.{IsChart}
use Rattle.chart_machine.specs.declared.standing.Configuration.{Configuration}
use Rattle.chart_machine.specs.declared.table.Table.{Table}
use Rattle.chart_machine.specs.Table.{table}
use Rattle.chart_machine.specs.Machine.{machine, initial, start}
use Rattle.abort_expansion.specs.Expansion.{expanded}
use Rattle.abort_expansion_laws.specs.Stages.{Entry, Silent, NoneReached}
use Rattle.abort_expansion_laws.specs.CoreRows.{Images, pair}
use Rattle.abort_expansion_laws.specs.Related.{Related}
use Rattle.abort_expansion_laws.specs.StageReached.{Stage}
use Rattle.abort_expansion_laws.proofs.Segments.{Segment}
use Rattle.abort_expansion_laws.proofs.Owed.{first_tick, later_tick, Begins}
use Rattle.abort_expansion_laws.proofs.RowsOfCharts as whole
use Rattle.abort_expansion_laws.proofs.MoreRows.{is_counter}
use Rattle.abort_expansion_laws.proofs.TickRows.{later_ticks_begin}
use Rattle.abort_expansion_laws.proofs.FirstTickBegins.{first_tick_begins}
use Rattle.abort_expansion_laws.proofs.FlagStages.{FlagStages}

module _ (c : Chart) (rules : IsChart features.Extended c) (core_rules : IsChart features.Core (expanded c)) (stages : FlagStages c rules core_rules)
    (Told : Configuration → Entry → Type 0)
    (told : (e : Configuration) (t : ℕ) (stage : Option (ℕ × ℕ)) (a : Access) → Told e (Silent t stage a)) where
  abbrev k : Table
  k = table c

  abbrev core : Table
  core = table (expanded c)

  abbrev i : Images
  i = whole.i c rules core_rules

  abbrev Begun : Configuration → Configuration → Type 0
  Begun at_start core_at_start =
      Segment (machine core)
      (pair k core i (whole.rows_of_chart c rules core_rules) (whole.tree c rules core_rules).nested (is_counter c rules core_rules)
      stages.written_at) Told core_at_start NoneReached (Stage k i.thread_of at_start) [] (Related k core i at_start)

  pub ticks_begin : Begins k core i (whole.rows_of_chart c rules core_rules) (whole.tree c rules core_rules).nested (is_counter c rules core_rules)
      stages.written_at Told
  ticks_begin at_start core_at_start (first_tick inputs chart_is core_is) =
      subst (λ z. Begun z core_at_start) (sym chart_is)
      (subst (Begun (start k inputs (initial k))) (sym core_is) (first_tick_begins c rules core_rules inputs stages Told told))
  ticks_begin at_start core_at_start (later_tick inputs before core_before rests chart_is core_is) =
      subst (λ z. Begun z core_at_start) (sym chart_is)
      (subst (Begun (start k inputs before)) (sym core_is)
      (later_ticks_begin c rules core_rules before core_before rests inputs (is_counter c rules core_rules) stages.written_at Told))
