-- What belongs to each chart and its core chart in a tick: their tables and rows, what each step of the chart keeps, and where a tick has ended.
use Rattle.std.proofs.Common.{◌≡◌, ℕ, Bool, Some, sym, subst}
use Rattle.sc_values.specs.Runs.{IsOver}
use Rattle.core_charts.specs.declared.features.Features.TheVariants as features
use Rattle.core_charts.specs.Chart.{Chart}
use Rattle.core_charts.specs.Rules.{IsChart}
use Rattle.chart_machine.specs.declared.standing.Configuration.{Configuration}
use Rattle.chart_machine.specs.declared.table.Table.{Table}
use Rattle.chart_machine.specs.Table.{table}
use Rattle.sc_graph.specs.Tick.{Inputs}
use Rattle.chart_machine.specs.Machine.{machine, initial, start}
use Rattle.chart_machine.specs.Steps.{step}
use Rattle.abort_expansion.specs.Expansion.{expanded}
use Rattle.chart_machine_laws.specs.Tree.{IsNested}
use Rattle.abort_expansion_laws.specs.Stages.{Correspondence}
use Rattle.abort_expansion_laws.specs.CoreRows.{Images, CoreRows, pair}
use Rattle.abort_expansion_laws.proofs.Owed.{Resting, Started, first_tick, later_tick}
use Rattle.abort_expansion_laws.proofs.RowsOfCharts as whole
use Rattle.abort_expansion_laws.proofs.MoreRows.{is_counter, stage_of_write}
use Rattle.abort_expansion_laws.proofs.StillBegun.{HasBegun, starts_begun}
use Rattle.abort_expansion_laws.proofs.FirstTickBegins.{first_begun}
use Rattle.abort_expansion_laws.proofs.FlagStages.{FlagStages}

module _ (c : Chart) (rules : IsChart features.Extended c) (core_rules : IsChart features.Core (expanded c)) where
  abbrev pub k : Table
  k = table c

  abbrev pub core : Table
  core = table (expanded c)

  abbrev pub i : Images
  i = whole.i c rules core_rules

  abbrev pub rows : CoreRows k core i
  rows = whole.rows_of_chart c rules core_rules

  abbrev pub nested : IsNested k
  nested = (whole.tree c rules core_rules).nested

  abbrev pub counts : ℕ → Bool
  counts = is_counter c rules core_rules

  abbrev pub written_at : ℕ → ℕ
  written_at = stage_of_write c rules core_rules

  abbrev pub corr : Correspondence
  corr = pair k core i rows nested counts written_at

  -- where flags count as written at these stages
  abbrev pub corr_at : FlagStages c rules core_rules → Correspondence
  corr_at stages = pair k core i rows nested counts stages.written_at

  -- what holds of the chart's configurations, whatever the core chart does
  pub record KeptByChart (Holds : Configuration → Type 0) : Type 0 where
    pub initially : Holds (initial k)
    pub starts : (inputs : Inputs) (before : Configuration) → Holds before → Holds (start k inputs before)
    pub steps : (now next : Configuration) (r : ℕ) → Holds now → step k r now ≡ Some next → Holds next

  -- where a tick has ended
  pub record HasRested (at_end core_at_end : Configuration) : Type 0 where
    pub rests : Resting k core i at_end core_at_end
    pub over : IsOver (machine k) at_end

  -- a region is entered as a tick starts
  pub started_begun : (now core_now : Configuration) → Started k core i now core_now → HasBegun k now
  started_begun now core_now (first_tick inputs chart_is core_is) =
      subst (HasBegun k) (sym chart_is) (first_begun c rules core_rules inputs)
  started_begun now core_now (later_tick inputs before core_before rests chart_is core_is) =
      subst (HasBegun k) (sym chart_is) (starts_begun k core i before core_before rests inputs)
