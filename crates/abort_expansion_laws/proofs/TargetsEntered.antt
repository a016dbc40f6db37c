-- In each expanded chart, whatever state a transition enters, what follows of it in the core settles.
use Rattle.std.proofs.Common.{ℕ, Option}
use Rattle.sc_values.specs.Access.{Access}
use Rattle.core_charts.specs.declared.features.Features.TheVariants as features
use Rattle.core_charts.specs.Chart.{Chart}
use Rattle.core_charts.specs.Rules.{IsChart}
use Rattle.chart_machine.specs.declared.standing.Configuration.{Configuration}
use Rattle.chart_machine.specs.Table.{table}
use Rattle.abort_expansion.specs.Expansion.{expanded}
use Rattle.abort_expansion_laws.specs.Stages.{Entry, Silent}
use Rattle.abort_expansion_laws.proofs.Owed.{Enters}
use Rattle.abort_expansion_laws.proofs.RowsOfCharts as whole
use Rattle.abort_expansion_laws.proofs.MoreRows.{alone, is_counter}
use Rattle.abort_expansion_laws.proofs.ChartsOpened.{entry_rows, unflagged, charts_settle}
use Rattle.abort_expansion_laws.proofs.Entering.{enters}
use Rattle.abort_expansion_laws.proofs.FlagStages.{FlagStages}

module _ (c : Chart) (rules : IsChart features.Extended c) (core_rules : IsChart features.Core (expanded c)) (stages : FlagStages c rules core_rules)
    (Told : Configuration → Entry → Type 0)
    (told : (e : Configuration) (t : ℕ) (stage : Option (ℕ × ℕ)) (a : Access) → Told e (Silent t stage a)) where
  pub targets_are_entered : Enters (table c) (table (expanded c)) (whole.i c rules core_rules) (whole.rows_of_chart c rules core_rules)
      (whole.tree c rules core_rules).nested (is_counter c rules core_rules) stages.written_at Told
  targets_are_entered =
      enters (table c) (table (expanded c)) (whole.i c rules core_rules) (entry_rows c rules core_rules) (whole.tree c rules core_rules).nested
      (λ s here. (whole.state_fits c rules core_rules s here).region.here) (alone c rules core_rules) (unflagged c rules core_rules)
      (is_counter c rules core_rules) stages.written_at stages.counters Told
      (λ at_now core_at_now sound pending. charts_settle c rules core_rules stages Told told at_now core_at_now sound pending)
