-- Each region has tests of its own state alone, whatever ticks a chart has.
use Rattle.std.proofs.Common.{ℕ, List}
use Rattle.core_charts.specs.declared.features.Features.TheVariants as features
use Rattle.core_charts.specs.Chart.{Chart}
use Rattle.core_charts.specs.Rules.{IsChart}
use Rattle.chart_machine.specs.declared.standing.Move.{Move}
use Rattle.chart_machine.specs.Table.{table, state_at}
use Rattle.abort_expansion.specs.Expansion.{expanded}
use Rattle.abort_expansion_laws.specs.CoreRows.{IsState, IsSuper}
use Rattle.abort_expansion_laws.proofs.EnteredAlike.{AreEntered}
use Rattle.abort_expansion_laws.proofs.OpenedInside.{charts_enter}
use Rattle.abort_expansion_laws.proofs.OwnTests.{OwnTests, owns_initially, owns_at_start, owns_still}
use Rattle.abort_expansion_laws.proofs.RowsOfCharts as whole
use Rattle.abort_expansion_laws.proofs.TopRegions.{tops}
use Rattle.abort_expansion_laws.proofs.WalkedWhole.{entered}
use Rattle.abort_expansion_laws.proofs.TicksOfCharts as ticks

module _ (c : Chart) (rules : IsChart features.Extended c) (core_rules : IsChart features.Core (expanded c)) where
  pub own_tests_kept : ticks.KeptByChart c rules core_rules (OwnTests (table c))
  own_tests_kept =
      record {
        initially = owns_initially (table c);
        starts = λ inputs before owns. owns_at_start (table c) (table (expanded c)) (ticks.i c rules core_rules) (charts_enter features.Extended c rules)
            (whole.tree c rules core_rules).children (whole.tree c rules core_rules).deeper opens (tops c rules) (table (expanded c)).opened (entered c rules)
            (whole.is_state_super c rules core_rules) inputs before owns;
        steps = λ now next r owns goes. owns_still (table c) (table (expanded c)) (ticks.i c rules core_rules) (charts_enter features.Extended c rules)
            (whole.tree c rules core_rules).children (whole.tree c rules core_rules).deeper opens (tops c rules) (table (expanded c)).opened (entered c rules)
            (whole.is_state_super c rules core_rules) now next r owns goes;
      }
    where
      opens : (s : ℕ) → IsState (table c) s → IsSuper (table c) s →
          (inner : List Move) × AreEntered (table c) (table (expanded c)) (ticks.i c rules core_rules) (state_at (table c) s).regions
          (state_at (table c) s).opened inner
      opens s here super = let alike = (whole.state_fits c rules core_rules s here).opens super in (alike.inner, alike.regions)
