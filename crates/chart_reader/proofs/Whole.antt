-- The chart that is put together from what a draft without flaws becomes.
use Rattle.std.proofs.Common.{◌≡◌, ◌≤◌, List, [], length, ap, sym, subst, ◌∙◌}
use Rattle.sc_graph.specs.declared.program.Variable.{Variable}
use Rattle.sc_graph.specs.Limits.{variable_limit}
use Rattle.sc_text.specs.declared.drafts.parts.Declaration.{Declaration}
use Rattle.sc_text.specs.Flaws.{variable_names, variable_flaws}
use Rattle.sc_text.specs.Resolved.{variables_of}
use Rattle.sc_text.proofs.Unflawed.{none_first}
use Rattle.sc_text.proofs.Declared.{few_variables}
use Rattle.core_charts.specs.declared.features.Features.TheVariants as features
use Rattle.core_charts.specs.declared.region.Region.{Region}
use Rattle.core_charts.specs.Rules.{IsChart, depth_limit}
use Rattle.chart_reader.specs.declared.text_drafts.draft.DraftChart.{DraftChart}
use Rattle.chart_reader.specs.Flaws.{nested_flaws, chart_flaws}
use Rattle.chart_reader.specs.Shape.{IsShaped}
use Rattle.chart_reader.specs.Resolved.{regions_of, chart_of}
use Rattle.chart_reader.proofs.ChartRulesKept.{chart_kept}

pub few_declared : (d : DraftChart) (V : List Declaration) → chart_flaws d ≡ [] → V ≡ d.variables → length V ≤ variable_limit
few_declared d V none same =
    subst (λ W. length W ≤ variable_limit) (sym same)
    (few_variables d.variables
    (none_first (variable_flaws (variable_names d.variables) 0 0 d.variables) (nested_flaws d.variables depth_limit d.regions) none))

-- V are the variables over which the regions were looked up, and R these regions
module _ (d : DraftChart) (V : List Declaration) (same : V ≡ d.variables) (variables : List Variable) (regions : List Region)
    (declared : variables ≡ variables_of d.variables) (looked : regions ≡ regions_of (variable_names V) d.regions) where
  pub parts_are : record { name = d.named.name; variables = variables; regions = regions } ≡ chart_of d
  parts_are =
      ap (λ vs. record { name = d.named.name; variables = vs; regions = regions }) declared
      ∙ ap (λ rs. record { name = d.named.name; variables = variables_of d.variables; regions = rs })
      (looked ∙ ap (λ W. regions_of (variable_names W) d.regions) same)

  pub parts_kept : chart_flaws d ≡ [] → IsShaped d → IsChart features.Extended (record { name = d.named.name; variables = variables; regions = regions })
  parts_kept none shaped = subst (IsChart features.Extended) (sym parts_are) (chart_kept d none shaped)
