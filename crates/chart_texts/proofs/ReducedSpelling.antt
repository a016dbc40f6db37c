-- What the text of a chart tells of the extended chart that was reduced to it.
use Rattle.std.proofs.Common.{◌≡◌, ℕ, Option, Some, None, List, subst, inr}
use Rattle.core_charts.specs.Chart.{Chart}
use Rattle.chart_texts.specs.CoreText.{Spells}
use Rattle.extended_charts.specs.declared.extended.ExtendedChart.{ExtendedChart}
use Rattle.chart_reduction.specs.Reduction.{reduced}
use Rattle.chart_texts.specs.ReducedText.{Answers}

pub is_answer : (c : ExtendedChart) (made : Chart) (text : Option (List ℕ)) → made ≡ reduced c → Spells made text → Answers c text
is_answer c made (Some text) is spelled = record {
  is = (subst (λ d. Spells d (Some text)) is spelled).0;
  spells = (subst (λ d. Spells d (Some text)) is spelled).1;
}
is_answer c made None is spelled = inr (subst (λ d. Spells d None) is spelled)
