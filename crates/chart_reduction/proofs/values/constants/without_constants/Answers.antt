use Rattle.std.proofs.Common.{◌≡◌, IfOk, Option, List, subst}
use Rattle.sc_values.specs.declared.value.Value.{Value}
use Rattle.extended_charts.specs.declared.reading.Reading.TheVariants as reading
use Rattle.chart_reduction.specs.Constants.{named_values, valued_chart}
use Rattle.chart_reduction.proofs.values.constants.without_constants.Goals as goal

pub returns : goal.returns
returns c =
    let chart = c.args.chart.now in
    let named : c.in_ok-named.named ≡ named_values chart.variables chart.befores chart.constants = cc c.in_ok-named.ensures in
    subst (λ (values : List (Option Value)). IfOk c.valued_chart.result (λ made. made ≡ valued_chart (reading.Values values) chart)) named
    c.valued_chart.ensures
