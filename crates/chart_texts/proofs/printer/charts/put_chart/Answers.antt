use Rattle.std.proofs.Common.{string_bytes, ◌∙◌}
use Rattle.chart_texts.proofs.Pieces.{four, chart_lines}
use Rattle.chart_texts.proofs.printer.charts.put_chart.Goals as goal

pub returns : goal.returns
returns c =
    four (string_bytes c.args.text.now) _ _ _ _ _ _ _ _ _ c.in_ok-put_head.ensures c.in_ok-put_declarations.ensures
    c.in_ok-put_regions.ensures c.in_ok-put_line.ensures
    (chart_lines c.args.chart.now c.as_str-words.result.now c.variables-declared.result.now c.regions-inside.result.now
    (c.as_str-words.ensures.value ∙ c.in_ok-head.ensures) c.variables-declared.ensures.value c.regions-inside.ensures.value)
