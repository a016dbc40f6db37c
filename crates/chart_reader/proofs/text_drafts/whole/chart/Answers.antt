use Rattle.std.proofs.Common.{rules}
use Rattle.chart_reader.proofs.Nesting.{chart_gives, parts_stop, title_stops}
use Rattle.chart_reader.proofs.text_drafts.whole.chart.Goals as goal

pub returns : goal.returns
returns c =
    chart_gives c.args.ahead.now.tokens.now c.title.new.ahead.tokens.now c.braced_parts.new.ahead.tokens.now c.in_ok-named.named c.new-variables.result
    c.braced_parts.new.variables c.new-regions.result c.braced_parts.new.regions c.in_ok-named.ensures c.in_ok-braced_parts.ensures c.new-variables.ensures
    c.new-regions.ensures

pub returns-in_err-named : goal.returns-in_err-named
returns-in_err-named c = search (rules, title_stops)

pub returns-in_err-braced_parts : goal.returns-in_err-braced_parts
returns-in_err-braced_parts c = search (rules, parts_stop)
