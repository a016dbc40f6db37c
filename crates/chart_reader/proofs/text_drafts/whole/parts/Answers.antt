use Rattle.grammar.specs.Grammar.{many}
use Rattle.sc_text.proofs.Outcomes.{either_way}
use Rattle.core_charts.specs.Rules.{inner_depth_limit}
use Rattle.chart_reader.specs.ChartText.{declaration}
use Rattle.chart_reader.proofs.Filling.{seq_fills, seq_fills_stops}
use Rattle.chart_reader.proofs.Nesting.{regions_of}
use Rattle.chart_reader.proofs.text_drafts.whole.parts.Goals as goal

pub returns : goal.returns
returns c =
    either_way _ c.regions.ensures
    (λ x. seq_fills (many declaration) (regions_of inner_depth_limit) c.args.ahead.now.tokens.now c.put_row.new.ahead.tokens.now c.args.variables.now
    c.put_row.new.found c.in_ok-put_row.ensures c.regions.new.ahead.tokens.now c.args.found.now c.regions.new.found)
    (λ f. seq_fills_stops (many declaration) (regions_of inner_depth_limit) c.args.ahead.now.tokens.now c.put_row.new.ahead.tokens.now
    c.args.variables.now c.put_row.new.found c.in_ok-put_row.ensures c.args.end f)
