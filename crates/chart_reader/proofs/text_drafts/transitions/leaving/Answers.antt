use Rattle.sc_text.specs.declared.sign.Sign.TheVariants as sign
use Rattle.sc_text.specs.Expression.{expression}
use Rattle.grammar.specs.Grammar.{many}
use Rattle.sc_text.proofs.Outcomes.{either_way}
use Rattle.chart_reader.specs.ChartText.{the_sign, transition, leaving}
use Rattle.chart_reader.proofs.Filling.{before_fills, before_fills_stops}
use Rattle.chart_reader.proofs.text_drafts.transitions.leaving.Goals as goal

pub returns : goal.returns
unfolding leaving
returns c =
    either_way _ c.skip_sign.ensures (λ x. before_fills (the_sign sign.CloseBrace) (many (transition (expression 0))) _ _ _ _ c.in_ok-put_row.ensures _)
    (λ f. before_fills_stops (the_sign sign.CloseBrace) (many (transition (expression 0))) _ _ _ _ c.in_ok-put_row.ensures _ f)
