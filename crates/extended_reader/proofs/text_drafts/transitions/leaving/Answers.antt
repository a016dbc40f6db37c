use Rattle.sc_text.specs.declared.sign.Sign.TheVariants as sign
use Rattle.sc_text.specs.Expression.{expression}
use Rattle.sc_text.proofs.Outcomes.{either_way}
use Rattle.chart_reader.specs.ChartText.{the_sign}
use Rattle.extended_reader.specs.ExtendedText.{transitions, leaving}
use Rattle.extended_reader.specs.Inside.TextDrafts.{put_ways}
use Rattle.extended_reader.proofs.Putting.{before_puts, before_puts_stops}
use Rattle.extended_reader.proofs.text_drafts.transitions.leaving.Goals as goal

pub returns : goal.returns
unfolding leaving
returns c =
    either_way _ c.skip_sign.ensures
    (λ x. before_puts (the_sign sign.CloseBrace) (transitions (expression 0)) put_ways _ _ _ _ c.in_ok-transitions.ensures _)
    (λ f. before_puts_stops (the_sign sign.CloseBrace) (transitions (expression 0)) put_ways _ _ _ _ c.in_ok-transitions.ensures _ f)
