use Rattle.sc_text.specs.declared.sign.Sign.TheVariants as sign
use Rattle.sc_text.specs.Expression.{expression}
use Rattle.chart_reader.specs.ChartText.{the_sign, placed}
use Rattle.chart_reader.proofs.Same.{same_reading, after_read}
use Rattle.chart_reader.proofs.text_drafts.transitions.value.Goals as goal

pub returns : goal.returns
returns c =
    same_reading _ _ _ _ _ (after_read (the_sign sign.Becomes) (placed (expression 0)) c.args.ahead.now.tokens.now _ c.in_ok-skip_sign.ensures)
    c.placed.ensures
