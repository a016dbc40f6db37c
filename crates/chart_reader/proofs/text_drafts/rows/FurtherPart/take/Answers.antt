use Rattle.sc_text.specs.declared.sign.Sign.TheVariants as sign
use Rattle.chart_reader.specs.ChartText.{the_sign}
use Rattle.chart_reader.proofs.Same.{same_reading, after_read}
use Rattle.chart_reader.proofs.text_drafts.rows.FurtherPart.take.Goals as goal

pub returns : goal.returns
returns g c =
    same_reading _ _ _ _ _ (after_read (the_sign sign.Comma) g.P.Part.phrase c.args.ahead.now.tokens.now _ c.in_ok-skip_sign.ensures) c.take.ensures
