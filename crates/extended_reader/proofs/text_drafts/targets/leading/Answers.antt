use Rattle.sc_text.specs.declared.sign.Sign.TheVariants as sign
use Rattle.chart_reader.specs.ChartText.{the_sign}
use Rattle.extended_reader.specs.ExtendedText.{last_lead, leading}
use Rattle.chart_reader.proofs.Same.{same_reading, after_read}
use Rattle.extended_reader.proofs.text_drafts.targets.leading.Goals as goal

pub returns : goal.returns
unfolding leading
returns c = same_reading _ _ _ _ _ (after_read (the_sign sign.Arrow) last_lead c.args.ahead.now.tokens.now _ c.in_ok-skip_sign.ensures) c.last_lead.ensures
