use Rattle.sc_text.specs.declared.sign.Sign.TheVariants as sign
use Rattle.chart_reader.specs.ChartText.{the_sign, last_name, target}
use Rattle.chart_reader.proofs.Same.{same_reading, after_read}
use Rattle.chart_reader.proofs.text_drafts.transitions.target.Goals as goal

pub returns : goal.returns
unfolding target
returns c = same_reading _ _ _ _ _ (after_read (the_sign sign.Arrow) last_name c.args.ahead.now.tokens.now _ c.in_ok-skip_sign.ensures) c.last_name.ensures
