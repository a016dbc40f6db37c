use Rattle.sc_text.specs.declared.sign.Sign.TheVariants as sign
use Rattle.chart_reader.specs.ChartText.{the_sign}
use Rattle.chart_reader.proofs.Same.{same_reading, after_read}
use Rattle.extended_reader.specs.Phrases.{last_arguments, all_arguments}
use Rattle.extended_reader.proofs.modules.phrases.all_arguments.Goals as goal

pub returns : goal.returns
unfolding all_arguments
returns c =
    same_reading _ _ _ _ _ (after_read (the_sign sign.OpenParenthesis) last_arguments c.args.ahead.now.tokens.now _ c.in_ok-skip_sign.ensures)
    c.last_arguments.ensures
