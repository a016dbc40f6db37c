use Rattle.sc_text.specs.declared.sign.Sign.TheVariants as sign
use Rattle.chart_reader.specs.ChartText.{the_sign}
use Rattle.chart_reader.proofs.Same.{same_reading, after_read}
use Rattle.extended_reader.specs.Phrases.{last_parameters, all_parameters}
use Rattle.extended_reader.proofs.modules.heads.all_parameters.Goals as goal

pub returns : goal.returns
unfolding all_parameters
returns c =
    same_reading _ _ _ _ _ (after_read (the_sign sign.OpenParenthesis) last_parameters c.args.ahead.now.tokens.now _ c.in_ok-skip_sign.ensures)
    c.last_parameters.ensures
