use Rattle.sc_text.specs.declared.word.Word.TheVariants as word
use Rattle.sc_text.specs.Expression.{expression}
use Rattle.chart_reader.specs.ChartText.{the_word}
use Rattle.extended_reader.specs.ExtendedText.{last_effects}
use Rattle.chart_reader.proofs.Same.{same_reading, after_read}
use Rattle.extended_reader.proofs.text_drafts.entries.outcomes.Goals as goal

pub returns : goal.returns
returns c = same_reading _ _ _ _ _ (after_read (the_word word.Do) (last_effects (expression 0)) c.args.ahead.now.tokens.now _ c.in_ok-skip_word.ensures)
    c.last_effects.ensures
