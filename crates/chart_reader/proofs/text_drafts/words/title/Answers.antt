use Rattle.chart_reader.specs.ChartText.{the_word, name}
use Rattle.chart_reader.proofs.Same.{same_reading, after_read}
use Rattle.chart_reader.proofs.text_drafts.words.title.Goals as goal

pub returns : goal.returns
returns c = same_reading _ _ _ _ _ (after_read (the_word c.args.word) name c.args.ahead.now.tokens.now _ c.in_ok-skip_word.ensures) c.name.ensures
