use Rattle.std.proofs.Common.{rules, ◌≡◌, true, false}
use Rattle.grammar.specs.Read.{starts}
use Rattle.sc_text.specs.declared.word.Word.TheVariants as word
use Rattle.chart_reader.specs.ChartText.{the_word}
use Rattle.sc_text.specs.Expression.{text_tokens}
use Rattle.chart_reader.proofs.Same.{same_reading}
use Rattle.chart_reader.proofs.Pieces.{is_termination, is_tested}
use Rattle.chart_reader.proofs.text_drafts.transitions.TransitionsPart.take.Goals as goal

pub returns-then-word_follows : goal.returns-then-word_follows
returns-then-word_follows c =
    let on = c.if-word_follows.true in
    let begins : starts text_tokens (the_word word.Join) c.args.ahead.now.tokens.now ≡ true = search (rules, on, c.word_follows.ensures) in
    same_reading _ _ _ _ _ (is_termination _ begins) c.termination.ensures

pub returns : goal.returns
returns c =
    let on = c.if-word_follows.false in
    let other : starts text_tokens (the_word word.Join) c.args.ahead.now.tokens.now ≡ false = search (rules, on, c.word_follows.ensures) in
    same_reading _ _ _ _ _ (is_tested _ other) c.tested.ensures
