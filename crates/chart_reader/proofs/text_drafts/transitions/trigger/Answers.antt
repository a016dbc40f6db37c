use Rattle.std.proofs.Common.{rules, ◌≡◌, true}
use Rattle.grammar.specs.Read.{starts}
use Rattle.sc_text.specs.declared.word.Word.TheVariants as word
use Rattle.sc_text.specs.Expression.{text_tokens}
use Rattle.chart_reader.specs.ChartText.{the_word}
use Rattle.chart_reader.proofs.Pieces.{trigger_missing, trigger_there, trigger_stops}
use Rattle.chart_reader.proofs.text_drafts.transitions.trigger.Goals as goal

pub returns-then-not-word_follows : goal.returns-then-not-word_follows
returns-then-not-word_follows c =
    let over = c.if-not-word_follows.true in
    trigger_missing _ (search (rules, over, c.word_follows.ensures))

pub returns : goal.returns
returns c =
    let on = c.if-not-word_follows.false in
    let begins : starts text_tokens (the_word word.If) c.args.ahead.now.tokens.now ≡ true = search (rules, on, c.word_follows.ensures) in
    trigger_there _ _ _ _ begins c.behind-ahead.ensures c.in_ok-condition.ensures

pub returns-in_err-condition : goal.returns-in_err-condition
returns-in_err-condition c = search (rules, trigger_stops)
