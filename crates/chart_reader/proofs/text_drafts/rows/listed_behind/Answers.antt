use Rattle.std.proofs.lemmas.Grind.{common_steps}
use Rattle.std.proofs.Common.{rules, ◌≡◌, true, arith}
use Rattle.grammar.specs.Read.{starts}
use Rattle.sc_text.specs.declared.sign.Sign.TheVariants as sign
use Rattle.sc_text.specs.Expression.{text_tokens, after}
use Rattle.chart_reader.specs.ChartText.{the_word, the_sign, listed}
use Rattle.chart_reader.proofs.Filling.{some_behind}
use Rattle.chart_reader.proofs.Same.{same_reading}
use Rattle.chart_reader.proofs.text_drafts.rows.listed_behind.Goals as goal

pub returns : goal.returns
returns g c =
    let phrase = g.P.Part.phrase in
    let on = c.if-not-word_follows.false in
    let begins : starts text_tokens (the_word c.args.word) c.args.ahead.now.tokens.now ≡ true = search (rules, on, c.word_follows.ensures) in
    same_reading _ _ _ _ _
    (some_behind (the_word c.args.word) (listed phrase (after (the_sign sign.Comma) phrase)) c.args.ahead.now.tokens.now _ begins c.behind-ahead.ensures)
    c.listed.ensures

pub returns-then-not-word_follows : goal.returns-then-not-word_follows
returns-then-not-word_follows g c = grind (arith, common_steps) steps 2000000
