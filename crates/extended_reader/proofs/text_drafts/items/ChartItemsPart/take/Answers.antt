use Rattle.std.proofs.Common.{rules, ◌≡◌, true, false}
use Rattle.grammar.specs.Read.{starts}
use Rattle.sc_text.specs.DraftParts.{roles}
use Rattle.sc_text.specs.Expression.{text_tokens}
use Rattle.chart_reader.proofs.Same.{same_reading}
use Rattle.extended_reader.proofs.ItemParts.{is_plain, is_worded}
use Rattle.extended_reader.proofs.text_drafts.items.ChartItemsPart.take.Goals as goal

pub returns-then-role_follows : goal.returns-then-role_follows
returns-then-role_follows c =
    let on = c.if-role_follows.true in
    let begins : starts text_tokens roles c.args.ahead.now.tokens.now ≡ true = search (rules, on, c.role_follows.ensures) in
    same_reading _ _ _ _ _ (is_plain _ begins) c.plain.ensures

pub returns : goal.returns
returns c =
    let on = c.if-role_follows.false in
    let other : starts text_tokens roles c.args.ahead.now.tokens.now ≡ false = search (rules, on, c.role_follows.ensures) in
    same_reading _ _ _ _ _ (is_worded _ other) c.worded.ensures
