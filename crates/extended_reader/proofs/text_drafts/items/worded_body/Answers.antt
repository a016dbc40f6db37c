use Rattle.std.proofs.Common.{rules, ◌≡◌, true, false, [], ◌∷◌}
use Rattle.grammar.specs.Read.{starts}
use Rattle.sc_text.specs.Classes.{AName}
use Rattle.sc_text.specs.Expression.{text_tokens}
use Rattle.extended_reader.proofs.ItemParts.{bare_signal_read, is_worded_typed, bare_signal_fails}
use Rattle.chart_reader.proofs.Same.{same_reading}
use Rattle.extended_reader.proofs.text_drafts.items.worded_body.Goals as goal

pub returns-then-name_follows : goal.returns-then-name_follows
returns-then-name_follows c =
    let on = c.if-name_follows.true in
    let begins : starts text_tokens (AName ∷ []) c.args.ahead.now.tokens.now ≡ true = search (rules, on, c.name_follows.ensures) in
    bare_signal_read c.args.ahead.now.tokens.now c.in_ok-named.named _ _ begins c.in_ok-named.ensures c.signal_body.ensures

pub returns : goal.returns
returns c =
    let on = c.if-name_follows.false in
    let other : starts text_tokens (AName ∷ []) c.args.ahead.now.tokens.now ≡ false = search (rules, on, c.name_follows.ensures) in
    same_reading _ _ _ _ _ (is_worded_typed _ other) c.typed.ensures

pub returns-in_err-named : goal.returns-in_err-named
returns-in_err-named c = search (rules, bare_signal_fails)
