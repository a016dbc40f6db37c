use Rattle.std.proofs.Common.{rules, ◌≡◌, true, false, [], ◌∷◌}
use Rattle.grammar.specs.Read.{starts}
use Rattle.sc_text.specs.declared.word.Word.TheVariants as word
use Rattle.sc_text.specs.Classes.{AName, TheWord}
use Rattle.sc_text.specs.Expression.{text_tokens}
use Rattle.sc_text.proofs.Outcomes.{either_way}
use Rattle.scl_reader.proofs.Single.{simple_named_reads, simple_named_stops, simple_goto_reads, simple_goto_stops, simple_pause_reads, simple_pause_stops}
use Rattle.scl_reader.proofs.text_drafts.simple.simple.Goals as goal

pub returns-then-name_follows : goal.returns-then-name_follows
returns-then-name_follows c =
    let on = c.if-name_follows.true in
    let begins : starts text_tokens (AName ∷ []) c.args.tokens.now ≡ true = search (rules, on, c.name_follows.ensures) in
    either_way _ c.named.ensures (λ x. simple_named_reads _ _ _ _ begins) (λ f. simple_named_stops _ _ f begins)

pub returns-then-word_follows : goal.returns-then-word_follows
returns-then-word_follows c =
    let off = c.if-name_follows.false in
    let on = c.if-word_follows.true in
    let other : starts text_tokens (AName ∷ []) c.args.tokens.now ≡ false = search (rules, off, c.name_follows.ensures) in
    let begins : starts text_tokens (TheWord word.Goto ∷ []) c.args.tokens.now ≡ true = search (rules, on, c.word_follows.ensures) in
    either_way _ c.goto.ensures (λ x. simple_goto_reads _ _ _ _ other begins) (λ f. simple_goto_stops _ _ f other begins)

pub returns : goal.returns
returns c =
    let off = c.if-name_follows.false in
    let off_too = c.if-word_follows.false in
    let other : starts text_tokens (AName ∷ []) c.args.tokens.now ≡ false = search (rules, off, c.name_follows.ensures) in
    let nor : starts text_tokens (TheWord word.Goto ∷ []) c.args.tokens.now ≡ false = search (rules, off_too, c.word_follows.ensures) in
    either_way _ c.pause.ensures (λ x. simple_pause_reads _ _ _ _ other nor) (λ f. simple_pause_stops _ _ f other nor)
