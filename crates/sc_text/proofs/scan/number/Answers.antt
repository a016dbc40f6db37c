use Rattle.std.proofs.Common.{sym, subst}
use Rattle.sc_text.specs.Tokens.{Spells}
use Rattle.sc_text.specs.declared.token.TokenKind.TheVariants as kind
use Rattle.sc_text.proofs.Meanings.{number_idle, number_spelled, number_large, value_kept}
use Rattle.sc_text.proofs.scan.number.Goals as goal

pub returns-then-has_idle_zero : goal.returns-then-has_idle_zero
returns-then-has_idle_zero c = number_idle _ c.requires (sym c.if-has_idle_zero.ensures)

pub returns-in-Some : goal.returns-in-Some
returns-in-Some c = λ l.
    subst (λ n. Spells l c.args.digits.now (kind.Number n)) (sym (value_kept _ _ c.in-Some.ensures))
    (number_spelled _ _ c.requires (sym c.if-has_idle_zero.ensures) c.in-Some.ensures l)

pub returns-in-None : goal.returns-in-None
returns-in-None c = number_large _ c.requires (sym c.if-has_idle_zero.ensures) c.in-None.ensures
