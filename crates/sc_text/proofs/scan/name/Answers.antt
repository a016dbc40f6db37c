use Rattle.std.proofs.Common.{sym, subst}
use Rattle.std.proofs.lemmas.Bool.{false_from_ne_true}
use Rattle.sc_text.specs.Tokens.{Spells}
use Rattle.sc_text.specs.declared.token.TokenKind.TheVariants as kind
use Rattle.sc_text.proofs.Meanings.{name_spelled, name_barred, name_long}
use Rattle.sc_text.proofs.scan.name.Goals as goal

pub returns-in-Some : goal.returns-in-Some
returns-in-Some c =
    subst (λ n. Spells c.args.language c.args.bytes.now (kind.Name n)) (sym c.in-Some.ensures.1)
    (name_spelled _ _ c.requires.made_of c.requires.free (sym c.if-allows.ensures) c.in-Some.ensures.0)

pub returns-in-None : goal.returns-in-None
returns-in-None c = name_long _ _ c.requires.made_of (sym c.if-allows.ensures) (false_from_ne_true _ c.in-None.ensures)

pub returns-else-allows : goal.returns-else-allows
returns-else-allows c = name_barred _ _ c.requires.made_of (sym c.if-allows.ensures)
