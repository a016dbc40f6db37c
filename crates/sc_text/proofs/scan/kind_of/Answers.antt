use Rattle.std.proofs.Common.{subst, rules, arith}
use Rattle.std.proofs.lemmas.Grind.{common_steps}
use Rattle.sc_text.specs.Inside.{IsMadeOf}
use Rattle.sc_text.proofs.Meanings.{sign_spelled, blank_passes, comment_passes}
use Rattle.sc_text.proofs.scan.kind_of.Goals as goal

pub returns-in-Sign : goal.returns-in-Sign
returns-in-Sign c = sign_spelled _ _ _ (subst (λ p. IsMadeOf p c.args.bytes.now) c.in-Sign.is c.requires)

pub returns-in-Blank : goal.returns-in-Blank
returns-in-Blank c = blank_passes _ (subst (λ p. IsMadeOf p c.args.bytes.now) c.in-Blank.is c.requires)

pub returns-in-Comment : goal.returns-in-Comment
returns-in-Comment c = comment_passes _ (subst (λ p. IsMadeOf p c.args.bytes.now) c.in-Comment.is c.requires)

pub returns-in_err-number-in-Digits : goal.returns-in_err-number-in-Digits
returns-in_err-number-in-Digits c =
    let refused = c.in_err-number-in-Digits.ensures c.args.language in
    first_of (search rules, grind (arith, common_steps))

pub returns-in_ok-number-in-Digits : goal.returns-in_ok-number-in-Digits
returns-in_ok-number-in-Digits c = c.in_ok-number-in-Digits.ensures c.args.language
