use Rattle.std.proofs.Common.{◌≡◌}
use Rattle.sc_text.specs.Words.{sign_text}
use Rattle.sc_text.proofs.Table.{Left}
use Rattle.sc_text.proofs.sign.Sign.of.Given as goal

abbrev pub invariant-loop-sign : goal.invariant-loop-sign
invariant-loop-sign l = Left (λ s. l.bytes ≡ sign_text s) l.sign-items l.sign-index
