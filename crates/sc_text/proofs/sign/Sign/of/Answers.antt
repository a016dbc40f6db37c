use Rattle.std.proofs.Common.{◌≡◌, ◌<◌, refl}
use Rattle.sc_text.specs.Words.{sign_text}
use Rattle.sc_text.proofs.Table.{left_next, unequal}
use Rattle.sc_text.proofs.sign.Sign.of.Goals as goal

pub loop-sign-preserved : goal.loop-sign-preserved
loop-sign-preserved c =
    let within : c.loop-sign.sign-index < 20 = c.loop-sign-test.true in
    left_next (λ s. c.args.bytes.now ≡ sign_text s) _ c.loop-sign.sign-index _ _ within refl
    (unequal sign_text _ _ _ _ c.text.ensures c.as_bytes.ensures.value c.if-eq.ensures) c.loop-sign.invariant
