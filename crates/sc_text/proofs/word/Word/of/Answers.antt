use Rattle.std.proofs.Common.{◌≡◌, ◌<◌, refl}
use Rattle.sc_text.specs.Words.{word_text}
use Rattle.sc_text.proofs.Table.{left_next, unequal}
use Rattle.sc_text.proofs.word.Word.of.Goals as goal

pub loop-word-preserved : goal.loop-word-preserved
loop-word-preserved c =
    let within : c.loop-word.word-index < 30 = c.loop-word-test.true in
    left_next (λ w. c.args.bytes.now ≡ word_text w) _ c.loop-word.word-index _ _ within refl
    (unequal word_text _ _ _ _ c.text.ensures c.as_bytes.ensures.value c.if-eq.ensures) c.loop-word.invariant
