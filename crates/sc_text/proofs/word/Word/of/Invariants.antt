use Rattle.std.proofs.Common.{◌≡◌}
use Rattle.sc_text.specs.Words.{word_text}
use Rattle.sc_text.proofs.Table.{Left}
use Rattle.sc_text.proofs.word.Word.of.Given as goal

abbrev pub invariant-loop-word : goal.invariant-loop-word
invariant-loop-word l = Left (λ w. l.bytes ≡ word_text w) l.word-items l.word-index
