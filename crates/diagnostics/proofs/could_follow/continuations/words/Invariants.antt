use Rattle.std.proofs.Common.{take}
use Rattle.sc_text.specs.Words.{word_text}
use Rattle.diagnostics.specs.Continuations.{AreThose, CanFollow}
use Rattle.diagnostics.proofs.could_follow.continuations.words.Given as goal

abbrev pub invariant-loop-word : goal.invariant-loop-word
invariant-loop-word l = AreThose (λ x. CanFollow l.grammar l.front (word_text x)) (take l.word-index l.word-items) l.found
