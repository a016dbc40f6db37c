use Rattle.std.proofs.Common.{take}
use Rattle.sc_text.specs.Words.{sign_text}
use Rattle.diagnostics.specs.Continuations.{AreThose, CanFollow}
use Rattle.diagnostics.proofs.could_follow.continuations.signs.Given as goal

abbrev pub invariant-loop-sign : goal.invariant-loop-sign
invariant-loop-sign l = AreThose (λ x. CanFollow l.grammar l.front (sign_text x)) (take l.sign-index l.sign-items) l.found
