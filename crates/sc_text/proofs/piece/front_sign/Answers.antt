use Rattle.std.proofs.Common.{◌≡◌, ◌≤◌, ℕ, List, length, take}
use Rattle.std.specs.Prelude.{Option, Some, None, MatchOption, ◌≢◌}
use Rattle.sc_text.specs.declared.sign.Sign.{Sign}
use Rattle.sc_text.specs.Words.{sign_text}
use Rattle.sc_text.specs.Inside.{BeginsSign, BeginsNoSign}
use Rattle.sc_text.proofs.Cutting.{sign_found, sign_missed}
use Rattle.sc_text.proofs.piece.front_sign.Goals as goal

looked_up : (text : List ℕ) (n : ℕ) (r : Option Sign) → n ≤ length text
    → MatchOption r ((s : Sign) → take n text ≢ sign_text s) (λ s. take n text ≡ sign_text s) → MatchOption r (BeginsNoSign text n) (λ s. BeginsSign text n s)
looked_up text n None le h = sign_missed text n h
looked_up text n (Some s) le h = sign_found text n s le h

pub returns : goal.returns
returns c = looked_up c.args.text.now c.args.n c.of.result c.if-text-n.false c.of.ensures
