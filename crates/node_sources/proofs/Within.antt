-- Each token of a text lies in it.
use Rattle.std.proofs.Common.{◌≡◌, ℕ, zero, suc, ◌+◌, ◌<◌, Some, List, [], ◌∷◌, ◌++◌, length, slice_get, refl, subst, arith}
use Rattle.std.proofs.lemmas.List.{length-append}
use Rattle.sc_text.specs.declared.language.Language.{Language}
use Rattle.sc_text.specs.declared.token.Token.{Token}
use Rattle.sc_text.specs.Pieces.{IsPiece}
use Rattle.sc_text.specs.Tokens.{AreTokens, no_more, passes, token}
use Rattle.sc_text.proofs.Faces.{no_empty}

-- no piece is empty
piece_some : (piece : List ℕ) → IsPiece piece → 0 < length piece
piece_some [] h = absurd (no_empty [] h refl)
piece_some (b ∷ piece) h = omega arith

pub lie_in : (l : Language) (place : ℕ) (text : List ℕ) (tokens : List Token) → AreTokens l place text tokens → (n : ℕ) (t : Token) →
    slice_get tokens n ≡ Some t → t.at < place + length text
lie_in l place text tokens (no_more a) n t at = absurd cc
lie_in l place text tokens (passes a piece rest more long passed behind) n t at =
    let later : t.at < (place + length piece) + length rest = lie_in l (place + length piece) rest tokens behind n t at in
    let long = length-append piece rest in
    omega (arith, later, long)
lie_in l place text tokens (token a piece rest k more long spelled behind) zero t at =
    let same : record { kind = k; at = place } ≡ t = cc in
    let some : 0 < length piece = piece_some piece long.is_piece in
    let whole = length-append piece rest in
    let here : place < place + length (piece ++ rest) = omega (arith, some, whole) in
    subst (λ (u : Token). u.at < place + length (piece ++ rest)) same here
lie_in l place text tokens (token a piece rest k more long spelled behind) (suc n) t at =
    let later : t.at < (place + length piece) + length rest = lie_in l (place + length piece) rest more behind n t at in
    let whole = length-append piece rest in
    omega (arith, later, whole)
