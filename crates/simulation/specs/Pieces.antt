-- The pieces of a text between bytes of one kind.
use Rattle.std.specs.Prelude.{ℕ, ◌==◌, Bool, List, [], ◌∷◌, if◌then◌else◌}

abbrev pub is_between : ℕ → ℕ → Bool
is_between between byte = byte == between

abbrev pub onto_piece : ℕ → List (List ℕ) → List (List ℕ)
onto_piece byte [] = (byte ∷ []) ∷ []
onto_piece byte (piece ∷ pieces) = (byte ∷ piece) ∷ pieces

-- one piece more than there are such bytes. Some may be empty
abbrev pub pieces : ℕ → List ℕ → List (List ℕ)
pieces between [] = [] ∷ []
pieces between (byte ∷ bytes) = if is_between between byte then [] ∷ pieces between bytes else onto_piece byte (pieces between bytes)
