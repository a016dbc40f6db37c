-- What private functions say of a text that is put together. No public contract rests on it.
use Rattle.std.specs.Prelude.{ℕ, ◌≡◌, Bool, true, false, List, [], ◌++◌, string_bytes}
use Rattle.drawing.specs.declared.text.Text.{Text}

-- this was put behind what stood there, unless memory was refused
pub record Puts (old new : Text) (piece : List ℕ) : Type 0 where
  pub fine : new.is_refused ≡ false → old.is_refused ≡ false
  pub is : new.is_refused ≡ false → string_bytes new.text ≡ string_bytes old.text ++ piece

-- this is all that was put
pub record IsWhole (t : Text) (text : List ℕ) : Type 0 where
  pub fine : t.is_refused ≡ false
  pub is : text ≡ string_bytes t.text

abbrev pub when : Bool → List ℕ → List ℕ
when true piece = piece
when false piece = []
