-- What private functions say of a text that is written piece by piece. No public contract rests on it.
use Rattle.std.specs.Prelude.{ℕ, ◌≡◌, true, false, List, ◌++◌, string_bytes}
use Rattle.diagnostics.specs.declared.page.Page.{Page}

-- that memory was refused is not forgotten
abbrev pub KeepsRefusal : Page → Page → Type 0
KeepsRefusal old new = new.is_refused ≡ false → old.is_refused ≡ false

-- this was put behind what stood there, unless memory was refused
pub record Puts (old new : Page) (piece : List ℕ) : Type 0 where
  pub fine : KeepsRefusal old new
  pub is : new.is_refused ≡ false → string_bytes new.text ≡ string_bytes old.text ++ piece

-- this is all that was put
pub record IsWhole (page : Page) (text : List ℕ) : Type 0 where
  pub fine : page.is_refused ≡ false
  pub is : text ≡ string_bytes page.text
