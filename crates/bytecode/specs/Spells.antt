-- What bytes spell.
use Rattle.std.specs.Prelude.{◌≡◌, ℕ, List}
use Rattle.bytecode.specs.Image.{Image}
use Rattle.bytecode.specs.Layout.{spelling}
use Rattle.bytecode.specs.Fits.{SayableImage}

-- the bytes are those of an image that this version of the layout can say
pub record Spells (version : ℕ) (bytes : List ℕ) (i : Image) : Type 0 where
  pub fits : SayableImage version i
  pub spelt : bytes ≡ spelling version i
