-- The text of an image for people.
use Rattle.std.specs.Prelude.{ℕ, ◌≡◌, List, [], ◌++◌}
use Rattle.bytecode.specs.Image.{Image}
use Rattle.image_listing.specs.Nodes.{nodes_text}

-- the line of each node stands in it, in the order of their numbers and with these cells, with some text before and behind
-- them
pub record IsListingWith (cells : List (List ℕ)) (image : Image) (text : List ℕ) : Type 0 where
  pub head : List ℕ
  pub tail : List ℕ
  pub is : text ≡ head ++ (nodes_text cells image.program.variables image.tables 0 image.program.nodes ++ tail)

-- without cells
abbrev pub IsListing : Image → List ℕ → Type 0
IsListing = IsListingWith []
