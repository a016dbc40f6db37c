-- What is listed of an image beside its text: the line of each node, with a cell behind its number.
use Rattle.std.specs.Prelude.{ℕ, List}
use Rattle.bytecode.specs.Image.{Image}
use Rattle.image_listing.specs.Listing.{IsListingWith}

pub record ListsPlaces (image : Image) (text : List ℕ) : Type 0 where
  pub cells : List (List ℕ)
  pub listing : IsListingWith cells image text
