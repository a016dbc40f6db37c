-- Images as lines of JSON, without the states of a chart and with them.
use Rattle.std.specs.Prelude.{ℕ, ◌≡◌, Option, Some, None, List}
use Rattle.bytecode.specs.Image.{Image}
use Rattle.image_listing.specs.Json.{image_json}
use Rattle.image_charts.specs.Charts.{NamedStates}
use Rattle.image_charts.specs.Files.{HasStates}
use Rattle.command_files.specs.Files.{Contents}
use Rattle.command_files.specs.Images.{IsLoaded}

-- the line of the image in this file
pub record IsJsonIn (files : Option Contents) (name text : List ℕ) : Type 0 where
  pub image : Image
  pub loaded : IsLoaded files name image
  pub is : text ≡ image_json None image

-- the line of the image in one file, with the paths of the states of its chart, which is in the other
pub record IsJsonWithStates (files : Option Contents) (name chart text : List ℕ) : Type 0 where
  pub image : Image
  pub states : NamedStates
  pub has : HasStates files name chart image states
  pub is : text ≡ image_json (Some states.paths) image
