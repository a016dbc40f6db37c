-- Listings of images, without the places of nodes in a source and with them.
use Rattle.std.specs.Prelude.{ℕ, ◌≡◌, ◌⊎◌, Option, List, string_bytes}
use Rattle.std.specs.Str.{IsUtf8}
use Rattle.sc_graph.specs.Program.{Program}
use Rattle.bytecode.specs.Image.{Image}
use Rattle.image_listing.specs.Listing.{IsListing}
use Rattle.command_files.specs.declared.fault.LoadFault.{LoadFault}
use Rattle.command_files.specs.declared.fault.LoadFault.TheVariants as load
use Rattle.command_files.specs.FaultText.{shown_name}
use Rattle.command_files.specs.Files.{Contents}
use Rattle.command_files.specs.Images.{IsLoaded, FileLacksImage}
use Rattle.compiler.specs.Graphs.{Makes}
use Rattle.command_files.specs.Making.{IsUnmade}
use Rattle.command_files.specs.Sources.{FileLacksProgram, BytesLackProgram}
use Rattle.command_files.specs.Standing.{HasSource}

-- a listing of the image in this file
pub record IsListingIn (files : Option Contents) (name text : List ℕ) : Type 0 where
  pub image : Image
  pub loaded : IsLoaded files name image
  pub listing : IsListing image text

-- there is an image in one file, and a text in another which makes the image's program
pub record HasPlaces (files : Option Contents) (name source : List ℕ) : Type 0 where
  pub image : Image
  pub loaded : IsLoaded files name image
  pub bytes : List ℕ
  pub held : HasSource files source bytes
  pub is_text : IsUtf8 bytes
  pub makes : Makes bytes image.program

-- why these bytes of the file of this name give no places of a program's nodes: they are no text, or none that makes
-- the program
abbrev pub BytesLackPlaces : List ℕ → List ℕ → Program → LoadFault → Type 0
BytesLackPlaces source bytes p load.Memory = Unit {0}
BytesLackPlaces source bytes p (load.Source shown) = (string_bytes shown ≡ shown_name source) × IsUtf8 bytes × IsUnmade bytes p
BytesLackPlaces source bytes p other = BytesLackProgram bytes other

-- there is a valid image in the first file, and a text in the second, which does not make the image's program
pub record IsAnotherSource (files : Option Contents) (name source : List ℕ) : Type 0 where
  pub image : Image
  pub loaded : IsLoaded files name image
  pub bytes : List ℕ
  pub held : HasSource files source bytes
  pub is_text : IsUtf8 bytes
  pub unmade : IsUnmade bytes image.program

-- there is no valid image in the first file, or no text in the second, or that does not make the image
abbrev pub FilesLackPlaces : Option Contents → List ℕ → List ℕ → LoadFault → Type 0
FilesLackPlaces files name source (load.Source shown) =
    (string_bytes shown ≡ shown_name source) × IsAnotherSource files name source
FilesLackPlaces files name source other = FileLacksImage files name other ⊎ FileLacksProgram files source other
