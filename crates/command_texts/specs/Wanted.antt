-- What a request for one text gives, or why there is none.
use Rattle.std.specs.Prelude.{ℕ, Option, List}
use Rattle.command_files.specs.declared.fault.LoadFault.{LoadFault}
use Rattle.command_files.specs.Files.{Contents}
use Rattle.command_files.specs.Images.{FileLacksImage}
use Rattle.command_words.specs.Request.{Wanted, Summary, Core, Reduced, Nodes, Places, Json, JsonWithStates, Drawing, Migrated}
use Rattle.image_charts.specs.Files.{FilesLackStates}
use Rattle.command_texts.specs.Cores.{IsCoreIn, FileLacksCore}
use Rattle.command_texts.specs.Drawing.{HasDrawingIn, FileLacksDrawing}
use Rattle.command_texts.specs.Images.{AreOfImage}
use Rattle.command_texts.specs.Json.{IsJsonIn, IsJsonWithStates}
use Rattle.command_texts.specs.Reductions.{IsReducedIn, FileLacksReduced}
use Rattle.command_texts.specs.Listing.{IsListingIn, HasPlaces, FilesLackPlaces}
use Rattle.command_texts.specs.Summary.{IsSummaryIn}

-- a summary, a core chart, the chart of an extended one, a listing, a line of JSON, or an image, which is that of the definitions;
-- of a listing with places and of a drawing only what they are made of is said
abbrev pub IsMadeFor : Option Contents → Wanted → List ℕ → Type 0
IsMadeFor files (Summary name) text = IsSummaryIn files name text
IsMadeFor files (Core name) text = IsCoreIn files name text
IsMadeFor files (Reduced name) text = IsReducedIn files name text
IsMadeFor files (Nodes name) text = IsListingIn files name text
IsMadeFor files (Places name source) text = HasPlaces files name source
IsMadeFor files (Json name) text = IsJsonIn files name text
IsMadeFor files (JsonWithStates name chart) text = IsJsonWithStates files name chart text
IsMadeFor files (Drawing name) text = HasDrawingIn files name
IsMadeFor files (Migrated from) bytes = AreOfImage files from bytes

abbrev pub LacksWanted : Option Contents → Wanted → LoadFault → Type 0
LacksWanted files (Summary name) f = FileLacksImage files name f
LacksWanted files (Core name) f = FileLacksCore files name f
LacksWanted files (Reduced name) f = FileLacksReduced files name f
LacksWanted files (Nodes name) f = FileLacksImage files name f
LacksWanted files (Places name source) f = FilesLackPlaces files name source f
LacksWanted files (Json name) f = FileLacksImage files name f
LacksWanted files (JsonWithStates name chart) f = FilesLackStates files name chart f
LacksWanted files (Drawing name) f = FileLacksDrawing files name f
LacksWanted files (Migrated from) f = FileLacksImage files from f
