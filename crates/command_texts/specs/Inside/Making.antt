-- Whether what is written stands for a source that makes a program.
use Rattle.std.specs.Prelude.{ℕ, ◌⊎◌, List}
use Rattle.std.specs.Str.{IsUtf8}
use Rattle.sc_graph.specs.Program.{Program}
use Rattle.command_files.specs.declared.fault.LoadFault.{LoadFault}
use Rattle.command_files.specs.Standing.{BytesLackSource, StandsFor}
use Rattle.compiler.specs.Graphs.{Makes}
use Rattle.command_texts.specs.Listing.{BytesLackPlaces}

-- these bytes stand for a text that makes this program
pub record StandsMaking (written : List ℕ) (p : Program) : Type 0 where
  pub bytes : List ℕ
  pub stands : StandsFor written bytes
  pub is_text : IsUtf8 bytes
  pub makes : Makes bytes p

-- these bytes of the file of this name stand for no source, or for one that gives no places
abbrev pub StandsWithout : (source written : List ℕ) → Program → LoadFault → Type 0
StandsWithout source written p f = BytesLackSource written f ⊎ ((bytes : List ℕ) × StandsFor written bytes × BytesLackPlaces source bytes p f)
