-- What is left where the text in some bytes is compiled: what is said of these bytes is said of their file then.
use Rattle.std.specs.Prelude.{ℕ, Bool, true, ◌≡◌, ◌⊎◌, Option, List, [], option_map, unwrap_or}
use Rattle.bytecode.specs.Image.{Image}
use Rattle.bytecode.specs.Spells.{Spells}
use Rattle.command_files.specs.declared.fault.LoadFault.{LoadFault}
use Rattle.command_files.specs.declared.fault.LoadFault.TheVariants as load
use Rattle.command_files.specs.Files.{Contents}
use Rattle.command_files.specs.Sources.{BytesLackImage, SpellsImage}
use Rattle.command_files.specs.Storing.{IsNotStored}
use Rattle.sct_command.specs.Explaining.{IsReport}
use Rattle.sct_command.specs.Inside.StoredImage.{KeepsImage, KeepsPart}
use Rattle.sct_command.specs.declared.source_image.HeldSource.{HeldSource}
use Rattle.sct_command.specs.declared.fault.Fault.{Fault}
use Rattle.sct_command.specs.declared.fault.Fault.TheVariants as fault

-- they spell an image, which was kept
pub record KeepsProgram (bytes : List ℕ) (files files' : Option Contents) (to : List ℕ) (old new : Option (List ℕ)) : Type 0 where
  pub image : Image
  pub spelt : SpellsImage bytes image
  pub keeps : KeepsImage image files files' to old new

-- it was stored, and the output failed; or there is none, or it cannot be stored, and nothing was written
abbrev pub RefusesProgram : (bytes : List ℕ) → Option Contents → Option Contents → List ℕ → Option (List ℕ) → Option (List ℕ)
    → Fault → Type 0
RefusesProgram bytes files files' to old new fault.Write =
    (image : Image) × SpellsImage bytes image × KeepsPart image files files' to old new
RefusesProgram bytes files files' to old new (fault.Files f) =
    (BytesLackImage bytes f ⊎ IsNotStored to f) × (files' ≡ files) × (new ≡ old)
RefusesProgram bytes files files' to old new other = ⊥

-- the image that they spell is this one in version 2
pub record IsSpelt (bytes spelling : List ℕ) : Type 0 where
  pub image : Image
  pub source : SpellsImage bytes image
  pub spelt : Spells 2 spelling image

-- what is said beside, of these bytes: a report of their fault where words are wanted, or nothing
abbrev pub IsHeldReport : (name bytes : List ℕ) → Bool → LoadFault → List ℕ → Type 0
IsHeldReport name bytes wanted f said = (said ≡ []) ⊎ ((wanted ≡ true) × IsReport name bytes f said)

abbrev pub SaysOfBytes : (name bytes : List ℕ) → Bool → Fault → List ℕ → Type 0
SaysOfBytes name bytes wanted (fault.Files f) said = IsHeldReport name bytes wanted f said
SaysOfBytes name bytes wanted other said = said ≡ []

-- what is written in the file of a source: the text of the extended chart that is reduced to it, or the source itself
abbrev pub written_in : HeldSource → List ℕ
written_in s = unwrap_or (option_map (λ w. w.items) s.written) s.bytes.items

-- memory alone was refused
abbrev pub IsMemory : LoadFault → Type 0
IsMemory f = f ≡ load.Memory
