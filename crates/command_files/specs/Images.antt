-- What a file of an image holds, or why no image can be had from it.
use Rattle.std.specs.Prelude.{ℕ, ◌≡◌, Option, Err, List, string_bytes}
use Rattle.sc_graph.specs.Valid.{IsValid}
use Rattle.bytecode.specs.Image.{Image}
use Rattle.bytecode.specs.Spells.{Spells}
use Rattle.bytecode.specs.Reading.Image.{Answers, reading, version_of}
use Rattle.verifier.specs.Verdict.{IsLowestBroken}
use Rattle.verifier.specs.declared.rule.Refusal.{Refusal}
use Rattle.verifier.specs.declared.rule.Refusal.TheVariants as refusal
use Rattle.command_files.specs.declared.fault.LoadFault.{LoadFault}
use Rattle.command_files.specs.declared.fault.LoadFault.TheVariants as fault
use Rattle.command_files.specs.FaultText.{shown_name}
use Rattle.command_files.specs.Files.{Contents, HasBytes, LacksFile}

-- the image is valid, and the bytes of the file of this name spell it, in the version that they say
pub record IsLoaded (files : Option Contents) (name : List ℕ) (image : Image) : Type 0 where
  pub bytes : List ℕ
  pub held : HasBytes files name bytes
  pub spelt : Spells (version_of bytes) bytes image
  pub valid : IsValid image.program image.tables

-- the lowest rule that the image breaks, and where. That memory was refused claims nothing
abbrev pub IsRefusal : Refusal → Image → Type 0
IsRefusal (refusal.Broken broken) image = IsLowestBroken image.program image.tables broken
IsRefusal refusal.Memory image = Unit {0}

-- these bytes give no valid image, for this fault
abbrev pub BytesLackImage : List ℕ → LoadFault → Type 0
BytesLackImage bytes (fault.Image f) = Answers (Err f) (reading (version_of bytes) bytes)
BytesLackImage bytes (fault.Rule r) = (image : Image) × Spells (version_of bytes) bytes image × IsRefusal r image
BytesLackImage bytes other = ⊥

-- no image could be had from the file of this name, for this fault
abbrev pub FileLacksImage : Option Contents → List ℕ → LoadFault → Type 0
FileLacksImage files name fault.Memory = Unit {0}
FileLacksImage files name (fault.File shown) = LacksFile files name × (string_bytes shown ≡ shown_name name)
FileLacksImage files name f = (bytes : List ℕ) × HasBytes files name bytes × BytesLackImage bytes f
