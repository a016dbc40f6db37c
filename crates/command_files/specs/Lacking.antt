-- Why nothing of a kind can be had from a file, from why it cannot be had from its bytes.
use Rattle.std.specs.Prelude.{ℕ, ◌≡◌, Option, List, string_bytes}
use Rattle.command_files.specs.declared.fault.LoadFault.{LoadFault}
use Rattle.command_files.specs.declared.fault.LoadFault.TheVariants as load
use Rattle.command_files.specs.FaultText.{shown_name}
use Rattle.command_files.specs.Files.{Contents, HasBytes, LacksFile}

-- nothing of the kind could be had from the file of this name, for this fault
abbrev pub FileLacks : (BytesLack : List ℕ → LoadFault → Type 0) → Option Contents → List ℕ → LoadFault → Type 0
FileLacks BytesLack files name load.Memory = Unit {0}
FileLacks BytesLack files name (load.File shown) = LacksFile files name × (string_bytes shown ≡ shown_name name)
FileLacks BytesLack files name f = (bytes : List ℕ) × HasBytes files name bytes × BytesLack bytes f
