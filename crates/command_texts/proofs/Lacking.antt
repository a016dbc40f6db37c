-- From why a file's bytes cannot be had, or have no text of a kind, to why the file has none.
use Rattle.std.proofs.Common.{ℕ, List, Option}
use Rattle.std.specs.Prelude.{String}
use Rattle.std.specs.declared.alloc.Global.{Global}
use Rattle.command_files.specs.declared.fault.LoadFault.{LoadFault}
use Rattle.command_files.specs.declared.fault.LoadFault.TheVariants as load
use Rattle.command_files.specs.Files.{Contents, HasBytes}
use Rattle.command_files.specs.Images.{FileLacksImage}
use Rattle.command_files.specs.Standing.{FileLacksSource}
use Rattle.command_files.specs.Lacking.{FileLacks}

-- of a file that gives neither an image nor a source nothing could be had
pub no_file : (BytesLack : List ℕ → LoadFault → Type 0) (files : Option Contents) (name : List ℕ) (f : LoadFault)
    → FileLacksImage files name f → FileLacksSource files name f → FileLacks BytesLack files name f
no_file BytesLack files name load.Memory image source = tt
no_file BytesLack files name (load.File shown) image source = image
no_file BytesLack files name (load.Image f) image (bytes, held, why) = absurd why.1
no_file BytesLack files name (load.Rule f) image (bytes, held, why) = absurd why.1
no_file BytesLack files name (load.Text f) (bytes, held, image) source = absurd image
no_file BytesLack files name (load.Program f) (bytes, held, image) source = absurd image
no_file BytesLack files name (load.Source shown) image (bytes, held, why) = absurd why.1

-- nor of one whose bytes have no such text, which is never for want of the file
pub no_text : (BytesLack : List ℕ → LoadFault → Type 0) → ((bytes : List ℕ) (shown : String Global) → BytesLack bytes (load.File shown) → ⊥)
    → (files : Option Contents) (name bytes : List ℕ) (f : LoadFault) → HasBytes files name bytes → BytesLack bytes f → FileLacks BytesLack files name f
no_text BytesLack read files name bytes load.Memory held none = tt
no_text BytesLack read files name bytes (load.File shown) held none = absurd (read bytes shown none)
no_text BytesLack read files name bytes (load.Image f) held none = (bytes, held, none)
no_text BytesLack read files name bytes (load.Rule f) held none = (bytes, held, none)
no_text BytesLack read files name bytes (load.Text f) held none = (bytes, held, none)
no_text BytesLack read files name bytes (load.Program f) held none = (bytes, held, none)
no_text BytesLack read files name bytes (load.Source shown) held none = (bytes, held, none)
