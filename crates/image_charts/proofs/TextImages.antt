-- From the image of a source, or why it has none, to the text that stands for it.
use Rattle.std.proofs.Common.{◌≡◌, ℕ, List, Option, inl, inr, refl, subst}
use Rattle.bytecode.specs.Image.{Image}
use Rattle.command_files.proofs.Held.{compiled, no_compiled}
use Rattle.command_files.proofs.Sourced.{no_source_in}
use Rattle.command_files.specs.declared.fault.LoadFault.{LoadFault}
use Rattle.command_files.specs.declared.fault.LoadFault.TheVariants as load
use Rattle.command_files.specs.Counting.{files_failed}
use Rattle.command_files.specs.Files.{Contents, HasBytes}
use Rattle.command_files.specs.Sources.{BytesLackCompiled, FileLacksCompiled, IsCompiledFrom, SpellsImage}
use Rattle.command_files.specs.Standing.{AreAsWritten, AreReduced, StandsFor}
use Rattle.image_charts.specs.Written.{MakesImage, MakesNoImage}

pub own_image : (written : List ℕ) (image : Image) → AreAsWritten written written → SpellsImage written image → MakesImage written image
own_image written image itself is = record { source = written; stands = inl itself; spelt = is }

pub reduced_image : (written source : List ℕ) (image : Image) → AreReduced written source → SpellsImage source image → MakesImage written image
reduced_image written source image reduced is = record { source = source; stands = inr reduced; spelt = is }

pub no_own_image : (written : List ℕ) (f : LoadFault) → AreAsWritten written written → BytesLackCompiled written f → MakesNoImage written f
no_own_image written f itself none = inr (record { source = written; stands = inl itself; none = none })

pub no_reduced_image : (written source : List ℕ) (f : LoadFault) → AreReduced written source → BytesLackCompiled source f → MakesNoImage written f
no_reduced_image written source f reduced none = inr (record { source = source; stands = inr reduced; none = none })

-- ---- in a file

pub compiled_in : (files : Option Contents) (name written seen : List ℕ) (image : Image) → HasBytes files name written → seen ≡ written
    → MakesImage seen image → IsCompiledFrom files name image
compiled_in files name written seen image held same makes =
    compiled files name makes.source image (record { written = written; held = held; stands = subst (λ w. StandsFor w makes.source) same makes.stands })
    makes.spelt

none_in : (files : Option Contents) (name written : List ℕ) (f : LoadFault) → HasBytes files name written → MakesNoImage written f
    → FileLacksCompiled files name f
none_in files name written f held (inl none) = inl (no_source_in files name written written f held refl none)
none_in files name written f held (inr other) =
    no_compiled files name other.source f (record { written = written; held = held; stands = other.stands }) other.none

pub no_compiled_in : (files : Option Contents) (name written seen : List ℕ) (f : LoadFault) → HasBytes files name written → seen ≡ written
    → MakesNoImage seen f → FileLacksCompiled files name f
no_compiled_in files name written seen f held same none = none_in files name written f held (subst (λ w. MakesNoImage w f) same none)

-- no file failed where bytes have no image
pub quiet : (bytes : List ℕ) (f : LoadFault) → BytesLackCompiled bytes f → files_failed f ≡ 0
quiet bytes load.Memory none = refl
quiet bytes (load.File shown) (inl none) = absurd none
quiet bytes (load.File shown) (inr none) = absurd none
quiet bytes (load.Image f) none = refl
quiet bytes (load.Rule f) none = refl
quiet bytes (load.Text f) none = refl
quiet bytes (load.Program f) none = refl
quiet bytes (load.Source shown) none = refl
