-- From why two files do not give an image and its chart to why there are none.
use Rattle.std.proofs.Common.{◌≡◌, ℕ, List, Option, Result, Ok, Err, IfErr, inl, inr, refl, subst}
use Rattle.bytecode.specs.Image.{Image}
use Rattle.command_files.specs.declared.fault.LoadFault.{LoadFault}
use Rattle.command_files.specs.declared.fault.LoadFault.TheVariants as load
use Rattle.command_files.proofs.Sourced.{no_source_in}
use Rattle.command_files.specs.Files.{Contents, HasBytes}
use Rattle.command_files.specs.Images.{IsLoaded, FileLacksImage}
use Rattle.command_files.specs.Standing.{FileLacksSource, HasSource}
use Rattle.image_charts.specs.Charts.{IsNotChartOf, NamedStates}
use Rattle.image_charts.specs.Files.{FilesLackStates, HasStates}
use Rattle.image_charts.specs.Written.{IsNoTextBeside, IsTextBeside}

-- there is no image
pub no_image : (files : Option Contents) (name chart : List ℕ) (f : LoadFault) → FileLacksImage files name f → FilesLackStates files name chart f
no_image files name chart load.Memory none = tt
no_image files name chart (load.File shown) none = inl none
no_image files name chart (load.Image f) none = inl none
no_image files name chart (load.Rule f) none = inl none
no_image files name chart (load.Text f) none = inl none
no_image files name chart (load.Program f) none = inl none
no_image files name chart (load.Source shown) none = inl none

-- there is no source in the file of the chart
pub unread : (files : Option Contents) (name chart : List ℕ) (f : LoadFault) → FileLacksSource files chart f → FilesLackStates files name chart f
unread files name chart load.Memory none = tt
unread files name chart (load.File shown) none = inr (inl none)
unread files name chart (load.Image f) none = inr (inl none)
unread files name chart (load.Rule f) none = inr (inl none)
unread files name chart (load.Text f) none = inr (inl none)
unread files name chart (load.Program f) none = inr (inl none)
unread files name chart (load.Source shown) none = inr (inl none)

-- it has another chart, or none
another : (files : Option Contents) (name chart bytes : List ℕ) (image : Image) (f : LoadFault)
    → IsLoaded files name image → HasSource files chart bytes → IsNotChartOf chart bytes image f → FilesLackStates files name chart f
another files name chart bytes image load.Memory loaded held not = tt
another files name chart bytes image (load.File shown) loaded held not = absurd not
another files name chart bytes image (load.Image f) loaded held not = absurd not
another files name chart bytes image (load.Rule f) loaded held not = absurd not
another files name chart bytes image (load.Text f) loaded held not =
    inr (inr (record { image = image; loaded = loaded; bytes = bytes; held = held; not = not }))
another files name chart bytes image (load.Program f) loaded held not =
    inr (inr (record { image = image; loaded = loaded; bytes = bytes; held = held; not = not }))
another files name chart bytes image (load.Source shown) loaded held not =
    inr (inr (record { image = image; loaded = loaded; bytes = bytes; held = held; not = not }))

-- what is written stands for no source, or for another one
another_text : (files : Option Contents) (name chart written : List ℕ) (image : Image) (f : LoadFault) → IsLoaded files name image
    → HasBytes files chart written → IsNoTextBeside chart written image f → FilesLackStates files name chart f
another_text files name chart written image f loaded held (inl why) =
    unread files name chart f (no_source_in files chart written written f held refl why)
another_text files name chart written image f loaded held (inr other) =
    another files name chart other.source image f loaded (record { written = written; held = held; stands = other.stands }) other.not

-- there is an image, and its text; what files hold in between is what they held, and the bytes that are seen are those that they hold
pub has_states : (files middle : Option Contents) (name chart written seen : List ℕ) (image : Image) (states : NamedStates) → middle ≡ files
    → seen ≡ written → IsLoaded files name image → HasBytes middle chart written → IsTextBeside seen image states
    → HasStates files name chart image states
has_states files middle name chart written seen image states same again loaded held is = record {
  loaded = loaded;
  written = written;
  held = subst (λ m. HasBytes m chart written) same held;
  is = subst (λ w. IsTextBeside w image states) again is;
}

pub another_behind : (files middle : Option Contents) (name chart written seen : List ℕ) (image : Image) (f : LoadFault) → middle ≡ files
    → seen ≡ written → IsLoaded files name image → HasBytes middle chart written → IsNoTextBeside chart seen image f
    → FilesLackStates files name chart f
another_behind files middle name chart written seen image f same again loaded held not =
    another_text files name chart written image f loaded (subst (λ m. HasBytes m chart written) same held)
    (subst (λ w. IsNoTextBeside chart w image f) again not)

-- what holds, whichever fault it is
pub refused_so : {T E : Type 0} (P : Type 0) (r : Result T E) → P → IfErr r (λ f. P)
refused_so P (Ok done) so = tt
refused_so P (Err f) so = so
