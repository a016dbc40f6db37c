-- Why a source gives no places of an image's nodes, and where it gives them.
use Rattle.std.proofs.Common.{◌≡◌, ℕ, List, Option, Result, Ok, Err, IfOk, IfErr, inl, inr, subst, sym}
use Rattle.std.specs.Str.{IsUtf8}
use Rattle.sc_graph.specs.Program.{Program}
use Rattle.bytecode.specs.Image.{Image}
use Rattle.command_files.specs.declared.fault.LoadFault.{LoadFault}
use Rattle.command_files.specs.declared.fault.LoadFault.TheVariants as load
use Rattle.command_files.specs.Files.{Contents, HasBytes}
use Rattle.command_files.specs.Images.{IsLoaded}
use Rattle.command_files.specs.Standing.{AreAsWritten, AreReduced, FileLacksSource, HasSource}
use Rattle.command_files.proofs.Sourced.{no_source_in}
use Rattle.compiler.specs.Graphs.{Makes}
use Rattle.command_texts.specs.Listing.{BytesLackPlaces, FilesLackPlaces, HasPlaces}
use Rattle.command_texts.specs.Inside.Making.{StandsMaking, StandsWithout}

-- there is none
pub no_source : (files : Option Contents) (name source : List ℕ) (f : LoadFault) → FileLacksSource files source f → FilesLackPlaces files name source f
no_source files name source load.Memory why = inr (inl why)
no_source files name source (load.File shown) why = inr (inl why)
no_source files name source (load.Image f) why = inr (inl why)
no_source files name source (load.Rule f) why = inr (inl why)
no_source files name source (load.Text f) why = inr (inl why)
no_source files name source (load.Program f) why = inr (inl why)
no_source files name source (load.Source shown) (bytes, held, why) = absurd why.1

none_in : (files : Option Contents) (name source bytes : List ℕ) (image : Image) (f : LoadFault) → IsLoaded files name image → HasSource files source bytes
    → BytesLackPlaces source bytes image.program f → FilesLackPlaces files name source f
none_in files name source bytes image load.Memory loaded held why = inr (inl tt)
none_in files name source bytes image (load.File shown) loaded held why = absurd why
none_in files name source bytes image (load.Image f) loaded held why = absurd why
none_in files name source bytes image (load.Rule f) loaded held why = absurd why
none_in files name source bytes image (load.Text f) loaded held why = inr (inr (bytes, held, why))
none_in files name source bytes image (load.Program f) loaded held why = inr (inr (bytes, held, why))
none_in files name source bytes image (load.Source shown) loaded held (is, text, unmade) =
    (is, record { image = image; loaded = loaded; bytes = bytes; held = held; is_text = text; unmade = unmade })

-- ---- what is written, and the source for which it stands

pub written_makes : {T : Type 0} (r : Result T LoadFault) (written : List ℕ) (p : Program) → AreAsWritten written written → IfOk r (λ t. IsUtf8 written)
    → IfOk r (λ t. Makes written p) → IfOk r (λ t. StandsMaking written p)
written_makes (Err f) written p stands text makes = tt
written_makes (Ok t) written p stands text makes = record { bytes = written; stands = inl stands; is_text = text; makes = makes }

pub written_lacks : {T : Type 0} (r : Result T LoadFault) (source written : List ℕ) (p : Program) → AreAsWritten written written
    → IfErr r (BytesLackPlaces source written p) → IfErr r (StandsWithout source written p)
written_lacks (Ok t) source written p stands why = tt
written_lacks (Err f) source written p stands why = inr (written, inl stands, why)

pub reduced_makes : {T : Type 0} (r : Result T LoadFault) (written text made : List ℕ) (p : Program) → made ≡ text → AreReduced written text
    → IfOk r (λ t. IsUtf8 made) → IfOk r (λ t. Makes made p) → IfOk r (λ t. StandsMaking written p)
reduced_makes (Err f) written text made p is reduced utf8 makes = tt
reduced_makes (Ok t) written text made p is reduced utf8 makes =
    record { bytes = made; stands = inr (subst (AreReduced written) (sym is) reduced); is_text = utf8; makes = makes }

pub reduced_lacks : {T : Type 0} (r : Result T LoadFault) (source written text made : List ℕ) (p : Program) → made ≡ text → AreReduced written text
    → IfErr r (BytesLackPlaces source made p) → IfErr r (StandsWithout source written p)
reduced_lacks (Ok t) source written text made p is reduced why = tt
reduced_lacks (Err f) source written text made p is reduced why = inr (made, inr (subst (AreReduced written) (sym is) reduced), why)

-- ---- what is said of the bytes of a file is said of the file

held_there : (files files' : Option Contents) (source items bytes : List ℕ) → files' ≡ files → HasBytes files' source items → bytes ≡ items
    → HasBytes files source bytes
held_there files files' source items bytes same held is =
    subst (λ x. HasBytes x source bytes) same (subst (HasBytes files' source) (sym is) held)

pub places_there : (files files' : Option Contents) (name source items bytes : List ℕ) (image : Image) → IsLoaded files name image
    → files' ≡ files → HasBytes files' source items → bytes ≡ items → StandsMaking bytes image.program → HasPlaces files name source
places_there files files' name source items bytes image loaded same held is made = record {
  image = image;
  loaded = loaded;
  bytes = made.bytes;
  held = record { written = bytes; held = held_there files files' source items bytes same held is; stands = made.stands };
  is_text = made.is_text;
  makes = made.makes;
}

pub no_places : (files files' : Option Contents) (name source items bytes : List ℕ) (image : Image) (f : LoadFault) → IsLoaded files name image
    → files' ≡ files → HasBytes files' source items → bytes ≡ items → StandsWithout source bytes image.program f
    → FilesLackPlaces files name source f
no_places files files' name source items bytes image f loaded same held is (inl why) =
    let there : HasBytes files source items = subst (λ x. HasBytes x source items) same held in
    no_source files name source f (no_source_in files source items bytes f there is why)
no_places files files' name source items bytes image f loaded same held is (inr (text, stands, why)) =
    let there : HasSource files source text =
    record { written = bytes; held = held_there files files' source items bytes same held is; stands = stands } in
    none_in files name source text image f loaded there why
