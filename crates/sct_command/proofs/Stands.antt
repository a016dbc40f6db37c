-- Which source the bytes of a file stand for, and that they are text where that is.
use Rattle.std.proofs.Common.{◌≡◌, ◌∙◌, ℕ, List, Option, inl, inr, subst, sym}
use Rattle.std.specs.Str.{IsUtf8}
use Rattle.bytecode.specs.Image.{Image}
use Rattle.command_files.specs.Files.{Contents, HasBytes}
use Rattle.command_files.specs.Sources.{SpellsImage}
use Rattle.command_files.specs.Standing.{AreAsWritten, AreReduced, HasSource, StandsFor}

-- bytes that are themselves the source
pub stands_written : (bytes seen written source : List ℕ) → seen ≡ bytes → written ≡ bytes → source ≡ bytes → AreAsWritten seen seen
    → StandsFor written source
stands_written bytes seen written source is same all plain =
    subst (StandsFor written) (is ∙ sym all) (subst (λ w. StandsFor w seen) (is ∙ sym same) (inl plain))

-- bytes that are reduced to it
pub stands_reduced : (bytes seen written text source : List ℕ) → seen ≡ bytes → written ≡ bytes → source ≡ text → AreReduced seen text
    → StandsFor written source
stands_reduced bytes seen written text source is same made reduced =
    subst (StandsFor written) (sym made) (subst (λ w. StandsFor w text) (is ∙ sym same) (inr reduced))

-- the same of bytes that are seen
pub stands_seen : (written source seen shown : List ℕ) → seen ≡ written → shown ≡ source → StandsFor written source → StandsFor seen shown
stands_seen written source seen shown is same stands = subst (StandsFor seen) (sym same) (subst (λ w. StandsFor w source) (sym is) stands)

pub held_seen : (files : Option Contents) (name bytes seen : List ℕ) → seen ≡ bytes → HasBytes files name bytes → HasBytes files name seen
held_seen files name bytes seen is held = subst (HasBytes files name) (sym is) held

pub has_source : (files : Option Contents) (name written source : List ℕ) → HasBytes files name written → StandsFor written source
    → HasSource files name source
has_source files name written source held stands = record { written = written; held = held; stands = stands }

text_of : (written source : List ℕ) → StandsFor written source → IsUtf8 source → IsUtf8 written
text_of written source (inl plain) text = subst IsUtf8 plain.same text
text_of written source (inr reduced) text = reduced.reduced.is_text

-- what stands for the source of an image is text
pub written_text : (written source : List ℕ) (image : Image) → StandsFor written source → SpellsImage source image → IsUtf8 written
written_text written source image stands is = text_of written source stands is.text
