-- From what is written to the source for which it stands, and what is drawn of that.
use Rattle.std.proofs.Common.{◌≡◌, ℕ, List, Option, inl, inr, subst, sym}
use Rattle.std.specs.Str.{IsUtf8}
use Rattle.command_files.specs.declared.fault.LoadFault.{LoadFault}
use Rattle.command_files.specs.Files.{Contents, HasBytes}
use Rattle.command_files.specs.Standing.{AreAsWritten, AreReduced}
use Rattle.command_files.proofs.Sourced.{none_held}
use Rattle.command_texts.specs.Drawing.{HasDrawing, HasDrawingIn, HasDrawnSource, BytesLackDrawing, FileLacksDrawing, LacksDrawnSource}

pub is_text : (written text : List ℕ) → AreReduced written text → IsUtf8 written
is_text written text is = is.reduced.is_text

pub written_drawn : (written : List ℕ) → AreAsWritten written written → IsUtf8 written → HasDrawing written → HasDrawnSource written
written_drawn written is text drawn = record { source = written; stands = inl is; is_text = text; drawn = drawn }

pub reduced_drawn : (written text seen : List ℕ) → seen ≡ text → AreReduced written text → IsUtf8 seen → HasDrawing seen → HasDrawnSource written
reduced_drawn written text seen same is utf8 drawn =
    record { source = seen; stands = inr (subst (AreReduced written) (sym same) is); is_text = utf8; drawn = drawn }

pub written_undrawn : (written : List ℕ) (f : LoadFault) → AreAsWritten written written → BytesLackDrawing written f → LacksDrawnSource written f
written_undrawn written f is none = inr (written, inl is, none)

pub reduced_undrawn : (written text seen : List ℕ) (f : LoadFault) → seen ≡ text → AreReduced written text → BytesLackDrawing seen f
    → LacksDrawnSource written f
reduced_undrawn written text seen f same is none = inr (seen, inr (subst (AreReduced written) (sym same) is), none)

pub drawn_in : (files : Option Contents) (name bytes seen : List ℕ) → HasBytes files name bytes → seen ≡ bytes → HasDrawnSource seen
    → HasDrawingIn files name
drawn_in files name bytes seen held same is = of_bytes (subst HasDrawnSource same is)
  where
    of_bytes : HasDrawnSource bytes → HasDrawingIn files name
    of_bytes d = record { bytes = d.source; held = record { written = bytes; held = held; stands = d.stands }; is_text = d.is_text; drawn = d.drawn }

none_drawn : (files : Option Contents) (name bytes : List ℕ) (f : LoadFault) → HasBytes files name bytes → LacksDrawnSource bytes f
    → FileLacksDrawing files name f
none_drawn files name bytes f held (inl why) = inl (none_held files name bytes f held why)
none_drawn files name bytes f held (inr (source, stands, why)) =
    inr (source, record { written = bytes; held = held; stands = stands }, why)

pub none_drawn_in : (files : Option Contents) (name bytes seen : List ℕ) (f : LoadFault) → HasBytes files name bytes → seen ≡ bytes
    → LacksDrawnSource seen f → FileLacksDrawing files name f
none_drawn_in files name bytes seen f held same why = none_drawn files name bytes f held (subst (λ b. LacksDrawnSource b f) same why)
