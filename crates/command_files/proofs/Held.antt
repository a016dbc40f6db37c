-- What is said of a text is said of the bytes that are the text, and what of the source in a file of the file.
use Rattle.std.proofs.Common.{◌≡◌, ℕ, List, Option, Result, Ok, Err, IfOk, IfErr, inr, sym, subst}
use Rattle.std.specs.Str.{IsUtf8}
use Rattle.scl.specs.declared.program.Scl.{Scl}
use Rattle.bytecode.specs.Image.{Image}
use Rattle.compiler.specs.declared.sources.fault.SourceFault.{SourceFault}
use Rattle.compiler.specs.declared.sources.fault.SourceFault.TheVariants as unspelled
use Rattle.compiler.specs.Programs.{LacksProgram, SpellsProgram}
use Rattle.command_files.specs.declared.fault.LoadFault.{LoadFault}
use Rattle.command_files.specs.Files.{Contents}
use Rattle.command_files.specs.Standing.{HasSource}
use Rattle.command_files.specs.Sources.{IsCompiledFrom, IsSource, FileLacksCompiled, FileLacksProgram, BytesLackProgram}
use Rattle.command_files.specs.Sources.{SpellsImage, BytesLackCompiled, loaded}

-- what a text spells, the bytes spell that are the text
pub spelt : (bytes text : List ℕ) (scl : Scl) → text ≡ bytes → SpellsProgram text scl → SpellsProgram bytes scl
spelt bytes text scl same h = subst (λ b. SpellsProgram b scl) same h

pub unspelt : (bytes text : List ℕ) (f : SourceFault) (e : LoadFault) → text ≡ bytes → IsUtf8 bytes → e ≡ loaded f → LacksProgram text f
    → BytesLackProgram bytes e
unspelt bytes text (unspelled.Text f) e same utf8 is h =
    subst (BytesLackProgram bytes) (sym is) (inr (utf8, subst (λ b. LacksProgram b (unspelled.Text f)) same h))
unspelt bytes text (unspelled.Expansion f) e same utf8 is h =
    subst (BytesLackProgram bytes) (sym is) (utf8, subst (λ b. LacksProgram b (unspelled.Expansion f)) same h)

pub compiled : (files : Option Contents) (name bytes : List ℕ) (image : Image) → HasSource files name bytes → SpellsImage bytes image
    → IsCompiledFrom files name image
compiled files name bytes image held is = record {
  scl = is.scl;
  source = record { bytes = bytes; held = held; text = is.text; read = is.read };
  compiled = is.compiled;
}

pub no_compiled : (files : Option Contents) (name bytes : List ℕ) (f : LoadFault) → HasSource files name bytes → BytesLackCompiled bytes f
    → FileLacksCompiled files name f
no_compiled files name bytes f held why = inr (bytes, held, why)

-- so what was read in these bytes was read in the file
pub source_in : (files : Option Contents) (name items bytes : List ℕ) (r : Result Scl LoadFault) → HasSource files name items → bytes ≡ items
    → IfOk r (λ _. IsUtf8 bytes) → IfOk r (SpellsProgram bytes) → IfOk r (IsSource files name)
source_in files name items bytes (Ok scl) held same text read =
    record { bytes = bytes; held = subst (HasSource files name) (sym same) held; text = text; read = read }
source_in files name items bytes (Err f) held same text read = tt

pub no_source : (files : Option Contents) (name items bytes : List ℕ) (r : Result Scl LoadFault) → HasSource files name items → bytes ≡ items
    → IfErr r (BytesLackProgram bytes) → IfErr r (FileLacksProgram files name)
no_source files name items bytes (Ok scl) held same why = tt
no_source files name items bytes (Err f) held same why = inr (bytes, subst (HasSource files name) (sym same) held, why)
