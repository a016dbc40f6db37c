-- From what was found in the bytes of a file, and what was told of it, to what an explanation leaves.
use Rattle.std.proofs.Common.{◌≡◌, ℕ, List, Option, Result, Ok, Err, OnOk, IfErr, ◌⊎◌, inl, inr, sym, subst}
use Rattle.bytecode.specs.Image.{Image}
use Rattle.command_files.proofs.Held.{compiled, no_compiled}
use Rattle.command_files.proofs.Sourced.{no_source_in}
use Rattle.command_files.specs.declared.fault.LoadFault.{LoadFault}
use Rattle.command_files.specs.declared.fault.LoadFault.TheVariants as load
use Rattle.compiler.specs.declared.fault.CompileFault.{CompileFault}
use Rattle.sc_text.specs.declared.read_fault.ReadFault.{ReadFault}
use Rattle.sct_command.specs.declared.fault.Fault.{Fault}
use Rattle.sct_command.specs.declared.fault.Fault.TheVariants as fault
use Rattle.command_files.specs.Files.{Contents, HasBytes}
use Rattle.command_files.specs.Images.{FileLacksImage}
use Rattle.command_files.specs.Sources.{FileLacksCompiled, SpellsImage, BytesLackCompiled}
use Rattle.command_files.specs.Standing.{BytesLackSource, FileLacksSource, HasSource, StandsFor}
use Rattle.sct_command.proofs.Stands.{has_source}
use Rattle.sct_command.specs.Explaining.{FindsImage, IsReport, IsReportOf, IsTextOf, RefusesExplaining, RefusesFound, WritesFound, WritesReport}
use Rattle.sct_command.specs.Inside.Telling.{IsTold}
use Rattle.sct_command.specs.Writing.{Writes}

-- what was written of the text of a file was written of the file
report : (files : Option Contents) (name bytes : List ℕ) (f : LoadFault) (old new : Option (List ℕ))
    → ((text : List ℕ) → IsReport name bytes f text → IsReportOf files name f text) → Writes (IsReport name bytes f) old new
    → WritesReport files name f old new
report files name bytes f old new is_of writes =
    record { text = writes.text; is = is_of writes.text writes.is; written = writes.written }

told : (files : Option Contents) (name bytes : List ℕ) (old new : Option (List ℕ)) (f : LoadFault) (r : Fault) → IsTextOf files name bytes f
    → FileLacksCompiled files name f → IsTold name bytes f old new r → RefusesExplaining files name old new r
told files name bytes old new f (fault.Files load.Memory) held why is = is
told files name bytes old new f fault.Write held why is = inr (record { fault = f; none = why; told = is })
told files name bytes old new f (fault.Files (load.Image g)) held why (same, some) = (
  subst (FileLacksCompiled files name) (sym same) why,
  report files name bytes (load.Image g) old new (λ text is. (bytes, subst (IsTextOf files name bytes) (sym same) held, is)) some,
)
told files name bytes old new f (fault.Files (load.Rule g)) held why (same, some) = (
  subst (FileLacksCompiled files name) (sym same) why,
  report files name bytes (load.Rule g) old new (λ text is. (bytes, subst (IsTextOf files name bytes) (sym same) held, is)) some,
)
told files name bytes old new f (fault.Files (load.Text g)) held why (same, some) = (
  subst (FileLacksCompiled files name) (sym same) why,
  report files name bytes (load.Text g) old new (λ text is. (bytes, subst (IsTextOf files name bytes) (sym same) held, is)) some,
)
told files name bytes old new f (fault.Files (load.Program g)) held why (same, some) = (
  subst (FileLacksCompiled files name) (sym same) why,
  report files name bytes (load.Program g) old new (λ text is. (bytes, subst (IsTextOf files name bytes) (sym same) held, is)) some,
)
told files name bytes old new f (fault.Files (load.File g)) held why (same, some) =
    (subst (FileLacksCompiled files name) (sym same) why, report files name bytes (load.File g) old new (λ text is. is.tells) some)
told files name bytes old new f (fault.Files (load.Source g)) held why (same, some) = (
  subst (FileLacksCompiled files name) (sym same) why,
  report files name bytes (load.Source g) old new (λ text is. (bytes, subst (IsTextOf files name bytes) (sym same) held, is)) some,
)
told files name bytes old new f (fault.Play g cause) held why is = absurd is
told files name bytes old new f fault.Tests held why is = absurd is
told files name bytes old new f (fault.Place shown) held why is = absurd is

-- a text and a program are never why a file has no image
no_text : (files : Option Contents) (name : List ℕ) (g : ReadFault) → FileLacksImage files name (load.Text g) → ⊥
no_text files name g (bytes, held, none) = none

no_program : (files : Option Contents) (name : List ℕ) (g : CompileFault) → FileLacksImage files name (load.Program g) → ⊥
no_program files name g (bytes, held, none) = none

-- a file that cannot be read
pub told_source : (files : Option Contents) (name bytes : List ℕ) (old new : Option (List ℕ)) (f : LoadFault) (r : Fault)
    → FileLacksImage files name f → FileLacksSource files name f → IsTold name bytes f old new r → RefusesExplaining files name old new r
told_source files name bytes old new f (fault.Files load.Memory) image source is = is
told_source files name bytes old new f fault.Write image source is = inr (record { fault = f; none = inl source; told = is })
told_source files name bytes old new f (fault.Files (load.Image g)) image source (same, some) =
    absurd (subst (FileLacksSource files name) (sym same) source).2.1
told_source files name bytes old new f (fault.Files (load.Rule g)) image source (same, some) =
    absurd (subst (FileLacksSource files name) (sym same) source).2.1
told_source files name bytes old new f (fault.Files (load.Text g)) image source (same, some) =
    absurd (no_text files name g (subst (FileLacksImage files name) (sym same) image))
told_source files name bytes old new f (fault.Files (load.Program g)) image source (same, some) =
    absurd (no_program files name g (subst (FileLacksImage files name) (sym same) image))
told_source files name bytes old new f (fault.Files (load.File g)) image source (same, some) =
    (inl (subst (FileLacksSource files name) (sym same) source), record { text = some.text; is = some.is.tells; written = some.written })
told_source files name bytes old new f (fault.Files (load.Source g)) image source (same, some) =
    absurd (subst (FileLacksSource files name) (sym same) source).2.1
told_source files name bytes old new f (fault.Play g cause) image source is = absurd is
told_source files name bytes old new f fault.Tests image source is = absurd is
told_source files name bytes old new f (fault.Place shown) image source is = absurd is

pub told_bytes : (files : Option Contents) (name bytes : List ℕ) (old new : Option (List ℕ)) (f : LoadFault) (r : Fault) → HasSource files name bytes
    → BytesLackCompiled bytes f → IsTold name bytes f old new r → RefusesExplaining files name old new r
told_bytes files name bytes old new f r held why is = told files name bytes old new f r (inl held) (no_compiled files name bytes f held why) is

-- bytes that stand for no source
pub told_faulty : (files : Option Contents) (name bytes lacking seen : List ℕ) (old new : Option (List ℕ)) (f : LoadFault) (r : Fault)
    → HasBytes files name bytes → lacking ≡ bytes → seen ≡ bytes → BytesLackSource lacking f → IsTold name seen f old new r
    → RefusesExplaining files name old new r
told_faulty files name bytes lacking seen old new f r held is same why told_so =
    told files name bytes old new f r (inr (held, subst (λ b. BytesLackSource b f) is why)) (inl (no_source_in files name bytes lacking f held is why))
    (subst (λ b. IsTold name b f old new r) same told_so)

-- bytes that stand for a source that spells one
finds : (files : Option Contents) (name bytes source : List ℕ) (old new : Option (List ℕ)) (image : Image)
    → HasBytes files name bytes → StandsFor bytes source → SpellsImage source image → WritesFound name bytes image old new
    → FindsImage files name old new
finds files name bytes source old new image held stands is writes =
    record {
      image = image;
      compiled = compiled files name source image (has_source files name bytes source held stands) is;
      bytes = bytes;
      held = held;
      writes = writes;
    }

finds_part : (files : Option Contents) (name bytes source : List ℕ) (old new : Option (List ℕ)) (image : Image) (f : Fault)
    → HasBytes files name bytes → StandsFor bytes source → SpellsImage source image → RefusesFound name bytes image old new f
    → RefusesExplaining files name old new f
finds_part files name bytes source old new image (fault.Files load.Memory) held stands is none = inl none
finds_part files name bytes source old new image fault.Write held stands is part =
    inl (record {
      image = image;
      compiled = compiled files name source image (has_source files name bytes source held stands) is;
      bytes = bytes;
      held = held;
      in_part = part;
    })
finds_part files name bytes source old new image (fault.Files (load.Image f)) held stands is none = absurd none
finds_part files name bytes source old new image (fault.Files (load.Rule f)) held stands is none = absurd none
finds_part files name bytes source old new image (fault.Files (load.Text f)) held stands is none = absurd none
finds_part files name bytes source old new image (fault.Files (load.Program f)) held stands is none = absurd none
finds_part files name bytes source old new image (fault.Files (load.File f)) held stands is none = absurd none
finds_part files name bytes source old new image (fault.Files (load.Source f)) held stands is none = absurd none
finds_part files name bytes source old new image (fault.Play f cause) held stands is none = absurd none
finds_part files name bytes source old new image fault.Tests held stands is none = absurd none
finds_part files name bytes source old new image (fault.Place shown) held stands is none = absurd none

-- and so of what was answered there
pub found_done : {T : Type 0} (r : Result T Fault) (files : Option Contents) (name bytes source : List ℕ) (old new : Option (List ℕ)) (image : Image)
    → HasBytes files name bytes → StandsFor bytes source → SpellsImage source image → OnOk r (WritesFound name bytes image old new)
    → OnOk r (FindsImage files name old new)
found_done (Ok done) files name bytes source old new image held stands is writes = finds files name bytes source old new image held stands is writes
found_done (Err f) files name bytes source old new image held stands is writes = tt

pub found_refused : {T : Type 0} (r : Result T Fault) (files : Option Contents) (name bytes source : List ℕ) (old new : Option (List ℕ)) (image : Image)
    → HasBytes files name bytes → StandsFor bytes source → SpellsImage source image → IfErr r (RefusesFound name bytes image old new)
    → IfErr r (RefusesExplaining files name old new)
found_refused (Ok done) files name bytes source old new image held stands is refuses = tt
found_refused (Err f) files name bytes source old new image held stands is refuses =
    finds_part files name bytes source old new image f held stands is refuses
