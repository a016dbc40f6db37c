-- From what was made of the bytes of a file to what compiling leaves.
use Rattle.std.proofs.Common.{◌≡◌, ◌∙◌, ℕ, Bool, List, [], Option, Result, Ok, Err, OnOk, OnErr, IfErr, inl, inr, subst, sym}
use Rattle.std.specs.Prelude.{◌⊎◌}
use Rattle.bytecode.specs.Image.{Image}
use Rattle.bytecode.specs.Spells.{Spells}
use Rattle.command_files.proofs.Held.{compiled, no_compiled}
use Rattle.command_files.specs.declared.fault.LoadFault.{LoadFault}
use Rattle.command_files.specs.declared.fault.LoadFault.TheVariants as load
use Rattle.command_files.specs.Files.{Contents, HasBytes, Stores}
use Rattle.command_files.specs.Sources.{BytesLackImage, FileLacksCompiled, SpellsImage}
use Rattle.command_files.specs.Standing.{BytesLackSource, HasSource}
use Rattle.command_files.specs.Storing.{IsNotStored}
use Rattle.sct_command.specs.declared.fault.Fault.{Fault}
use Rattle.sct_command.specs.declared.fault.Fault.TheVariants as fault
use Rattle.sct_command.specs.Beside.{AreWarnings, AreWarningsOf, IsReported, SaysOfFault}
use Rattle.sct_command.specs.Explaining.{IsReport, IsReportOf}
use Rattle.sct_command.specs.Inside.Held.{IsHeldReport, IsMemory, IsSpelt, KeepsProgram, RefusesProgram, SaysOfBytes}
use Rattle.sct_command.specs.Inside.StoredImage.{KeepsImage, RefusesKeeping}
use Rattle.sct_command.specs.Sources.{AreOfProgram, Compiles, RefusesCompile, RefusesWriting}
use Rattle.sct_command.specs.Writing.{RefusesToWrite, Writes}

-- ---- bytes that spell no image

file_lacks : (files : Option Contents) (name bytes : List ℕ) (f : LoadFault) → HasSource files name bytes → BytesLackImage bytes f
    → FileLacksCompiled files name f
file_lacks files name bytes load.Memory held none = inl tt
file_lacks files name bytes (load.Image g) held none = no_compiled files name bytes (load.Image g) held none
file_lacks files name bytes (load.Rule g) held none = no_compiled files name bytes (load.Rule g) held none
file_lacks files name bytes (load.Text g) held none = no_compiled files name bytes (load.Text g) held none
file_lacks files name bytes (load.Program g) held none = no_compiled files name bytes (load.Program g) held none
file_lacks files name bytes (load.File g) held none = no_compiled files name bytes (load.File g) held none
file_lacks files name bytes (load.Source g) held none = no_compiled files name bytes (load.Source g) held none

-- ---- what is said beside

-- nothing is said of any fault
unsaid : (name bytes : List ℕ) (wanted : Bool) (f : Fault) (said : List ℕ) → said ≡ [] → SaysOfBytes name bytes wanted f said
unsaid name bytes wanted (fault.Files f) said none = inl none
unsaid name bytes wanted (fault.Play f cause) said none = none
unsaid name bytes wanted fault.Write said none = none
unsaid name bytes wanted fault.Tests said none = none
unsaid name bytes wanted (fault.Place shown) said none = none

pub none_said : {T : Type 0} (r : Result T Fault) (name bytes : List ℕ) (wanted : Bool) (said : List ℕ) → OnErr r (said ≡ [])
    → IfErr r (λ f. SaysOfBytes name bytes wanted f said)
none_said (Ok done) name bytes wanted said none = tt
none_said (Err f) name bytes wanted said none = unsaid name bytes wanted f said none

-- what is said of the bytes of a file is said of the file
report_of : (files : Option Contents) (name bytes : List ℕ) (f : LoadFault) (report : List ℕ) → HasSource files name bytes
    → IsReport name bytes f report → IsReportOf files name f report
report_of files name bytes (load.File shown) report held is = is.tells
report_of files name bytes load.Memory report held is = (bytes, inl held, is)
report_of files name bytes (load.Image g) report held is = (bytes, inl held, is)
report_of files name bytes (load.Rule g) report held is = (bytes, inl held, is)
report_of files name bytes (load.Text g) report held is = (bytes, inl held, is)
report_of files name bytes (load.Program g) report held is = (bytes, inl held, is)
report_of files name bytes (load.Source g) report held is = (bytes, inl held, is)

-- and so of what is written in a file that has no source
faulty_report : (files : Option Contents) (name bytes : List ℕ) (f : LoadFault) (report : List ℕ) → HasBytes files name bytes
    → BytesLackSource bytes f → IsReport name bytes f report → IsReportOf files name f report
faulty_report files name bytes (load.File shown) report held why is = is.tells
faulty_report files name bytes load.Memory report held why is = (bytes, inr (held, why), is)
faulty_report files name bytes (load.Image g) report held why is = (bytes, inr (held, why), is)
faulty_report files name bytes (load.Rule g) report held why is = (bytes, inr (held, why), is)
faulty_report files name bytes (load.Text g) report held why is = (bytes, inr (held, why), is)
faulty_report files name bytes (load.Program g) report held why is = (bytes, inr (held, why), is)
faulty_report files name bytes (load.Source g) report held why is = (bytes, inr (held, why), is)

faulty_held : (files : Option Contents) (name bytes : List ℕ) (wanted : Bool) (f : LoadFault) (said : List ℕ) → HasBytes files name bytes
    → BytesLackSource bytes f → IsHeldReport name bytes wanted f said → IsReported files name wanted f said
faulty_held files name bytes wanted f said held why (inl none) = inl none
faulty_held files name bytes wanted f said held why (inr (asked, is)) = inr (asked, faulty_report files name bytes f said held why is)

pub faulty_reported : (files : Option Contents) (name bytes lacking seen : List ℕ) (wanted : Bool) (f : LoadFault) (said : List ℕ)
    → HasBytes files name bytes → lacking ≡ bytes → seen ≡ bytes → BytesLackSource lacking f → IsHeldReport name seen wanted f said
    → IsReported files name wanted f said
faulty_reported files name bytes lacking seen wanted f said held is same why told_so =
    faulty_held files name bytes wanted f said held (subst (λ b. BytesLackSource b f) is why) (subst (λ b. IsHeldReport name b wanted f said) same told_so)

reported_of : (files : Option Contents) (name bytes : List ℕ) (wanted : Bool) (f : LoadFault) (said : List ℕ) → HasSource files name bytes
    → IsHeldReport name bytes wanted f said → IsReported files name wanted f said
reported_of files name bytes wanted f said held (inl none) = inl none
reported_of files name bytes wanted f said held (inr (asked, is)) = inr (asked, report_of files name bytes f said held is)

says_of : (files : Option Contents) (name bytes : List ℕ) (wanted : Bool) (f : Fault) (said : List ℕ) → HasSource files name bytes
    → SaysOfBytes name bytes wanted f said → SaysOfFault files name wanted f said
says_of files name bytes wanted (fault.Files f) said held says = reported_of files name bytes wanted f said held says
says_of files name bytes wanted (fault.Play f cause) said held says = says
says_of files name bytes wanted fault.Write said held says = says
says_of files name bytes wanted fault.Tests said held says = says
says_of files name bytes wanted (fault.Place shown) said held says = says

pub reported : {T : Type 0} (r : Result T Fault) (files : Option Contents) (name bytes : List ℕ) (wanted : Bool) (said : List ℕ)
    → HasSource files name bytes → IfErr r (λ f. SaysOfBytes name bytes wanted f said) → IfErr r (λ f. SaysOfFault files name wanted f said)
reported (Ok done) files name bytes wanted said held says = tt
reported (Err f) files name bytes wanted said held says = says_of files name bytes wanted f said held says

pub warned : {T : Type 0} (r : Result T Fault) (files : Option Contents) (name bytes : List ℕ) (warns : Bool) (said : List ℕ)
    → HasBytes files name bytes → OnOk r (AreWarnings name bytes warns said) → OnOk r (AreWarningsOf files name warns said)
warned (Ok done) files name bytes warns said held are = record { bytes = bytes; held = held; are = are }
warned (Err f) files name bytes warns said held are = tt

-- ---- an image that is stored

pub keeps : {T : Type 0} (r : Result T Fault) (bytes : List ℕ) (image : Image) (files files' : Option Contents) (to : List ℕ) (old new : Option (List ℕ))
    → SpellsImage bytes image → OnOk r (KeepsImage image files files' to old new) → OnOk r (KeepsProgram bytes files files' to old new)
keeps (Ok done) bytes image files files' to old new is kept = record { image = image; spelt = is; keeps = kept }
keeps (Err f) bytes image files files' to old new is kept = tt

refuses_kept : (f : Fault) (bytes : List ℕ) (image : Image) (files files' : Option Contents) (to : List ℕ) (old new : Option (List ℕ))
    → SpellsImage bytes image → RefusesKeeping image files files' to old new f → RefusesProgram bytes files files' to old new f
refuses_kept fault.Write bytes image files files' to old new is kept = (image, is, kept)
refuses_kept (fault.Files f) bytes image files files' to old new is kept = (inr kept.0, kept.1, kept.2)
refuses_kept (fault.Play f cause) bytes image files files' to old new is kept = absurd kept
refuses_kept fault.Tests bytes image files files' to old new is kept = absurd kept
refuses_kept (fault.Place shown) bytes image files files' to old new is kept = absurd kept

pub refuses_keeping : {T : Type 0} (r : Result T Fault) (bytes : List ℕ) (image : Image) (files files' : Option Contents) (to : List ℕ)
    (old new : Option (List ℕ)) → SpellsImage bytes image → IfErr r (RefusesKeeping image files files' to old new)
    → IfErr r (RefusesProgram bytes files files' to old new)
refuses_keeping (Ok done) bytes image files files' to old new is kept = tt
refuses_keeping (Err f) bytes image files files' to old new is kept = refuses_kept f bytes image files files' to old new is kept

pub compiles : {T : Type 0} (r : Result T Fault) (files middle after : Option Contents) (from to bytes : List ℕ) (old new : Option (List ℕ))
    → middle ≡ files → HasSource files from bytes → OnOk r (KeepsProgram bytes middle after to old new)
    → OnOk r (Compiles files after from to old new)
compiles (Ok done) files middle after from to bytes old new same held made =
    record {
      image = made.image;
      compiled = compiled files from bytes made.image held made.spelt;
      bytes = made.keeps.bytes;
      spelt = made.keeps.spelt;
      stored = subst (λ m. Stores m after to made.keeps.bytes) same made.keeps.stored;
      written = made.keeps.written;
    }
compiles (Err f) files middle after from to bytes old new same held made = tt

not_compiled : (files : Option Contents) (from to bytes : List ℕ) (f : LoadFault) → HasSource files from bytes
    → BytesLackImage bytes f ⊎ IsNotStored to f → FileLacksCompiled files from f ⊎ IsNotStored to f
not_compiled files from to bytes f held (inl none) = inl (file_lacks files from bytes f held none)
not_compiled files from to bytes f held (inr none) = inr none

refuses : (f : Fault) (files middle after : Option Contents) (from to bytes : List ℕ) (old new : Option (List ℕ))
    → middle ≡ files → HasSource files from bytes → RefusesProgram bytes middle after to old new f → RefusesCompile files after from to old new f
refuses fault.Write files middle after from to bytes old new same held (image, is, kept) =
    record {
      image = image;
      compiled = compiled files from bytes image held is;
      bytes = kept.bytes;
      spelt = kept.spelt;
      stored = subst (λ m. Stores m after to kept.bytes) same kept.stored;
      in_part = kept.in_part;
    }
refuses (fault.Files f) files middle after from to bytes old new same held made =
    (not_compiled files from to bytes f held made.0, made.1 ∙ same, made.2)
refuses (fault.Play f cause) files middle after from to bytes old new same held made = absurd made
refuses fault.Tests files middle after from to bytes old new same held made = absurd made
refuses (fault.Place shown) files middle after from to bytes old new same held made = absurd made

pub refuses_compile : {T : Type 0} (r : Result T Fault) (files middle after : Option Contents) (from to bytes : List ℕ) (old new : Option (List ℕ))
    → middle ≡ files → HasSource files from bytes → IfErr r (RefusesProgram bytes middle after to old new)
    → IfErr r (RefusesCompile files after from to old new)
refuses_compile (Ok done) files middle after from to bytes old new same held made = tt
refuses_compile (Err f) files middle after from to bytes old new same held made = refuses f files middle after from to bytes old new same held made

-- ---- an image that is written to the output

pub spells : {T : Type 0} (r : Result T Fault) (bytes : List ℕ) (image : Image) (old new : Option (List ℕ)) → SpellsImage bytes image
    → OnOk r (Writes (λ b. Spells 2 b image) old new) → OnOk r (Writes (IsSpelt bytes) old new)
spells (Ok done) bytes image old new is written =
    record { text = written.text; is = record { image = image; source = is; spelt = written.is }; written = written.written }
spells (Err f) bytes image old new is written = tt

refuses_image : (f : Fault) (bytes : List ℕ) (image : Image) (old new : Option (List ℕ)) → SpellsImage bytes image
    → RefusesToWrite (λ b. Spells 2 b image) IsMemory old new f → RefusesToWrite (IsSpelt bytes) (BytesLackImage bytes) old new f
refuses_image fault.Write bytes image old new is part =
    record { text = part.text; is = record { image = image; source = is; spelt = part.is }; in_part = part.in_part }
refuses_image (fault.Files f) bytes image old new is (memory, same) = (subst (BytesLackImage bytes) (sym memory) tt, same)
refuses_image (fault.Play f cause) bytes image old new is refused = absurd refused
refuses_image fault.Tests bytes image old new is refused = absurd refused
refuses_image (fault.Place shown) bytes image old new is refused = absurd refused

pub refuses_spelling : {T : Type 0} (r : Result T Fault) (bytes : List ℕ) (image : Image) (old new : Option (List ℕ)) → SpellsImage bytes image
    → IfErr r (RefusesToWrite (λ b. Spells 2 b image) IsMemory old new) → IfErr r (RefusesToWrite (IsSpelt bytes) (BytesLackImage bytes) old new)
refuses_spelling (Ok done) bytes image old new is refused = tt
refuses_spelling (Err f) bytes image old new is refused = refuses_image f bytes image old new is refused

of_program : (files : Option Contents) (from bytes spelling : List ℕ) → HasSource files from bytes → IsSpelt bytes spelling
    → AreOfProgram files from spelling
of_program files from bytes spelling held is =
    record { image = is.image; compiled = compiled files from bytes is.image held is.source; spelt = is.spelt }

pub writes_program : {T : Type 0} (r : Result T Fault) (files : Option Contents) (from bytes : List ℕ) (old new : Option (List ℕ))
    → HasSource files from bytes → OnOk r (Writes (IsSpelt bytes) old new) → OnOk r (Writes (AreOfProgram files from) old new)
writes_program (Ok done) files from bytes old new held written =
    record { text = written.text; is = of_program files from bytes written.text held written.is; written = written.written }
writes_program (Err f) files from bytes old new held written = tt

refuses_program : (f : Fault) (files : Option Contents) (from bytes : List ℕ) (old new : Option (List ℕ)) → HasSource files from bytes
    → RefusesToWrite (IsSpelt bytes) (BytesLackImage bytes) old new f → RefusesWriting files from old new f
refuses_program fault.Write files from bytes old new held part =
    record { text = part.text; is = of_program files from bytes part.text held part.is; in_part = part.in_part }
refuses_program (fault.Files f) files from bytes old new held (none, same) = (file_lacks files from bytes f held none, same)
refuses_program (fault.Play f cause) files from bytes old new held refused = absurd refused
refuses_program fault.Tests files from bytes old new held refused = absurd refused
refuses_program (fault.Place shown) files from bytes old new held refused = absurd refused

pub refuses_writing : {T : Type 0} (r : Result T Fault) (files : Option Contents) (from bytes : List ℕ) (old new : Option (List ℕ))
    → HasSource files from bytes → IfErr r (RefusesToWrite (IsSpelt bytes) (BytesLackImage bytes) old new) → IfErr r (RefusesWriting files from old new)
refuses_writing (Ok done) files from bytes old new held refused = tt
refuses_writing (Err f) files from bytes old new held refused = refuses_program f files from bytes old new held refused
