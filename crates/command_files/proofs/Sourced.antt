-- What is said of the bytes of a file is said of the source in it.
use Rattle.std.proofs.Common.{◌≡◌, ℕ, List, Option, inl, inr, subst, sym}
use Rattle.command_files.specs.declared.fault.LoadFault.{LoadFault}
use Rattle.command_files.specs.declared.fault.LoadFault.TheVariants as fault
use Rattle.command_files.specs.Files.{Contents, HasBytes}
use Rattle.command_files.specs.Standing.{AreAsWritten, AreReduced, BytesLackSource, FileLacksSource, HasSource}

pub as_written : (files : Option Contents) (name bytes seen : List ℕ) → HasBytes files name bytes → seen ≡ bytes → AreAsWritten seen seen
    → HasSource files name bytes
as_written files name bytes seen held same is =
    record { written = bytes; held = held; stands = inl (subst (λ b. AreAsWritten b b) same is) }

pub as_reduced : (files : Option Contents) (name bytes seen text made : List ℕ) → HasBytes files name bytes → seen ≡ bytes → made ≡ text
    → AreReduced seen text → HasSource files name made
as_reduced files name bytes seen text made held same is reduced =
    record { written = bytes; held = held; stands = inr (subst (λ b. AreReduced b made) same (subst (AreReduced seen) (sym is) reduced)) }

pub none_held : (files : Option Contents) (name bytes : List ℕ) (f : LoadFault) → HasBytes files name bytes → BytesLackSource bytes f
    → FileLacksSource files name f
none_held files name bytes fault.Memory held why = tt
none_held files name bytes (fault.File shown) held why = absurd why.1
none_held files name bytes (fault.Image f) held why = absurd why.1
none_held files name bytes (fault.Rule f) held why = absurd why.1
none_held files name bytes (fault.Text f) held why = (bytes, held, why)
none_held files name bytes (fault.Program f) held why = (bytes, held, why)
none_held files name bytes (fault.Source shown) held why = absurd why.1

pub no_source_in : (files : Option Contents) (name bytes seen : List ℕ) (f : LoadFault) → HasBytes files name bytes → seen ≡ bytes
    → BytesLackSource seen f → FileLacksSource files name f
no_source_in files name bytes seen f held same why = none_held files name bytes f held (subst (λ b. BytesLackSource b f) same why)
