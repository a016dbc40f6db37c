-- Reading from left to right, up to the first fault.
use Rattle.std.specs.Prelude.{ℕ, List, length, zero, suc, [], ◌∷◌, Option, Some, None, Result, Ok, Err}
use Rattle.bytecode.specs.declared.fault.DecodeFault.{DecodeFault}
use Rattle.bytecode.specs.declared.fault.DecodeFault.TheVariants as fault
pub mod Fields
pub mod Codes
pub mod Nodes
pub mod Image

infixl 10 ◌>>=◌
abbrev pub ◌>>=◌ : {A B : Type 0} → Result A DecodeFault → (A → Result B DecodeFault) → Result B DecodeFault
(Ok x) >>= f = f x
(Err e) >>= f = Err e

-- a choice, or the fault of the field that begins these bytes
abbrev pub or_field : {A : Type 0} → List ℕ → Option A → Result A DecodeFault
or_field bytes None = Err (fault.Field (length bytes))
or_field bytes (Some x) = Ok x

-- a reader answers a value and the bytes after it, or the first fault
abbrev pub Reader : Type 0 → Type 0
Reader A = List ℕ → Result (A × List ℕ) DecodeFault

-- so many, one behind the other
unfoldable pub each_at : {A : Type 0} → Reader A → ℕ → Reader (List A)
each_at read zero bytes = Ok ([], bytes)
each_at read (suc n) bytes = do
  first ← read bytes
  others ← each_at read n first.1
  Ok (first.0 ∷ others.0, others.1)
