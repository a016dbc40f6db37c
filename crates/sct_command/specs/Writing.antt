-- What was written of a text.
use Rattle.std.specs.Prelude.{ℕ, ◌≡◌, ◌≢◌, Option, List, [], Result, Ok, Err}
use Rattle.std.specs.Io.KnownBytes.{Appends}
use Rattle.sc_values.specs.Streams.{GrowsInto}
use Rattle.command_files.specs.declared.fault.LoadFault.{LoadFault}
use Rattle.sct_command.specs.declared.fault.Fault.{Fault}
use Rattle.sct_command.specs.declared.fault.Fault.TheVariants as fault

-- a text that is not empty was written
pub record WritesText (old new : Option (List ℕ)) : Type 0 where
  pub text : List ℕ
  pub some : text ≢ []
  pub written : Appends old new text

-- some text was written
pub record WritesSome (old new : Option (List ℕ)) : Type 0 where
  pub text : List ℕ
  pub written : Appends old new text

-- a beginning of some text was written
pub record WritesPart (old new : Option (List ℕ)) : Type 0 where
  pub text : List ℕ
  pub in_part : GrowsInto old new text

-- ---- a text of which it is known what it is

-- one that is such was written
pub record Writes (Is : List ℕ → Type 0) (old new : Option (List ℕ)) : Type 0 where
  pub text : List ℕ
  pub is : Is text
  pub written : Appends old new text

-- a beginning of one that is such was written
pub record WritesBeginning (Is : List ℕ → Type 0) (old new : Option (List ℕ)) : Type 0 where
  pub text : List ℕ
  pub is : Is text
  pub in_part : GrowsInto old new text

-- what is left where it is not written whole: it is lacking, for this fault, and nothing was written; or the output failed
abbrev pub RefusesToWrite : (Is : List ℕ → Type 0) (Lacks : LoadFault → Type 0) (old new : Option (List ℕ)) → Fault → Type 0
RefusesToWrite Is Lacks old new fault.Write = WritesBeginning Is old new
RefusesToWrite Is Lacks old new (fault.Files f) = Lacks f × (new ≡ old)
RefusesToWrite Is Lacks old new other = ⊥

-- ---- what was made, or why it was not

-- it was made, and its bytes were written
abbrev pub WritesMade : {V : Type 0} (bytes : V → List ℕ) → Result V LoadFault → Option (List ℕ) → Option (List ℕ) → Type 0
WritesMade bytes (Ok made) old new = Appends old new (bytes made)
WritesMade bytes (Err f) old new = ⊥

-- it was made, and the output failed, which took a beginning; or it was not, and nothing was written
abbrev pub RefusesMade : {V : Type 0} (bytes : V → List ℕ) → Result V LoadFault → Option (List ℕ) → Option (List ℕ) → Fault → Type 0
RefusesMade bytes (Ok made) old new f = GrowsInto old new (bytes made) × (f ≡ fault.Write)
RefusesMade bytes (Err g) old new f = (new ≡ old) × (f ≡ fault.Files g)
