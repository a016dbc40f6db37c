-- What is said on the errors beside the compilation of a text: its warnings, or why it is refused.
use Rattle.std.specs.Prelude.{ℕ, Bool, true, false, ◌≡◌, ◌⊎◌, Option, List, [], ◌∷◌}
use Rattle.std.specs.Io.KnownBytes.{Appends}
use Rattle.sc_values.specs.Streams.{GrowsInto}
use Rattle.command_files.specs.declared.fault.LoadFault.{LoadFault}
use Rattle.command_files.specs.FaultText.{shown_name}
use Rattle.command_files.specs.Files.{Contents, HasBytes}
use Rattle.sct_command.specs.Warned.{IsWarned}
use Rattle.sct_command.specs.Explaining.{IsReportOf}
use Rattle.sct_command.specs.declared.fault.Fault.{Fault}
use Rattle.sct_command.specs.declared.fault.Fault.TheVariants as fault

-- ---- warnings

-- the warnings of what is written, where they are wanted: those of which an explanation tells
abbrev pub AreWarnings : (name bytes : List ℕ) → Bool → List ℕ → Type 0
AreWarnings name bytes false said = said ≡ []
AreWarnings name bytes true said = IsWarned (shown_name name) bytes said

-- those of what is written in this file
pub record AreWarningsOf (files : Option Contents) (name : List ℕ) (warns : Bool) (said : List ℕ) : Type 0 where
  pub bytes : List ℕ
  pub held : HasBytes files name bytes
  pub are : AreWarnings name bytes warns said

-- ---- a report

-- what an explanation says of the fault of the text in the file of this name, where words are wanted, or nothing
abbrev pub IsReported : Option Contents → (name : List ℕ) → Bool → LoadFault → List ℕ → Type 0
IsReported files name wanted f said = (said ≡ []) ⊎ ((wanted ≡ true) × IsReportOf files name f said)

abbrev pub SaysOfFault : Option Contents → (name : List ℕ) → Bool → Fault → List ℕ → Type 0
SaysOfFault files name wanted (fault.Files f) said = IsReported files name wanted f said
SaysOfFault files name wanted other said = said ≡ []

-- ---- what was written of it

-- this went to a sink that counts its failures: whole, or a beginning of it where the sink failed
pub record GoesOut (text : List ℕ) (old new : Option (List ℕ)) (failures failures' : ℕ) : Type 0 where
  pub grows : GrowsInto old new text
  pub whole : failures' ≡ failures → Appends old new text

-- where nothing is said nothing was written
abbrev pub IsSaid : List ℕ → Option (List ℕ) → Option (List ℕ) → ℕ → ℕ → Type 0
IsSaid [] old new failures failures' = new ≡ old
IsSaid (byte ∷ bytes) old new failures failures' = GoesOut (byte ∷ bytes) old new failures failures'
