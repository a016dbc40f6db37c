-- What is said of a fault in words, behind its line.
use Rattle.std.specs.Prelude.{ℕ, ◌≡◌, ◌⊎◌, codes, Bool, true, Some, List, [], ◌∷◌, ◌++◌}
use Rattle.trace_lines.specs.Lines.{line_feed}
use Rattle.trace_lines.specs.declared.causes.cause.Cause.{Cause}
use Rattle.trace_lines.specs.Words.{cause_words}
use Rattle.trace_player.specs.FaultText.{play_fault_text}
use Rattle.diagnostics.specs.Reports.{Tells}
use Rattle.sct_command.specs.declared.fault.Fault.{Fault}
use Rattle.sct_command.specs.declared.fault.Fault.TheVariants as fault
use Rattle.sct_command.specs.FaultText.{fault_text}

-- a fault of a line, and what was met there
abbrev pub met_words : List ℕ → Cause → List ℕ
met_words text c = codes "sct: " ++ (text ++ (codes ": " ++ (cause_words c ++ line_feed ∷ [])))

-- the words for a fault: what was met on a line where that is known, and else some that tell the fault first
abbrev pub AreWords : Fault → List ℕ → Type 0
AreWords (fault.Play f (Some c)) words = words ≡ met_words (play_fault_text f) c
AreWords f words = Tells (codes "sct") (fault_text f) words

-- what stands behind the line of a fault: the report that there is, which may be none, or, where they are wanted, the words
-- for it
abbrev pub StandsBehind : Fault → Bool → (report words : List ℕ) → Type 0
StandsBehind f wanted report words = (words ≡ report) ⊎ ((wanted ≡ true) × AreWords f words)

-- the line that tells a fault of this text
abbrev pub fault_line : List ℕ → List ℕ
fault_line text = codes "sct: " ++ (text ++ line_feed ∷ [])

-- the line of a fault, with what stands behind it
pub record TellsLines (f : Fault) (wanted : Bool) (report text : List ℕ) : Type 0 where
  pub words : List ℕ
  pub behind : StandsBehind f wanted report words
  pub is : text ≡ fault_line (fault_text f) ++ words
