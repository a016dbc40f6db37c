-- The lines of an input, by their numbers.
use Rattle.std.specs.Prelude.{ℕ, zero, suc, ◌≡◌, ◌≢◌, ◌-◌, ◌<◌, Option, Some, List, [], length}
use Rattle.trace_lines.specs.Lines.{first_line, after_line, line_limit}
use Rattle.trace_lines.specs.declared.causes.line.Line.{Line}
use Rattle.trace_lines.specs.declared.causes.line.Line.TheVariants as given

-- the bytes behind so many lines
abbrev pub behind_lines : ℕ → List ℕ → List ℕ
behind_lines zero bytes = bytes
behind_lines (suc n) bytes = after_line (behind_lines n bytes)

-- the line of this number, from 1, of an input that is known
abbrev pub IsLine : Option (List ℕ) → ℕ → List ℕ → Type 0
IsLine input number line = (bytes : List ℕ) → input ≡ Some bytes
    → (behind_lines (number - 1) bytes ≢ []) × (line ≡ first_line (behind_lines (number - 1) bytes))

-- the line of this number is longer than a line may be
pub record IsLong (input : Option (List ℕ)) (number : ℕ) : Type 0 where
  pub line : List ℕ
  pub is : IsLine input number line
  pub long : line_limit < length line

-- what is given of the line of this number
abbrev pub IsGiven : Option (List ℕ) → ℕ → Line → Type 0
IsGiven input number (given.Whole bytes) = IsLine input number bytes.now
IsGiven input number given.Long = IsLong input number
IsGiven input number given.Lost = Unit {0}
