-- What is said of the first line in which a trace is not the one that is wanted.
use Rattle.std.specs.Prelude.{ℕ, ◌≡◌, ◌≢◌, ◌⊎◌, Option, Some, None, List, ◌++◌, codes, false, map, if◌then◌else◌}
use Rattle.std.specs.Char.{is_ascii_control}
use Rattle.std.specs.Fmt.{decimal}
use Rattle.std.specs.Str.Lossy.{utf8_lossy}
use Rattle.json.specs.Print.{quoted}
use Rattle.serde_json.specs.Data.{Data}
use Rattle.serde_json.specs.Find.{get}
use Rattle.serde_json.specs.Read.{read}
use Rattle.serde_json.specs.Written.{compact_text, has_float}
use Rattle.controller_tests.specs.declared.difference.Difference.{Difference}
use Rattle.controller_tests.specs.Difference.{got_line, wanted_line}

-- ---- a line as it is shown

-- a byte as it is shown: control characters are shown as `?`
abbrev pub shown_byte : ℕ → ℕ
shown_byte byte = if is_ascii_control byte then 63 else byte

-- what is no text in a line is shown by U+FFFD
abbrev pub shown_line : Option (List ℕ) → List ℕ
shown_line (Some line) = utf8_lossy (map shown_byte line)
shown_line None = codes "no line"

-- ---- a member in which two lines differ

-- what a member is, or that there is none
abbrev pub ShowsValue : Option Data → List ℕ → Type 0
ShowsValue (Some value) text = has_float value ≡ false → text ≡ compact_text value
ShowsValue None text = text ≡ codes "missing"

-- the member of this name has one value and is wanted to have another, and these words say so
pub record TellsMember (name : List ℕ) (wanted got : Data) (words : List ℕ) : Type 0 where
  pub value : List ℕ
  pub other : List ℕ
  pub value_shown : ShowsValue (get name wanted) value
  pub other_shown : ShowsValue (get name got) other
  pub differ : value ≢ other
  pub are : words ≡ quoted name ++ (codes " is " ++ (other ++ (codes ", wanted " ++ value)))

-- the words tell of an output in which two lines differ
pub record TellsOutput (line other : Data) (words : List ℕ) : Type 0 where
  pub outputs : Data
  pub others : Data
  pub name : List ℕ
  pub wanted_outputs : get (codes "out") line ≡ Some outputs
  pub got_outputs : get (codes "out") other ≡ Some others
  pub tells : TellsMember name outputs others words

-- the lines are JSON, and the words tell of an output in which they differ, or of their numbers of steps
pub record TellsData (wanted got words : List ℕ) : Type 0 where
  pub line : Data
  pub other : Data
  pub wanted_read : read wanted ≡ Some line
  pub got_read : read got ≡ Some other
  pub tells : TellsOutput line other words ⊎ TellsMember (codes "steps") line other words

-- of two lines that differ
abbrev pub TellsLines : List ℕ → List ℕ → List ℕ → Type 0
TellsLines wanted got words = TellsData wanted got words ⊎ (words ≡ codes "another line is wanted")

-- ---- all that is said

-- of a line that is wanted and one that is there
abbrev pub Tells : Option (List ℕ) → Option (List ℕ) → List ℕ → Type 0
Tells (Some wanted) (Some got) words = TellsLines wanted got words
Tells (Some wanted) None words = words ≡ codes "the trace has ended before"
Tells None got words = words ≡ codes "no more is wanted"

-- the text that tells of a difference, with these words for it: the file and the line, and both lines
abbrev pub difference_text : List ℕ → Difference → List ℕ → List ℕ
difference_text name d words =
    name ++ (codes ":" ++ (decimal d.line ++ (codes ": tick " ++ (decimal d.line ++ (codes ": " ++ (words
    ++ (codes "\n  wanted " ++ (shown_line (wanted_line d) ++ (codes "\n  got    " ++ (shown_line (got_line d) ++ codes "\n"))))))))))

-- the text tells of this difference to the trace in the file of this name
pub record IsToldOf (name : List ℕ) (d : Difference) (text : List ℕ) : Type 0 where
  pub words : List ℕ
  pub tells : Tells (wanted_line d) (got_line d) words
  pub is : text ≡ difference_text name d words
