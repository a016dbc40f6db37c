-- How each report of a fault begins.
use Rattle.std.specs.Prelude.{ℕ, ◌≡◌, List, ◌++◌, take, codes}
use Rattle.std.specs.Fmt.{decimal}
use Rattle.sc_text.specs.FaultText.{broken_number}
use Rattle.node_sources.specs.LinesColumns.{line_behind, column_behind}
use Rattle.sc_text.specs.declared.read_fault.ReadFault.{ReadFault}
use Rattle.sc_text.specs.declared.read_fault.ReadFault.TheVariants as read

-- the place of the byte of this number as it is shown behind a name; of the end, where the text has no more than that
abbrev pub place_shown : (text : List ℕ) → (at : ℕ) → List ℕ
place_shown text at = codes ":" ++ (decimal (line_behind (take at text)) ++ (codes ":" ++ decimal (column_behind (take at text))))

-- the report begins with this name; behind it stand the place, where one is told, and the fault. What else is said is
-- left open
pub record Tells (name fault report : List ℕ) : Type 0 where
  pub place : List ℕ
  pub rest : List ℕ
  pub is : report ≡ name ++ (place ++ (codes ": " ++ (fault ++ (codes ": " ++ rest))))

-- the number of the fault of a text
abbrev pub text_fault : ReadFault → List ℕ
text_fault (read.Text b at) = codes "E0" ++ decimal (broken_number b)
text_fault read.Memory = codes "E52"

-- the report begins with this name, this place and this fault. What else is said is left open
pub record TellsAt (name place fault report : List ℕ) : Type 0 where
  pub rest : List ℕ
  pub is : report ≡ name ++ (place ++ (codes ": " ++ (fault ++ (codes ": " ++ rest))))

-- the report of a fault of this text tells its line and column
abbrev pub TellsPlace : (name text : List ℕ) → ReadFault → List ℕ → Type 0
TellsPlace name text (read.Text b at) report = TellsAt name (place_shown text at) (text_fault (read.Text b at)) report
TellsPlace name text read.Memory report = Tells name (text_fault read.Memory) report
