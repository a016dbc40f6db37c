-- What private functions alone say of themselves. It is proved, and no public contract rests on what it means.
use Rattle.std.specs.Prelude.{ℕ, ◌≡◌, ◌<◌, ◌⊎◌, Bool, true, false, ◌&&◌, nat_eq, List, [], length, Option, Some}
use Rattle.std.specs.Cmp.Lexicographic.{pointwise}
use Rattle.sc_graph.specs.declared.program.Variable.{Variable}
use Rattle.trace_lines.specs.Line.{is_input}
use Rattle.trace_lines.specs.Lines.{ahead, first_line, has_feed, line_limit}
use Rattle.trace_lines.specs.Recent.{behind_lines}
use Rattle.trace_lines.specs.declared.causes.line.Line.{Line}
use Rattle.trace_lines.specs.declared.causes.line.Line.TheVariants as given

-- the variable is an input of this name
abbrev pub is_named : Variable → List ℕ → Bool
is_named a name = is_input a.role && pointwise nat_eq a.name name

-- these bytes are all that are behind so many lines of an input, where that is known
abbrev pub AreBehind : Option (List ℕ) → ℕ → Option (List ℕ) → Type 0
AreBehind input n bytes = (all : List ℕ) → input ≡ Some all → bytes ≡ Some (behind_lines n all)

-- with what is to come, bytes behind so many lines of an input lead to these bytes behind so many
abbrev pub Leads : List ℕ → ℕ → List ℕ → ℕ → Type 0
Leads held n held' n' = (input to_come : Option (List ℕ)) → AreBehind input n (ahead held to_come) → AreBehind input n' (ahead held' to_come)

-- bytes and more behind them lead so to these
abbrev pub LeadsOn : List ℕ → List ℕ → ℕ → List ℕ → ℕ → Type 0
LeadsOn held more n held' n' = (input to_come : Option (List ℕ)) → AreBehind input n (ahead held (ahead more to_come))
    → AreBehind input n' (ahead held' to_come)

-- no byte is to come
abbrev pub HasEnded : Option (List ℕ) → Type 0
HasEnded to_come = (bytes : List ℕ) → to_come ≡ Some bytes → bytes ≡ []

-- a line is the first of these bytes, which are all, or before a line feed
abbrev pub IsFirst : List ℕ → Bool → List ℕ → Type 0
IsFirst rest ended line = ((has_feed rest ≡ true) × (line ≡ first_line rest))
    ⊎ ((has_feed rest ≡ false) × (0 < length rest) × (ended ≡ true) × (line ≡ rest))

-- what is said of the first line of bytes
abbrev pub IsFound : List ℕ → Bool → Line → Type 0
IsFound rest ended (given.Whole line) = IsFirst rest ended line.now
IsFound rest ended given.Long = (has_feed rest ≡ false) × (line_limit < length rest)
IsFound rest ended given.Lost = Unit {0}
