-- The trace of an input under rules, from a place on: for each line a tick and a line of output, or, where lines that give
-- no inputs are passed over, an answer to such a one.
use Rattle.std.specs.Prelude.{ℕ, zero, ◌≡◌, ◌<◌, ◌≤◌, ◌⊎◌, true, false, Option, List, [], ◌∷◌, ◌++◌, length}
use Rattle.std.specs.List.{concat}
use Rattle.std.specs.Io.KnownBytes.{Appends}
use Rattle.sc_values.specs.Streams.{GrowsInto}
use Rattle.sc_graph.specs.Program.{Program}
use Rattle.sc_graph.specs.Tick.{initial}
use Rattle.bytecode.specs.Image.{Image}
use Rattle.trace_lines.specs.Lines.{line_limit}
use Rattle.trace_player.specs.declared.player.PlayFault.{PlayFault}
use Rattle.trace_player.specs.declared.player.PlayFault.TheVariants as play_fault
use Rattle.trace_player.specs.Trace.{AreLinesOf, End, Good, NoInputs, NoObject, Shows, next_number}
use Rattle.ruled_runs.specs.Lines.{IsBad, all_named, answer_line}
use Rattle.ruled_runs.specs.declared.traces.answer.Bad.{Bad}
use Rattle.ruled_runs.specs.declared.traces.answer.Bad.TheVariants as bad
use Rattle.ruled_runs.specs.declared.traces.place.RunPlace.{RunPlace}
use Rattle.ruled_runs.specs.declared.traces.rules.Rules.{Rules}

-- nothing is asked of lines but what each trace asks
abbrev pub no_rules : Rules
no_rules = record { strict = false; skips = false }

-- before the first line and the first tick
abbrev pub at_first : Program → RunPlace
at_first p = record { lines = zero; ticks = zero; control = initial p }

-- the same place, with lines counted otherwise
abbrev pub with_lines : RunPlace → ℕ → RunPlace
with_lines at n = record { lines = n; ticks = at.ticks; control = at.control }

-- the next line makes a tick, of which this is shown
pub record MakesTick (rules : Rules) (image : Image) (from : RunPlace) (line : List ℕ) (to : RunPlace) (shown : List ℕ) : Type 0 where
  pub shows : Shows image (next_number from.ticks) from.control line to.control shown
  pub named : rules.strict ≡ true → all_named image.program.variables shows.inputs ≡ true
  pub ticks : to.ticks ≡ next_number from.ticks

-- the next line gives no inputs and is passed over: no tick is made, and this is the answer
pub record IsPassed (rules : Rules) (image : Image) (from : RunPlace) (line : List ℕ) (to : RunPlace) (shown : List ℕ) : Type 0 where
  pub skips : rules.skips ≡ true
  pub kind : Bad
  pub short : length line ≤ line_limit
  pub bad : IsBad rules image.program line kind
  pub answer : shown ≡ answer_line kind (next_number from.lines)
  pub ticks : to.ticks ≡ from.ticks
  pub control : to.control ≡ from.control

-- the next line leads to this place, and this is shown of it
pub record Makes (rules : Rules) (image : Image) (from : RunPlace) (line : List ℕ) (to : RunPlace) (shown : List ℕ) : Type 0 where
  pub lines : to.lines ≡ next_number from.lines
  pub made : MakesTick rules image from line to shown ⊎ IsPassed rules image from line to shown

-- a line that is short enough ends a trace: it gives no inputs, and is not passed over
pub record Ends (rules : Rules) (p : Program) (line : List ℕ) (kind : Bad) : Type 0 where
  pub stops : rules.skips ≡ false
  pub short : length line ≤ line_limit
  pub bad : IsBad rules p line kind

-- line number k ends a trace; one that is too long does so under any rules
abbrev pub EndsAt : Rules → Program → ℕ → List ℕ → End → Type 0
EndsAt rules p k line Good = ⊥
EndsAt rules p k line (NoInputs n) = (n ≡ k) × Ends rules p line bad.NoInputs
EndsAt rules p k line (NoObject n) = (n ≡ k) × ((line_limit < length line) ⊎ Ends rules p line bad.NoObject)

-- from a place on lines make these lines of output, and this end, at the last place
abbrev pub Goes : Rules → Image → RunPlace → List (List ℕ) → List (List ℕ) → End → RunPlace → Type 0
Goes rules image at [] [] end last = (end ≡ Good) × (last ≡ at)
Goes rules image at [] (shown ∷ out) end last = ⊥
Goes rules image at (line ∷ lines) [] end last = EndsAt rules image.program (next_number at.lines) line end × (last ≡ at)
Goes rules image at (line ∷ lines) (shown ∷ out) end last =
    (to : RunPlace) × Makes rules image at line to shown × Goes rules image to lines out end last

-- the whole trace of an input was written
pub record Plays (rules : Rules) (image : Image) (from : RunPlace) (input old new : Option (List ℕ)) (out : List (List ℕ)) (end : End)
    (last : RunPlace) : Type 0 where
  pub lines : List (List ℕ)
  pub cut : AreLinesOf input lines
  pub trace : Goes rules image from lines out end last
  pub written : Appends old new (concat out)

-- the trace of the first lines of an input was written
pub record PlaysFirst (rules : Rules) (image : Image) (from : RunPlace) (input old new : Option (List ℕ)) : Type 0 where
  pub first : List (List ℕ)
  pub rest : List (List ℕ)
  pub cut : AreLinesOf input (first ++ rest)
  pub out : List (List ℕ)
  pub last : RunPlace
  pub trace : Goes rules image from first out Good last
  pub written : Appends old new (concat out)

-- the trace of the first lines of an input was written, of its last line of output perhaps a part
pub record PlaysPart (rules : Rules) (image : Image) (from : RunPlace) (input old new : Option (List ℕ)) : Type 0 where
  pub first : List (List ℕ)
  pub rest : List (List ℕ)
  pub cut : AreLinesOf input (first ++ rest)
  pub out : List (List ℕ)
  pub last_line : List ℕ
  pub last : RunPlace
  pub trace : Goes rules image from first (out ++ last_line ∷ []) Good last
  pub before : Option (List ℕ)
  pub written : Appends old before (concat out)
  pub in_part : GrowsInto before new last_line

-- the trace of an input was written, up to a line that ends it so
pub record PlaysUpTo (rules : Rules) (image : Image) (from : RunPlace) (input old new : Option (List ℕ)) (end : End) : Type 0 where
  pub out : List (List ℕ)
  pub last : RunPlace
  pub plays : Plays rules image from input old new out end last

-- what was written before a fault
abbrev pub Leaves : Rules → Image → RunPlace → Option (List ℕ) → Option (List ℕ) → Option (List ℕ) → PlayFault → Type 0
Leaves rules image from input old new (play_fault.Input line) = PlaysUpTo rules image from input old new (NoInputs line)
Leaves rules image from input old new (play_fault.NotJson line) = PlaysUpTo rules image from input old new (NoObject line)
Leaves rules image from input old new play_fault.Write = PlaysPart rules image from input old new
Leaves rules image from input old new other = PlaysFirst rules image from input old new
