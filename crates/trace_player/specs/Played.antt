-- What lines come to that are played to players, where a relation says what a line makes of a player, and another one how
-- a line ends a trace: as the trace of an input, whatever the lines are played to.
use Rattle.std.specs.Prelude.{ℕ, ◌≡◌, ⊤, Option, List, [], ◌∷◌, ◌++◌}
use Rattle.std.specs.List.{concat}
use Rattle.std.specs.Io.KnownBytes.{Appends}
use Rattle.sc_values.specs.Streams.{GrowsInto}
use Rattle.trace_player.specs.declared.player.PlayFault.{PlayFault}
use Rattle.trace_player.specs.declared.player.PlayFault.TheVariants as play_fault
use Rattle.trace_player.specs.Trace.{AreLinesOf, End, Good, NoInputs, NoObject}

-- what a fault tells of one line, which ends a trace so
abbrev pub Tells : (End → Type 0) → PlayFault → Type 0
Tells ends (play_fault.Input n) = ends (NoInputs n)
Tells ends (play_fault.NotJson n) = ends (NoObject n)
Tells ends play_fault.Memory = ⊤
Tells ends other = ⊥

-- a line leads from a player to another one, and this is shown of it
abbrev pub Making : Type 0 → Type 1
Making A = A → List ℕ → A → List ℕ → Type 0

-- a line ends a trace so, where it is played to this player
abbrev pub Ending : Type 0 → Type 1
Ending A = A → List ℕ → End → Type 0

-- from a player on lines make these lines of output, and this end, at the last player
abbrev pub Goes : {A : Type 0} → Making A → Ending A → A → List (List ℕ) → List (List ℕ) → End → A → Type 0
Goes makes ends at [] [] end last = (end ≡ Good) × (last ≡ at)
Goes makes ends at [] (shown ∷ out) end last = ⊥
Goes makes ends at (line ∷ lines) [] end last = ends at line end × (last ≡ at)
Goes {A} makes ends at (line ∷ lines) (shown ∷ out) end last = (to : A) × makes at line to shown × Goes makes ends to lines out end last

-- the whole trace of an input was written
pub record Plays {A : Type 0} (makes : Making A) (ends : Ending A) (from : A) (input old new : Option (List ℕ)) (out : List (List ℕ)) (end : End)
    (last : A) : Type 0 where
  pub lines : List (List ℕ)
  pub cut : AreLinesOf input lines
  pub trace : Goes makes ends from lines out end last
  pub written : Appends old new (concat out)

-- the trace of an input was written, to its end or up to a line that ends it so
pub record PlaysUpTo {A : Type 0} (makes : Making A) (ends : Ending A) (from : A) (input old new : Option (List ℕ)) (end : End) : Type 0 where
  pub out : List (List ℕ)
  pub last : A
  pub plays : Plays makes ends from input old new out end last

-- the trace of the first lines of an input was written
pub record PlaysFirst {A : Type 0} (makes : Making A) (ends : Ending A) (from : A) (input old new : Option (List ℕ)) : Type 0 where
  pub first : List (List ℕ)
  pub rest : List (List ℕ)
  pub cut : AreLinesOf input (first ++ rest)
  pub out : List (List ℕ)
  pub last : A
  pub trace : Goes makes ends from first out Good last
  pub written : Appends old new (concat out)

-- the trace of the first lines of an input was written, of its last line of output perhaps a part
pub record PlaysPart {A : Type 0} (makes : Making A) (ends : Ending A) (from : A) (input old new : Option (List ℕ)) : Type 0 where
  pub first : List (List ℕ)
  pub rest : List (List ℕ)
  pub cut : AreLinesOf input (first ++ rest)
  pub out : List (List ℕ)
  pub last_line : List ℕ
  pub last : A
  pub trace : Goes makes ends from first (out ++ last_line ∷ []) Good last
  pub before : Option (List ℕ)
  pub written : Appends old before (concat out)
  pub in_part : GrowsInto before new last_line

-- what was written before a fault
abbrev pub Leaves : {A : Type 0} → Making A → Ending A → A → Option (List ℕ) → Option (List ℕ) → Option (List ℕ) → PlayFault → Type 0
Leaves makes ends from input old new (play_fault.Input line) = PlaysUpTo makes ends from input old new (NoInputs line)
Leaves makes ends from input old new (play_fault.NotJson line) = PlaysUpTo makes ends from input old new (NoObject line)
Leaves makes ends from input old new play_fault.Write = PlaysPart makes ends from input old new
Leaves makes ends from input old new other = PlaysFirst makes ends from input old new
