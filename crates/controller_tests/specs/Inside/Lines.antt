-- How the lines of a trace are taken, one after another.
use Rattle.std.specs.Prelude.{ℕ, ◌≡◌, ◌<◌, Option, Some, None, List, [], ◌∷◌, length}
use Rattle.trace_player.specs.Trace.{lines_of}

-- bytes begin with this line, and others stand behind it; or there are none
abbrev pub Begins : List ℕ → Option (List ℕ) → List ℕ → Type 0
Begins bytes None rest = bytes ≡ []
Begins bytes (Some line) rest = (lines_of bytes ≡ line ∷ lines_of rest) × (length rest < length bytes)
