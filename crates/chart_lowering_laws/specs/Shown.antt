-- Steps that show and steps that do not. Two machines that do the same in the open may differ in silent steps, which
-- neither read nor write.
use Rattle.std.specs.Prelude.{ℕ, ◌≡◌, Bool, true, false, Option, Some, None, List, [], ◌∷◌}
use Rattle.sc_values.specs.Access.{no_access}
use Rattle.sc_values.specs.Runs.{Machine, Act, act_of}

-- a step that shows, or a silent one
pub data Move : Type 0 where
  Shown : (act : Act) → Move
  Silent : (act : Act) → Move

abbrev pub move : Bool → Act → Move
move true act = Shown act
move false act = Silent act

abbrev pub all_acts : List Move → List Act
all_acts [] = []
all_acts (Shown act ∷ moves) = act ∷ all_acts moves
all_acts (Silent act ∷ moves) = act ∷ all_acts moves

abbrev pub shown_acts : List Move → List Act
shown_acts [] = []
shown_acts (Shown act ∷ moves) = act ∷ shown_acts moves
shown_acts (Silent act ∷ moves) = shown_acts moves

-- which steps of a machine show: that of this thread, from this configuration
abbrev pub Showing : Machine → Type 0
Showing m = m.Configuration → ℕ → Bool

abbrev pub moves_after : (m : Machine) → (m.Configuration → List Move) → Option m.Configuration → List Move
moves_after m rest None = []
moves_after m rest (Some d) = rest d

-- the steps of a run
abbrev pub moves : (m : Machine) → Showing m → List ℕ → m.Configuration → List Move
moves m shows [] c = []
moves m shows (t ∷ run) c = move (shows c t) (act_of m c t) ∷ moves_after m (moves m shows run) (m.step t c)

-- what does not show neither reads nor writes
abbrev pub AreSilent : (m : Machine) → Showing m → Type 0
AreSilent m shows = (c : m.Configuration) (t : ℕ) → shows c t ≡ false → m.access c t ≡ no_access
