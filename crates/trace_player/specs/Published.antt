-- What a publisher of a trace has published: the ends of ticks, each before its line of output was written.
use Rattle.std.specs.Prelude.{ℕ, ◌≡◌, ⊤, min, Option, Some, None, List, [], ◌∷◌, ◌++◌, length}
use Rattle.sc_graph.specs.declared.control.Control.{Control}
use Rattle.sc_graph.specs.Tick.{initial}
use Rattle.bytecode.specs.Image.{Image}
use Rattle.probe.specs.Outputs.{Outputs, IsRowOf}
use Rattle.trace_player.specs.declared.player.PlayFault.{PlayFault}
use Rattle.trace_player.specs.declared.player.PlayFault.TheVariants as play_fault
use Rattle.trace_player.specs.Trace.{End, Good, greatest, NoInputs, NoObject, Shows, next_number, Plays, PlaysFirst, PlaysPart}

-- from c on the first lines from number k on make ticks, of which these lines of output are shown, and which end with
-- these rows of outputs: a row for each line of output
abbrev pub EndWith : Image → ℕ → Control → List (List ℕ) → List (List ℕ) → List Outputs → Type 0
EndWith image k c lines [] [] = ⊤
EndWith image k c (line ∷ lines) (shown ∷ out) (row ∷ rows) =
    (d : Control) × Shows image k c line d shown × IsRowOf image.program.variables d.variables row × EndWith image (next_number k) d lines out rows
EndWith image k c lines out rows = ⊥

-- known rows grow by the ends of the ticks of which these lines of output are shown
abbrev pub Publishes : Image → List (List ℕ) → List (List ℕ) → Option (List Outputs) → Option (List Outputs) → Type 0
Publishes image lines out None new = ⊤
Publishes image lines out (Some old) None = ⊥
Publishes image lines out (Some old) (Some new) =
    (rows : List Outputs) × (new ≡ old ++ rows) × EndWith image 1 (initial image.program) lines out rows

-- the whole trace of an input was written, and the end of each of its ticks published
pub record PlaysTo (image : Image) (input old new : Option (List ℕ)) (rows rows' : Option (List Outputs)) (out : List (List ℕ)) (end : End) : Type 0 where
  pub plays : Plays image input old new out end
  pub publishes : Publishes image plays.lines out rows rows'

-- so many ticks: the whole trace of an input was written, and the end of each of its ticks published
pub record PlaysAllTo (image : Image) (input old new : Option (List ℕ)) (rows rows' : Option (List Outputs)) (ticks : ℕ) : Type 0 where
  pub out : List (List ℕ)
  pub count : ticks ≡ min (length out) greatest
  pub plays_to : PlaysTo image input old new rows rows' out Good

-- the trace of the first lines of an input was written, and the end of each of its ticks published
pub record PlaysFirstTo (image : Image) (input old new : Option (List ℕ)) (rows rows' : Option (List Outputs)) : Type 0 where
  pub plays : PlaysFirst image input old new
  pub publishes : Publishes image plays.first plays.out rows rows'

-- the trace of the first lines of an input was written, of its last line of output perhaps a part, and the end of each
-- of its ticks published, that of the last line too
pub record PlaysPartTo (image : Image) (input old new : Option (List ℕ)) (rows rows' : Option (List Outputs)) : Type 0 where
  pub plays : PlaysPart image input old new
  pub publishes : Publishes image plays.first (plays.out ++ plays.last ∷ []) rows rows'

-- what was written and published before a fault
abbrev pub LeavesTo : Image → Option (List ℕ) → Option (List ℕ) → Option (List ℕ) → Option (List Outputs) → Option (List Outputs) → PlayFault → Type 0
LeavesTo image input old new rows rows' (play_fault.Input line) = (out : List (List ℕ)) × PlaysTo image input old new rows rows' out (NoInputs line)
LeavesTo image input old new rows rows' (play_fault.NotJson line) = (out : List (List ℕ)) × PlaysTo image input old new rows rows' out (NoObject line)
LeavesTo image input old new rows rows' play_fault.Write = PlaysPartTo image input old new rows rows'
LeavesTo image input old new rows rows' other = PlaysFirstTo image input old new rows rows'
