-- The trace of an input whose lines tell more than outputs: behind the number of each tick stand the words for the
-- configuration in which it ends. Where there are no words, it is the trace of the input.
use Rattle.std.specs.Prelude.{ℕ, ◌≡◌, Option, List, [], ◌∷◌, ◌++◌}
use Rattle.std.specs.List.{concat}
use Rattle.std.specs.Io.KnownBytes.{Appends}
use Rattle.serde_json.specs.Data.{Members, no_members}
use Rattle.sc_values.specs.Streams.{GrowsInto}
use Rattle.sc_graph.specs.declared.control.Control.{Control}
use Rattle.sc_graph.specs.Tick.{Inputs, initial}
use Rattle.bytecode.specs.Image.{Image}
use Rattle.trace_lines.specs.Output.{outputs_of}
use Rattle.trace_player.specs.declared.player.PlayFault.{PlayFault}
use Rattle.trace_player.specs.declared.player.PlayFault.TheVariants as play_fault
use Rattle.trace_player.specs.Trace.{AreLinesOf, End, EndsAt, GivesInputs, Good, NoInputs, NoObject, Reacts, next_number}
use Rattle.state_traces.specs.Lines.{told_line}

-- what stands of a configuration in the line of the tick that ends in it
abbrev pub Words : Type 0
Words = Control → Members

abbrev pub no_words : Words
no_words c = no_members

-- line number k makes a tick from c to d, of which this is shown
pub record Shows (words : Words) (image : Image) (k : ℕ) (c : Control) (line : List ℕ) (d : Control) (shown : List ℕ) : Type 0 where
  pub inputs : Inputs
  pub steps : ℕ
  pub gives : GivesInputs image.program line inputs
  pub reacts : Reacts image inputs c d steps
  pub is : shown ≡ told_line k steps (outputs_of image.program.variables d.variables) (words d)

-- from c on the lines from number k on make these lines of output, and this end
abbrev pub Goes : Words → Image → ℕ → Control → List (List ℕ) → List (List ℕ) → End → Type 0
Goes words image k c [] [] end = end ≡ Good
Goes words image k c [] (shown ∷ out) end = ⊥
Goes words image k c (line ∷ lines) [] end = EndsAt image.program k line end
Goes words image k c (line ∷ lines) (shown ∷ out) end =
    (d : Control) × Shows words image k c line d shown × Goes words image (next_number k) d lines out end

-- the trace of lines: their lines of output, and its end
abbrev pub Trace : Words → Image → List (List ℕ) → List (List ℕ) → End → Type 0
Trace words image lines out end = Goes words image 1 (initial image.program) lines out end

-- the whole trace of an input was written
pub record Plays (words : Words) (image : Image) (input old new : Option (List ℕ)) (out : List (List ℕ)) (end : End) : Type 0 where
  pub lines : List (List ℕ)
  pub cut : AreLinesOf input lines
  pub trace : Trace words image lines out end
  pub written : Appends old new (concat out)

-- the trace of the first lines of an input was written
pub record PlaysFirst (words : Words) (image : Image) (input old new : Option (List ℕ)) : Type 0 where
  pub first : List (List ℕ)
  pub rest : List (List ℕ)
  pub cut : AreLinesOf input (first ++ rest)
  pub out : List (List ℕ)
  pub trace : Trace words image first out Good
  pub written : Appends old new (concat out)

-- the trace of the first lines of an input was written, of its last line of output perhaps a part
pub record PlaysPart (words : Words) (image : Image) (input old new : Option (List ℕ)) : Type 0 where
  pub first : List (List ℕ)
  pub rest : List (List ℕ)
  pub cut : AreLinesOf input (first ++ rest)
  pub out : List (List ℕ)
  pub last : List ℕ
  pub trace : Trace words image first (out ++ last ∷ []) Good
  pub before : Option (List ℕ)
  pub written : Appends old before (concat out)
  pub in_part : GrowsInto before new last

-- what was written before a fault
abbrev pub Leaves : Words → Image → Option (List ℕ) → Option (List ℕ) → Option (List ℕ) → PlayFault → Type 0
Leaves words image input old new (play_fault.Input line) = (out : List (List ℕ)) × Plays words image input old new out (NoInputs line)
Leaves words image input old new (play_fault.NotJson line) = (out : List (List ℕ)) × Plays words image input old new out (NoObject line)
Leaves words image input old new play_fault.Write = PlaysPart words image input old new
Leaves words image input old new other = PlaysFirst words image input old new
