-- The trace of an input: for each line a tick and a line of output, until a line gives no inputs.
use Rattle.std.specs.Prelude.{ℕ, ◌≡◌, ◌+◌, ◌<◌, ◌≤◌, min, ◌⊎◌, ⊤, Option, Some, None, List, [], ◌∷◌, ◌++◌, length, if◌then◌else◌}
use Rattle.std.specs.List.{concat}
use Rattle.std.specs.Io.KnownBytes.{Appends}
use Rattle.serde_json.specs.Data.{Members}
use Rattle.sc_values.specs.Streams.{GrowsInto}
use Rattle.sc_graph.specs.declared.control.Control.{Control}
use Rattle.sc_graph.specs.Program.{Program}
use Rattle.sc_graph.specs.Tick.{Inputs, AreAccepted, start, initial}
use Rattle.bytecode.specs.Image.{Image}
use Rattle.tick_core.specs.Whole.{WholeTick}
use Rattle.trace_player.specs.declared.player.PlayFault.{PlayFault}
use Rattle.trace_player.specs.declared.player.PlayFault.TheVariants as play_fault
use Rattle.trace_lines.specs.Line.{IsObjectOf, inputs_of}
use Rattle.trace_lines.specs.Lines.{line_limit, is_feed}
use Rattle.trace_lines.specs.Output.{outputs_of, tick_line}

-- a byte before the first line
abbrev pub onto_first : ℕ → List (List ℕ) → List (List ℕ)
onto_first byte [] = (byte ∷ []) ∷ []
onto_first byte (line ∷ lines) = (byte ∷ line) ∷ lines

-- the lines of an input, which is cut at each line feed. A last piece that is empty is no line
abbrev pub lines_of : List ℕ → List (List ℕ)
lines_of [] = []
lines_of (byte ∷ bytes) = if is_feed byte then [] ∷ lines_of bytes else onto_first byte (lines_of bytes)

-- the lines of an input whose bytes are known
abbrev pub AreLinesOf : Option (List ℕ) → List (List ℕ) → Type 0
AreLinesOf None lines = ⊤
AreLinesOf (Some bytes) lines = lines ≡ lines_of bytes

-- the line is a JSON object of these inputs, which the program accepts
pub record GivesInputs (p : Program) (line : List ℕ) (inputs : Inputs) : Type 0 where
  pub members : Members
  pub short : length line ≤ line_limit
  pub object : IsObjectOf line members
  pub given : inputs_of p.variables members ≡ Some inputs
  pub accepted : AreAccepted p inputs

-- the line is a JSON object, and its members are no inputs of the program
pub record GivesNoInputs (p : Program) (line : List ℕ) : Type 0 where
  pub members : Members
  pub short : length line ≤ line_limit
  pub object : IsObjectOf line members
  pub none : (inputs : Inputs) → inputs_of p.variables members ≡ Some inputs → ¬ AreAccepted p inputs

-- the line is too long, or is no JSON object
abbrev pub IsNoObject : List ℕ → Type 0
IsNoObject line = (line_limit < length line) ⊎ ((members : Members) → ¬ IsObjectOf line members)

-- under these inputs, which are accepted, a tick of so many steps leads from c to d
pub record Reacts (image : Image) (inputs : Inputs) (c d : Control) (steps : ℕ) : Type 0 where
  pub accepted : AreAccepted image.program inputs
  pub run : List ℕ
  pub tick : WholeTick image (start image.program inputs c) run d
  pub count : steps ≡ length run

-- the number of the next line and its tick: numbers have 64 bits, and stay at the greatest
abbrev pub greatest : ℕ
greatest = 18446744073709551615

abbrev pub next_number : ℕ → ℕ
next_number k = min (k + 1) greatest

-- line number k makes a tick from c to d, of which this is shown
pub record Shows (image : Image) (k : ℕ) (c : Control) (line : List ℕ) (d : Control) (shown : List ℕ) : Type 0 where
  pub inputs : Inputs
  pub steps : ℕ
  pub gives : GivesInputs image.program line inputs
  pub reacts : Reacts image inputs c d steps
  pub is : shown ≡ tick_line k steps (outputs_of image.program.variables d.variables)

-- how a trace ends: after the last line, or at the line of a number, which gives no inputs or is no object
pub data End : Type 0 where
  Good : End
  NoInputs : (line : ℕ) → End
  NoObject : (line : ℕ) → End

-- line number k ends a trace
abbrev pub EndsAt : Program → ℕ → List ℕ → End → Type 0
EndsAt p k line Good = ⊥
EndsAt p k line (NoInputs n) = (n ≡ k) × GivesNoInputs p line
EndsAt p k line (NoObject n) = (n ≡ k) × IsNoObject line

-- from c on the lines from number k on make these lines of output, and this end
abbrev pub Goes : Image → ℕ → Control → List (List ℕ) → List (List ℕ) → End → Type 0
Goes image k c [] [] end = end ≡ Good
Goes image k c [] (shown ∷ out) end = ⊥
Goes image k c (line ∷ lines) [] end = EndsAt image.program k line end
Goes image k c (line ∷ lines) (shown ∷ out) end = (d : Control) × Shows image k c line d shown × Goes image (next_number k) d lines out end

-- the trace of lines: their lines of output, and its end
abbrev pub Trace : Image → List (List ℕ) → List (List ℕ) → End → Type 0
Trace image lines out end = Goes image 1 (initial image.program) lines out end

-- the whole trace of an input was written
pub record Plays (image : Image) (input old new : Option (List ℕ)) (out : List (List ℕ)) (end : End) : Type 0 where
  pub lines : List (List ℕ)
  pub cut : AreLinesOf input lines
  pub trace : Trace image lines out end
  pub written : Appends old new (concat out)

-- the trace of the first lines of an input was written
pub record PlaysFirst (image : Image) (input old new : Option (List ℕ)) : Type 0 where
  pub first : List (List ℕ)
  pub rest : List (List ℕ)
  pub cut : AreLinesOf input (first ++ rest)
  pub out : List (List ℕ)
  pub trace : Trace image first out Good
  pub written : Appends old new (concat out)

-- the trace of the first lines of an input was written, of its last line of output perhaps a part
pub record PlaysPart (image : Image) (input old new : Option (List ℕ)) : Type 0 where
  pub first : List (List ℕ)
  pub rest : List (List ℕ)
  pub cut : AreLinesOf input (first ++ rest)
  pub out : List (List ℕ)
  pub last : List ℕ
  pub trace : Trace image first (out ++ last ∷ []) Good
  pub before : Option (List ℕ)
  pub written : Appends old before (concat out)
  pub in_part : GrowsInto before new last

-- what was written before a fault
abbrev pub Leaves : Image → Option (List ℕ) → Option (List ℕ) → Option (List ℕ) → PlayFault → Type 0
Leaves image input old new (play_fault.Input line) = (out : List (List ℕ)) × Plays image input old new out (NoInputs line)
Leaves image input old new (play_fault.NotJson line) = (out : List (List ℕ)) × Plays image input old new out (NoObject line)
Leaves image input old new play_fault.Write = PlaysPart image input old new
Leaves image input old new other = PlaysFirst image input old new
