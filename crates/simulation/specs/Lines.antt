-- To which history the lines of an input lead, and what is written of it.
use Rattle.std.specs.Prelude.{ℕ, ◌≡◌, ◌+◌, ◌<◌, min, Option, Some, None, List, [], ◌∷◌, ◌++◌, codes, length}
use Rattle.std.specs.List.{concat}
use Rattle.std.specs.Io.KnownBytes.{Appends}
use Rattle.bytecode.specs.Image.{Image}
use Rattle.trace_lines.specs.Lines.{line_limit}
use Rattle.trace_player.specs.Trace.{AreLinesOf, greatest}
use Rattle.trace_player.specs.declared.player.PlayFault.{PlayFault}
use Rattle.trace_player.specs.declared.player.PlayFault.TheVariants as play_fault
use Rattle.simulation.specs.History.{History, begun}
use Rattle.simulation.specs.Commands.{Answers}

-- lines lead from one history to another, and these answers are given, one for each, until a line says that this is the end
abbrev pub LeadTo : History → List (List ℕ) → List (List ℕ) → History → Type 0
LeadTo h [] [] end = end ≡ h
LeadTo h [] (told ∷ out) end = ⊥
LeadTo h (line ∷ lines) [] end = Answers line h end None
LeadTo h (line ∷ lines) (told ∷ out) end = (next : History) × Answers line h next (Some told) × LeadTo next lines out end

-- the lines of an input were answered, to its end or to one that says that this is the end
pub record AnswersAll (h : History) (input old new : Option (List ℕ)) : Type 0 where
  pub lines : List (List ℕ)
  pub cut : AreLinesOf input lines
  pub out : List (List ℕ)
  pub end : History
  pub leads : LeadTo h lines out end
  pub written : Appends old new (concat out)

-- the lines before the one of this number were answered, and that one is too long
pub record StopsAtLine (h : History) (input old new : Option (List ℕ)) (number : ℕ) : Type 0 where
  pub first : List (List ℕ)
  pub long : List ℕ
  pub rest : List (List ℕ)
  pub cut : AreLinesOf input (first ++ long ∷ rest)
  pub too_long : line_limit < length long
  pub number_is : number ≡ min (length first + 1) greatest
  pub out : List (List ℕ)
  pub end : History
  pub leads : LeadTo h first out end
  pub one_each : length out ≡ length first
  pub written : Appends old new (concat out)

-- how a session begins to tell
abbrev pub greeting : List ℕ
greeting = codes "type help to be told what can be said\n"

-- a session greets, and answers the lines of an input from the first tick of an image on
abbrev pub Simulates : Image → Option (List ℕ) → Option (List ℕ) → Option (List ℕ) → Type 0
Simulates image input old new = (greeted : Option (List ℕ)) × Appends old greeted greeting × AnswersAll (begun image) input greeted new

-- it does so up to the line of this number, which is too long
abbrev pub SimulatesUpTo : Image → Option (List ℕ) → Option (List ℕ) → Option (List ℕ) → ℕ → Type 0
SimulatesUpTo image input old new number = (greeted : Option (List ℕ)) × Appends old greeted greeting × StopsAtLine (begun image) input greeted new number

-- what lines leave that are not all answered: the fault is none of inputs
abbrev pub Stops : Image → Option (List ℕ) → Option (List ℕ) → Option (List ℕ) → PlayFault → Type 0
Stops image input old new (play_fault.NotJson line) = SimulatesUpTo image input old new line
Stops image input old new (play_fault.Input line) = ⊥
Stops image input old new other = Unit {0}
