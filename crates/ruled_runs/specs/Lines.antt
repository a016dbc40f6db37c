-- What a line gives under rules, and what is answered to one that gives nothing.
use Rattle.std.specs.Prelude.{ℕ, ◌≡◌, ◌⊎◌, Bool, true, false, not, ◌&&◌, ◌||◌, codes, decimal, List, [], ◌∷◌, ◌++◌}
use Rattle.std.specs.Option.{is_some}
use Rattle.serde_json.specs.Data.{Members}
use Rattle.sc_graph.specs.declared.program.Variable.{Variable}
use Rattle.sc_graph.specs.Program.{Program}
use Rattle.sc_graph.specs.Tick.{Inputs, given}
use Rattle.trace_lines.specs.Line.{IsObjectOf, is_input}
use Rattle.trace_player.specs.Trace.{GivesInputs, GivesNoInputs}
use Rattle.ruled_runs.specs.declared.traces.answer.Bad.{Bad}
use Rattle.ruled_runs.specs.declared.traces.answer.Bad.TheVariants as bad
use Rattle.ruled_runs.specs.declared.traces.rules.Rules.{Rules}

-- a variable has a value among these, where it is an input
abbrev pub is_named : Inputs → Variable → Bool
is_named inputs a = not (is_input a.role) || is_some (given inputs a.name)

-- each input among these variables has one
abbrev pub all_named : List Variable → Inputs → Bool
all_named [] inputs = true
all_named (a ∷ variables) inputs = is_named inputs a && all_named variables inputs

-- the line gives these inputs: all that there are, where that is asked for
pub record Gives (rules : Rules) (p : Program) (line : List ℕ) (inputs : Inputs) : Type 0 where
  pub gives : GivesInputs p line inputs
  pub named : rules.strict ≡ true → all_named p.variables inputs ≡ true

-- all inputs are asked for, and the line gives some, and not all
pub record LacksInput (rules : Rules) (p : Program) (line : List ℕ) : Type 0 where
  pub strict : rules.strict ≡ true
  pub inputs : Inputs
  pub gives : GivesInputs p line inputs
  pub lacks : all_named p.variables inputs ≡ false

-- a line that is short enough gives no inputs
abbrev pub IsBad : Rules → Program → List ℕ → Bad → Type 0
IsBad rules p line bad.NoInputs = GivesNoInputs p line ⊎ LacksInput rules p line
IsBad rules p line bad.NoObject = (members : Members) → ¬ IsObjectOf line members

abbrev pub code_of : Bad → List ℕ
code_of bad.NoInputs = codes "E51"
code_of bad.NoObject = codes "E62"

-- what is answered to the line of this number
abbrev pub answer_line : Bad → ℕ → List ℕ
answer_line bad number = codes "{\"error\":\"" ++ (code_of bad ++ (codes "\",\"line\":" ++ (decimal number ++ codes "}\n")))
