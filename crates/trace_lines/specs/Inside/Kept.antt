-- Lines that are kept with what they give to the inputs.
use Rattle.std.specs.Prelude.{◌≡◌, ◌≢◌, ℕ, List, [], length, Some, option_map, unwrap_or, slice_get}
use Rattle.serde_json.specs.Data.{Members}
use Rattle.sc_values.specs.declared.value.Value.{Value}
use Rattle.sc_graph.specs.declared.program.Variable.{Variable}
use Rattle.trace_lines.specs.declared.kept_line.KeptLine.{KeptLine}
use Rattle.trace_lines.specs.Line.{IsObjectOf, inputs_of}

-- so many lines are kept
abbrev pub slots : ℕ
slots = 256

-- a line is an object that gives this to the inputs among variables
abbrev pub Says : List Variable → List ℕ → List (List ℕ × Value) → Type 0
Says variables line inputs = (members : Members) × IsObjectOf line members × (inputs_of variables members ≡ Some inputs)

-- where a line is kept, it gives what is kept with it
abbrev pub IsKept : List Variable → KeptLine → Type 0
IsKept variables k = k.line.items ≢ [] → Says variables k.line.items k.inputs

pub record AreKept (variables : List Variable) (ks : List KeptLine) : Type 0 where
  pub number : length ks ≡ slots
  pub each : (i : ℕ) (k : KeptLine) → slice_get ks i ≡ Some k → IsKept variables k

-- this line is kept at a place
pub record IsKeptAt (ks : List KeptLine) (place : ℕ) (line : List ℕ) : Type 0 where
  pub one : KeptLine
  pub there : slice_get ks place ≡ Some one
  pub is_line : one.line.items ≢ []
  pub same : one.line.items ≡ line

-- what is kept at a place
abbrev pub inputs_at : List KeptLine → ℕ → List (List ℕ × Value)
inputs_at ks place = unwrap_or (option_map (λ k. k.inputs) (slice_get ks place)) []
