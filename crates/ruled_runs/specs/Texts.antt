-- The text of a configuration: a JSON object of the number of the tick that ended in it, of the values of the variables, and
-- of where the threads stand.
use Rattle.std.specs.Prelude.{ℕ, ◌≡◌, ◌^◌, ℤ, pos, negsuc, true, false, if◌then◌else◌, nat_lt, codes, Option, Some, None, option_map, List, []}
use Rattle.std.specs.Prelude.{◌∷◌, IsUtf8}
use Rattle.std.specs.Option.{option_and_then}
use Rattle.serde_json.specs.Data.{Data, null, boolean, number, string, array, object, Items, no_items, item}
use Rattle.serde_json.specs.Find.{as_array, as_i64, as_number, as_u64, get}
use Rattle.serde_json.specs.Read.{read}
use Rattle.sc_values.specs.declared.value.Value.{Value}
use Rattle.sc_values.specs.declared.value.Value.TheVariants as value
use Rattle.sc_graph.specs.declared.control.Control.{Control}
use Rattle.sc_graph.specs.declared.control.Status.{Status}
use Rattle.sc_graph.specs.declared.control.Status.TheVariants as status
use Rattle.trace_lines.specs.Line.{int32_of}

-- what each of these gives; None where one gives nothing
abbrev pub all_in : {A : Type 0} → (Data → Option A) → Items → Option (List A)
all_in f no_items = Some []
all_in f (item d ds) = option_and_then (λ a. option_map (λ rest. a ∷ rest) (all_in f ds)) (f d)

-- a value: true, false, or a whole number of 32 bits
abbrev pub value_in : Data → Option Value
value_in null = None
value_in (boolean b) = Some (value.Bool b)
value_in (number n) = option_and_then int32_of (as_i64 n)
value_in (string s) = None
value_in (array ds) = None
value_in (object ms) = None

-- a node has a number of 16 bits
abbrev pub node_of : ℕ → Option ℕ
node_of n = if nat_lt n (2 ^ 16) then Some n else None

abbrev pub node_in : Data → Option ℕ
node_in d = option_and_then node_of (option_and_then as_u64 (as_number d))

-- a number from 0 on: paused at that node. A number below stands for a thread at a node, as none is between two ticks
abbrev pub stands_at : ℤ → Option Status
stands_at (pos n) = option_map status.Paused (node_of n)
stands_at (negsuc n) = option_map status.At (node_of n)

-- a list of one number: waiting at that join
abbrev pub waits_at : Items → Option Status
waits_at no_items = None
waits_at (item d no_items) = option_map status.Waiting (node_in d)
waits_at (item d (item e ds)) = None

-- null is a thread that is not there, and true one at its end
abbrev pub status_in : Data → Option Status
status_in null = Some status.Absent
status_in (boolean true) = Some status.Ended
status_in (boolean false) = None
status_in (number n) = option_and_then stands_at (as_i64 n)
status_in (string s) = None
status_in (array ds) = waits_at ds
status_in (object ms) = None

-- JSON data hold this configuration, in which the tick of this number ended
pub record Holds (d : Data) (number : ℕ) (c : Control) : Type 0 where
  pub ticks : option_and_then as_u64 (option_and_then as_number (get (codes "ticks") d)) ≡ Some number
  pub values : option_and_then (all_in value_in) (option_and_then as_array (get (codes "values") d)) ≡ Some c.variables
  pub threads : option_and_then (all_in status_in) (option_and_then as_array (get (codes "threads") d)) ≡ Some c.statuses

-- a text holds it
pub record IsSaved (text : List ℕ) (number : ℕ) (c : Control) : Type 0 where
  pub is : Data
  pub utf8 : IsUtf8 text
  pub reads : read text ≡ Some is
  pub holds : Holds is number c
