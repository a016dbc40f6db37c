-- Reading an image: its fields from the left, and nothing behind them.
use Rattle.std.specs.Prelude.{ℕ, zero, suc, Option, Some, slice_get, ◌≡◌, ◌==◌, ◌-◌, nat_eq, List, length, map, Result, Ok, Err, if◌then◌else◌}
use Rattle.std.specs.Int.{w16, w32}
use Rattle.std.specs.Cmp.Lexicographic.{pointwise}
use Rattle.sc_graph.specs.declared.program.Variable.{Variable}
use Rattle.bytecode.specs.declared.rows.ThreadRow.{ThreadRow}
use Rattle.bytecode.specs.declared.rows.NodeRow.{NodeRow}
use Rattle.bytecode.specs.declared.fault.DecodeFault.{DecodeFault}
use Rattle.bytecode.specs.declared.fault.DecodeFault.TheVariants as fault
use Rattle.bytecode.specs.Image.{Image}
use Rattle.bytecode.specs.Layout.{magic}
use Rattle.bytecode.specs.Reading.{◌>>=◌, Reader, each_at}
use Rattle.bytecode.specs.Reading.Fields.{bytes_at, byte_at, number_at, variable_at}
use Rattle.bytecode.specs.Reading.Nodes.{thread_at, node_at}

-- so many behind their count
unfoldable pub counted_at : {A : Type 0} → Reader A → Reader (List A)
counted_at read bytes = do
  count ← number_at w16 bytes
  each_at read count.0 count.1

-- the bytes after the magic and the version
unfoldable pub header_at : ℕ → List ℕ → Result (List ℕ) DecodeFault
header_at version bytes = do
  start ← bytes_at 4 bytes
  marked ← (if pointwise nat_eq start.0 magic then Ok start.1 else Err fault.Magic)
  number ← byte_at marked
  if number.0 == version then Ok number.1 else Err fault.Version

-- an image of what was read
abbrev pub image_of : List Variable → List ThreadRow → List NodeRow → ℕ → Image
image_of variables threads nodes budget = record {
  program = record { variables = variables; threads = map (λ t. t.thread) threads; nodes = map (λ n. n.node) nodes };
  tables = record {
    priorities = map (λ n. n.priority) nodes;
    weights = map (λ n. n.weight) nodes;
    end_bits = map (λ n. n.end_bit) nodes;
    bounds = map (λ t. t.bound) threads;
    budget = budget;
  };
}

-- the fields behind the header, and nothing behind them
unfoldable pub body_at : ℕ → List ℕ → Result Image DecodeFault
body_at version bytes = do
  variables ← counted_at variable_at bytes
  threads ← counted_at thread_at variables.1
  nodes ← counted_at (node_at version) threads.1
  budget ← number_at w32 nodes.1
  if length budget.1 == 0 then Ok (image_of variables.0 threads.0 nodes.0 budget.0) else Err fault.Trailing

unfoldable pub image_at : ℕ → List ℕ → Result Image DecodeFault
image_at version bytes = do
  start ← header_at version bytes
  body_at version start

-- a fault of a reader in these bytes: a bad field, of which the reader says how many bytes there are from its first
-- one on, is named by its offset
abbrev pub told : List ℕ → DecodeFault → DecodeFault
told bytes (fault.Field left) = fault.Field (length bytes - left)
told bytes other = other

abbrev pub answer : List ℕ → Result Image DecodeFault → Result Image DecodeFault
answer bytes (Ok i) = Ok i
answer bytes (Err f) = Err (told bytes f)

-- the version in which bytes are read: the first where they say so, else the second
abbrev pub version_said : Option ℕ → ℕ
version_said (Some (suc zero)) = 1
version_said other = 2

abbrev pub version_of : List ℕ → ℕ
version_of bytes = version_said (slice_get bytes 4)

-- the image that the bytes are in this version of the layout, or the first fault
unfoldable pub reading : ℕ → List ℕ → Result Image DecodeFault
reading version bytes = answer bytes (image_at version bytes)

-- what a function returned is this, unless memory was refused
abbrev pub Answers : Result Image DecodeFault → Result Image DecodeFault → Type 0
Answers (Ok i) read = read ≡ Ok i
Answers (Err fault.Memory) read = Unit {0}
Answers (Err f) read = read ≡ Err f
