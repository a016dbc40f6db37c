-- Reading numbers, choices, names and variables: a value and the bytes after it, or the first fault.
use Rattle.std.specs.Prelude.{ℕ, Bool, true, false, ◌&&◌, List, [], ◌∷◌, length, slice_get, take, drop, Option, Some, None, Ok, Err, nat_lt, nat_le}
use Rattle.std.specs.Prelude.{if◌then◌else◌}
use Rattle.std.specs.Int.{Width, byte_len, from_le_bytes}
use Rattle.sc_values.specs.declared.value.Kind.{Kind}
use Rattle.sc_values.specs.declared.value.Kind.TheVariants as kind
use Rattle.sc_values.specs.declared.operator.Combination.{Combination}
use Rattle.sc_values.specs.declared.operator.Combination.TheVariants as combine
use Rattle.sc_values.specs.Limits.{name_limit}
use Rattle.sc_values.specs.Name.{is_name}
use Rattle.sc_graph.specs.declared.program.Role.{Role}
use Rattle.sc_graph.specs.declared.program.Role.TheVariants as role
use Rattle.sc_graph.specs.declared.program.Variable.{Variable}
use Rattle.bytecode.specs.declared.fault.DecodeFault.TheVariants as fault
use Rattle.bytecode.specs.Reading.{◌>>=◌, Reader, or_field}

-- so many bytes
unfoldable pub bytes_at : ℕ → Reader (List ℕ)
bytes_at n bytes = if nat_lt (length bytes) n then Err fault.Short else Ok (take n bytes, drop n bytes)

unfoldable pub byte_at : Reader ℕ
byte_at [] = Err fault.Short
byte_at (b ∷ rest) = Ok (b, rest)

unfoldable pub number_at : Width → Reader ℕ
number_at w bytes = do
  front ← bytes_at (byte_len w) bytes
  Ok (from_le_bytes w front.0, front.1)

-- a choice: the number is its place in the list of all
unfoldable pub choice_at : {A : Type 0} → List A → Reader A
choice_at choices bytes = do
  number ← byte_at bytes
  choice ← or_field bytes (slice_get choices number.0)
  Ok (choice, number.1)

abbrev pub flags : List Bool
flags = false ∷ true ∷ []

abbrev pub roles : List Role
roles = role.Input ∷ role.Output ∷ role.Local ∷ []

abbrev pub kinds : List Kind
kinds = kind.Bool ∷ kind.Int ∷ []

abbrev pub combinations : List Combination
combinations = combine.Add ∷ combine.Multiply ∷ combine.Min ∷ combine.Max ∷ combine.And ∷ combine.Or ∷ []

-- a length, which is one byte between two bounds
unfoldable pub length_at : ℕ → ℕ → Reader ℕ
length_at least most bytes = do
  len ← byte_at bytes
  if nat_le least len.0 && nat_le len.0 most then Ok len else Err (fault.Field (length bytes))

unfoldable pub name_of : List ℕ → Option (List ℕ)
name_of bytes = if is_name bytes then Some bytes else None

unfoldable pub name_at : Reader (List ℕ)
name_at bytes = do
  len ← length_at 1 name_limit bytes
  text ← bytes_at len.0 len.1
  name ← or_field len.1 (name_of text.0)
  Ok (name, text.1)

unfoldable pub variable_at : Reader Variable
variable_at bytes = do
  role ← choice_at roles bytes
  kind ← choice_at kinds role.1
  name ← name_at kind.1
  Ok (record { name = name.0; kind = kind.0; role = role.0 }, name.1)
