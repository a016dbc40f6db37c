-- Items in rows by class: each stands in the row of one class, or in none.
use Rattle.std.specs.Prelude.{ℕ, ◌≡◌, ◌≢◌, ◌<◌, ◌≤◌, Bool, true, false, nat_eq, Option, Some, None, List, Contains, length, slice_get, slice_index, slice_set}
use Rattle.std.specs.Prelude.{count_by}

-- how many items the row of each class has room for, and the class in whose row each item stands
pub record Rows : Type 0 where
  pub rooms : List ℕ
  pub classes : List (Option ℕ)

-- item t stands in the row of this class
abbrev pub IsIn : List (Option ℕ) → ℕ → ℕ → Type 0
IsIn classes t class = slice_get classes t ≡ Some (Some class)

abbrev pub is_of : ℕ → Option ℕ → Bool
is_of class None = false
is_of class (Some other) = nat_eq other class

-- how many items stand in the row of a class
abbrev pub members : List (Option ℕ) → ℕ → ℕ
members classes class = count_by (is_of class) classes

-- with item t in this row, or in none, each row still has room for its items
abbrev pub HasRoom : Rows → ℕ → Option ℕ → Type 0
HasRoom rows t None = t < length rows.classes
HasRoom rows t (Some class) =
    (t < length rows.classes) × (class < length rows.rooms)
    × (members (slice_set rows.classes t (Some class)) class ≤ slice_index rows.rooms class)

-- each place is of a class that has a row, and a row has room for as many items as there are places of its class
pub record HasRooms (rooms places : List ℕ) : Type 0 where
  pub known : (i : ℕ) → i < length places → slice_index places i < length rooms
  pub room : (class : ℕ) → class < length rooms → slice_index rooms class ≡ count_by (nat_eq class) places

-- nobody stands in the row of this class
pub record IsBare (rows : Rows) (class : ℕ) : Type 0 where
  pub each : (t : ℕ) → ¬ IsIn rows.classes t class

-- nobody stands in a row
pub record AreEmpty (rows : Rows) : Type 0 where
  pub each : (t class : ℕ) → ¬ IsIn rows.classes t class

-- somebody stands in the row of this class, and nobody in that of a greater one
pub record IsGreatest (rows : Rows) (class : ℕ) : Type 0 where
  pub someone : ℕ
  pub is_in : IsIn rows.classes someone class
  pub greatest : (t other : ℕ) → IsIn rows.classes t other → other ≤ class

-- an item of the greatest class in whose row somebody stands
pub record IsFirst (rows : Rows) (t : ℕ) : Type 0 where
  pub class : ℕ
  pub is_in : IsIn rows.classes t class
  pub greatest : (u other : ℕ) → IsIn rows.classes u other → other ≤ class

-- exactly the items of a class, each once
pub record IsRow (classes : List (Option ℕ)) (class : ℕ) (row : List ℕ) : Type 0 where
  pub each : (t : ℕ) → Contains row t → IsIn classes t class
  pub all : (t : ℕ) → IsIn classes t class → Contains row t
  pub once : (i j a b : ℕ) → i < j → slice_get row i ≡ Some a → slice_get row j ≡ Some b → a ≢ b
