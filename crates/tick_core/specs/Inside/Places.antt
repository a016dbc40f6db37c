-- How rows lie one after another in one flat list, and where each item stands in it.
use Rattle.std.specs.Prelude.{ℕ, ◌≡◌, ◌+◌, ◌<◌, ◌≤◌, Bool, true, false, Option, Some, None, List, length, slice_index, count_by}
use Rattle.tick_core.specs.Rows.{IsIn, members}

abbrev pub is_in : Option ℕ → Bool
is_in None = false
is_in (Some class) = true

-- item t stands at its place, which is taken in the row of its class
pub record HasPlace (starts counts row places : List ℕ) (t class : ℕ) : Type 0 where
  pub low : slice_index starts class ≤ slice_index places t
  pub high : slice_index places t < slice_index starts class + slice_index counts class
  pub found : slice_index row (slice_index places t) ≡ t

-- who stands at place i is of this class, and knows the place
pub record Holds (classes : List (Option ℕ)) (row places : List ℕ) (class i : ℕ) : Type 0 where
  pub is_in : IsIn classes (slice_index row i) class
  pub knows : slice_index places (slice_index row i) ≡ i

-- the row of each class begins at its start and has its room to itself
pub record LieApart (rooms starts row : List ℕ) : Type 0 where
  pub starts_long : length starts ≡ length rooms
  pub apart : (low high : ℕ) → low < high → high < length rooms
      → slice_index starts low + slice_index rooms low ≤ slice_index starts high
  pub within : (class : ℕ) → class < length rooms → slice_index starts class + slice_index rooms class ≤ length row

pub record Stand (rooms : List ℕ) (classes : List (Option ℕ)) (starts counts row places : List ℕ)
    (top len : ℕ) : Type 0 where
  pub lie : LieApart rooms starts row
  pub counts_long : length counts ≡ length rooms
  pub places_long : length places ≡ length classes
  pub counted : (class : ℕ) → class < length rooms → slice_index counts class ≡ members classes class
  pub fits : (class : ℕ) → class < length rooms → slice_index counts class ≤ slice_index rooms class
  pub known : (t class : ℕ) → IsIn classes t class → class < length rooms
  pub placed : (t class : ℕ) → IsIn classes t class → HasPlace starts counts row places t class
  pub held : (class i : ℕ) → class < length rooms → slice_index starts class ≤ i
      → i < slice_index starts class + slice_index counts class → Holds classes row places class i
  pub below : (t class : ℕ) → IsIn classes t class → class ≤ top
  pub len_is : len ≡ count_by is_in classes
