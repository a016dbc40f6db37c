-- A walk on its way back to its beginning.
use Rattle.std.specs.Prelude.{ℕ, ◌≡◌, ◌<◌, ◌≤◌, List, ◌∷◌, length, slice_index, count_by, ◌==◌, All}
use Rattle.least_or_cycle.specs.Walks.{Walk, Closes, IsDistinct}

-- a closed walk of distinct nodes that weighs more than 0
pub record IsRound (leads : ℕ → ℕ → ℕ → Type 0) (walk : List ℕ) : Type 0 where
  pub weight : ℕ
  pub closes : Closes leads walk weight
  pub strict : 0 < weight
  pub distinct : IsDistinct walk

-- the walk leads from the start to a node of smaller rank than all behind the start
pub record IsTraced (leads : ℕ → ℕ → ℕ → Type 0) (ranks : List ℕ) (start : ℕ) (walk : List ℕ) (at : ℕ) : Type 0 where
  pub way : List ℕ
  pub is : walk ≡ start ∷ way
  pub weight : ℕ
  pub path : Walk leads start way at weight
  pub strict : 0 < weight
  pub ranked : 0 < slice_index ranks at
  pub above : (n : ℕ) → 0 < count_by (λ m. m == n) way → slice_index ranks at < slice_index ranks n
  pub distinct : IsDistinct walk

-- the place of a least number of the list
pub record IsLeastAt (walk : List ℕ) (i : ℕ) : Type 0 where
  pub within : i < length walk
  pub least : All (λ n. slice_index walk i ≤ n) walk
