-- Ranks of the nodes that lead to one node, and what shows that no cycle goes through it.
use Rattle.std.specs.Prelude.{ℕ, ◌≡◌, ◌≢◌, ◌<◌, ◌≤◌, ◌+◌, ◌-◌, Bool, true, false, List, length, slice_index}
use Rattle.std.specs.List.{sum_by}
use Rattle.least_or_cycle.specs.Walks.{LeadsTo}

-- how many numbers of the list are 0
abbrev pub zeros : List ℕ → ℕ
zeros ranks = sum_by (λ x. 1 - x) ranks

-- the target has rank 1, and every other node of a rank above 0 leads to one of smaller rank
pub record AreRanks (leads : ℕ → ℕ → ℕ → Type 0) (target : ℕ) (ranks : List ℕ) : Type 0 where
  pub first : slice_index ranks target ≡ 1
  pub falls : (m : ℕ) → 0 < slice_index ranks m → m ≢ target → (n : ℕ) × LeadsTo leads ranks m (slice_index ranks m) n
  pub small : (m : ℕ) → slice_index ranks m + zeros ranks ≤ length ranks

-- no edge leads from a node of rank 0 to one of a rank above it
pub record AreComplete (leads : ℕ → ℕ → ℕ → Type 0) (ranks : List ℕ) : Type 0 where
  pub complete : (m n w : ℕ) → m < length ranks → leads m n w → 0 < slice_index ranks n → 0 < slice_index ranks m

-- more nodes were ranked
pub record RanksMore (leads : ℕ → ℕ → ℕ → Type 0) (target : ℕ) (old new : List ℕ) : Type 0 where
  pub ranks : AreRanks leads target new
  pub more : zeros new < zeros old

-- what became of ranks that were looked over at some places
abbrev pub RanksBecame : (ℕ → ℕ → ℕ → Type 0) → ℕ → (ℕ → Type 0) → List ℕ → List ℕ → Bool → Type 0
RanksBecame leads target At old new true = RanksMore leads target old new
RanksBecame leads target At old new false = (new ≡ old)
    × ((m n w : ℕ) → At m → m < length old → leads m n w → 0 < slice_index old n → 0 < slice_index old m)

-- a table of zeros and ones that rises along no edge, and falls along each edge of weight above 0 from the target
pub record IsCut (leads : ℕ → ℕ → ℕ → Type 0) (count target : ℕ) : Type 0 where
  pub table : ℕ → ℕ
  pub level : (m n w : ℕ) → m < count → leads m n w → table n ≤ table m
  pub falls : (n w : ℕ) → leads target n w → 0 < w → 1 + table n ≤ table target
  pub small : (n : ℕ) → table n ≤ 1

-- a table that rises along no edge, and falls along each edge of weight above 0 from the nodes below a bound
pub record AreCuts (leads : ℕ → ℕ → ℕ → Type 0) (count bound : ℕ) : Type 0 where
  pub table : ℕ → ℕ
  pub level : (m n w : ℕ) → m < count → leads m n w → table n ≤ table m
  pub falls : (m n w : ℕ) → m < bound → leads m n w → 0 < w → 1 + table n ≤ table m
  pub small : (n : ℕ) → table n ≤ bound
