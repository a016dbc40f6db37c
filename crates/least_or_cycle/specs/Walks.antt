-- Walks along weighted edges, and cycles. leads m n w says that an edge of weight w leads from m to n.
use Rattle.std.specs.Prelude.{ℕ, ◌≡◌, ◌<◌, ◌≤◌, ◌+◌, List, [], ◌∷◌, slice_index, count_by, ◌==◌, All}
use Rattle.least_or_cycle.specs.Least.{Keeps, IsWithin}

-- edges lead from m through each of these nodes in turn to n, and their weights have the sum w
abbrev pub Walk : (ℕ → ℕ → ℕ → Type 0) → ℕ → List ℕ → ℕ → ℕ → Type 0
Walk leads m [] n w = leads m n w
Walk leads m (k ∷ way) n w = (u : ℕ) × (v : ℕ) × leads m k u × Walk leads k way n v × (w ≡ u + v)

-- edges lead from each node of the list to the next, and from the last to the first
abbrev pub Closes : (ℕ → ℕ → ℕ → Type 0) → List ℕ → ℕ → Type 0
Closes leads [] w = ⊥
Closes leads (m ∷ way) w = Walk leads m way m w

-- no number stands twice in the list
pub record IsDistinct (walk : List ℕ) : Type 0 where
  pub once : (n : ℕ) → count_by (λ m. m == n) walk ≤ 1

-- a closed walk of distinct nodes that weighs more than 0 and begins with its least node
pub record IsCycle (leads : ℕ → ℕ → ℕ → Type 0) (walk : List ℕ) : Type 0 where
  pub weight : ℕ
  pub closes : Closes leads walk weight
  pub strict : 0 < weight
  pub distinct : IsDistinct walk
  pub least : All (λ n. slice_index walk 0 ≤ n) walk

-- along each edge from m the table falls by its weight at least
pub record Falls (leads : ℕ → ℕ → ℕ → Type 0) (q : ℕ → ℕ) (m : ℕ) : Type 0 where
  pub falls : (n w : ℕ) → leads m n w → w + q n ≤ q m

-- a table within the count falls along all edges from the nodes below the count
pub record HasRanks (leads : ℕ → ℕ → ℕ → Type 0) (count : ℕ) : Type 0 where
  pub rank : ℕ → ℕ
  pub keeps : Keeps (Falls leads) count rank
  pub small : IsWithin count count rank

-- an edge leads from m to n, whose rank is above 0 and below a number
pub record LeadsTo (leads : ℕ → ℕ → ℕ → Type 0) (ranks : List ℕ) (m below n : ℕ) : Type 0 where
  pub weight : ℕ
  pub edge : leads m n weight
  pub ranked : 0 < slice_index ranks n
  pub falls : slice_index ranks n < below

-- an edge of weight above 0 leads from m to n, whose rank is above 0
pub record LeadsStrictlyTo (leads : ℕ → ℕ → ℕ → Type 0) (ranks : List ℕ) (m n : ℕ) : Type 0 where
  pub weight : ℕ
  pub edge : leads m n weight
  pub strict : 0 < weight
  pub ranked : 0 < slice_index ranks n
