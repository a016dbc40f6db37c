-- Along a walk a table falls by the weight of the walk, so that no walk of weight closes.
use Rattle.std.proofs.Common.{ℕ, ◌<◌, ◌≤◌, ◌+◌, List, [], ◌∷◌, arith}
use Rattle.least_or_cycle.specs.Least.{Keeps}
use Rattle.least_or_cycle.specs.Walks.{Walk, Closes, IsCycle, Falls}

pub walk_falls : (leads : ℕ → ℕ → ℕ → Type 0) (q : ℕ → ℕ) → ((m n w : ℕ) → leads m n w → w + q n ≤ q m) → (m : ℕ) (way : List ℕ) (n w : ℕ)
    → Walk leads m way n w → w + q n ≤ q m
walk_falls leads q falls m [] n w walk = falls m n w walk
walk_falls leads q falls m (k ∷ way) n w walk =
    let first = falls m k walk.0 walk.2 in
    let rest = walk_falls leads q falls k way n walk.1 walk.3 in
    let sums = walk.4 in
    omega (arith, first, rest, sums)

-- where a table falls along all edges, there is no cycle
pub no_cycle : (leads : ℕ → ℕ → ℕ → Type 0) (count : ℕ) (q : ℕ → ℕ) → ((m n w : ℕ) → leads m n w → m < count) → Keeps (Falls leads) count q → (walk : List ℕ)
    → ¬ IsCycle leads walk
no_cycle leads count q within keeps walk c = never walk c.closes
  where
    falls : (m n w : ℕ) → leads m n w → w + q n ≤ q m
    falls m n w edge = (keeps.each m (within m n w edge)).falls n w edge

    never : (xs : List ℕ) → Closes leads xs c.weight → ⊥
    never [] closes = closes
    never (m ∷ way) closes =
        let h = walk_falls leads q falls m way m c.weight closes in
        let strict = c.strict in
        omega (arith, h, strict)
