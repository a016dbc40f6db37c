-- A table on its way up to the least one.
use Rattle.std.specs.Prelude.{ℕ, ◌≡◌, ◌<◌, ◌≤◌, List, length, slice_index, sum}
use Rattle.least_or_cycle.specs.declared.rising.Raise.{Raise}
use Rattle.least_or_cycle.specs.declared.rising.Raise.TheVariants as raise
use Rattle.least_or_cycle.specs.Least.{Keeps, Exceeds}

-- nothing in the list is above the top, nor above what any table that keeps the rule has there
pub record IsUnder (rule : (ℕ → ℕ) → ℕ → Type 0) (top : ℕ) (p : List ℕ) : Type 0 where
  pub within : (n : ℕ) → slice_index p n ≤ top
  pub below : (q : ℕ → ℕ) → Keeps rule (length p) q → (n : ℕ) → slice_index p n ≤ q n

-- the list was raised, and is still under
pub record IsRaised (rule : (ℕ → ℕ) → ℕ → Type 0) (top : ℕ) (old new : List ℕ) : Type 0 where
  pub under : IsUnder rule top new
  pub more : sum old < sum new

-- what became of a list that was looked over at some places: it is as it was and the rule is kept there, it was
-- raised, or none within the top keeps the rule
abbrev pub Became : ((ℕ → ℕ) → ℕ → Type 0) → ℕ → (ℕ → Type 0) → List ℕ → List ℕ → Raise → Type 0
Became rule top At old new raise.Kept = (new ≡ old) × ((n : ℕ) → At n → n < length old → rule (slice_index old) n)
Became rule top At old new raise.Raised = IsRaised rule top old new
Became rule top At old new raise.Over = Exceeds rule (length old) top
