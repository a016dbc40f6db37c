-- Rules about tables of numbers, and the least table that keeps a rule. A table is a function of the
-- place; that of a list is 0 past its end.
use Rattle.std.specs.Prelude.{ℕ, ◌≡◌, ◌<◌, ◌≤◌, List, length, slice_index}

-- the rule is kept at each place below the count
pub record Keeps (rule : (ℕ → ℕ) → ℕ → Type 0) (count : ℕ) (q : ℕ → ℕ) : Type 0 where
  pub each : (n : ℕ) → n < count → rule q n

-- the list keeps the rule, and every table that keeps it is nowhere smaller
pub record IsLeast (rule : (ℕ → ℕ) → ℕ → Type 0) (count : ℕ) (p : List ℕ) : Type 0 where
  pub long : length p ≡ count
  pub keeps : Keeps rule count (slice_index p)
  pub least : (q : ℕ → ℕ) → Keeps rule count q → (n : ℕ) → slice_index p n ≤ q n

-- nothing in the table is above the top
pub record IsWithin (count top : ℕ) (q : ℕ → ℕ) : Type 0 where
  pub each : (n : ℕ) → n < count → q n ≤ top

-- no table that keeps the rule has nothing above the top
pub record Exceeds (rule : (ℕ → ℕ) → ℕ → Type 0) (count top : ℕ) : Type 0 where
  pub exceeds : (q : ℕ → ℕ) → Keeps rule count q → ¬ IsWithin count top q

-- x is no more than what every greater table that keeps the rule has at place m
pub record IsPart (rule : (ℕ → ℕ) → ℕ → Type 0) (p : List ℕ) (m x : ℕ) : Type 0 where
  pub least : (q : ℕ → ℕ) → Keeps rule (length p) q → ((n : ℕ) → slice_index p n ≤ q n) → x ≤ q m

-- x is what the rule asks for place m, given the rest of the list: enough there, and no more than what every
-- greater table that keeps the rule has there
pub record IsNeeded (rule : (ℕ → ℕ) → ℕ → Type 0) (p : List ℕ) (m x : ℕ) : Type 0 where
  pub enough : x ≤ slice_index p m → rule (slice_index p) m
  pub least : (q : ℕ → ℕ) → Keeps rule (length p) q → ((n : ℕ) → slice_index p n ≤ q n) → x ≤ q m
