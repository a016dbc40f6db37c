-- Empty loops: gotos that lead through labels and gotos alone back to themselves. A thread that came to one would never
-- come to a statement.
use Rattle.std.specs.Prelude.{ℕ, ◌≡◌, ◌≤◌, Some, List}
use Rattle.scl.specs.Block.{Block}
use Rattle.scl.specs.Labels.{Jumps, behind_label, front}

-- from behind this label one comes, through labels and gotos alone, to goto g, whose label is the last one
pub data ComesTo (root : Block) : (name : List ℕ) (g : ℕ) (last : List ℕ) → Type 0 where
  at_once : (name : List ℕ) (k : Block) (g : ℕ) (last : List ℕ) → behind_label root name ≡ Some k → front k ≡ Jumps g last → ComesTo root name g last
  through : (name : List ℕ) (k : Block) (h : ℕ) (middle : List ℕ) (g : ℕ) (last : List ℕ) →
      behind_label root name ≡ Some k → front k ≡ Jumps h middle → ComesTo root middle g last → ComesTo root name g last

-- goto g to this label leads back to itself
abbrev pub IsEmptyLoop : Block → ℕ → List ℕ → Type 0
IsEmptyLoop root g name = ComesTo root name g name

-- the label of the first such goto of the text
pub record IsFirstEmptyLoop (root : Block) (name : List ℕ) : Type 0 where
  pub goto : ℕ
  pub loops : IsEmptyLoop root goto name
  pub first : (h : ℕ) (other : List ℕ) → IsEmptyLoop root h other → goto ≤ h

pub record HasNoEmptyLoop (root : Block) : Type 0 where
  pub none : (g : ℕ) (name : List ℕ) → ¬ IsEmptyLoop root g name
