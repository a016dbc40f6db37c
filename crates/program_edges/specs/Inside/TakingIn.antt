-- What it is to take a node into a list of one for each thread.
use Rattle.std.specs.Prelude.{ℕ, ◌≡◌, ◌<◌, ◌⊎◌, List, length, get_or, slice_index, Contains}
use Rattle.sc_graph.specs.Program.{Program, owner_of}
use Rattle.program_edges.specs.declared.extremes.Extreme.{Extreme}
use Rattle.program_edges.specs.declared.extremes.Extreme.TheVariants as extreme
use Rattle.program_edges.specs.Extremes.{StoodFor}

-- the number of node m is less than that of node n, or greater
abbrev pub Beats : List ℕ → Extreme → ℕ → ℕ → Type 0
Beats q extreme.Least m n = slice_index q m < slice_index q n
Beats q extreme.Greatest m n = slice_index q n < slice_index q m

-- the new list stands for what the old one stood for, and for node n
pub record TakesIn (p : Program) (q : List ℕ) (e : Extreme) (old new : List ℕ) (n : ℕ) : Type 0 where
  pub keeps : (m : ℕ) → StoodFor p q e old m → StoodFor p q e new m
  pub gains : StoodFor p q e new n
  pub only : (m : ℕ) → Contains new m → Contains old m ⊎ (m ≡ n)

-- the node at a place of the list is of the thread of node n
pub record OwnedAlike (p : Program) (list : List ℕ) (at n other : ℕ) : Type 0 where
  pub within : at < length list
  pub there : get_or list at 0 ≡ other
  pub owner : owner_of p other ≡ owner_of p n
