-- Of a list of nodes, one for each thread that owns some of them, of the least or the greatest number in a table.
use Rattle.std.specs.Prelude.{ℕ, ◌≡◌, ◌≤◌, List, slice_index, Contains}
use Rattle.sc_graph.specs.Program.{Program, owner_of}
use Rattle.program_edges.specs.declared.extremes.Extreme.{Extreme}
use Rattle.program_edges.specs.declared.extremes.Extreme.TheVariants as extreme

-- the number of node m is no greater than that of node n, or no less
abbrev pub IsAsExtreme : List ℕ → Extreme → ℕ → ℕ → Type 0
IsAsExtreme q extreme.Least m n = slice_index q m ≤ slice_index q n
IsAsExtreme q extreme.Greatest m n = slice_index q n ≤ slice_index q m

-- one of the list, of the same thread, is as extreme as node n
pub record StoodFor (p : Program) (q : List ℕ) (e : Extreme) (list : List ℕ) (n : ℕ) : Type 0 where
  pub by : ℕ
  pub among : Contains list by
  pub owner : owner_of p by ≡ owner_of p n
  pub extreme : IsAsExtreme q e by n

-- the list stands for these nodes
pub record StandFor (p : Program) (q : List ℕ) (e : Extreme) (nodes list : List ℕ) : Type 0 where
  pub each : (n : ℕ) → Contains nodes n → StoodFor p q e list n
  pub only : (n : ℕ) → Contains list n → Contains nodes n
