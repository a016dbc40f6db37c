-- What a text counts, and the numbers of its places, in numbers that hold for a text of any length.
use Rattle.std.specs.Prelude.{ℕ, suc, ◌+◌, ◌≤◌, List, map}
use Rattle.scl.specs.declared.statement.Statement.{Statement}
use Rattle.scl.specs.Numbering.{Counts, Numbers, in_row, all_branch_counts, piece_of}
use Rattle.scl_graph.specs.declared.totals.Totals.{Totals}
use Rattle.scl_graph.specs.declared.numbers_ahead.NumbersAhead.{NumbersAhead}

abbrev pub total_limit : ℕ
total_limit = 4611686018427387904

abbrev pub number_limit : ℕ
number_limit = 18446744073709551615

-- none of them is above the limit
pub record AreCounted (c : Totals) : Type 0 where
  pub nodes : c.nodes ≤ total_limit
  pub threads : c.threads ≤ total_limit
  pub lower : c.lower ≤ total_limit
  pub gotos : c.jumps ≤ total_limit

abbrev pub sum : Totals → Totals → Totals
sum a b =
    record { nodes = a.nodes + b.nodes; threads = a.threads + b.threads; lower = a.lower + b.lower; jumps = a.jumps + b.jumps }

abbrev pub totals : Counts → Totals
totals c = record { nodes = c.nodes; threads = c.threads; lower = c.lower; jumps = c.gotos }

abbrev pub totals_of : Statement → Totals
totals_of s = totals (piece_of s).counts

abbrev pub totals_of_all : List Statement → Totals
totals_of_all statements = totals (in_row (map piece_of statements)).counts

abbrev pub as_branch : Totals → Totals
as_branch c = record { nodes = 0; threads = suc c.threads; lower = suc c.nodes + c.lower; jumps = c.jumps }

abbrev pub branches_totals : List (List Statement) → Totals
branches_totals branches = totals (all_branch_counts (map (λ b. map piece_of b) branches))

abbrev pub numbers : NumbersAhead → Numbers
numbers at = record { node = at.node; thread = at.thread; base = at.base; goto = at.goto }

-- the numbers behind what counts this
abbrev pub past : NumbersAhead → Totals → NumbersAhead
past at c =
    record { node = at.node + c.nodes; thread = at.thread + c.threads; base = at.base + c.lower; goto = at.goto + c.jumps }

-- the numbers behind so many nodes of the thread
abbrev pub after : ℕ → NumbersAhead → NumbersAhead
after n at = record { node = n + at.node; thread = at.thread; base = at.base; goto = at.goto }

-- within a branch whose text counts this
abbrev pub inside : NumbersAhead → Totals → NumbersAhead
inside at c = record { node = at.base; thread = suc at.thread; base = at.base + suc c.nodes; goto = at.goto }

-- behind such a branch
abbrev pub past_branch : NumbersAhead → Totals → NumbersAhead
past_branch at c = past at (as_branch c)

-- there are numbers for what counts this
pub record HasRoom (at : NumbersAhead) (c : Totals) : Type 0 where
  pub counted : AreCounted c
  pub node : at.node + c.nodes ≤ number_limit
  pub thread : at.thread + c.threads ≤ number_limit
  pub base : at.base + c.lower ≤ number_limit
  pub goto : at.goto + c.jumps ≤ number_limit

-- there are numbers for such a branch
pub record HasBranchRoom (at : NumbersAhead) (c : Totals) : Type 0 where
  pub thread : at.thread + suc c.threads ≤ number_limit
  pub base : at.base + (suc c.nodes + c.lower) ≤ number_limit
  pub goto : at.goto + c.jumps ≤ number_limit

-- there are numbers for these branches
pub record HasBranchesRoom (at : NumbersAhead) (branches : List (List Statement)) : Type 0 where
  pub counted : AreCounted (branches_totals branches)
  pub thread : at.thread + (branches_totals branches).threads ≤ number_limit
  pub base : at.base + (branches_totals branches).lower ≤ number_limit
  pub goto : at.goto + (branches_totals branches).jumps ≤ number_limit
