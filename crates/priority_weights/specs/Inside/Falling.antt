-- The answer of a search for the least table that falls along edges.
use Rattle.std.specs.Prelude.{ℕ, slice_index}
use Rattle.least_or_cycle.specs.Least.{IsLeast, IsWithin}
use Rattle.least_or_cycle.specs.Walks.{Falls, IsCycle}
use Rattle.priority_weights.specs.declared.falling.Falling.{Falling}
use Rattle.priority_weights.specs.declared.falling.Falling.TheVariants as falling

abbrev pub IsFalling : (ℕ → ℕ → ℕ → Type 0) → ℕ → Falling → Type 0
IsFalling leads count (falling.Table table) = IsLeast (Falls leads) count table.items
    × IsWithin count count (slice_index table.items)
IsFalling leads count (falling.Cycle walk) = IsCycle leads walk.items
