use Rattle.std.proofs.Common.{ℕ, ◌≡◌, [], length, map, get_or}
use Rattle.program_edges.proofs.node_lists.NodeLists.none.Given as goal

abbrev pub invariant-loop : goal.invariant-loop
invariant-loop l = (length l.lists.items ≡ l.counter) × ((x : ℕ) → get_or (map (λ v. v.items) l.lists.items) x [] ≡ [])
