use Rattle.std.proofs.Common.{◌≡◌, map, take, None}
use Rattle.tick_core.proofs.state.first_rows.no_claims.Given as goal

abbrev pub invariant-loop-thread : goal.invariant-loop-thread
invariant-loop-thread l = l.claims.items ≡ map (λ _. None) (take l._thread-index l._thread-items)
