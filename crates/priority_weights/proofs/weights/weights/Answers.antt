use Rattle.std.proofs.Common.{ℕ, subst}
use Rattle.std.specs.Prelude.{slice_index}
use Rattle.least_or_cycle.specs.Least.{Exceeds}
use Rattle.priority_weights.specs.Inside.Entries.{bits, WeightKept}
use Rattle.priority_weights.proofs.Rooms.{weights_within}
use Rattle.priority_weights.proofs.weights.weights.Goals as goal

pub unreachable-requires : goal.unreachable-requires
unreachable-requires c =
    let p = c.args.program.now in
    let q = slice_index c.args.ends.now in
    let over = rw c.in-None.is at c.in_ok-weights.ensures.least in
    let P : ℕ → Type 0 = λ top. Exceeds (WeightKept p (bits q)) c.node_count-count.result top in
    let Q : ℕ → Type 0 = λ count. Exceeds (WeightKept p (bits q)) count count in
    weights_within p c.requires.formed q c.requires.ranks (subst Q c.node_count-count.ensures.count (subst P c.from.ensures over))
