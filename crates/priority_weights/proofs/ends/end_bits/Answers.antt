use Rattle.std.proofs.Common.{ℕ, subst}
use Rattle.least_or_cycle.specs.Least.{IsLeast}
use Rattle.priority_weights.specs.Inside.Entries.{BitKept}
use Rattle.priority_weights.proofs.Bits.{ones_kept}
use Rattle.priority_weights.proofs.ends.end_bits.Goals as goal

pub unreachable-requires : goal.unreachable-requires
unreachable-requires c =
    let over = rw c.in-None.is at c.in_ok-ends.ensures.least in
    ones_kept c.args.program.now c.node_count.result over

pub returns : goal.returns
returns c =
    let least = rw c.in-Some.is at c.in_ok-ends.ensures.least in
    let P : ℕ → Type 0 = λ count. IsLeast (BitKept c.args.program.now) count c.in-Some.ends.items in
    subst P c.node_count.ensures.count least
