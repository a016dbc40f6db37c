use Rattle.std.proofs.Common.{length, arith}
use Rattle.std.specs.Prelude.{slice_index}
use Rattle.priority_weights.proofs.Bounding.{ample, ample_covers, ample_small, sum_left}
use Rattle.priority_weights.proofs.bounds.raise.Goals as goal

pub loop-smaller : goal.loop-smaller
loop-smaller c =
    let p = c.args.program.now in
    let raised = rw c.if-not-cover_all.false at c.cover_all.ensures in
    sum_left c.loop.bounds c.cover_all.new.bounds (length p.threads) raised.under.long
    (λ t. let a = raised.under.below (ample p) (ample_covers p c.requires.formed (slice_index c.args.weights.now) c.requires.within) t in
    let b = ample_small p c.requires.formed t in
    omega (arith, a, b))
    raised.more
