use Rattle.std.proofs.Common.{inl, inr, arith}
use Rattle.program_edges.proofs.Agreeing.{noted_at, is_so}
use Rattle.program_edges.proofs.agreement.note_at.Goals as goal
use Rattle.program_edges.proofs.agreement.note_at.Goals.{else-not-noted-via-then-not-noted+else-not-noted-2, else-not-noted-via-else-not-noted}

pub returns : goal.returns
returns c = λ t.
    noted_at c.args.program.now c.args.way c.args.x c.args.seen.now.items c.index.result.now c.with_node-noted.result c.args.fork c.args.child c.args.n
    (let lt = c.if-at-len.false in let long = c.len.ensures in omega (arith, lt, long)) c.index.ensures c.with_node-noted.ensures
    (elim c.else-not-noted.branch [
      | else-not-noted-via-then-not-noted+else-not-noted-2 w ↦ inr (is_so c.with_node-noted.result.alike w.if-not-noted-2.false)
      | else-not-noted-via-else-not-noted w ↦ inl (is_so c.with_node-noted.result.together w.if-not-noted.false)
    ])
