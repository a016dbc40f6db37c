use Rattle.std.proofs.Common.{◌≡◌, ◌+◌, ◌-◌, arith}
use Rattle.trace_lines.proofs.Behind.{leads_lines}
use Rattle.trace_lines.proofs.causes.tail.+behind.Goals as goal

pub returns : goal.returns
returns n c =
    let more : c.args.lines ≡ (c.args.lines - 1) + 1 = omega (arith, c.if-lines-eq0.false) in
    leads_lines c.args.bytes.now c.in_ok-rest.rest.now c.in_ok-last.last.now c.args.lines (c.args.lines - 1)
    c.in_ok-rest.ensures.feed c.in_ok-rest.ensures.rest more c.in_ok-last.ensures
