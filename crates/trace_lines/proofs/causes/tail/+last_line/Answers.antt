use Rattle.std.proofs.Common.{◌≡◌, ◌+◌, rules}
use Rattle.trace_lines.proofs.Behind.{leads_feed}
use Rattle.trace_lines.proofs.causes.tail.+last_line.Goals as goal

pub returns-in_ok-last-in-Some : goal.returns-in_ok-last-in-Some
returns-in_ok-last-in-Some n c =
    let more : c.in_ok-checked_add-in-Some.field-0 ≡ c.args.before + 1 = search rules in
    leads_feed c.args.bytes.now c.in-Some.rest.now c.in_ok-last-in-Some.last.now c.args.before c.in_ok-checked_add-in-Some.field-0 c.in_ok-last-in-Some.count
    c.in-Some.ensures.feed c.in-Some.ensures.rest more c.in_ok-last-in-Some.ensures
