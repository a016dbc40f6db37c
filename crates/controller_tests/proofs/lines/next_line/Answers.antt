use Rattle.std.proofs.Common.{◌<◌, length, rules, sym, ◌∙◌}
use Rattle.controller_tests.proofs.Cut.{feed_at, no_feed}
use Rattle.controller_tests.proofs.lines.next_line.Goals as goal

pub returns-in-Some : goal.returns-in-Some
returns-in-Some c =
    let some : 0 < length c.args.bytes.now = search rules in
    feed_at c.args.bytes.now c.in-Some.at some (sym c.feed_in.ensures ∙ c.in-Some.is)

pub returns-in-None : goal.returns-in-None
returns-in-None c =
    let some : 0 < length c.args.bytes.now = search rules in
    no_feed c.args.bytes.now some (sym c.feed_in.ensures ∙ c.in-None.is)
