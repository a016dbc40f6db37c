use Rattle.trace_lines.proofs.FirstFeed.{first_feed}
use Rattle.trace_lines.proofs.lines.feed_in.Goals as goal

pub returns : goal.returns
returns c = first_feed c.args.bytes.now c.memchr.result c.memchr.ensures
