use Rattle.std.proofs.Common.{sym}
use Rattle.trace_lines.proofs.InOrder.{place_in-last}
use Rattle.trace_lines.proofs.ordered.place_in.Goals as goal

pub returns-then-is_behind_last : goal.returns-then-is_behind_last
returns-then-is_behind_last c = sym (place_in-last c.args.name.now c.args.found.now c.requires (sym c.if-is_behind_last.ensures))
