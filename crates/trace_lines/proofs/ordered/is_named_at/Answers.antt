use Rattle.std.proofs.Common.{sym}
use Rattle.trace_lines.proofs.InOrder.{named_by, named_by_none}
use Rattle.trace_lines.proofs.ordered.is_named_at.Goals as goal

pub returns-in-Some : goal.returns-in-Some
returns-in-Some c =
    named_by c.args.found.now c.args.place c.args.name.now c.in-Some.one.now c.is_same.result (sym c.in-Some.ensures) c.is_same.ensures

pub returns-in-None : goal.returns-in-None
returns-in-None c = named_by_none c.args.found.now c.args.place c.args.name.now (sym c.in-None.ensures)
