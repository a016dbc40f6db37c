use Rattle.std.proofs.Common.{Some, sym, ap, ◌∙◌}
use Rattle.program_edges.proofs.Alone.{beside_others}
use Rattle.program_edges.proofs.company.is_beside.Goals as goal

pub returns-in-Some-Fork : goal.returns-in-Some-Fork
returns-in-Some-Fork c =
    beside_others c.args.program.now c.args.links.now c.args.child c.in-Some.fork c.in-Some-Fork.field-0-1 c.len.result c.in-Some-Fork.children
    c.requires.told c.requires.within (sym c.in-Some.ensures)
    (sym c.in-Some-Fork.ensures ∙ ap Some c.in-Some-Fork.field-0-is) c.len.ensures
