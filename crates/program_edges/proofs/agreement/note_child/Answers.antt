use Rattle.std.proofs.Common.{sym}
use Rattle.program_edges.proofs.Agreeing.{child_noted}
use Rattle.program_edges.proofs.agreement.note_child.Goals as goal

pub returns-in-Some : goal.returns-in-Some
returns-in-Some c = λ t.
    child_noted c.args.program.now c.args.links.now c.args.way c.args.x c.args.seen.now.items c.note_at.new.seen.items c.in-Some.fork c.args.child c.args.n
    c.requires.told c.requires.within (sym c.in-Some.ensures) (c.note_at.ensures t)
