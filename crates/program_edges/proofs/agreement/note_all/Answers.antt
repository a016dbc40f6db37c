use Rattle.std.proofs.Common.{sym}
use Rattle.program_edges.proofs.Agreeing.{all_noted, none_noted}
use Rattle.program_edges.proofs.agreement.note_all.Goals as goal

pub returns-in-Some : goal.returns-in-Some
returns-in-Some c = λ t.
    all_noted c.args.program.now c.args.way c.args.x c.args.seen.now.items c.note_above.new.seen.items c.in-Some.thread c.args.n
    (sym c.in-Some.ensures) (c.note_above.ensures t)

pub returns-in-None : goal.returns-in-None
returns-in-None c = λ t. none_noted c.args.program.now c.args.way c.args.x c.args.seen.now.items c.args.n (sym c.in-None.ensures)
