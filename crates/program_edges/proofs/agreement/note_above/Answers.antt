use Rattle.program_edges.proofs.Alone.{parent_less}
use Rattle.std.proofs.Common.{◌≡◌, None, Some, rules}
use Rattle.sc_graph.specs.Program.{parent_of}
use Rattle.program_edges.proofs.Agreeing.{gone_none, gone_more, gone_all}
use Rattle.program_edges.proofs.agreement.note_above.Goals as goal

pub loop-parent-init : goal.loop-parent-init
loop-parent-init c = gone_none c.args.program.now c.args.way c.args.x c.args.seen.now.items c.args.thread c.args.n

pub loop-parent-preserved : goal.loop-parent-preserved
loop-parent-preserved c =
    let up : parent_of c.args.program.now c.loop-parent.below ≡ Some c.in-Some.parent = cc (c.parent.ensures, c.in-Some.is) in
    gone_more c.args.program.now c.args.way c.args.x c.args.seen.now.items c.loop-parent.seen.items c.note_child.new.seen.items c.args.thread
    c.loop-parent.below c.in-Some.parent c.args.n up c.loop-parent.invariant (c.note_child.ensures c.if-not-note_child.false)

pub returns : goal.returns
returns c = λ t.
    let top : parent_of c.args.program.now c.loop-parent.below ≡ None = cc (c.parent.ensures, c.in_default.is) in
    gone_all c.args.program.now c.args.way c.args.x c.args.seen.now.items c.loop-parent.seen.items c.args.thread c.loop-parent.below c.args.n
    c.requires.formed top c.loop-parent.invariant

pub loop-parent-smaller : goal.loop-parent-smaller
loop-parent-smaller c = search (rules, parent_less)
