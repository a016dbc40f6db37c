use Rattle.std.proofs.Common.{◌≡◌, None, rules}
use Rattle.sc_graph.specs.Program.{parent_of}
use Rattle.program_edges.proofs.Alone.{none_further, child_within, further_up, parent_less}
use Rattle.program_edges.proofs.company.thread_has_company.Goals as goal

pub returns : goal.returns
returns c = λ u x.
    let top : parent_of c.args.program.now c.loop-parent.below ≡ None = cc (c.parent.ensures, c.in_default.is) in
    absurd (none_further c.args.program.now c.args.thread c.loop-parent.below c.requires.formed top c.loop-parent.invariant u x)

pub loop-parent-preserved : goal.loop-parent-preserved
loop-parent-preserved c = search (rules, further_up)

pub is_beside-requires-clause-within : goal.is_beside-requires-clause-within
is_beside-requires-clause-within c = search (rules, child_within)

pub loop-parent-smaller : goal.loop-parent-smaller
loop-parent-smaller c = search (rules, parent_less)
