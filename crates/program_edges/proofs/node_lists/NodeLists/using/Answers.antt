use Rattle.std.proofs.Common.{ℕ, ◌<◌, length, subst, arith}
use Rattle.program_edges.specs.Users.{IsUnused, UsesAt}
use Rattle.program_edges.proofs.Within.{uses_within}
use Rattle.program_edges.proofs.Gaining.{lists_start, lists_gain, lists_end}
use Rattle.program_edges.proofs.node_lists.NodeLists.using.Goals as goal

pub loop-n-init : goal.loop-n-init
loop-n-init c =
    let p = c.args.program.now in
    let P : ℕ → Type 0 = λ count. IsUnused count c.in_ok-users.users in
    lists_start (length p.variables) (UsesAt p c.args.way) c.in_ok-users.users (subst P c.variable_count.ensures c.in_ok-users.ensures)

pub loop-n-preserved : goal.loop-n-preserved
loop-n-preserved c =
    let p = c.args.program.now in
    lists_gain (length p.variables) (UsesAt p c.args.way) c.loop-n.users c.note_use.new.self c.loop-n.n c.loop-n.invariant c.in_ok-note_use.ensures

pub returns : goal.returns
returns c =
    let p = c.args.program.now in
    let end = c.loop-n-test.false in
    lists_end (length p.variables) (UsesAt p c.args.way) c.loop-n.users c.loop-n.n c.loop-n.invariant
    (λ x n h. let lt : n < length p.nodes = uses_within p c.args.way x n h in let count = c.node_count-n-end.ensures.count in omega (arith, lt, end, count))
