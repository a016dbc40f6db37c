use mathlib.Core.Bool.{true≢false}
use Rattle.std.proofs.Common.{sym}
use Rattle.sc_graph.proofs.Formed.{one_fork_known, one_fork_left, one_fork_right}
use Rattle.sc_graph.proofs.concurrency.have_one_fork.Goals as goal

pub returns-in-Some-Some : goal.returns-in-Some-Some
returns-in-Some-Some c =
    one_fork_known c.args.program.now c.requires c.args.left c.args.right c.in-Some-Some.first c.in-Some-Some.second c.in-Some-Some.ensures.fork
    c.in-Some-Some.ensures'.fork

pub returns-in_default : goal.returns-in_default
returns-in_default c = (
  λ yes. absurd (true≢false (sym yes)),
  λ one. c.in_default.ensures'.once.1 (one_fork_right c.args.program.now c.requires c.args.left c.args.right one),
)

pub returns-in_default-2 : goal.returns-in_default-2
returns-in_default-2 c = (
  λ yes. absurd (true≢false (sym yes)),
  λ one. let e = c.fork_of.ensures.once.1 (one_fork_left c.args.program.now c.requires c.args.left c.args.right one) in cc,
)
