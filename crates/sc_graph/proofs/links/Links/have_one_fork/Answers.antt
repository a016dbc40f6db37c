use mathlib.Core.Bool.{true≢false}
use Rattle.std.proofs.Common.{◌≡◌, None, sym, ◌∙◌}
use Rattle.sc_graph.specs.Links.{only_at}
use Rattle.sc_graph.proofs.Formed.{one_fork_known, one_fork_left, one_fork_right}
use Rattle.sc_graph.proofs.Linking.{fork_known, fork_unknown}
use Rattle.sc_graph.proofs.links.Links.have_one_fork.Goals as goal

pub returns-in-Some-Some : goal.returns-in-Some-Some
returns-in-Some-Some c =
    let p = c.args.program.now in
    let l = c.args.self.now in
    one_fork_known p c.requires.formed c.args.left c.args.right c.in-Some-Some.fork c.in-Some-Some.other
    (fork_known p l c.args.left c.in-Some-Some.fork c.requires.links c.requires.left (sym c.in-Some-Some.ensures))
    (fork_known p l c.args.right c.in-Some-Some.other c.requires.links c.requires.right (sym c.in-Some-Some.ensures'))

pub returns-in_default : goal.returns-in_default
returns-in_default c =
    let p = c.args.program.now in
    let none : only_at c.args.self.now.forks c.args.right ≡ None = sym c.fork_of-2.ensures ∙ c.in_default.is-1 in (
      λ yes. absurd (true≢false (sym yes)),
      λ one.
          absurd (fork_unknown p c.args.self.now c.args.right c.requires.links c.requires.right none
          (one_fork_right p c.requires.formed c.args.left c.args.right one)),
    )

pub returns-in_default-2 : goal.returns-in_default-2
returns-in_default-2 c =
    let p = c.args.program.now in
    let none : only_at c.args.self.now.forks c.args.left ≡ None = sym c.fork_of.ensures ∙ c.in_default.is-0 in (
      λ yes. absurd (true≢false (sym yes)),
      λ one.
          absurd (fork_unknown p c.args.self.now c.args.left c.requires.links c.requires.left none
          (one_fork_left p c.requires.formed c.args.left c.args.right one)),
    )
