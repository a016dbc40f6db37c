use mathlib.Core.Bool.{true≢false}
use Rattle.std.proofs.Common.{sym}
use Rattle.sc_graph.proofs.Formed.{forks_apart, one_fork_apart, parts, within_threads}
use Rattle.sc_graph.proofs.links.Links.are_concurrent.Goals as goal

pub have_one_fork-requires : goal.have_one_fork-requires
have_one_fork-requires c =
    let place = c.in-Some.ensures in
    record {
      formed = c.requires.formed;
      links = c.requires.links;
      left = within_threads c.args.program.now c.in-Some.left place.0 place.1.left_parent;
      right = within_threads c.args.program.now c.in-Some.right place.0 place.1.right_parent;
    }

pub returns-in-Some : goal.returns-in-Some
returns-in-Some c =
    let p = c.args.program.now in
    let place = c.in-Some.ensures in (
      λ yes. record {
        forking = place.0;
        apart = forks_apart p c.requires.formed c.args.first c.args.second c.in-Some.left c.in-Some.right place.0 place.1 (c.have_one_fork.ensures.0 yes);
      },
      λ x. c.have_one_fork.ensures.1
          (one_fork_apart p c.requires.formed c.args.first c.args.second c.in-Some.left c.in-Some.right place.0 x.forking x.apart place.1),
    )

pub returns-in-None : goal.returns-in-None
returns-in-None c = (
  λ yes. absurd (true≢false (sym yes)),
  λ x. absurd (c.in-None.ensures x.apart.left x.apart.right x.forking
      (parts c.args.program.now c.requires.formed c.args.first c.args.second x.forking x.apart)),
)
