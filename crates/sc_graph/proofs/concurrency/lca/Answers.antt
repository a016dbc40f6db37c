use mathlib.Core.Bool.{true≢false}
use Rattle.std.proofs.Common.{ℕ, ◌≡◌, ◌∙◌, true, Option, Some, IfSome, is_some, sym, subst, ap}
use Rattle.sc_graph.specs.Threads.{ForkedApart}
use Rattle.sc_graph.proofs.Formed.{forks_apart, one_fork_apart, parts}
use Rattle.sc_graph.proofs.concurrency.lca.Goals as goal

pub returns-then-have_one_fork-clause-concurrent : goal.returns-then-have_one_fork-clause-concurrent
returns-then-have_one_fork-clause-concurrent c =
    let place = c.in-Some.ensures in
    let up : c.parent.result ≡ Some place.0 = c.parent.ensures ∙ place.1.left_parent in (
      λ some. record {
        forking = place.0;
        apart = forks_apart c.args.program.now c.requires c.args.first c.args.second c.in-Some.left c.in-Some.right place.0 place.1
            (c.have_one_fork.ensures.0 c.if-have_one_fork.true);
      },
      λ x. ap (λ (o : Option ℕ). is_some o) up,
    )

pub returns-then-have_one_fork-clause-apart : goal.returns-then-have_one_fork-clause-apart
returns-then-have_one_fork-clause-apart c =
    let place = c.in-Some.ensures in
    let up : c.parent.result ≡ Some place.0 = c.parent.ensures ∙ place.1.left_parent in
    subst (λ (o : Option ℕ). IfSome o (λ t. ForkedApart c.args.program.now c.args.first c.args.second t)) (sym up)
    (forks_apart c.args.program.now c.requires c.args.first c.args.second c.in-Some.left c.in-Some.right place.0 place.1
    (c.have_one_fork.ensures.0 c.if-have_one_fork.true))

pub returns-else-have_one_fork-clause-concurrent : goal.returns-else-have_one_fork-clause-concurrent
returns-else-have_one_fork-clause-concurrent c =
    let place = c.in-Some.ensures in (
      λ yes. absurd (true≢false (sym yes)),
      λ x.
          let one : c.have_one_fork.result
          ≡ true = c.have_one_fork.ensures.1
          (one_fork_apart c.args.program.now c.requires c.args.first c.args.second c.in-Some.left c.in-Some.right place.0 x.forking x.apart place.1) in
          absurd (true≢false (sym one ∙ c.if-have_one_fork.false)),
    )

pub returns-in-None-clause-concurrent : goal.returns-in-None-clause-concurrent
returns-in-None-clause-concurrent c = (
  λ yes. absurd (true≢false (sym yes)),
  λ x. absurd (c.in-None.ensures x.apart.left x.apart.right x.forking (parts c.args.program.now c.requires c.args.first c.args.second x.forking x.apart)),
)
