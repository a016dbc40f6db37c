use mathlib.Core.Bool.{true≢false}
use Rattle.std.proofs.Common.{◌≡◌, ◌∙◌, true, sym, inl, inr, ⊎_elim}
use Rattle.sc_graph.proofs.Preceding.{init_first, after_init, update_first, after_update}
use Rattle.sc_graph.specs.Accesses.{access_of}
use Rattle.sc_graph.proofs.program.Step.precedes.Goals as goal

pub returns-then-updates : goal.returns-then-updates
returns-then-updates c =
    let w = c.in-Assign in (
      λ e. init_first c.args.self.now (access_of c.args.other.now) w.variable w.next w.code w.is (inl (c.updates.ensures.0 e)),
      λ before. c.if-updates.true,
    )

pub returns-else-updates : goal.returns-else-updates
returns-else-updates c =
    let w = c.in-Assign in (
      λ e. init_first c.args.self.now (access_of c.args.other.now) w.variable w.next w.code w.is (inr (c.reads.ensures.0 e)),
      λ before. ⊎_elim (λ u. let yes : c.updates.result ≡ true = c.updates.ensures.1 u in absurd (true≢false (sym yes ∙ c.if-updates.false)))
          (λ r. c.reads.ensures.1 r)
          (after_init c.args.self.now (access_of c.args.other.now) w.variable w.next w.code w.is before),
    )

pub returns-in-Update : goal.returns-in-Update
returns-in-Update c =
    let w = c.in-Update in (
      λ e. update_first c.args.self.now (access_of c.args.other.now) w.variable w.next w.combine w.code w.is (c.reads-in-Update.ensures.0 e),
      λ before. c.reads-in-Update.ensures.1 (after_update c.args.self.now (access_of c.args.other.now) w.variable w.next w.combine w.code w.is before),
    )
