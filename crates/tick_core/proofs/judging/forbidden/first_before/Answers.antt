use mathlib.Core.Bool.{true≢false}
use Rattle.std.proofs.Common.{◌≡◌, ◌<◌, true, arith, sym, ◌∙◌}
use Rattle.sc_graph.specs.Threads.{ForkedApart}
use Rattle.tick_core.specs.Judging.{IsForbidden}
use Rattle.tick_core.specs.Inside.Judging.{acts_at}
use Rattle.tick_core.proofs.Forbidding.{least_from, none_more}
use Rattle.tick_core.proofs.judging.forbidden.first_before.Goals as goal

pub returns-then-is_forbidden : goal.returns-then-is_forbidden
returns-then-is_forbidden c =
    record {
      is = c.is_forbidden.ensures.0 c.if-is_forbidden.true;
      least = least_from (λ h. IsForbidden (ForkedApart c.args.program.now) (acts_at c.args.program.now c.args.steps.now) h c.args.second) c.loop-first.first
          c.loop-first.invariant;
    }

pub loop-first-preserved : goal.loop-first-preserved
loop-first-preserved c =
    none_more (λ h. IsForbidden (ForkedApart c.args.program.now) (acts_at c.args.program.now c.args.steps.now) h c.args.second) c.loop-first.first
    c.loop-first.invariant
    (λ f.
    let refused : c.is_forbidden.result ≡ true = c.is_forbidden.ensures.1 f in
    let other = c.if-is_forbidden.false in
    absurd (true≢false (sym refused ∙ other)))

pub returns : goal.returns
returns c i f =
    let before = f.before in
    let past = c.loop-first-test.false in
    let below : i < c.loop-first.first = omega arith in
    c.loop-first.invariant i below f
