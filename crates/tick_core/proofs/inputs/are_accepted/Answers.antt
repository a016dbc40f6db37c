use mathlib.Core.Bool.{true≢false}
use Rattle.std.proofs.Common.{◌≡◌, ◌<◌, length, true, refl, arith, sym}
use Rattle.std.proofs.lemmas.Option.{slice_get_within}
use Rattle.tick_core.proofs.Accepted.{accepted_from, accepted_at, accepted_below}
use Rattle.tick_core.proofs.inputs.are_accepted.Goals as goal

pub returns-then-not-is_accepted_at : goal.returns-then-not-is_accepted_at
returns-then-not-is_accepted_at c = (
  λ no. absurd (true≢false (sym no)),
  λ all.
      let yes : c.is_accepted_at.result ≡ true = c.is_accepted_at.ensures.1 (accepted_at c.args.program.now c.args.inputs.now all _) in
      let no = c.if-not-is_accepted_at.true in cc,
)

pub loop-at-preserved : goal.loop-at-preserved
loop-at-preserved c =
    accepted_below c.args.program.now c.args.inputs.now _ c.loop-at.invariant (c.is_accepted_at.ensures.0 c.if-not-is_accepted_at.false)

pub returns : goal.returns
returns c = (
  λ yes.
      accepted_from c.args.program.now c.args.inputs.now
      (λ i a is. let within : i < length c.args.inputs.now = slice_get_within _ _ _ is in c.loop-at.invariant i a (omega arith) is),
  λ all. refl,
)
