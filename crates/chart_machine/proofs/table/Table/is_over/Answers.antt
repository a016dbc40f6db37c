use Rattle.std.proofs.Common.{◌≡◌, false, refl, inl, inr, length, below_more, arith}
use Rattle.chart_machine.specs.Turns.{is_enabled}
use Rattle.chart_machine.proofs.Outside.{outside_waits, within_or_past}
use Rattle.chart_machine.proofs.table.Table.is_over.Goals as goal

pub loop-region-preserved : goal.loop-region-preserved
loop-region-preserved c =
    below_more (λ r. is_enabled c.args.self.now c.args.c.now r ≡ false) c.loop-region.region c.loop-region.invariant
    (let told = c.in_ok-is_enabled.ensures in let no = c.if-branch.false in cc)

pub returns : goal.returns
returns c = (
  λ yes r.
      elim (within_or_past r (length c.args.c.now.regions)) [
        | inl less ↦ c.loop-region.invariant r (omega (arith, less, c.loop-region-test.false, c.len-region-end.ensures))
        | inr past ↦ outside_waits c.args.self.now c.args.c.now r past
      ],
  λ over. refl,
)
