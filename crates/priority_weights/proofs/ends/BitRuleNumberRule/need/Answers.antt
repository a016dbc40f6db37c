use Rattle.std.proofs.Common.{sym, ◌∙◌}
use Rattle.priority_weights.proofs.Bits.{bit_asked}
use Rattle.priority_weights.proofs.ends.BitRuleNumberRule.need.Goals as goal

pub returns-in-Some : goal.returns-in-Some
returns-in-Some c =
    bit_asked c.args.self.now.program.now c.args.table.now c.args.place c.in-Some.step.now c.requires (sym c.in-Some.ensures)
    (sym c.step_bit.ensures ∙ c.if-step_bit.true)
