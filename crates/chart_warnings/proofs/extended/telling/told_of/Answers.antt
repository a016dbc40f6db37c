use Rattle.std.proofs.lemmas.Grind.{common_steps}
use Rattle.std.proofs.Common.{string_bytes, subst, arith}
use Rattle.chart_reduction.specs.Reduction.{LacksChart}
use Rattle.extended_reader.proofs.Reading.{shaped}
use Rattle.chart_warnings.proofs.ToldOfAuthor.{limited, reduction}
use Rattle.chart_warnings.proofs.extended.telling.told_of.Goals as goal

pub extended_of-requires-clause-flawless : goal.extended_of-requires-clause-flawless
extended_of-requires-clause-flawless c = c.requires.sound.flawless

pub extended_of-requires-clause-shaped : goal.extended_of-requires-clause-shaped
extended_of-requires-clause-shaped c = shaped c.args.text.now c.args.draft.now c.requires.sound

pub told_over-requires-clause-reduction : goal.told_over-requires-clause-reduction
told_over-requires-clause-reduction c =
    reduction c.args.draft.now c.in_ok-extended.extended c.in-Ok.chart c.in-Ok.rows c.in_ok-extended.ensures c.in-Ok.ensures

pub returns-in-Err-Limit : goal.returns-in-Err-Limit
returns-in-Err-Limit c =
    limited c.args.name.now c.args.text.now (string_bytes c.new.result) c.args.draft.now c.in_ok-extended.extended c.requires.sound
    c.in_ok-extended.ensures (subst (LacksChart c.in_ok-extended.extended) c.in-Err-Limit.field-0-is c.in-Err-Limit.ensures) c.new.ensures.bytes

pub returns-in-Ok : goal.returns-in-Ok
returns-in-Ok c = grind (arith, common_steps) steps 2000000
