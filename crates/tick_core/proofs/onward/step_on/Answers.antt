use Rattle.std.proofs.Common.{ap, refl, subst}
use Rattle.std.specs.Bool.{OnTrue}
use Rattle.tick_core.specs.Inside.Onward.{StaysAt}
use Rattle.tick_core.specs.Inside.Astir.{Gains}
use Rattle.tick_core.specs.Space.Sorting.{children_at}
use Rattle.tick_core.proofs.Covered.{gains_nobody}
use Rattle.tick_core.proofs.LivingChildren.{counts_after}
use Rattle.tick_core.proofs.NextSteps.{next_room, moves_on, steps_anew, leads_on}
use Rattle.tick_core.proofs.Unmoved.{stays_configuration}
use Rattle.tick_core.proofs.onward.step_on.Goals as goal

pub move_on-requires : goal.move_on-requires
move_on-requires c =
    (next_room c.args.program.now c.args.tables.now c.requires.may.valid c.args.control.now c.take_step.new.control c.requires.may.configuration
    c.args.thread c.requires.may.place c.in-Some.next c.take_step.ensures.stepped c.in-Some.ensures.alone c.args.claims.now c.requires.may.unclaimed
    c.args.rows.now
    c.requires.may.own_rows)

pub returns-then-move_on-clause-goes : goal.returns-then-move_on-clause-goes
returns-then-move_on-clause-goes c =
    moves_on c.args.program.now c.args.tables.now c.requires.may.valid c.args.control.now c.take_step.new.control c.requires.may.configuration
    c.args.thread c.requires.may.place c.in-Some.next c.take_step.ensures.stepped c.in-Some.ensures.alone c.args.claims.now c.requires.may.unclaimed
    c.args.rows.now
    c.requires.may.own_rows c.requires.may.enabled c.args.living.now.items c.requires.may.counted c.move_on.new.rows c.move_on.ensures.set

pub returns-else-move_on-clause-goes : goal.returns-else-move_on-clause-goes
returns-else-move_on-clause-goes c =
    moves_on c.args.program.now c.args.tables.now c.requires.may.valid c.args.control.now c.take_step.new.control c.requires.may.configuration
    c.args.thread c.requires.may.place c.in-Some.next c.take_step.ensures.stepped c.in-Some.ensures.alone c.args.claims.now c.requires.may.unclaimed
    c.args.rows.now
    c.requires.may.own_rows c.requires.may.enabled c.args.living.now.items c.requires.may.counted c.move_on.new.rows c.move_on.ensures.set

pub returns-then-move_on-clause-on : goal.returns-then-move_on-clause-on
returns-then-move_on-clause-on c =
    leads_on c.args.program.now c.args.tables.now c.requires.may.valid c.args.control.now c.take_step.new.control c.requires.may.configuration
    c.args.thread c.requires.may.place c.in-Some.next c.take_step.ensures.stepped c.in-Some.ensures.alone c.args.rows.now
    (subst (λ b. OnTrue b (StaysAt c.args.tables.now c.args.thread c.args.rows.now c.in-Some.next)) c.if-move_on.true c.move_on.ensures.stays)

pub settle_others-requires-clause-counts : goal.settle_others-requires-clause-counts
settle_others-requires-clause-counts c =
    counts_after c.args.program.now c.args.tables.now c.requires.may.valid c.args.control.now c.take_step.new.control c.requires.may.configuration
    c.args.thread c.requires.may.place c.take_step.ensures.stepped c.requires.may.enabled c.args.living.now.items _ c.requires.may.counted
    c.args.program.now _ refl refl refl

pub settle_others-requires-clause-configuration : goal.settle_others-requires-clause-configuration
settle_others-requires-clause-configuration c =
    stays_configuration c.args.program.now c.args.tables.now c.requires.may.valid c.args.control.now c.take_step.new.control c.requires.may.configuration
    c.args.thread c.take_step.ensures.stepped

pub returns-in-None-clause-goes : goal.returns-in-None-clause-goes
returns-in-None-clause-goes c =
    steps_anew c.args.program.now c.args.tables.now c.requires.may.valid c.args.control.now c.take_step.new.control c.requires.may.configuration
    c.args.thread c.requires.may.place c.take_step.ensures.stepped c.args.claims.now c.args.rows.now c.settle_others.new.rows
    c.settle_others.new.living.items
    (counts_after c.args.program.now c.args.tables.now c.requires.may.valid c.args.control.now c.take_step.new.control c.requires.may.configuration
    c.args.thread c.requires.may.place c.take_step.ensures.stepped c.requires.may.enabled c.args.living.now.items c.settle_others.new.living.items
    c.requires.may.counted
    c.args.program.now _ refl refl c.settle_others.ensures.counted)
    c.args.status _ c.requires.standing refl c.settle_others.ensures.sorted c.settle_others.ensures.rows

pub returns-then-move_on-clause-listed : goal.returns-then-move_on-clause-listed
returns-then-move_on-clause-listed c = gains_nobody c.args.listed.now _ c.in-Some.ensures.alone.alone

pub returns-else-move_on-clause-listed : goal.returns-else-move_on-clause-listed
returns-else-move_on-clause-listed c = gains_nobody c.args.listed.now _ c.in-Some.ensures.alone.alone

pub returns-in-None-clause-listed : goal.returns-in-None-clause-listed
returns-in-None-clause-listed c =
    subst (λ ks. Gains c.args.listed.now ks c.settle_others.new.listed) (ap (children_at c.args.program.now) c.requires.standing)
    c.settle_others.ensures.listed
