use Rattle.std.proofs.Common.{◌≡◌, ◌∙◌, Option, None, ℕ, ap, sym, subst, slice_set}
use Rattle.tick_core.specs.Rows.{HasRoom}
use Rattle.tick_core.specs.Space.Sorting.{step_priority}
use Rattle.tick_core.specs.Inside.Waking.{EntersRow}
use Rattle.tick_core.proofs.OwnRoom.{room_there}
use Rattle.tick_core.proofs.ListedEntered.{enters_row, passes_idle}
use Rattle.tick_core.proofs.sorting.enter_there.Goals as goal

pub set-requires : goal.set-requires
set-requires c =
    subst (λ (o : Option ℕ). HasRoom c.args.rows.now c.args.thread o)
    (sym (c.step_priority.ensures c.args.program.now c.requires.counts) ∙ c.in-Some.is)
    (room_there c.args.program.now c.args.tables.now c.args.rows.now c.requires.rows c.args.thread c.requires.place c.args.control.now c.requires.valid
    c.requires.configuration)

pub returns-in-Some : goal.returns-in-Some
returns-in-Some c =
    subst (EntersRow c.args.program.now c.args.tables.now c.args.control.now c.args.thread c.args.rows.now)
    (sym (c.set.ensures
    ∙ ap (λ (o : Option ℕ). record c.args.rows.now { classes = slice_set c.args.rows.now.classes c.args.thread o })
    (sym c.in-Some.is ∙ c.step_priority.ensures c.args.program.now c.requires.counts)))
    (enters_row c.args.program.now c.args.tables.now c.args.control.now c.args.thread c.args.rows.now c.requires.valid c.requires.configuration
    c.requires.rows c.requires.place)

pub returns-in_default : goal.returns-in_default
returns-in_default c =
    let idle : step_priority c.args.program.now c.args.tables.now c.args.control.now c.args.thread ≡ None =
    sym (c.step_priority.ensures c.args.program.now c.requires.counts) ∙ c.in_default.is in
    passes_idle c.args.program.now c.args.tables.now c.args.control.now c.args.thread c.args.rows.now c.requires.rows c.requires.right c.requires.place idle
