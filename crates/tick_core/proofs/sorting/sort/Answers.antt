use Rattle.std.proofs.Common.{◌∙◌, Option, ℕ, ap, sym, subst, slice_set}
use Rattle.tick_core.specs.Rows.{HasRoom}
use Rattle.tick_core.specs.Space.Sorting.{OwnRows}
use Rattle.tick_core.proofs.OwnRoom.{has_room, kept_one}
use Rattle.tick_core.proofs.sorting.sort.Goals as goal

pub set-requires : goal.set-requires
set-requires c =
    subst (λ (o : Option ℕ). HasRoom c.args.rows.now c.args.thread o) (sym (c.ready_row-row.ensures c.args.program.now c.requires.counts))
    (has_room c.args.program.now c.args.tables.now c.args.rows.now c.requires.rows c.args.thread c.requires.place c.args.control.now c.requires.valid
    c.requires.configuration c.args.claims.now)

pub returns-clause-rows : goal.returns-clause-rows
returns-clause-rows c =
    subst (OwnRows c.args.program.now c.args.tables.now)
    (sym (c.set.ensures ∙ ap (λ (o : Option ℕ). record c.args.rows.now { classes = slice_set c.args.rows.now.classes c.args.thread o })
    (c.ready_row-row.ensures c.args.program.now c.requires.counts)))
    (kept_one c.args.program.now c.args.tables.now c.args.rows.now c.requires.rows c.args.thread c.requires.place c.args.control.now c.requires.valid
    c.requires.configuration c.args.claims.now)
