use Rattle.std.proofs.Common.{◌≡◌, Some, slice_get, get_or, sym, subst, arith}
use Rattle.std.proofs.lemmas.Option.{slice_get-get_or}
use Rattle.tick_core.specs.Space.Sorting.{StandSorted}
use Rattle.tick_core.proofs.ListedEntered.{entered_none, entered_more, all_listed_sorted}
use Rattle.tick_core.proofs.sorting.sort_listed.Goals as goal

pub loop-at-init : goal.loop-at-init
loop-at-init c =
    entered_none c.args.program.now c.args.tables.now c.args.control.now c.args.listed.now c.args.rows.now c.requires.rows c.requires.bare

pub loop-at-preserved : goal.loop-at-preserved
loop-at-preserved c =
    let thread = get_or c.args.listed.now c.loop-at.at 0 in
    let is : slice_get c.args.listed.now c.loop-at.at ≡ Some thread = slice_get-get_or c.args.listed.now c.loop-at.at 0 c.loop-at-test.true in
    entered_more c.args.program.now c.args.tables.now c.args.control.now c.args.listed.now c.loop-at.at c.loop-at.rows c.enter.new.rows
    thread c.loop-at.invariant is c.enter.ensures

pub returns : goal.returns
returns c =
    subst (StandSorted c.args.program.now c.args.tables.now c.args.control.now) (sym c.settle.ensures)
    (all_listed_sorted c.args.program.now c.args.tables.now c.args.control.now c.args.listed.now c.loop-at.rows c.loop-at.at
    (omega (arith, c.loop-at-test.false)) c.requires.listed c.loop-at.invariant)
