use Rattle.std.proofs.lemmas.Grind.{elements, common_steps}
use Rattle.std.proofs.Common.{◌∙◌, Option, ℕ, arith, ap, sym, subst, slice_set}
use Rattle.tick_core.specs.Rows.{HasRoom}
use Rattle.tick_core.proofs.OwnRoom.{room_there}
use Rattle.tick_core.proofs.LivingChildren.{all_counted}
use Rattle.tick_core.proofs.Entered.{enters, passes_at}
use Rattle.tick_core.proofs.waking.count_and_sort.Goals.{then-not-is_passed_by, else-not-is_passed_by}
use Rattle.tick_core.proofs.waking.count_and_sort.Goals as goal

pub set-requires : goal.set-requires
set-requires c =
    subst (λ (o : Option ℕ). HasRoom c.loop-thread.rows c.loop-thread.thread o)
    (sym (c.first_row.ensures c.args.program.now c.args.control.now c.loop-thread.thread (sym c.status-status.ensures) c.waited_for-count.ensures))
    (room_there c.args.program.now c.args.tables.now c.loop-thread.rows c.loop-thread.invariant.own c.loop-thread.thread
    (omega (arith, c.loop-thread-test.true, c.thread_count-thread-end.ensures.count)) c.args.control.now c.requires.valid c.requires.configuration)

pub loop-thread-preserved : goal.loop-thread-preserved
loop-thread-preserved c =
    elim c.if-not-is_passed_by.branch [
      | then-not-is_passed_by w ↦
          enters c.args.program.now c.args.tables.now c.args.control.now _ c.loop-thread.thread _ _ c.loop-thread.invariant
          (omega (arith, c.loop-thread-test.true, c.thread_count-thread-end.ensures.count)) c.requires.valid c.requires.configuration
          w.waited_for-count.result (λ j waits. w.waited_for-count.ensures j (c.status-status.ensures ∙ waits)) _ (ap (λ v. v.items) w.counts-is) _
          (w.rows-is ∙ (w.set.ensures
          ∙ ap (λ (o : Option ℕ). record c.loop-thread.rows { classes = slice_set c.loop-thread.rows.classes c.loop-thread.thread o })
          (w.first_row.ensures c.args.program.now c.args.control.now c.loop-thread.thread (sym c.status-status.ensures) w.waited_for-count.ensures)))
      | else-not-is_passed_by w ↦
          passes_at c.args.program.now c.args.tables.now c.args.control.now _ c.loop-thread.thread _ _ _ _ c.loop-thread.invariant
          (omega (arith, c.loop-thread-test.true, c.thread_count-thread-end.ensures.count)) c.status-status.result (sym c.status-status.ensures)
          (c.is_passed_by.ensures.0 w.if-not-is_passed_by.false) (ap (λ v. v.items) w.counts-is) w.rows-is
    ]

pub returns-clause-counted : goal.returns-clause-counted
returns-clause-counted c =
    all_counted c.args.program.now c.args.control.now c.loop-thread.counts.items c.requires.configuration c.loop-thread.invariant.long
    (λ t j less. c.loop-thread.invariant.counted t j (omega (arith, less, c.loop-thread-test.false, c.thread_count-thread-end.ensures.count)))

pub returns-clause-sorted : goal.returns-clause-sorted
returns-clause-sorted c = grind (arith, elements) steps 2000000

pub loop-thread-init : goal.loop-thread-init
loop-thread-init c = grind (arith, common_steps) steps 2000000
