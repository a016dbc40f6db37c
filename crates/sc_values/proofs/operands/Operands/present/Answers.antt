use Rattle.std.proofs.Common.{ap, ◌∙◌}
use Rattle.sc_values.specs.Checked.{loaded_from}
use Rattle.sc_values.specs.Limits.{load_limit}
use Rattle.sc_values.proofs.Loaded.{gathers_none_yet, gathers_some, gathers_none, gathers_room, gathers_all}
use Rattle.sc_values.proofs.operands.Operands.present.Goals as goal
use Rattle.sc_values.proofs.operands.Operands.present.Goals.{in-Some, in_default}

pub push-requires : goal.push-requires
push-requires c =
    gathers_room _ _ _ _ _ c.loop-operation-test.true c.operation-item.is c.in-Some.value load_limit c.in-Some.ensures
    (rw c.operations-operation-items.ensures.value c.requires) c.loop-operation.invariant

pub loop-operation-init : goal.loop-operation-init
loop-operation-init c = rw c.new-operands.ensures (gathers_none_yet _ _)

pub loop-operation-preserved : goal.loop-operation-preserved
loop-operation-preserved c =
    elim c.match-loaded_value.branch [
      | in-Some w ↦ rw (w.operands-is, w.push.ensures)
          (gathers_some _ _ _ _ _ c.loop-operation-test.true c.operation-item.is w.in-Some.value w.in-Some.ensures c.loop-operation.invariant)
      | in_default w ↦ rw w.operands-is (gathers_none _ _ _ _ _ c.loop-operation-test.true c.operation-item.is w.in_default.ensures c.loop-operation.invariant)
    ]

pub returns : goal.returns
returns c =
    gathers_all _ _ _ _ c.loop-operation-test.false c.loop-operation.invariant
    ∙ ap (loaded_from c.args.variables.now) c.operations-operation-items.ensures.value
