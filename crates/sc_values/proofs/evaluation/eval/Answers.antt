use Rattle.std.proofs.Common.{◌≡◌, Some, refl, sym, ap, ◌∙◌}
use Rattle.sc_values.specs.Checked.{value_over}
use Rattle.sc_values.proofs.Evaluating.{going_begins, going_acts, going_ends, value_present, value_kind, tree_value}
use Rattle.sc_values.proofs.evaluation.eval.Goals as goal

pub loop-operation-init : goal.loop-operation-init
loop-operation-init c =
    rw (c.operations-operation-items.ensures.value, c.code.ensures.value, c.new-stack.ensures)
    (going_begins c.args.code.now c.args.operands.now c.code.ensures.checked c.requires)

pub act-requires-clause-runs : goal.act-requires-clause-runs
act-requires-clause-runs c =
    let acts = going_acts _ _ _ _ _ c.operation-item.result c.loop-operation-test.true c.operation-item.is c.loop-operation.invariant in
    rw (c.operand_of-operand.ensures, c.values.ensures.value, acts.runs) refl

pub act-requires-clause-room : goal.act-requires-clause-room
act-requires-clause-room c =
    let acts = going_acts _ _ _ _ _ c.operation-item.result c.loop-operation-test.true c.operation-item.is c.loop-operation.invariant in
    acts.room

pub loop-operation-preserved : goal.loop-operation-preserved
loop-operation-preserved c =
    let acts = going_acts _ _ _ _ _ c.operation-item.result c.loop-operation-test.true c.operation-item.is c.loop-operation.invariant in
    let did = rw (c.operand_of-operand.ensures, c.values.ensures.value) at c.act.ensures in
    let same : acts.after ≡ c.act.new.stack = (let e : Some acts.after ≡ Some c.act.new.stack = sym acts.runs ∙ did in cc) in
    rw c.loads_so_far-loaded.ensures (rw (← same) acts.next)

pub unreachable-requires : goal.unreachable-requires
unreachable-requires c =
    let ends = going_ends _ _ _ _ _ c.loop-operation-test.false c.loop-operation.invariant in
    let none = c.in-None.ensures.0 in
    cc

pub returns : goal.returns
returns c =
    let so = c.loop-operation.invariant in
    let ends = going_ends _ _ _ _ _ c.loop-operation-test.false so in
    let top = c.in-Some.ensures in
    let same : so.end ≡ c.in-Some.value = cc in
    let value : value_over c.args.operands.now c.args.code.now.operations ≡ Some c.in-Some.value =
    ap (value_over c.args.operands.now) (sym (c.operations-operation-items.ensures.value ∙ c.code.ensures.value)) ∙ so.is ∙ ap Some same in
    record {
      value = value;
      present = λ variables present. sym (value_present c.args.code.now c.args.operands.now variables c.code.ensures.checked c.requires present) ∙ value;
      tree = λ e variables spells present.
          tree_value c.args.code.now.operations e variables spells
          ∙ sym (value_present c.args.code.now c.args.operands.now variables c.code.ensures.checked c.requires present)
          ∙ value;
      kind = λ kinds checks. value_kind kinds c.args.code.now c.args.operands.now c.in-Some.value checks c.requires value;
    }
