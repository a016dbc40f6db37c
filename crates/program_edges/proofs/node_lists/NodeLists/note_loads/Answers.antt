use Rattle.std.proofs.Common.{List, subst}
use Rattle.std.specs.Prelude.{Contains}
use Rattle.sc_values.specs.declared.operation.Operation.{Operation}
use Rattle.sc_values.specs.Code.{loads}
use Rattle.program_edges.specs.Users.{Gains}
use Rattle.program_edges.proofs.Gaining.{gains_load, gains_no_load}
use Rattle.program_edges.proofs.node_lists.NodeLists.note_loads.Goals as goal

pub loop-operation-preserved : goal.loop-operation-preserved
loop-operation-preserved c =
    λ new g. c.loop-operation.invariant new
    (gains_load c.loop-operation.self c.note_load.new.self new c.args.n c.operations-operation-items.result.now c.loop-operation.operation-index _
    c.loop-operation-test.true c.operation-item.is c.in_ok-note_load.ensures g)

pub returns : goal.returns
returns c =
    let P : List Operation → Type 0 = λ xs. Gains c.args.self.now c.loop-operation.self c.args.n (Contains (loads xs)) in
    subst P c.operations-operation-items.ensures.value
    (c.loop-operation.invariant c.loop-operation.self
    (gains_no_load c.loop-operation.self c.args.n c.operations-operation-items.result.now c.loop-operation.operation-index c.loop-operation-test.false))
