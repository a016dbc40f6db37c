use Rattle.std.proofs.Common.{Some, sym, ◌∙◌, ap, subst}
use Rattle.sc_graph.specs.Program.{Program}
use Rattle.conflict_edges.specs.Followers.{AreFollowers}
use Rattle.conflict_edges.proofs.Followed.{after_init, after_update, init_of, update_of}
use Rattle.conflict_edges.proofs.edges.Edges.followers.Goals as goal

pub returns-in-Some-Assign : goal.returns-in-Some-Assign
returns-in-Some-Assign c =
    let p = c.self.inside.program.now in
    let x = c.in-Some-Assign.variable in
    let init = init_of p c.args.node x c.in-Some-Assign.field-0-2 c.in-Some-Assign.field-0-1
    (sym c.in-Some-Assign.ensures ∙ ap Some c.in-Some-Assign.field-0-is) in
    let P : Program → Type 0 = λ q. AreFollowers q c.args.node (record { updates = c.of.result; reads = c.of-in-Some-Assign.result }) in
    subst P c.self.view_is
    (after_init p c.self.inside.links.now c.self.inside.users c.args.node x _ c.self.invariant init c.of.ensures c.of-in-Some-Assign.ensures)

pub returns-in-Some-Update : goal.returns-in-Some-Update
returns-in-Some-Update c =
    let p = c.self.inside.program.now in
    let x = c.in-Some-Update.updated in
    let update = update_of p c.args.node x c.in-Some-Update.field-0-3 c.in-Some-Update.field-0-1 c.in-Some-Update.field-0-2
    (sym c.in-Some-Update.ensures ∙ ap Some c.in-Some-Update.field-0-is) in
    let P : Program → Type 0 = λ q. AreFollowers q c.args.node (record { updates = c.nobody.result; reads = c.of-in-Some-Update.result }) in
    subst P c.self.view_is
    (after_update p c.self.inside.links.now c.self.inside.users c.args.node x _ c.self.invariant update c.nobody.ensures
    c.of-in-Some-Update.ensures)
