use Rattle.std.proofs.Common.{◌≡◌, Some, ap, sym, ◌∙◌}
use Rattle.program_edges.specs.Users.{InitsAt, Gains}
use Rattle.program_edges.proofs.Gaining.{on_ok, gains_init}
use Rattle.program_edges.proofs.node_lists.NodeLists.note_init.Goals as goal

pub returns-in-Some-Assign : goal.returns-in-Some-Assign
returns-in-Some-Assign c =
    on_ok c.note.result
    (Gains c.args.self.now c.note.new.self c.args.n (λ y. y ≡ c.in-Some-Assign.variable))
    (Gains c.args.self.now c.note.new.self c.args.n (λ y. InitsAt c.args.program.now y c.args.n))
    (gains_init c.args.program.now c.args.self.now c.note.new.self c.args.n c.in-Some-Assign.variable c.in-Some-Assign.field-0-2 c.in-Some-Assign.field-0-1
    (sym c.in-Some-Assign.ensures ∙ ap Some c.in-Some-Assign.field-0-is))
    c.note.ensures
