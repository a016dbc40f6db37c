use Rattle.std.proofs.Common.{◌≡◌, Some, ap, sym, ◌∙◌}
use Rattle.program_edges.specs.Users.{UpdatesAt, Gains}
use Rattle.program_edges.proofs.Gaining.{on_ok, gains_update}
use Rattle.program_edges.proofs.node_lists.NodeLists.note_update.Goals as goal

pub returns-in-Some-Update : goal.returns-in-Some-Update
returns-in-Some-Update c =
    on_ok c.note.result
    (Gains c.args.self.now c.note.new.self c.args.n (λ y. y ≡ c.in-Some-Update.variable))
    (Gains c.args.self.now c.note.new.self c.args.n (λ y. UpdatesAt c.args.program.now y c.args.n))
    (gains_update c.args.program.now c.args.self.now c.note.new.self c.args.n c.in-Some-Update.variable c.in-Some-Update.field-0-3 c.in-Some-Update.field-0-1
    c.in-Some-Update.field-0-2 (sym c.in-Some-Update.ensures ∙ ap Some c.in-Some-Update.field-0-is))
    c.note.ensures
