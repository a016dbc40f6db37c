use Rattle.std.proofs.Common.{sym, subst}
use Rattle.program_edges.specs.declared.users.Use.{Use}
use Rattle.program_edges.specs.Users.{InitsAt, UpdatesAt, ReadsAt, Gains, UsesAt}
use Rattle.program_edges.proofs.Gaining.{on_ok}
use Rattle.program_edges.proofs.node_lists.NodeLists.note_use.Goals as goal

pub returns-in-Init : goal.returns-in-Init
returns-in-Init c =
    let p = c.args.program.now in
    on_ok c.note_init.result
    (Gains c.args.self.now c.note_init.new.self c.args.n (λ x. InitsAt p x c.args.n))
    (Gains c.args.self.now c.note_init.new.self c.args.n (λ x. UsesAt p c.args.way x c.args.n))
    (subst (λ (w : Use). Gains c.args.self.now c.note_init.new.self c.args.n (λ x. UsesAt p w x c.args.n)) (sym c.in-Init.is))
    c.note_init.ensures

pub returns-in-Update : goal.returns-in-Update
returns-in-Update c =
    let p = c.args.program.now in
    on_ok c.note_update.result
    (Gains c.args.self.now c.note_update.new.self c.args.n (λ x. UpdatesAt p x c.args.n))
    (Gains c.args.self.now c.note_update.new.self c.args.n (λ x. UsesAt p c.args.way x c.args.n))
    (subst (λ (w : Use). Gains c.args.self.now c.note_update.new.self c.args.n (λ x. UsesAt p w x c.args.n)) (sym c.in-Update.is))
    c.note_update.ensures

pub returns-in-Read : goal.returns-in-Read
returns-in-Read c =
    let p = c.args.program.now in
    on_ok c.note_reads.result
    (Gains c.args.self.now c.note_reads.new.self c.args.n (λ x. ReadsAt p x c.args.n))
    (Gains c.args.self.now c.note_reads.new.self c.args.n (λ x. UsesAt p c.args.way x c.args.n))
    (subst (λ (w : Use). Gains c.args.self.now c.note_reads.new.self c.args.n (λ x. UsesAt p w x c.args.n)) (sym c.in-Read.is))
    c.note_reads.ensures
