use Rattle.std.proofs.Common.{◌≡◌, Some}
use Rattle.sc_values.specs.Code.{loaded}
use Rattle.program_edges.specs.Users.{Gains}
use Rattle.program_edges.proofs.Gaining.{on_ok, gains_same_load}
use Rattle.program_edges.proofs.node_lists.NodeLists.note_load.Goals as goal

pub returns-in-Load : goal.returns-in-Load
returns-in-Load c =
    on_ok c.note.result
    (Gains c.args.self.now c.note.new.self c.args.n (λ y. y ≡ c.in-Load.variable))
    (Gains c.args.self.now c.note.new.self c.args.n (λ y. loaded c.args.operation ≡ Some y))
    (gains_same_load c.args.self.now c.note.new.self c.args.n c.in-Load.variable c.args.operation c.in-Load.is)
    c.note.ensures
