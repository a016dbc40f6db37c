use Rattle.std.proofs.Common.{sym}
use Rattle.sc_values.specs.Access.{Reads}
use Rattle.sc_graph.specs.Accesses.{access_of}
use Rattle.program_edges.specs.Users.{ReadsAt, Gains}
use Rattle.program_edges.proofs.Gaining.{on_ok, gains_reads}
use Rattle.program_edges.proofs.node_lists.NodeLists.note_reads.Goals as goal

pub returns-in-Some : goal.returns-in-Some
returns-in-Some c =
    on_ok c.note_reads_of.result
    (Gains c.args.self.now c.note_reads_of.new.self c.args.n (Reads (access_of c.in-Some.step.now)))
    (Gains c.args.self.now c.note_reads_of.new.self c.args.n (λ y. ReadsAt c.args.program.now y c.args.n))
    (gains_reads c.args.program.now c.args.self.now c.note_reads_of.new.self c.args.n c.in-Some.step.now (sym c.in-Some.ensures))
    c.note_reads_of.ensures
