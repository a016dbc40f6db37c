use Rattle.std.proofs.Common.{ℕ, ◌≡◌, inl, inr, List, ap}
use Rattle.std.specs.Prelude.{Contains}
use Rattle.sc_values.specs.Access.{Reads}
use Rattle.sc_values.specs.Code.{loads}
use Rattle.sc_graph.specs.declared.program.Step.{Step}
use Rattle.sc_graph.specs.Accesses.{access_of}
use Rattle.program_edges.specs.Users.{Gains}
use Rattle.program_edges.proofs.Gaining.{on_ok, gains_of_code}
use Rattle.program_edges.proofs.node_lists.NodeLists.note_reads_of.Goals as goal

pub returns-in-Assign : goal.returns-in-Assign
returns-in-Assign c =
    let reads_of : Step → List ℕ = λ s. (access_of s).reads in
    let same : reads_of c.args.step.now ≡ loads c.in-Assign.code = elim c.in-Assign.is [
      | inl a ↦ ap reads_of a.2
      | inr other ↦ elim other [ inl u ↦ ap reads_of u.3 | inr d ↦ ap reads_of d.2 ]
    ] in
    on_ok c.note_loads.result
    (Gains c.args.self.now c.note_loads.new.self c.args.n (Contains (loads c.in-Assign.code)))
    (Gains c.args.self.now c.note_loads.new.self c.args.n (Reads (access_of c.args.step.now)))
    (gains_of_code c.args.self.now c.note_loads.new.self c.args.n c.args.step.now c.in-Assign.code same)
    c.note_loads.ensures
