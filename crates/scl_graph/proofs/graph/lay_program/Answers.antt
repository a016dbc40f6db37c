use Rattle.std.proofs.Common.{◌≡◌, ℕ, List, ◌∙◌}
use Rattle.sc_graph.specs.Program.{Program}
use Rattle.sc_graph.specs.declared.program.Variable.{Variable}
use Rattle.scl_graph.specs.declared.laid_threads.Laid.{Laid}
use Rattle.scl_graph.specs.declared.way.Way.{Way}
use Rattle.scl_graph.specs.Graph.{program_by}
use Rattle.scl_graph.specs.Inside.Resolving.{numbered_of}
use Rattle.scl_graph.proofs.Laid.{ok_then}
use Rattle.scl_graph.proofs.graph.lay_program.Goals as goal

pub returns-in-Ok : goal.returns-in-Ok
returns-in-Ok g c =
    let f : Way → ℕ = g.T.Targets.target c.args.targets.now in
    let variables : List Variable = c.args.variables.now in
    let laid : Laid = c.lay_threads.new.laid in
    let Made : Program → Type 0 = λ p. p ≡ record { variables = variables; threads = laid.threads; nodes = laid.nodes } in
    let Is : Program → Type 0 = λ p. p ≡ program_by f (numbered_of variables c.args.body.now) in
    ok_then c.program_of.result Made Is (λ p made. made ∙ c.in-Ok.ensures.made variables) c.program_of.ensures
