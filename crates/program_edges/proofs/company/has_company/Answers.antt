use Rattle.std.proofs.Common.{ℕ, ◌≡◌, subst}
use Rattle.sc_graph.specs.Threads.{AreConcurrent}
use Rattle.program_edges.proofs.company.has_company.Goals as goal

pub returns-in-Some : goal.returns-in-Some
returns-in-Some c = λ other x.
    let same : x.first ≡ c.in-Some.thread = cc (x.first_owner, c.in-Some.ensures) in
    c.thread_has_company.ensures x.second (subst (λ (t : ℕ). AreConcurrent c.args.program.now t x.second) same x.concurrent)
