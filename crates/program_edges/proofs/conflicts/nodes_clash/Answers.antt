use Rattle.std.proofs.lemmas.Grind.{common_steps}
use Rattle.std.proofs.Common.{subst, arith}
use Rattle.std.specs.Bool.{IsTrue}
use Rattle.std.specs.Prelude.{◌↔◌}
use Rattle.sc_values.specs.Access.{Access, Clash}
use Rattle.sc_graph.specs.Accesses.{accesses, access_of}
use Rattle.program_edges.proofs.Within.{access_there}
use Rattle.program_edges.proofs.conflicts.nodes_clash.Goals as goal

pub returns-in-Some-Some : goal.returns-in-Some-Some
returns-in-Some-Some c =
    let p = c.args.program.now in
    let a = c.in-Some-Some.a.now in
    let b = c.in-Some-Some.b.now in
    let P : Access → Type 0 = λ x. IsTrue c.clashes.result ↔ Clash x (access_of b) in
    let Q : Access → Type 0 = λ y. IsTrue c.clashes.result ↔ Clash (accesses p c.args.m) y in
    subst Q (access_there p c.args.n b c.in-Some-Some.ensures')
    (subst P (access_there p c.args.m a c.in-Some-Some.ensures) c.clashes.ensures)

pub returns-in_default-2 : goal.returns-in_default-2
returns-in_default-2 c = grind (arith, common_steps) steps 2000000

pub returns-in_default : goal.returns-in_default
returns-in_default c = grind (arith, common_steps) steps 2000000
