use Rattle.std.proofs.lemmas.Grind.{common_steps}
use Rattle.std.proofs.Common.{ℕ, List, ◌⊎◌, subst, sym, arith}
use Rattle.sc_graph.specs.Protocol.{Instant}
use Rattle.program_edges.specs.Sorts.{IsOn, IsEntry, children_of}
use Rattle.program_edges.specs.Sorts.{IsNext}
use Rattle.priority_weights.specs.Inside.Next.{IsAsked}
use Rattle.priority_weights.proofs.Asking.{asked_alike, asked_either}
use Rattle.program_edges.proofs.Instantly.{instants_are}
use Rattle.priority_weights.proofs.instants.asked_by_instants.Goals as goal

pub returns-in-Some : goal.returns-in-Some
returns-in-Some c =
    let p = c.args.program.now in
    let m = c.args.node in
    let s = c.in-Some.step.now in
    let table = c.args.table.now in
    let P : ℕ → Type 0 = λ x. IsAsked (Instant p m) table 0 x in
    let Q : List ℕ → Type 0 = λ ks. IsAsked (IsEntry p ks) table 0 c.asked_by_entries.result in
    let on = asked_alike (IsNext c.next_nodes.result) (IsOn p m s) table 0 c.asked_by_next.result (c.next_nodes.ensures c.requires.formed c.requires.told)
    c.asked_by_next.ensures in
    let into = subst Q c.children_of.ensures c.asked_by_entries.ensures in
    subst P (sym c.max.ensures)
    (asked_alike (λ n. IsOn p m s n ⊎ IsEntry p (children_of s) n) (Instant p m) table 0 _ (instants_are p m s (sym c.in-Some.ensures))
    (asked_either (IsOn p m s) (IsEntry p (children_of s)) table 0 c.asked_by_next.result c.asked_by_entries.result on into))

pub returns-in-None : goal.returns-in-None
returns-in-None c = grind (arith, common_steps) steps 2000000
