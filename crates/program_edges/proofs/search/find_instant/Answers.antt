use Rattle.std.proofs.Common.{ℕ, List, MatchOption, inl, inr, sym, subst}
use Rattle.program_edges.specs.Sorts.{IsEntry}
use Rattle.program_edges.proofs.Answer.{answer_turned}
use Rattle.program_edges.proofs.Instantly.{instants_are}
use Rattle.program_edges.proofs.search.find_instant.Goals as goal

pub returns-in-Some-find_next : goal.returns-in-Some-find_next
returns-in-Some-find_next g c =
    let found = rw c.in-Some-find_next.is at c.find_next.ensures in
    let is = instants_are c.args.program.now c.args.node c.in-Some.step.now (sym c.in-Some.ensures) c.in-Some-find_next.found in
    (is.0 (inl ((c.next_nodes.ensures c.requires.formed c.requires.told c.in-Some-find_next.found).0 found.0)), found.1)

pub returns-in-None-find_next : goal.returns-in-None-find_next
returns-in-None-find_next g c =
    let p = c.args.program.now in
    let none = rw c.in-None-find_next.is at c.find_next.ensures in
    let is = instants_are p c.args.node c.in-Some.step.now (sym c.in-Some.ensures) in
    let P : List ℕ → Type 0 = λ ks. MatchOption c.find_entry.result ((n : ℕ) → IsEntry p ks n → ¬ g.W.Sought.wants c.args.wanted.now n)
    (λ n. IsEntry p ks n × g.W.Sought.wants c.args.wanted.now n) in
    answer_turned c.find_entry.result _ _ _ _
    (λ other n e. λ r. elim ((is n).1 e) [ inl u ↦ none n ((c.next_nodes.ensures c.requires.formed c.requires.told n).1 u) r | inr u ↦ other n u r ])
    (λ n found. ((is n).0 (inr found.0), found.1))
    (subst P c.children_of.ensures c.find_entry.ensures)
