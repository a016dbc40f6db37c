use Rattle.std.proofs.Common.{ℕ, ◌≡◌, ◌+◌, Option, Some, get_or, refl, sym, subst, arith}
use Rattle.sc_graph.specs.Program.{entry_of}
use Rattle.program_edges.specs.Sorts.{IsEntry}
use Rattle.priority_weights.specs.Inside.Next.{IsAsked}
use Rattle.priority_weights.proofs.Asking.{Before, asked_none, asked_more, asked_alike, before_end}
use Rattle.priority_weights.proofs.instants.asked_by_entries.Goals as goal

pub loop-child-init : goal.loop-child-init
loop-child-init c = asked_none (λ i n. entry_of c.args.program.now (get_or c.args.children.now i 0) ≡ Some n) c.args.table.now 0

pub loop-child-preserved : goal.loop-child-preserved
loop-child-preserved c =
    let p = c.args.program.now in
    let table = c.args.table.now in
    let i = c.loop-child.child-index in
    let N : ℕ → ℕ → Type 0 = λ k n. entry_of p (get_or c.args.children.now k 0) ≡ Some n in
    let P : ℕ → Type 0 = λ x. IsAsked (Before N (i + 1)) table 0 x in
    let Q : Option ℕ → Type 0 = λ entry. IsAsked (λ n. entry ≡ Some n) table 0 c.asked_by.result in
    subst P (sym c.max-asked.ensures)
    (asked_more N table 0 i c.loop-child.asked c.asked_by.result c.loop-child.invariant (subst Q c.entry.ensures c.asked_by.ensures))

pub returns : goal.returns
returns c =
    let p = c.args.program.now in
    let children = c.args.children.now in
    let i = c.loop-child.child-index in
    let N : ℕ → ℕ → Type 0 = λ k n. entry_of p (get_or children k 0) ≡ Some n in
    let end = c.loop-child-test.false in
    let all = c.loop-child.auto.child-index-end in
    let contained = before_end children i (omega (arith, end)) (omega (arith, all)) in
    asked_alike (Before N i) (IsEntry p children) c.args.table.now 0 c.loop-child.asked
    (λ n. (
      λ b. (get_or children b.0 0, (contained (get_or children b.0 0)).0 (b.0, b.1, refl), b.2),
      λ h.
          let b = (contained h.0).1 h.1 in
          let R : ℕ → Type 0 = λ k. entry_of p k ≡ Some n in
          (b.0, b.1, subst R b.2 h.2),
    ))
    c.loop-child.invariant
