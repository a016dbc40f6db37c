use Rattle.std.proofs.Common.{ℕ, ◌≡◌, Some, subst, sym}
use Rattle.program_edges.specs.Sorts.{IsNext}
use Rattle.priority_weights.specs.Inside.Next.{IsAsked}
use Rattle.priority_weights.proofs.Asking.{asked_either}
use Rattle.priority_weights.proofs.next.asked_by_next.Goals as goal

pub returns : goal.returns
returns c =
    let P : ℕ → Type 0 = λ x. IsAsked (IsNext c.args.nodes) c.args.table.now c.args.weight x in
    subst P (sym c.max.ensures)
    (asked_either (λ n. c.args.nodes.first ≡ Some n) (λ n. c.args.nodes.second ≡ Some n) c.args.table.now c.args.weight c.asked_by.result c.asked_by-2.result
    c.asked_by.ensures c.asked_by-2.ensures)
