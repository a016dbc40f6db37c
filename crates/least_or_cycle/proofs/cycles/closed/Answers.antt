use Rattle.std.proofs.Common.{◌≡◌, ◌++◌, ℕ, List, take, drop, sym, subst}
use Rattle.least_or_cycle.specs.Walks.{IsCycle}
use Rattle.least_or_cycle.specs.Inside.Tracing.{IsLeastAt}
use Rattle.least_or_cycle.proofs.Walking.{turned}
use Rattle.least_or_cycle.proofs.cycles.closed.Goals as goal

pub returns : goal.returns
returns g c =
    let leads = g.G.Graph.leads c.args.graph.now in
    let walk = c.in_ok-walk.walk.items in
    let P : List ℕ → Type 0 = λ xs. IsCycle leads xs in
    let Q : List ℕ → Type 0 = λ xs. IsLeastAt xs c.least_at-at.result in
    let R : List ℕ → Type 0 = λ xs. c.in_ok-rotated.field-0.items ≡ drop c.least_at-at.result xs ++ take c.least_at-at.result xs in
    let items = subst R c.as_slice-2.ensures.value c.in_ok-rotated.ensures in
    subst P (sym items)
    (turned leads walk c.least_at-at.result c.in_ok-walk.ensures (subst Q c.as_slice.ensures.value c.least_at-at.ensures))
