use Rattle.std.proofs.Common.{◌≡◌, None, List, [], ap, sym, subst, ◌∙◌, rules}
use Rattle.scl.specs.declared.statement.Statement.{Statement}
use Rattle.scl_graph.specs.declared.hops.Hop.{Hop}
use Rattle.scl_graph.specs.declared.totals.Totals.{Totals}
use Rattle.scl_graph.specs.Inside.Gathering.{IsThreadGathered, Noted}
use Rattle.scl_graph.specs.Inside.Resolving.{IsResolved, last_node, start}
use Rattle.scl_graph.specs.Inside.Settling.{IsSettled, hops_of, least_name}
use Rattle.scl_graph.specs.Inside.Totals.{totals_of_all}
use Rattle.scl_graph.proofs.Resolved.{resolved_ok, unresolved}
use Rattle.scl_graph.proofs.resolving.resolve.Goals as goal

pub returns-in-None : goal.returns-in-None
returns-in-None c =
    let b : List Statement = c.args.body.now in
    let is : c.args.totals ≡ totals_of_all b = c.requires.totals in
    let labels : Noted = c.in_ok-places.places.labels in
    let table : List Hop = c.in_ok-table.table.items in
    let Gathered : Totals → Type 0 = λ t. IsThreadGathered b (start t) [] c.in_ok-labels.labels in
    let Of : Noted → Type 0 = λ noted. IsThreadGathered b (start (totals_of_all b)) [] noted in
    let gathered : IsThreadGathered b (start (totals_of_all b)) [] labels = subst Of (sym c.in_ok-places.ensures) (subst Gathered is c.in_ok-labels.ensures) in
    let Settles : List Hop → Type 0 = λ hops. IsSettled hops table in
    let settles : IsSettled (hops_of labels) table = subst Settles c.in_ok-hops.ensures c.in_ok-table.ensures in
    let none : least_name labels table ≡ None = ap (least_name labels) (sym c.as_slice.ensures.value) ∙ sym c.least_name.ensures ∙ c.in-None.is in
    let Resolved : Totals → Type 0 = λ t. IsResolved b (last_node t) labels table in
    subst Resolved (sym is) (resolved_ok b labels table gathered settles none)

pub returns-in-Some : goal.returns-in-Some
returns-in-Some c = search (rules, unresolved)
