use Rattle.std.proofs.lemmas.Grind.{common_steps}
use Rattle.std.proofs.Common.{rules, ◌≡◌, List, ap, subst, ◌∙◌, arith}
use Rattle.scl.specs.declared.program.Scl.{Scl}
use Rattle.scl.specs.declared.statement.Statement.{Statement}
use Rattle.scl_graph.specs.declared.hops.Hop.{Hop}
use Rattle.scl_graph.specs.declared.totals.Totals.{Totals}
use Rattle.scl_graph.specs.Graph.{program_by}
use Rattle.scl_graph.specs.Loops.{HasNoEmptyLoop}
use Rattle.scl_graph.specs.Inside.Gathering.{Noted}
use Rattle.scl_graph.specs.Inside.Resolving.{FitsTotals, IsResolved, last_node, leads_by, numbered_of, root_of}
use Rattle.scl_graph.specs.Inside.Totals.{totals_of_all}
use Rattle.scl_graph.proofs.Resolved.{graph_is, limit_is, empty_loop_is}
use Rattle.scl_graph.proofs.graph.graph_of.Goals as goal

pub returns-then-not-fit_an_image : goal.returns-then-not-fit_an_image
returns-then-not-fit_an_image c =
    let p : Scl = c.args.scl.now in
    let Free : List Statement → Type 0 = λ b. HasNoEmptyLoop (root_of b) in
    let free : HasNoEmptyLoop (root_of p.body) = subst Free c.as_slice-body.ensures c.in_ok-targets.ensures.no_loop in
    let is : c.in-Some.totals ≡ totals_of_all p.body = c.in-Some.ensures.1 ∙ ap totals_of_all c.as_slice-body.ensures in
    let too_many : ¬ FitsTotals c.in-Some.totals = search rules in
    let Many : Totals → Type 0 = λ t. ¬ FitsTotals t in
    limit_is p free (subst Many is too_many)

pub returns-in-Ok : goal.returns-in-Ok
returns-in-Ok c =
    let p : Scl = c.args.scl.now in
    let labels : Noted = c.in_ok-targets.targets.places.labels in
    let table : List Hop = c.in_ok-targets.targets.table.items in
    let is : c.in-Some.totals ≡ totals_of_all p.body = c.in-Some.ensures.1 ∙ ap totals_of_all c.as_slice-body.ensures in
    let fits : FitsTotals c.in-Some.totals = search rules in
    let Of : List Statement → Type 0 = λ b. IsResolved b (last_node c.in-Some.totals) labels table in
    let Last : Totals → Type 0 = λ t. IsResolved p.body (last_node t) labels table in
    let resolved : IsResolved p.body (last_node (totals_of_all p.body)) labels table = subst Last is (subst Of c.as_slice-body.ensures c.in_ok-targets.ensures)
    in
    graph_is p labels table c.in-Ok.program resolved (subst FitsTotals is fits)
    (c.in-Ok.ensures
    ∙ ap (λ v. program_by (leads_by labels table) (numbered_of v c.as_slice-body.result.now)) c.as_slice-variables.ensures
    ∙ ap (λ b. program_by (leads_by labels table) (numbered_of p.variables b)) c.as_slice-body.ensures)

pub returns-in_err-targets : goal.returns-in_err-targets
returns-in_err-targets c = search (rules, empty_loop_is)

pub lay_program-requires-clause-tallied : goal.lay_program-requires-clause-tallied
lay_program-requires-clause-tallied c = grind (arith, common_steps) steps 2000000

pub lay_program-requires-clause-room : goal.lay_program-requires-clause-room
lay_program-requires-clause-room c = grind (arith, common_steps) steps 2000000
