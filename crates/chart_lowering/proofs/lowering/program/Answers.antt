use Rattle.std.proofs.lemmas.Grind.{common_steps}
use Rattle.std.proofs.Common.{◌≡◌, ◌+◌, ◌≤◌, ◌^◌, List, [], ◌∷◌, ◌++◌, map, ap, sym, subst, ◌∙◌, arith}
use Rattle.sc_graph.specs.declared.program.Variable.{Variable}
use Rattle.scl.specs.declared.statement.Statement.{Statement}
use Rattle.scl.specs.declared.statement.Statement.TheVariants as statement
use Rattle.scl.specs.Rules.{KeepsRules}
use Rattle.core_charts.specs.Chart.{Chart}
use Rattle.chart_lowering.specs.Lowering.{labels_in, piece_of_region, lowered}
use Rattle.chart_lowering.proofs.Ruled.{keeps_rules}
use Rattle.chart_lowering.proofs.lowering.program.Goals as goal

pub known-requires : goal.known-requires
known-requires c =
    let chart : Chart = record { name = c.args.name; variables = c.args.variables.now; regions = c.args.regions.now } in
    let small : 1 + labels_in (map piece_of_region chart.regions) ≤ 2 ^ 64 = omega (arith, c.in_ok-forked.ensures.next, c.in_ok-forked.ensures.within) in
    let body : c.push.new.self ≡ lowered chart =
    c.in_ok-push.ensures.ok
    ∙ ap (λ xs. xs ++ statement.Fork c.in_ok-forked.forked.bodies ∷ []) c.new-body.ensures
    ∙ ap (λ bs. statement.Fork bs ∷ []) c.in_ok-forked.ensures.bodies in
    let Declared : List Variable → Type 0 = λ variables. KeepsRules chart.name variables c.push.new.self in
    let Written : List Statement → Type 0 = λ text. KeepsRules chart.name chart.variables text in
    subst Declared (sym c.in_ok-declared.ensures) (subst Written (sym body) (keeps_rules c.requires.0 chart c.requires.1 small))

pub returns-clause-body : goal.returns-clause-body
returns-clause-body c = grind (arith, common_steps) steps 2000000
