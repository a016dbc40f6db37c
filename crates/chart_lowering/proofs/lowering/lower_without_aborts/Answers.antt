use Rattle.std.proofs.lemmas.Grind.{common_steps}
use Rattle.std.proofs.Common.{List, sym, subst, ℕ, arith}
use Rattle.sc_graph.specs.declared.program.Variable.{Variable}
use Rattle.core_charts.specs.declared.region.Region.{Region}
use Rattle.core_charts.specs.declared.features.Features.TheVariants as features
use Rattle.chart_lowering.specs.Inside.SomeChart.{IsSomeChart}
use Rattle.chart_lowering.proofs.lowering.lower_without_aborts.Goals as goal

pub program-requires : goal.program-requires
program-requires c =
    let Named : List ℕ → Type 0 = λ name. IsSomeChart (record { name = name; variables = c.variables.result.now; regions = c.regions.result.now }) in
    let Declared : List Variable
    → Type 0 = λ variables. IsSomeChart (record { name = c.args.chart.now.name; variables = variables; regions = c.regions.result.now }) in
    let Parted : List Region
    → Type 0 = λ regions. IsSomeChart (record { name = c.args.chart.now.name; variables = c.args.chart.now.variables; regions = regions }) in
    subst Named (sym c.name.ensures.value)
    (subst Declared (sym c.variables.ensures.value)
    (subst Parted (sym c.regions.ensures.value) (features.Extended, c.regions.ensures.rules)))

pub returns-clause-body : goal.returns-clause-body
returns-clause-body c = grind (arith, common_steps) steps 2000000
