use Rattle.std.proofs.Common.{◌≡◌, ◌++◌, List, ap, ◌∙◌}
use Rattle.sc_graph.specs.declared.program.Variable.{Variable}
use Rattle.core_charts.specs.declared.region.Region.{Region}
use Rattle.chart_warnings.specs.declared.warning.Warning.{Warning}
use Rattle.chart_warnings.specs.Names.{within}
use Rattle.chart_warnings.specs.Warnings.{of_variables, told_regions}
use Rattle.core_charts.specs.Rules.{depth_limit}
use Rattle.chart_warnings.proofs.telling.warnings_of.Goals as goal

pub returns : goal.returns
returns c =
    let vs : List Variable = c.args.chart.now.variables in
    let rs : List Region = c.args.chart.now.regions in
    let first : c.warn_of_variables.new.warnings ≡ of_variables (within rs) 0 vs =
    c.in_ok-warn_of_variables.ensures
    ∙ ap (λ xs. xs ++ of_variables (within c.regions.result.now) 0 c.variables.result.now) c.new-warnings.ensures
    ∙ ap (λ ys. of_variables (within ys) 0 c.variables.result.now) c.regions.ensures.value
    ∙ ap (λ xs. of_variables (within rs) 0 xs) c.variables.ensures.value in
    ap (λ told. told.warnings)
    (c.in_ok-tell_regions.ensures
    ∙ ap (λ xs. told_regions xs depth_limit c.regions-2.result.now (record { states = 0; warnings = c.warn_of_variables.new.warnings }))
    c.variables-2.ensures.value
    ∙ ap (λ ys. told_regions vs depth_limit ys (record { states = 0; warnings = c.warn_of_variables.new.warnings }))
    c.regions-2.ensures.value
    ∙ ap (λ (ws : List Warning). told_regions vs depth_limit rs (record { states = 0; warnings = ws })) first)
