use Rattle.chart_reader.proofs.Whole.{few_declared}
use Rattle.std.proofs.Common.{◌≡◌, IfOk, List, subst, ◌∙◌, rules}
use Rattle.sc_text.specs.declared.drafts.parts.Declaration.{Declaration}
use Rattle.sc_text.specs.Flaws.{variable_names}
use Rattle.chart_reader.specs.declared.text_drafts.draft.DraftRegion.{DraftRegion}
use Rattle.chart_reader.specs.Resolved.{regions_of}
use Rattle.chart_reader.proofs.Narrow.{narrow}
use Rattle.chart_reader.proofs.chart.all_regions.Goals as goal

pub regions-requires-clause-narrow : goal.regions-requires-clause-narrow
regions-requires-clause-narrow c = narrow c.args.draft.now c.as_slice-2.result.now c.requires.flawless c.requires.shaped c.as_slice-2.ensures

pub returns : goal.returns
returns c =
    let d = c.args.draft.now in
    subst (λ (declared : List Declaration). IfOk c.regions.result (λ all. all ≡ regions_of (variable_names declared) d.regions))
    (c.in_ok-scope.ensures ∙ c.as_slice.ensures)
    (subst (λ (texts : List DraftRegion). IfOk c.regions.result (λ all. all ≡ regions_of (variable_names c.in_ok-scope.scope.variables.now) texts))
    c.as_slice-2.ensures c.regions.ensures)

pub regions-requires-clause-few_variables : goal.regions-requires-clause-few_variables
regions-requires-clause-few_variables c = search (rules, few_declared)
