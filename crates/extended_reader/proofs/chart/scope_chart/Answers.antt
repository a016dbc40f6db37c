use Rattle.std.proofs.Common.{◌≡◌, ℕ, OnOk, List, subst, ◌∙◌, rules}
use Rattle.extended_reader.specs.Inside.{fill_chart}
use Rattle.extended_reader.proofs.Whole.{narrow, names_are, few_declared}
use Rattle.extended_reader.proofs.chart.scope_chart.Goals as goal

pub fill_chart-requires-clause-narrow : goal.fill_chart-requires-clause-narrow
fill_chart-requires-clause-narrow c = narrow c.args.draft.now c.requires.flawless c.requires.shaped

pub returns : goal.returns
returns c =
    subst (λ (names : List (List ℕ)). OnOk c.fill_chart.result (c.fill_chart.new.chart ≡ fill_chart names c.args.draft.now c.args.chart.now))
    (names_are _ _ _ (c.in_ok-scope.ensures ∙ c.as_slice-2.ensures ∙ c.in_ok-declared.ensures) c.as_slice.ensures) c.fill_chart.ensures

pub fill_chart-requires-clause-few_variables : goal.fill_chart-requires-clause-few_variables
fill_chart-requires-clause-few_variables c = search (rules, few_declared)
