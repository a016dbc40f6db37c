use Rattle.std.proofs.Common.{◌∙◌}
use Rattle.chart_reader.proofs.Checking.{chart_told}
use Rattle.chart_reader.proofs.text_drafts.checked.told_flaws.Goals as goal

pub returns : goal.returns
returns c =
    chart_told c.args.draft.now _ _ _ _ _ (c.in_ok-scope.ensures ∙ c.as_slice.ensures) c.new-found.ensures c.in_ok-tell_declarations.ensures
    c.as_slice-regions.ensures c.in_ok-region_flaws.ensures
