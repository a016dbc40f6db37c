use Rattle.std.proofs.Common.{◌≡◌, OnOk, List, ◌++◌, map, subst, sym, ap, ◌∙◌}
use Rattle.sc_text.specs.Flaws.{variable_names}
use Rattle.core_charts.specs.Rules.{depth_limit}
use Rattle.chart_reader.specs.declared.text_drafts.draft.DraftRegion.{DraftRegion}
use Rattle.chart_reader.specs.Narrow.{AreNarrow}
use Rattle.extended_reader.specs.declared.text_drafts.draft.DraftRows.{DraftRows}
use Rattle.extended_reader.specs.Resolved.{all_regions, region_of, rows_of}
use Rattle.extended_reader.proofs.chart.put_all_regions.Goals as goal

pub put_regions-requires-clause-narrow : goal.put_regions-requires-clause-narrow
put_regions-requires-clause-narrow c = subst (AreNarrow depth_limit) (sym c.as_slice-texts.ensures) c.requires.narrow

pub returns : goal.returns
returns c =
    let names = variable_names c.args.scope.now.variables.now in
    let rows = c.args.draft.now.rows in
    subst (λ (texts : List DraftRegion). OnOk c.put_regions.result (c.put_regions.new.made ≡ c.args.made.now ++ all_regions rows (map (region_of names) texts)))
    c.as_slice-texts.ensures
    (subst (λ (left : DraftRows). OnOk c.put_regions.result
    (c.put_regions.new.made ≡ c.args.made.now ++ all_regions left (map (region_of names) c.as_slice-texts.result.now)))
    (c.in_ok-rows.ensures ∙ ap (λ e. rows_of e c.as_slice-ways.result.now) c.as_slice.ensures ∙ ap (rows_of rows.entries) c.as_slice-ways.ensures)
    c.put_regions.ensures.made)
