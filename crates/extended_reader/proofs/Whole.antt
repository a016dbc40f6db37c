-- What the draft of an extended chart keeps where nothing is wrong with it.
use Rattle.std.proofs.Common.{◌≡◌, ◌≤◌, List, [], length, refl, ap, sym, subst, ◌∙◌}
use Rattle.std.proofs.lemmas.List.{length-map}
use Rattle.sc_graph.specs.Limits.{variable_limit}
use Rattle.sc_text.specs.declared.drafts.parts.Declaration.{Declaration}
use Rattle.sc_text.specs.Flaws.{variable_names}
use Rattle.sc_text.proofs.Unflawed.{none_first}
use Rattle.core_charts.specs.Rules.{depth_limit}
use Rattle.chart_reader.specs.Flaws.{chart_flaws}
use Rattle.chart_reader.specs.Narrow.{AreNarrow}
use Rattle.chart_reader.proofs.Whole as core
use Rattle.chart_reader.proofs.Narrow as core_regions
use Rattle.extended_reader.specs.declared.text_drafts.draft.DraftItem.{DraftItem}
use Rattle.extended_reader.specs.declared.text_drafts.draft.ExtendedDraft.{ExtendedDraft}
use Rattle.extended_reader.specs.Flaws.{new_flaws, extended_flaws}
use Rattle.extended_reader.specs.Shape.{IsExtendedShaped}
use Rattle.extended_reader.specs.Items.{sorted, declarations, names_of}
use Rattle.extended_reader.proofs.Sorted.{sorted_length}

module _ (d : ExtendedDraft) (none : extended_flaws d ≡ []) (shaped : IsExtendedShaped d) where
  core_flawless : chart_flaws d.core ≡ []
  core_flawless = none_first (chart_flaws d.core) (new_flaws d) none

  -- no more are declared than a chart has variables
  pub few_declared : (V : List Declaration) (items : List DraftItem) → V ≡ declarations (sorted items) → items ≡ d.items → length V ≤ variable_limit
  few_declared V items same of =
      let few : length d.core.variables ≤ variable_limit = core.few_declared d.core d.core.variables core_flawless refl in
      let declared : length d.core.variables ≡ length (declarations d.items) = ap length shaped.items in
      let mapped : length (declarations d.items) ≡ length d.items = length-map d.items (λ x. x.declared) in
      let long : length V ≡ length d.items = ap length same ∙ sorted_length items ∙ ap length of in
      subst (λ n. n ≤ variable_limit) (declared ∙ mapped ∙ sym long) few

  pub narrow : AreNarrow depth_limit d.core.regions
  narrow = core_regions.narrow d.core d.core.regions core_flawless shaped.core refl

-- what is sorted has the names by which expressions are numbered
pub names_are : (V : List Declaration) (items of : List DraftItem) → V ≡ declarations (sorted items) → items ≡ of → variable_names V ≡ names_of of
names_are V items of same is = ap variable_names (same ∙ ap (λ x. declarations (sorted x)) is)
