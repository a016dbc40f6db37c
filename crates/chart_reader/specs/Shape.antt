-- What a chart's text keeps by its grammar alone, whatever its names mean: how its parts are called, and what its
-- expressions write.
use Rattle.std.specs.Prelude.{ℕ, zero, suc, ◌≡◌, ◌≢◌, IsTrue, false, Some, None, List, [], slice_get}
use Rattle.std.specs.List.{list_all}
use Rattle.sc_text.specs.declared.language.Language.TheVariants as language
use Rattle.sc_text.specs.Parts.{IsNameIn}
use Rattle.sc_text.specs.Writable.{is_writable_operation}
use Rattle.core_charts.specs.Rules.{depth_limit}
use Rattle.core_charts.specs.declared.region.TransitionKind.TheVariants as kind
use Rattle.sc_text.specs.declared.drafts.parts.TextExpression.{TextExpression}
use Rattle.sc_text.specs.declared.drafts.parts.Declaration.{Declaration}
use Rattle.chart_reader.specs.declared.text_drafts.draft.DraftEffect.{DraftEffect}
use Rattle.chart_reader.specs.declared.text_drafts.draft.DraftTransition.{DraftTransition}
use Rattle.chart_reader.specs.declared.text_drafts.draft.DraftRegion.{DraftRegion}
use Rattle.chart_reader.specs.declared.text_drafts.draft.DraftRegion.TheViews.{out-DraftRegion, out-DraftState}
use Rattle.chart_reader.specs.declared.text_drafts.draft.DraftState.{DraftState}
use Rattle.chart_reader.specs.declared.text_drafts.draft.DraftChart.{DraftChart}

-- a text can write each of its operations
abbrev pub IsWritable : TextExpression → Type 0
IsWritable e = IsTrue (list_all is_writable_operation e.operations)

-- a termination is tested with nothing but the end of all regions
pub record IsTransitionShaped (t : DraftTransition) : Type 0 where
  pub plain_join : t.kind ≡ kind.Join → (t.immediate ≡ false) × (t.trigger ≡ None)
  pub trigger : (e : TextExpression) → t.trigger ≡ Some e → IsWritable e
  pub effects : (i : ℕ) (e : DraftEffect) → slice_get t.effects i ≡ Some e → IsWritable e.value

-- a state, of which the own regions keep this
pub record IsStateShaped (AreInside : List DraftRegion → Type 0) (s : DraftState) : Type 0 where
  pub named : IsNameIn language.Chart (out-DraftState s).named.name
  pub regions : AreInside (out-DraftState s).regions
  pub transitions : (i : ℕ) (t : DraftTransition) → slice_get (out-DraftState s).transitions i ≡ Some t → IsTransitionShaped t

-- a region, of whose states the own regions keep this
pub record IsRegionShaped (AreInside : List DraftRegion → Type 0) (r : DraftRegion) : Type 0 where
  pub named : IsNameIn language.Chart (out-DraftRegion r).named.name
  pub states : (i : ℕ) (s : DraftState) → slice_get (out-DraftRegion r).states i ≡ Some s → IsStateShaped AreInside s

-- regions that nest this many levels deep at most
abbrev pub AreRegionsShaped : ℕ → List DraftRegion → Type 0
AreRegionsShaped zero regions = regions ≡ []
AreRegionsShaped (suc levels) regions =
    (i : ℕ) (r : DraftRegion) → slice_get regions i ≡ Some r → IsRegionShaped (AreRegionsShaped levels) r

-- what each draft keeps
pub record IsShaped (d : DraftChart) : Type 0 where
  pub named : IsNameIn language.Chart d.named.name
  pub declared : (n : ℕ) (x : Declaration) → slice_get d.variables n ≡ Some x → IsNameIn language.Chart x.named.name
  pub some_region : d.regions ≢ []
  pub regions : AreRegionsShaped depth_limit d.regions
