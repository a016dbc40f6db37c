-- What is inside narrow regions is narrow.
use Rattle.std.proofs.Common.{◌≡◌, ◌≢◌, ℕ, zero, suc, ◌-◌, ◌<◌, List, [], ◌++◌, length, get_or, refl, sym, ◌∙◌, ap, subst, arith}
use Rattle.std.proofs.lemmas.List.{append-nil}
use Rattle.std.proofs.lemmas.Option.{slice_get_read}
use Rattle.core_charts.specs.declared.region.Region.{Region}
use Rattle.chart_reader.specs.declared.text_drafts.draft.DraftRegion.{DraftRegion}
use Rattle.chart_reader.specs.declared.text_drafts.draft.DraftRegion.TheViews.{out-DraftRegion, out-DraftState}
use Rattle.chart_reader.specs.declared.text_drafts.draft.DraftState.{DraftState}
use Rattle.chart_reader.specs.Narrow.{AreStatesFew, AreNarrow}
use Rattle.chart_reader.specs.Resolved.{regions_of}

pub states_few : (levels : ℕ) (regions : List DraftRegion) (i : ℕ) (r : DraftRegion) → AreNarrow levels regions → levels ≢ 0
    → i < length regions → r ≡ get_or regions i r
    → AreStatesFew (AreNarrow (levels - 1)) (out-DraftRegion r).states
states_few zero regions i r are some below here = absurd (some refl)
states_few (suc levels) regions i r are some below here =
    let less : levels ≡ suc levels - 1 = omega arith in
    subst (λ n. AreStatesFew (AreNarrow n) (out-DraftRegion r).states) less (are i r (slice_get_read regions (length regions) i r refl below here))

pub regions_narrow : (levels : ℕ) (states : List DraftState) (i : ℕ) (s : DraftState) → AreStatesFew (AreNarrow levels) states
    → i < length states → s ≡ get_or states i s
    → AreNarrow levels (out-DraftState s).regions
regions_narrow levels states i s are below here = are.inside i s (slice_get_read states (length states) i s refl below here)

-- none stand where none may
pub none_narrow : (levels : ℕ) (regions : List DraftRegion) → AreNarrow levels regions → levels ≡ 0 → regions ≡ []
none_narrow zero regions are none = are
none_narrow (suc levels) regions are none = absurd cc

pub none_put : (variables : List (List ℕ)) (levels : ℕ) (regions : List DraftRegion) (made : List Region) → AreNarrow levels regions → levels ≡ 0
    → made ≡ made ++ regions_of variables regions
none_put variables levels regions made are none =
    sym (append-nil made) ∙ ap (λ texts. made ++ regions_of variables texts) (sym (none_narrow levels regions are none))
