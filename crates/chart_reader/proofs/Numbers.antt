-- The number of a state of a region fits.
use Rattle.std.proofs.Common.{◌≡◌, ℕ, ◌<◌, ◌≤◌, Some, List, length, sym, arith}
use Rattle.std.proofs.lemmas.List.{length-map}
use Rattle.sc_text.specs.Flaws.{place_among}
use Rattle.chart_reader.specs.declared.text_drafts.draft.DraftState.{DraftState}
use Rattle.chart_reader.specs.declared.text_drafts.draft.DraftRegion.TheViews.{out-DraftState}
use Rattle.chart_reader.specs.Flaws.{state_names}
use Rattle.sc_text.proofs.Resolving.{place_below}

pub number_fits : (states : List DraftState) (name : List ℕ) (at : ℕ) → Some at ≡ place_among (state_names states) name → length states ≤ 256 → at < 256
number_fits states name at e few =
    let below = place_below (state_names states) name at (sym e) in
    let long = length-map states (λ s. (out-DraftState s).named.name) in
    omega (arith, below, long, few)
