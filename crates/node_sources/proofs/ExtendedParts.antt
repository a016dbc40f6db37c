-- What regions and states add, by their parts.
use Rattle.std.proofs.Common.{◌≡◌, suc, Bool, false, ◌&&◌, not, List, [], ◌∷◌, map, length, refl, ap, ◌∙◌}
use Rattle.core_charts.specs.declared.region.Region.{Region}
use Rattle.core_charts.specs.declared.region.State.{State}
use Rattle.core_charts.specs.declared.region.Region.TheViews.{out-Region, out-State}
use Rattle.core_charts.specs.declared.region.Region.TheFolds.{fold_out-Region, fold_out-State}
use Rattle.core_charts.specs.Rules.{has_regions}
use Rattle.core_charts.specs.declared.elements.element.Element.{Element}
use Rattle.core_charts.specs.Elements.{row}
use Rattle.chart_reader.specs.declared.text_drafts.draft.DraftRegion.{DraftRegion}
use Rattle.chart_reader.specs.declared.text_drafts.draft.DraftRegion.TheViews.{out-DraftRegion}
use Rattle.chart_reader.specs.declared.text_drafts.draft.DraftRegion.TheFolds.{fold_out-DraftRegion}
use Rattle.node_sources.specs.EffectRows as counts
use Rattle.node_sources.specs.declared.extended.text_places.author.Author.{Author}
use Rattle.node_sources.specs.declared.extended.text_places.origins.AuthorOrigins.{AuthorOrigins}
use Rattle.node_sources.specs.Origins.{Piece, behind_region, behind_state, has_some, is_doubled, made_from, of_region, of_state, own_in}
use Rattle.node_sources.specs.Origins.{region_step, state_origin, state_step}

pub region_is : (a : Author) (r : Region) →
    of_region a r ≡ behind_region (is_doubled false (out-Region r).name) (map (of_state a) (out-Region r).states)
region_is a r = fold_out-Region Piece (Bool → Piece) region_step (state_step a) r

some_are : (a : Author) (regions : List Region) → has_some (map (of_region a) regions) ≡ has_regions regions
some_are a [] = refl
some_are a (r ∷ regions) = refl

pub as_many : (a : Author) (states : List State) → length (map (of_state a) states) ≡ length states
as_many a [] = refl
as_many a (s ∷ states) = ap suc (as_many a states)

pub state_is : (a : Author) (s : State) (has_more : Bool) (around : Element) (w : AuthorOrigins) →
    of_state a s has_more around w ≡
    behind_state a
    (state_origin (made_from a around (has_more && not (has_regions (out-State s).regions)) (length w.states)) (own_in a.rows.states (length w.states)))
    (out-State s).transitions (map (of_region a) (out-State s).regions) w
state_is a s has_more around w =
    ap (λ f. f has_more around w) (fold_out-State Piece (Bool → Piece) region_step (state_step a) s)
    ∙ ap (λ some.
    behind_state a
    (state_origin (made_from a around (has_more && not some) (length w.states)) (own_in a.rows.states (length w.states)))
    (out-State s).transitions (map (of_region a) (out-State s).regions) w)
    (some_are a (out-State s).regions)

pub counts_in_region : (r : DraftRegion) → counts.of_region r ≡ row (map counts.of_state (out-DraftRegion r).states)
counts_in_region r = fold_out-DraftRegion counts.Counts counts.Counts counts.in_region counts.in_state r
