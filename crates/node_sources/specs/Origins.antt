-- For each element of a reduced chart the element of the author's from which it comes: his own one, or, where it is made, that for
-- which it is made. A state that is made right before one of his makes its entry actions, and comes from it; every other one comes
-- from what it stands in: a region or a state of his, or the chart.
use Rattle.std.specs.Prelude.{ℕ, suc, ◌+◌, ◌-◌, ◌==◌, nat_lt, nat_le, Bool, true, false, ◌&&◌, ◌||◌, not, Option, Some, None}
use Rattle.std.specs.Prelude.{List, [], ◌∷◌, ◌++◌, map, length, slice_get, unwrap_or, if◌then◌else◌}
use Rattle.core_charts.specs.declared.region.Effect.{Effect}
use Rattle.core_charts.specs.declared.region.Transition.{Transition}
use Rattle.core_charts.specs.declared.region.Region.{Region}
use Rattle.core_charts.specs.declared.region.State.{State}
use Rattle.core_charts.specs.declared.region.Region.TheOpen.{Region-F, State-F}
use Rattle.core_charts.specs.declared.region.Region.TheFolds.{fold-Region, fold-State}
use Rattle.core_charts.specs.Chart.{Chart}
use Rattle.core_charts.specs.declared.elements.element.Element.{Element}
use Rattle.core_charts.specs.declared.elements.element.Element.TheVariants as element
use Rattle.node_sources.specs.declared.extended.text_places.author.Author.{Author}
use Rattle.node_sources.specs.declared.extended.text_places.author.EffectRow.{EffectRow}
use Rattle.node_sources.specs.declared.extended.text_places.origins.AuthorOrigin.{AuthorOrigin}
use Rattle.node_sources.specs.declared.extended.text_places.origins.AuthorOrigins.{AuthorOrigins}

-- ---- one element

-- one of the author's own
abbrev pub own : Element → AuthorOrigin
own from = record { from = from; is_made = false }

abbrev pub made_for : Element → AuthorOrigin
made_for from = record { from = from; is_made = true }

-- the number of the author's in a row, if there is one
abbrev pub own_in : List (Option ℕ) → ℕ → Option ℕ
own_in row n = unwrap_or (slice_get row n) None

-- ---- names: two underscores inside are of what is made

-- two of them stand side by side, or one stands first, where one stood before
abbrev pub is_doubled : (before : Bool) → List ℕ → Bool
is_doubled before [] = false
is_doubled before (byte ∷ bytes) = (before && byte == 95) || is_doubled (byte == 95) bytes

-- ---- rows of origins

abbrev pub nothing : AuthorOrigins
nothing = record { regions = []; states = []; transitions = []; effects = []; own_regions = 0 }

abbrev pub with_made_region : (around : Element) → AuthorOrigins → AuthorOrigins
with_made_region around w = record w { regions = w.regions ++ made_for around ∷ [] }

abbrev pub with_own_region : AuthorOrigins → AuthorOrigins
with_own_region w =
    record w {
      regions = w.regions ++ own (element.Region w.own_regions) ∷ [];
      own_regions = suc w.own_regions;
    }

abbrev pub with_state : AuthorOrigin → AuthorOrigins → AuthorOrigins
with_state o w = record w { states = w.states ++ o ∷ [] }

abbrev pub with_transition : AuthorOrigin → List AuthorOrigin → AuthorOrigins → AuthorOrigins
with_transition o effects w =
    record w {
      transitions = w.transitions ++ o ∷ [];
      effects = w.effects ++ effects;
    }

-- ---- effects. Those of a transition of the author's stand in one row, behind which there are but some that set variables that are made

-- how many of the last ones set variables that are made, where so many did before
abbrev pub made_behind : (variables made : ℕ) → List Effect → ℕ
made_behind variables made [] = made
made_behind variables made (e ∷ effects) = made_behind variables (if nat_lt e.variable variables then 0 else suc made) effects

-- how many stand before his own ones
abbrev pub made_before : (variables : ℕ) → EffectRow → List Effect → ℕ
made_before variables row effects = (length effects - made_behind variables 0 effects) - row.count

-- the effect of this place, of a transition from which those that are made come, where so many stand before his own ones
abbrev pub effect_origin : (from : Element) → EffectRow → (before place : ℕ) → AuthorOrigin
effect_origin from row before place =
    if nat_le before place && nat_lt place (before + row.count) then own (element.Effect (row.first + (place - before))) else made_for from

abbrev pub effects_from : (from : Element) → EffectRow → (before place : ℕ) → List Effect → List AuthorOrigin
effects_from from row before place [] = []
effects_from from row before place (e ∷ effects) =
    effect_origin from row before place ∷ effects_from from row before (suc place) effects

-- no effects of the author's
abbrev pub no_effects : EffectRow
no_effects = record { first = 0; count = 0 }

-- those of his transition, if it is one
abbrev pub row_of : List EffectRow → Option ℕ → EffectRow
row_of rows None = no_effects
row_of rows (Some n) = unwrap_or (slice_get rows n) no_effects

abbrev pub effect_origins : Author → Option ℕ → (from : Element) → List Effect → List AuthorOrigin
effect_origins a n from effects =
    effects_from from (row_of a.effects n) (made_before a.variables (row_of a.effects n) effects) 0 effects

-- ---- transitions: those of a state that is made are made for what that is made for

abbrev pub transition_origin : (from : Element) → Option ℕ → AuthorOrigin
transition_origin from (Some n) = own (element.Transition n)
transition_origin from None = made_for from

abbrev pub behind_transition : Author → (from : Element) → Transition → Option ℕ → AuthorOrigins → AuthorOrigins
behind_transition a from t n w =
    with_transition (transition_origin from n) (effect_origins a n (transition_origin from n).from t.effects) w

abbrev pub behind_transitions : Author → (from : Element) → List Transition → AuthorOrigins → AuthorOrigins
behind_transitions a from [] w = w
behind_transitions a from (t ∷ transitions) w =
    behind_transitions a from transitions (behind_transition a from t (own_in a.rows.transitions (length w.transitions)) w)

-- ---- states and regions

abbrev pub state_or : Element → Option ℕ → Element
state_or from (Some n) = element.State n
state_or from None = from

-- what a state of this number is made for, before another one of its region or not
abbrev pub made_from : Author → (around : Element) → (before : Bool) → ℕ → Element
made_from a around true n = state_or around (own_in a.rows.states (suc n))
made_from a around false n = around

abbrev pub state_origin : (made_for : Element) → Option ℕ → AuthorOrigin
state_origin from (Some n) = own (element.State n)
state_origin from None = made_for from

-- what a piece of the chart adds, which stands in this element
abbrev pub Piece : Type 0
Piece = (around : Element) → AuthorOrigins → AuthorOrigins

abbrev pub all_regions : List Piece → Piece
all_regions [] around w = w
all_regions (r ∷ regions) around w = all_regions regions around (r around w)

-- states from this place on, of so many
abbrev pub all_states : (count place : ℕ) → List (Bool → Piece) → Piece
all_states count place [] around w = w
all_states count place (s ∷ states) around w = all_states count (suc place) states around (s (nat_lt (suc place) count) around w)

abbrev pub has_some : {A : Type 0} → List A → Bool
has_some [] = false
has_some (x ∷ xs) = true

-- a state of this origin
abbrev pub behind_state : Author → AuthorOrigin → List Transition → List Piece → AuthorOrigins → AuthorOrigins
behind_state a o transitions regions w =
    all_regions regions o.from (behind_transitions a o.from transitions (with_state o w))

abbrev pub state_step : Author → State-F Piece (Bool → Piece) → Bool → Piece
state_step a s has_more around w =
    behind_state a (state_origin (made_from a around (has_more && not (has_some s.regions)) (length w.states)) (own_in a.rows.states (length w.states)))
    s.transitions s.regions w

-- the states of a region
abbrev pub behind_region : (is_made : Bool) → List (Bool → Piece) → Piece
behind_region true states around w = all_states (length states) 0 states around (with_made_region around w)
behind_region false states around w = all_states (length states) 0 states (element.Region w.own_regions) (with_own_region w)

abbrev pub region_step : Region-F Piece (Bool → Piece) → Piece
region_step r = behind_region (is_doubled false r.name) r.states

abbrev pub of_region : Author → Region → Piece
of_region a = fold-Region Piece (Bool → Piece) region_step (state_step a)

abbrev pub of_state : Author → State → Bool → Piece
of_state a = fold-State Piece (Bool → Piece) region_step (state_step a)

abbrev pub author_origins : Author → Chart → AuthorOrigins
author_origins a c = all_regions (map (of_region a) c.regions) element.Chart nothing

-- ---- one element of the reduced chart

abbrev pub origin_of : AuthorOrigins → Element → Option AuthorOrigin
origin_of o element.Chart = Some (own element.Chart)
origin_of o (element.Region n) = slice_get o.regions n
origin_of o (element.State n) = slice_get o.states n
origin_of o (element.Transition n) = slice_get o.transitions n
origin_of o (element.Effect n) = slice_get o.effects n
