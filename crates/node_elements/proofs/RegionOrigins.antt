-- What regions and states become comes from them and from what is in them.
use Rattle.std.proofs.Common.{◌≡◌, ℕ, ◌+◌, ◌<◌, Bool, true, false, not, ◌||◌, ◌&&◌, Option, Some, None, List, [], ◌∷◌, ◌++◌, map, length}
use Rattle.std.proofs.Common.{if◌then◌else◌, refl, sym, ap, subst, ◌∙◌, arith}
use Rattle.std.specs.List.{list_any}
use Rattle.core_charts.specs.Aborts.{has_strong, has_weak}
use Rattle.core_charts.specs.declared.region.Transition.{Transition}
use Rattle.core_charts.specs.declared.region.Region.{Region}
use Rattle.core_charts.specs.declared.region.State.{State}
use Rattle.sc_text.proofs.EachItem.{Each}
use Rattle.core_charts.specs.declared.elements.element.Element.{Element}
use Rattle.core_charts.specs.declared.elements.element.Element.TheVariants as element
use Rattle.core_charts.specs.declared.elements.numbers.ElementNumbers.{ElementNumbers}
use Rattle.core_charts.specs.Elements.{Contents}
use Rattle.core_charts.specs.Numbers.{within_state}
use Rattle.abort_expansion.specs.declared.flags.Flags.{Flags}
use Rattle.abort_expansion.specs.declared.places.RegionPlaces.{RegionPlaces}
use Rattle.abort_expansion.specs.declared.pieces.NextNumbers as old
use Rattle.abort_expansion.specs.declared.pieces.Regions.{Regions}
use Rattle.abort_expansion.specs.declared.pieces.StatePieces.{StatePieces}
use Rattle.abort_expansion.specs.Flags.{abandoned_name, counts, first_name, flags_of, given, is_there, one}
use Rattle.abort_expansion.specs.Flags as flags
use Rattle.abort_expansion.specs.Transitions.{count_down, go}
use Rattle.abort_expansion.specs.Pieces as pieces
use Rattle.abort_expansion.specs.Superstates as made
use Rattle.abort_expansion.specs.Expansion as exp
use Rattle.node_elements.specs.declared.expansion.origins.Origins.{Origins}
use Rattle.node_elements.specs.declared.expansion.around.Around.{Around}
use Rattle.node_elements.specs.declared.expansion.transitions.Ends.{Ends}
use Rattle.node_elements.specs.ExpansionOrigins.{RegionPiece, StatePiece, aborts_around, all_regions, all_states, around_of, begins_anew, behind_regions}
use Rattle.node_elements.specs.ExpansionOrigins.{behind_states, beside, initial_number, inside_region, left_behind, new_initial, piece_of_region}
use Rattle.node_elements.specs.ExpansionOrigins.{piece_of_state}
use Rattle.node_elements.specs.ExpansionOrigins.{state_origins, weak_around}
use Rattle.node_elements.specs.ExpansionOrigins as origin
use Rattle.core_charts.proofs.Pieces.{in_regions, in_states, none_pass, of_one_region, of_one_state, state_alone, within_pass}
use Rattle.core_charts.proofs.Standing.{Passes, Placed, both, passes_both, placed_behind, placed_first}
use Rattle.node_elements.proofs.Coming.{Comes, both_come, moves, none_comes, one_state}
use Rattle.node_elements.proofs.Enclosing.{Encloses, aborts_alike, encloses_own, weak_alike}
use Rattle.node_elements.proofs.Shapes.{of_states, regions_join, simple_holds, states_join}
use Rattle.node_elements.proofs.Splitting.{Stated, Within, added_comes, simple_comes}
use Rattle.node_elements.proofs.SuperstateOrigins.{of_inside, of_those, superstate_comes}

-- ---- what is proved of each

pub record RegionTells (r : Region) : Type 0 where
  pub passes : Passes (of_one_region r) (piece_of_region r).behind
  pub many : (at : ElementNumbers) → ((piece_of_region r).behind at).state ≡ at.state + (exp.piece_of_region r).states
  pub comes : (all : Contents) (fs : List Flags) (bs : List Around) (counter : Option ℕ) (counts : Bool) (at : ElementNumbers) (before : old.NextNumbers) →
      before.state ≡ at.state → is_there counter ≡ counts → Encloses all fs bs → Placed all at (of_one_region r) →
      Comes all (of_inside ((exp.piece_of_region r).made fs counter before)) ((piece_of_region r).origins bs counts at)

pub record StateTells (s : State) : Type 0 where
  pub initial : (exp.piece_of_state s).is_initial ≡ (piece_of_state s).is_initial
  pub final : (exp.piece_of_state s).is_final ≡ (piece_of_state s).is_final
  pub passes : Passes (of_one_state s) (piece_of_state s).behind
  pub many : (at : ElementNumbers) → ((piece_of_state s).behind at).state ≡ at.state + (exp.piece_of_state s).states
  pub here : (all : Contents) (at : ElementNumbers) → Placed all at (of_one_state s) → at.state < length all.states
  pub comes : (all : Contents) (fs : List Flags) (bs : List Around) (to : RegionPlaces) (ends : Ends) (place : ℕ) (begins : Bool) (at : ElementNumbers)
      (before : old.NextNumbers) → before.state ≡ at.state → Within all fs bs to ends → Placed all at (of_one_state s) →
      Comes all (of_those ((exp.piece_of_state s).made fs to place begins before)) ((piece_of_state s).origins bs ends at)

-- ---- regions side by side

pub regions_pass : (regions : List Region) → Each RegionTells regions → Passes (in_regions regions) (behind_regions (map piece_of_region regions))
regions_pass [] each = none_pass
regions_pass (r ∷ regions) each =
    passes_both (of_one_region r) (in_regions regions) (piece_of_region r).behind (behind_regions (map piece_of_region regions)) each.0.passes
    (regions_pass regions each.1)

pub regions_many : (regions : List Region) → Each RegionTells regions → (at : ElementNumbers) →
    (behind_regions (map piece_of_region regions) at).state ≡ at.state + pieces.states_in (map exp.piece_of_region regions)
regions_many [] each at = omega arith
regions_many (r ∷ regions) each at =
    omega (arith, regions_many regions each.1 ((piece_of_region r).behind at), each.0.many at)

pub regions_come : (all : Contents) (fs : List Flags) (bs : List Around) (counter : Option ℕ) (counts : Bool) (regions : List Region) →
    Each RegionTells regions → (at : ElementNumbers) (before : old.NextNumbers) → before.state ≡ at.state → is_there counter ≡ counts → Encloses all fs bs →
    Placed all at (in_regions regions) →
    Comes all (of_inside (pieces.expanded_regions (map exp.piece_of_region regions) fs counter before))
    (all_regions (map piece_of_region regions) bs counts at)
regions_come all fs bs counter counts [] each at before same counted h placed = none_comes all
regions_come all fs bs counter counts (r ∷ regions) each at before same counted h placed =
    let e : pieces.RegionPiece = exp.piece_of_region r in
    let p : RegionPiece = piece_of_region r in
    let a : Regions = e.made fs counter before in
    let next : old.NextNumbers = pieces.past_region (flags.weak_around fs) e before in
    let b : Regions = pieces.expanded_regions (map exp.piece_of_region regions) fs counter next in
    let x : Origins = p.origins bs counts at in
    let y : Origins = all_regions (map piece_of_region regions) bs counts (p.behind at) in
    let moved : next.state ≡ (p.behind at).state = omega (arith, same, each.0.many at) in
    regions_join all a.regions b.regions a.stands_for b.stands_for (beside x y)
    (both_come all (of_inside a) (of_inside b) x y
    (each.0.comes all fs bs counter counts at before same counted h (placed_first all at (of_one_region r) (in_regions regions) placed))
    (regions_come all fs bs counter counts regions each.1 (p.behind at) next moved counted h
    (placed_behind all at (of_one_region r) (in_regions regions) p.behind each.0.passes placed)))

-- ---- a state

there_given : (b : Bool) (x : ℕ) → is_there (given b x) ≡ b
there_given true x = refl
there_given false x = refl

-- a state of these parts
abbrev pub old_state : Bool → Bool → List ℕ → List Region → List Transition → pieces.StatePiece
old_state is_initial is_final name regions own =
    exp.state_piece
    (record { name = name; is_initial = is_initial; is_final = is_final; regions = map exp.piece_of_region regions; transitions = own })

pub state_comes : (all : Contents) (fs : List Flags) (bs : List Around) (to : RegionPlaces) (ends : Ends) (is_initial is_final : Bool) (name : List ℕ)
    (regions : List Region) (own : List Transition) (place : ℕ) (begins : Bool) (at : ElementNumbers) (before : old.NextNumbers) →
    Each RegionTells regions → before.state ≡ at.state → Within all fs bs to ends → Placed all at (both (state_alone name own) (in_regions regions)) →
    Comes all (of_those ((old_state is_initial is_final name regions own).made fs to place begins before))
    (state_origins is_final (map piece_of_region regions) own bs ends at)
state_comes all fs bs to ends is_initial is_final name regions own place begins at before each same h placed = by regions each placed
  where
    stated : (rs : List Region) → Placed all at (both (state_alone name own) (in_regions rs)) → Stated all name at own
    stated rs placed =
        let mine : Placed all at (state_alone name own) = placed_first all at (state_alone name own) (in_regions rs) placed in
        record { named = mine.states.0; owned = record { transitions = mine.transitions; effects = mine.effects } }

    by : (rs : List Region) → Each RegionTells rs → Placed all at (both (state_alone name own) (in_regions rs)) →
        Comes all (of_those ((old_state is_initial is_final name rs own).made fs to place begins before))
        (state_origins is_final (map piece_of_region rs) own bs ends at)
    by [] each placed =
        subst
        (λ n. Comes all (of_states (made.simple is_final name own fs to begins ∷ []) (Some n ∷ [])) (origin.simple is_final own bs ends at))
        (sym same) (simple_comes all fs bs to ends is_final name own begins at h (stated [] placed))
    by (r ∷ rs) each placed =
        let whole : List Region = r ∷ rs in
        let t : Stated all name at own = stated whole placed in
        let weak : Bool = flags.weak_around fs in
        let f : Flags = flags_of weak own before.variable in
        let next : old.NextNumbers = made.within weak own before in
        let passes : Passes (state_alone name own) (within_state own) = within_pass name own in
        let moved : next.state ≡ (within_state own at).state = omega (arith, same, passes.state at) in
        let counted : is_there f.counter ≡ counts (weak_around bs) own =
        there_given (counts weak own) (before.variable + one (has_strong own) + one (has_weak own))
        ∙ ap (λ w. counts w own) (weak_alike all fs bs h.encloses) in
        let enclosing : List Around = bs ++ around_of own at.transition ∷ [] in
        superstate_comes all fs bs to ends name (length (map exp.piece_of_region whole)) before.variable place own begins
        (exp.inside_superstate (map exp.piece_of_region whole) own fs f before)
        (all_regions (map piece_of_region whole) enclosing (counts (weak_around bs) own) (within_state own at)) at before same h t
        (regions_come all (fs ++ f ∷ []) enclosing f.counter (counts (weak_around bs) own) whole each (within_state own at) next moved counted
        (encloses_own all fs bs weak own before.variable at.transition h.encloses t.owned.transitions)
        (placed_behind all at (state_alone name own) (in_regions whole) (within_state own) passes placed))

-- ---- states side by side

pub states_pass : (states : List State) → Each StateTells states → Passes (in_states states) (behind_states (map piece_of_state states))
states_pass [] each = none_pass
states_pass (s ∷ states) each =
    passes_both (of_one_state s) (in_states states) (piece_of_state s).behind (behind_states (map piece_of_state states)) each.0.passes
    (states_pass states each.1)

pub states_many : (states : List State) → Each StateTells states → (at : ElementNumbers) →
    (behind_states (map piece_of_state states) at).state ≡ at.state + exp.states_among (map exp.piece_of_state states)
states_many [] each at = omega arith
states_many (s ∷ states) each at = omega (arith, states_many states each.1 ((piece_of_state s).behind at), each.0.many at)

states_come : (all : Contents) (fs : List Flags) (bs : List Around) (to : RegionPlaces) (ends : Ends) (anew : Bool) (states : List State) →
    Each StateTells states → (place : ℕ) (at : ElementNumbers) (before : old.NextNumbers) → before.state ≡ at.state → Within all fs bs to ends →
    Placed all at (in_states states) →
    Comes all (of_those (exp.expanded_states anew (map exp.piece_of_state states) fs to place before))
    (all_states (map piece_of_state states) bs ends at)
states_come all fs bs to ends anew [] each place at before same h placed = none_comes all
states_come all fs bs to ends anew (s ∷ states) each place at before same h placed =
    let e : pieces.StatePiece = exp.piece_of_state s in
    let p : StatePiece = piece_of_state s in
    let a : StatePieces = e.made fs to place (e.is_initial && not anew) before in
    let next : old.NextNumbers = exp.past_state (flags.weak_around fs) e before in
    let b : StatePieces = exp.expanded_states anew (map exp.piece_of_state states) fs to (place + e.width fs) next in
    let x : Origins = p.origins bs ends at in
    let y : Origins = all_states (map piece_of_state states) bs ends (p.behind at) in
    let moved : next.state ≡ (p.behind at).state = omega (arith, same, each.0.many at) in
    states_join all a.states b.states a.stands_for b.stands_for (beside x y)
    (both_come all (of_those a) (of_those b) x y
    (each.0.comes all fs bs to ends place (e.is_initial && not anew) at before same h
    (placed_first all at (of_one_state s) (in_states states) placed))
    (states_come all fs bs to ends anew states each.1 (place + e.width fs) (p.behind at) next moved h
    (placed_behind all at (of_one_state s) (in_states states) p.behind each.0.passes placed)))

-- ---- the initial state

finals_alike : (states : List State) → Each StateTells states →
    map (λ s. s.is_final) (map exp.piece_of_state states) ≡ map (λ s. s.is_final) (map piece_of_state states)
finals_alike [] each = refl
finals_alike (s ∷ states) each =
    ap (λ b. b ∷ map (λ s. s.is_final) (map exp.piece_of_state states)) each.0.final
    ∙ ap (λ bs. (piece_of_state s).is_final ∷ bs) (finals_alike states each.1)

some_alike : (states : List State) → Each StateTells states →
    list_any (λ s. s.is_initial && s.is_final) (map exp.piece_of_state states) ≡ list_any (λ s. s.is_initial && s.is_final) (map piece_of_state states)
some_alike [] each = refl
some_alike (s ∷ states) each =
    let rest : Bool = list_any (λ s. s.is_initial && s.is_final) (map exp.piece_of_state states) in
    ap (λ b. (b && (exp.piece_of_state s).is_final) || rest) each.0.initial
    ∙ ap (λ b. ((piece_of_state s).is_initial && b) || rest) each.0.final
    ∙ ap (λ b. ((piece_of_state s).is_initial && (piece_of_state s).is_final) || b) (some_alike states each.1)

anew_alike : (counter : Option ℕ) (counts : Bool) (states : List State) → Each StateTells states → is_there counter ≡ counts →
    exp.begins_anew counter (map exp.piece_of_state states) ≡ begins_anew counts (map piece_of_state states)
anew_alike (Some x) true states each e = some_alike states each
anew_alike (Some x) false states each e = absurd cc
anew_alike None true states each e = absurd cc
anew_alike None false states each e = refl

number_alike : (states : List State) → Each StateTells states → (n : ℕ) (at : ElementNumbers) → n ≡ at.state →
    exp.initial_number (map exp.piece_of_state states) n ≡ initial_number (map piece_of_state states) at
number_alike [] each n at e = e
number_alike (s ∷ states) each n at e =
    by (exp.piece_of_state s).is_initial (piece_of_state s).is_initial each.0.initial
    (number_alike states each.1 (n + (exp.piece_of_state s).states) ((piece_of_state s).behind at) (omega (arith, e, each.0.many at)))
  where
    by : (b c : Bool) → b ≡ c → {m k : ℕ} → m ≡ k → (if b then n else m) ≡ (if c then at.state else k)
    by true true f g = e
    by false false f g = g
    by true false f g = absurd cc
    by false true f g = absurd cc

or_other : (b c d : Bool) → b ≡ false → ((b && c) || d) ≡ true → d ≡ true
or_other true c d e h = absurd cc
or_other false c d e h = h

initial_below : (all : Contents) (states : List State) → Each StateTells states → (at : ElementNumbers) → Placed all at (in_states states) →
    list_any (λ s. s.is_initial && s.is_final) (map piece_of_state states) ≡ true →
    initial_number (map piece_of_state states) at < length all.states
initial_below all [] each at placed h = absurd cc
initial_below all (s ∷ states) each at placed h =
    by (piece_of_state s).is_initial refl
    (initial_below all states each.1 ((piece_of_state s).behind at)
    (placed_behind all at (of_one_state s) (in_states states) (piece_of_state s).behind each.0.passes placed))
  where
    p : StatePiece
    p = piece_of_state s

    some : Bool
    some = list_any (λ s. s.is_initial && s.is_final) (map piece_of_state states)

    by : (b : Bool) → p.is_initial ≡ b → (some ≡ true → initial_number (map piece_of_state states) (p.behind at) < length all.states) →
        (if b then at.state else initial_number (map piece_of_state states) (p.behind at)) < length all.states
    by true e later = each.0.here all at (placed_first all at (of_one_state s) (in_states states) placed)
    by false e later = later (or_other p.is_initial p.is_final some e h)

new_comes : (all : Contents) (counter : Option ℕ) (b : Bool) (target n : ℕ) → (b ≡ true → is_there counter ≡ true) →
    (b ≡ true → n < length all.states) → Comes all (of_those (exp.new_initial b counter target n)) (new_initial b (element.State n))
new_comes all counter false target n some small = none_comes all
new_comes all None true target n some small = let e : false ≡ true = some refl in absurd cc
new_comes all (Some x) true target n some small =
    let t : Transition = go true None (count_down x ∷ []) target in
    let from : Element = element.State n in
    simple_holds all first_name true false (t ∷ []) (Some n) (beside (origin.state from) (origin.transition from (from ∷ [])))
    (both_come all (one_state first_name (Some n)) (moves (t ∷ [])) (origin.state from) (origin.transition from (from ∷ []))
    (added_comes all first_name n refl (small refl))
    (record { regions = tt; states = tt; transitions = (small refl, tt); effects = (small refl, tt); stands = refl }))

left_comes : (all : Contents) (b : Bool) (n : ℕ) → n < length all.regions →
    Comes all (of_those (exp.left_behind b)) (left_behind b (element.Region n))
left_comes all false n small = none_comes all
left_comes all true n small =
    simple_holds all abandoned_name false true [] None (origin.state (element.Region n))
    (record { regions = tt; states = ((refl, small), tt); transitions = tt; effects = tt; stands = refl })

counter_of_anew : (counter : Option ℕ) (states : List pieces.StatePiece) → exp.begins_anew counter states ≡ true → is_there counter ≡ true
counter_of_anew (Some x) states h = refl
counter_of_anew None states h = absurd cc

some_of_anew : (counts : Bool) (states : List StatePiece) → begins_anew counts states ≡ true →
    list_any (λ s. s.is_initial && s.is_final) states ≡ true
some_of_anew true states h = h
some_of_anew false states h = absurd cc

-- ---- the states of a region

pub inside_comes : (all : Contents) (fs : List Flags) (bs : List Around) (counter : Option ℕ) (counts : Bool) (states : List State) →
    Each StateTells states → (region : ℕ) (at : ElementNumbers) (before : old.NextNumbers) → before.state ≡ at.state → is_there counter ≡ counts →
    Encloses all fs bs → Placed all at (in_states states) → region < length all.regions →
    Comes all (of_those (exp.inside_region (map exp.piece_of_state states) fs counter before))
    (inside_region (map piece_of_state states) bs counts (element.Region region) at)
inside_comes all fs bs counter counts states each region at before same counted h placed small =
    let olds : List pieces.StatePiece = map exp.piece_of_state states in
    let ours : List StatePiece = map piece_of_state states in
    let anew : Bool = exp.begins_anew counter olds in
    let begin : ℕ = one anew in
    let to : RegionPlaces = exp.region_places olds fs counter begin in
    let ends : Ends = record { finals = map (λ s. s.is_final) ours; counts = counts } in
    let number : ℕ = initial_number ours at in
    let first : StatePieces = exp.new_initial anew counter (exp.initial_place olds fs begin) (exp.initial_number olds before.state) in
    let middle : StatePieces = exp.expanded_states anew olds fs to begin before in
    let last : StatePieces = exp.left_behind (flags.aborts_around fs) in
    let x : Origins = new_initial (begins_anew counts ours) (element.State number) in
    let y : Origins = all_states ours bs ends at in
    let z : Origins = left_behind (aborts_around bs) (element.Region region) in
    let alike : anew ≡ begins_anew counts ours = anew_alike counter counts states each counted in
    let mine : Comes all (of_those (exp.new_initial anew counter (exp.initial_place olds fs begin) number)) (new_initial anew (element.State number)) =
    new_comes all counter anew (exp.initial_place olds fs begin) number (counter_of_anew counter olds)
    (λ e. initial_below all states each at placed (some_of_anew counts ours (sym alike ∙ e))) in
    let one_of : Comes all (of_those first) x =
    subst (λ b. Comes all (of_those first) (new_initial b (element.State number))) alike
    (subst (λ n. Comes all (of_those (exp.new_initial anew counter (exp.initial_place olds fs begin) n)) (new_initial anew (element.State number)))
    (sym (number_alike states each before.state at same)) mine) in
    let two_of : Comes all (of_those middle) y =
    states_come all fs bs to ends anew states each begin at before same
    (record { encloses = h; alike = record { finals = finals_alike states each; counts = counted } }) placed in
    let three_of : Comes all (of_those last) z =
    subst (λ b. Comes all (of_those last) (left_behind b (element.Region region))) (aborts_alike all fs bs h)
    (left_comes all (flags.aborts_around fs) region small) in
    states_join all first.states (middle.states ++ last.states) first.stands_for (middle.stands_for ++ last.stands_for) (beside x (beside y z))
    (both_come all (of_those first) (of_states (middle.states ++ last.states) (middle.stands_for ++ last.stands_for)) x (beside y z) one_of
    (states_join all middle.states last.states middle.stands_for last.stands_for (beside y z)
    (both_come all (of_those middle) (of_those last) y z two_of three_of)))
