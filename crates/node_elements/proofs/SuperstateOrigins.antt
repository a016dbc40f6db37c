-- The monitor, the fork and the continuation state of a superstate come from it and from its aborts.
use Rattle.std.proofs.Common.{◌≡◌, ℕ, suc, ◌+◌, ◌<◌, Bool, true, false, not, cond, ◌||◌, ◌&&◌, Option, Some, None, List, [], ◌∷◌, ◌++◌, map, length}
use Rattle.std.proofs.Common.{if◌then◌else◌, refl, sym, ap, subst, ◌∙◌}
use Rattle.core_charts.specs.declared.region.Transition.{Transition}
use Rattle.core_charts.specs.declared.region.TransitionKind.TheVariants as kind
use Rattle.core_charts.specs.declared.region.Region.{Region}
use Rattle.core_charts.specs.declared.region.State.{State}
use Rattle.core_charts.specs.Tests.{is_join, strong_aborts, terminations, weak_aborts}
use Rattle.core_charts.specs.Aborts.{has_aborts, has_strong, has_weak}
use Rattle.core_charts.specs.declared.elements.element.Element.TheVariants as element
use Rattle.core_charts.specs.declared.elements.numbers.ElementNumbers.{ElementNumbers}
use Rattle.core_charts.specs.Numbers.{behind_transition}
use Rattle.core_charts.specs.Elements.{Contents}
use Rattle.abort_expansion.specs.declared.flags.Flags.{Flags}
use Rattle.abort_expansion.specs.declared.places.RegionPlaces.{RegionPlaces}
use Rattle.abort_expansion.specs.declared.pieces.NextNumbers as old
use Rattle.abort_expansion.specs.declared.pieces.Regions.{Regions}
use Rattle.abort_expansion.specs.declared.pieces.StatePieces.{StatePieces}
use Rattle.abort_expansion.specs.Flags.{abandoned_name, continuation_name, counts, flags_of, given, has_join, is_there, monitor_name, one, watching_name}
use Rattle.abort_expansion.specs.Flags as flags
use Rattle.abort_expansion.specs.Transitions.{answers, go, is_number, led, led_by, raising, strong_checks, weak_checks}
use Rattle.abort_expansion.specs.Pieces as pieces
use Rattle.abort_expansion.specs.Superstates as made
use Rattle.node_elements.specs.declared.expansion.origins.Origins.{Origins}
use Rattle.node_elements.specs.declared.expansion.around.Around.{Around}
use Rattle.node_elements.specs.declared.expansion.around.Sort.TheVariants as sort
use Rattle.node_elements.specs.declared.expansion.transitions.Choice.TheVariants as choice
use Rattle.node_elements.specs.declared.expansion.transitions.Ends.{Ends}
use Rattle.node_elements.specs.ExpansionOrigins.{aborts_around, around_of, beside, chosen, first_abort, first_of, nothing, raised, taken, weak_around}
use Rattle.node_elements.specs.ExpansionOrigins as origin
use Rattle.core_charts.proofs.Standing.{Owned, below, owned_effects, owned_others}
use Rattle.node_elements.proofs.Coming.{Comes, Made, both_come, comes_as, five, four, joined, moves, moves_as, none, none_comes, one_region, one_state}
use Rattle.node_elements.proofs.Enclosing.{Encloses, FirstAbort, Matches, aborts_alike, first_abort_of, first_matches, strong_come}
use Rattle.node_elements.proofs.Enclosing.{weak_alike, weak_come}
use Rattle.node_elements.proofs.Chosen.{EndAlike, answers_come, led_come, raising_come, taken_comes}
use Rattle.node_elements.proofs.Shapes.{of_regions, of_states, region_holds, regions_join, simple_holds, state, state_holds, states_join}
use Rattle.node_elements.proofs.Splitting.{Stated, Within, added_comes, itself_comes, move_comes, preparation_comes, watched_comes}

-- ---- the monitor

-- what looks whether all regions have ended
ended_comes : (all : Contents) (counter first : Option ℕ) → Matches all counter first → Comes all (moves (made.all_ended counter)) (origin.check first)
ended_comes all (Some x) (Some n) h = record { regions = tt; states = tt; transitions = (h, tt); effects = tt; stands = refl }
ended_comes all (Some x) None h = absurd h
ended_comes all None (Some n) h = absurd h
ended_comes all None None h = none_comes all

-- a superstate with aborts counts where it has a termination
counts_joins : (join aborts weak : Bool) → aborts ≡ true → (join && (aborts || weak)) ≡ join
counts_joins true true weak h = refl
counts_joins false true weak h = refl
counts_joins join false weak h = absurd cc

monitor_moves : (all : Contents) (fs : List Flags) (bs : List Around) (weak : Bool) (x : ℕ) (own : List Transition) (at : ElementNumbers) →
    has_aborts own ≡ true → Encloses all fs bs → Owned all at own →
    Comes all (moves (made.monitor_transitions fs (flags_of weak own x) own)) (origin.monitor_transitions own bs at)
monitor_moves all fs bs weak x own at some h owned =
    let f : Flags = flags_of weak own x in
    let a : List Transition = strong_checks false 1 fs in
    let b : List Transition = raising (λ t. false) 1 f.strong 1 (strong_aborts own) in
    let c : List Transition = raising (λ t. t.immediate) 1 f.weak 1 (weak_aborts own) in
    let d : List Transition = made.all_ended f.counter in
    let e : List Transition = weak_checks true 1 fs in
    let second : Origins = chosen (choice.Of sort.Strong) (λ t. raised) own at in
    let third : Origins = chosen (choice.Of sort.Weak) (λ t. raised) own at in
    let fourth : Origins = origin.check (first_of sort.Join own at.transition) in
    let fifth : Origins = origin.weak_checks bs in
    let z : ℕ = x + one (has_strong own) + one (has_weak own) in
    let joins : Matches all f.counter (first_of sort.Join own at.transition) =
    subst (λ q. Matches all (given q z) (first_of sort.Join own at.transition)) (sym (counts_joins (has_join own) (has_aborts own) weak some))
    (first_matches all sort.Join z own at.transition owned.transitions) in
    moves_as all (a ++ b ++ c ++ d ++ e) (a ++ (b ++ (c ++ (d ++ e)))) (origin.monitor_transitions own bs at) (five a b c d e)
    (both_come all (moves a) (moves (b ++ (c ++ (d ++ e)))) (origin.strong_checks bs) (beside second (beside third (beside fourth fifth)))
    (strong_come all false 1 fs bs h)
    (both_come all (moves b) (moves (c ++ (d ++ e))) second (beside third (beside fourth fifth))
    (raising_come all (λ t. false) 1 sort.Strong x 1 own at owned)
    (both_come all (moves c) (moves (d ++ e)) third (beside fourth fifth)
    (raising_come all (λ t. t.immediate) 1 sort.Weak (x + one (has_strong own)) 1 own at owned)
    (both_come all (moves d) (moves e) fourth fifth (ended_comes all f.counter (first_of sort.Join own at.transition) joins)
    (weak_come all true 1 fs bs h)))))

-- two states that stand for none, where there are aborts
abbrev pub monitor_stands : Bool → List (Option ℕ)
monitor_stands b = if b then None ∷ None ∷ [] else []

pub monitor_comes : (all : Contents) (fs : List Flags) (bs : List Around) (weak : Bool) (s x : ℕ) (own : List Transition) (at : ElementNumbers) →
    Encloses all fs bs → Owned all at own →
    Comes all (of_regions (made.watched (has_aborts own) (made.monitor s fs (flags_of weak own x) own)) (monitor_stands (has_aborts own)))
    (origin.monitor (first_abort (around_of own at.transition)) own bs at)
monitor_comes all fs bs weak s x own at h owned =
    by (has_aborts own) (first_abort (around_of own at.transition)) refl (first_abort_of all own at.transition owned.transitions)
  where
    f : Flags
    f = flags_of weak own x

    by : (b : Bool) (first : Option ℕ) → has_aborts own ≡ b → FirstAbort all b first →
        Comes all (of_regions (made.watched b (made.monitor s fs f own)) (monitor_stands b)) (origin.monitor first own bs at)
    by true None e k = absurd k
    by false (Some n) e k = absurd k
    by false None e k = none_comes all
    by true (Some n) e small =
        let watching : State = state watching_name true false [] (made.monitor_transitions fs f own) in
        region_holds all (monitor_name s) (watching ∷ made.abandoned ∷ []) (None ∷ None ∷ []) (origin.monitor (Some n) own bs at)
        (both_come all (one_region (monitor_name s)) (of_states (watching ∷ made.abandoned ∷ []) (None ∷ None ∷ []))
        (origin.region (element.Transition n))
        (beside (origin.state (element.Transition n)) (beside (origin.monitor_transitions own bs at) (origin.state (element.Transition n))))
        (record { regions = ((refl, small), tt); states = tt; transitions = tt; effects = tt; stands = refl })
        (states_join all (watching ∷ []) (made.abandoned ∷ []) (None ∷ []) (None ∷ [])
        (beside (beside (origin.state (element.Transition n)) (origin.monitor_transitions own bs at)) (origin.state (element.Transition n)))
        (both_come all (of_states (watching ∷ []) (None ∷ [])) (of_states (made.abandoned ∷ []) (None ∷ []))
        (beside (origin.state (element.Transition n)) (origin.monitor_transitions own bs at)) (origin.state (element.Transition n))
        (simple_holds all watching_name true false (made.monitor_transitions fs f own) None
        (beside (origin.state (element.Transition n)) (origin.monitor_transitions own bs at))
        (both_come all (one_state watching_name None) (moves (made.monitor_transitions fs f own)) (origin.state (element.Transition n))
        (origin.monitor_transitions own bs at) (watched_comes all watching_name n refl small) (monitor_moves all fs bs weak x own at e h owned)))
        (simple_holds all abandoned_name false true [] None (origin.state (element.Transition n))
        (watched_comes all abandoned_name n refl small)))))

-- ---- the continuation state

-- a counter is there where it is looked at
abbrev pub IsCounted : List Flags → Option ℕ → List Transition → Type 0
IsCounted fs counter own = flags.weak_around fs ≡ true → has_join own ≡ true → is_there counter ≡ true

joined_comes : (all : Contents) (to : RegionPlaces) (ends : Ends) (counter : Option ℕ) (t : Transition) (own : List Transition) (at : ElementNumbers) →
    EndAlike to ends → Owned all at (t ∷ own) → at.state < length all.states → is_there counter ≡ true →
    Comes all (moves (made.joined_or_left to counter t)) (beside (taken ends t at) (origin.transition (element.State at.state) []))
joined_comes all to ends None t own at alike owned small h = absurd cc
joined_comes all to ends (Some x) t own at alike owned small h =
    both_come all (moves (led_by to (Some (is_number x 0)) t ∷ [])) (moves (go true None [] to.left ∷ [])) (taken ends t at)
    (origin.transition (element.State at.state) [])
    (taken_comes all to ends (led_by to (Some (is_number x 0)) t) t at alike refl owned.transitions.0 (owned_effects all at t own owned))
    (move_comes all (go true None [] to.left) at.state refl small)

plain_comes : (all : Contents) (to : RegionPlaces) (ends : Ends) (t : Transition) (own : List Transition) (at : ElementNumbers) → EndAlike to ends →
    Owned all at (t ∷ own) → Comes all (moves (led_by to None t ∷ [])) (beside (taken ends t at) nothing)
plain_comes all to ends t own at alike owned =
    both_come all (moves (led_by to None t ∷ [])) none (taken ends t at) nothing
    (taken_comes all to ends (led_by to None t) t at alike refl owned.transitions.0 (owned_effects all at t own owned)) (none_comes all)

closing_comes : (all : Contents) (fs : List Flags) (bs : List Around) (to : RegionPlaces) (ends : Ends) (f : Flags) (own : List Transition)
    (at : ElementNumbers) →
    Within all fs bs to ends → at.state < length all.states → Owned all at own → IsCounted fs f.counter own →
    Comes all (moves (made.closing fs f to (terminations own))) (origin.closing own bs ends at)
closing_comes all fs bs to ends f [] at h small owned counted = weak_come all true to.left fs bs h.encloses
closing_comes all fs bs to ends f (t ∷ own) at h small owned counted =
    by (is_join t.kind) refl (closing_comes all fs bs to ends f own (behind_transition t at) h small (owned_others all at t own owned))
  where
    over : (w v : Bool) → w ≡ v → (w ≡ true → is_there f.counter ≡ true) →
        Comes all (moves (if w then made.joined_or_left to f.counter t else led_by to None t ∷ []))
        (beside (taken ends t at) (if v then origin.transition (element.State at.state) [] else nothing))
    over true true e k = joined_comes all to ends f.counter t own at h.alike owned small (k refl)
    over false false e k = plain_comes all to ends t own at h.alike owned
    over true false e k = absurd cc
    over false true e k = absurd cc

    by : (b : Bool) → is_join t.kind ≡ b →
        (IsCounted fs f.counter own → Comes all (moves (made.closing fs f to (terminations own))) (origin.closing own bs ends (behind_transition t at))) →
        Comes all (moves (made.closing fs f to (cond b (t ∷ terminations own) (terminations own))))
        (if b
        then beside (taken ends t at) (if weak_around bs then origin.transition (element.State at.state) [] else nothing)
        else origin.closing own bs ends (behind_transition t at))
    by true e later =
        over (flags.weak_around fs) (weak_around bs) (weak_alike all fs bs h.encloses) (λ w. counted w (ap (λ b. b || has_join own) e))
    by false e later = later (λ w j. counted w (ap (λ b. b || has_join own) e ∙ j))

counter_given : (join aborts weak : Bool) (z : ℕ) → weak ≡ true → join ≡ true → is_there (given (join && (aborts || weak)) z) ≡ true
counter_given true true weak z w j = refl
counter_given true false true z w j = refl
counter_given true false false z w j = absurd cc
counter_given false aborts weak z w j = absurd cc

pub continuation_comes : (all : Contents) (fs : List Flags) (bs : List Around) (to : RegionPlaces) (ends : Ends) (name : List ℕ) (s x : ℕ)
    (own : List Transition) (at : ElementNumbers) → Within all fs bs to ends → Stated all name at own →
    Comes all (of_states (made.continuation s fs (flags_of (flags.weak_around fs) own x) to own ∷ []) (Some at.state ∷ []))
    (origin.continuation own bs ends at)
continuation_comes all fs bs to ends name s x own at h t =
    let small : at.state < length all.states = below all.states at.state name t.named in
    let weak : Bool = flags.weak_around fs in
    let f : Flags = flags_of weak own x in
    let a : List Transition = strong_checks true to.left fs in
    let b : List Transition = answers to f.strong 1 (strong_aborts own) in
    let c : List Transition = answers to f.weak 1 (weak_aborts own) in
    let d : List Transition = made.closing fs f to (terminations own) in
    let second : Origins = chosen (choice.Of sort.Strong) (taken ends) own at in
    let third : Origins = chosen (choice.Of sort.Weak) (taken ends) own at in
    let fourth : Origins = origin.closing own bs ends at in
    simple_holds all (continuation_name s) false false (a ++ b ++ c ++ d) (Some at.state)
    (beside (origin.state (element.State at.state)) (beside (origin.strong_checks bs) (beside second (beside third fourth))))
    (both_come all (one_state (continuation_name s) (Some at.state)) (moves (a ++ b ++ c ++ d)) (origin.state (element.State at.state))
    (beside (origin.strong_checks bs) (beside second (beside third fourth))) (added_comes all (continuation_name s) at.state refl small)
    (moves_as all (a ++ b ++ c ++ d) (a ++ (b ++ (c ++ d))) (beside (origin.strong_checks bs) (beside second (beside third fourth)))
    (four a b c d)
    (both_come all (moves a) (moves (b ++ (c ++ d))) (origin.strong_checks bs) (beside second (beside third fourth))
    (strong_come all true to.left fs bs h.encloses)
    (both_come all (moves b) (moves (c ++ d)) second (beside third fourth) (answers_come all to ends sort.Strong x 1 own at h.alike t.owned)
    (both_come all (moves c) (moves d) third fourth (answers_come all to ends sort.Weak (x + one (has_strong own)) 1 own at h.alike t.owned)
    (closing_comes all fs bs to ends f own at h small t.owned
    (counter_given (has_join own) (has_aborts own) weak (x + one (has_strong own) + one (has_weak own)))))))))

-- ---- the whole of a superstate, over what is inside it

abbrev pub of_those : StatePieces → Made
of_those m = of_states m.states m.stands_for

abbrev pub of_inside : Regions → Made
of_inside m = of_regions m.regions m.stands_for

fork_comes : (all : Contents) (fs : List Flags) (bs : List Around) (weak : Bool) (name : List ℕ) (s x target : ℕ) (own : List Transition)
    (begins : Bool) (inside : Regions) (within : Origins) (at : ElementNumbers) → Encloses all fs bs → Stated all name at own →
    Comes all (of_inside inside) within →
    Comes all
    (of_states (made.fork name begins (inside.regions ++ made.watched (has_aborts own) (made.monitor s fs (flags_of weak own x) own)) target ∷ [])
    (Some at.state ∷ (inside.stands_for ++ monitor_stands (has_aborts own)))) (origin.fork own bs within at)
fork_comes all fs bs weak name s x target own begins inside within at h t come =
    let join : Transition = record { kind = kind.Join; immediate = false; trigger = None; effects = []; target = target } in
    let watched : List Region = made.watched (has_aborts own) (made.monitor s fs (flags_of weak own x) own) in
    let stands : List (Option ℕ) = inside.stands_for ++ monitor_stands (has_aborts own) in
    let monitored : Origins = origin.monitor (first_abort (around_of own at.transition)) own bs at in
    state_holds all name begins false (inside.regions ++ watched) (join ∷ []) (Some at.state) stands
    (beside (origin.state (element.State at.state)) (beside (origin.transition (element.State at.state) []) (beside within monitored)))
    (both_come all (one_state name (Some at.state)) (joined (moves (join ∷ [])) (of_regions (inside.regions ++ watched) stands))
    (origin.state (element.State at.state)) (beside (origin.transition (element.State at.state) []) (beside within monitored))
    (itself_comes all name at.state t.named)
    (both_come all (moves (join ∷ [])) (of_regions (inside.regions ++ watched) stands) (origin.transition (element.State at.state) [])
    (beside within monitored) (move_comes all join at.state refl (below all.states at.state name t.named))
    (regions_join all inside.regions watched inside.stands_for (monitor_stands (has_aborts own)) (beside within monitored)
    (both_come all (of_inside inside) (of_regions watched (monitor_stands (has_aborts own))) within monitored come
    (monitor_comes all fs bs weak s x own at h t.owned)))))

forked_comes : (all : Contents) (fs : List Flags) (bs : List Around) (to : RegionPlaces) (ends : Ends) (name : List ℕ) (x place : ℕ)
    (own : List Transition) (begins : Bool) (inside : Regions) (within : Origins) (at : ElementNumbers) (before : old.NextNumbers) →
    before.state ≡ at.state → Within all fs bs to ends → Stated all name at own → Comes all (of_inside inside) within →
    Comes all (of_those (made.forked name own fs (flags_of (flags.weak_around fs) own x) inside to place begins before))
    (origin.forked own bs ends within at)
forked_comes all fs bs to ends name x place own begins inside within at before same h t come =
    let weak : Bool = flags.weak_around fs in
    let f : Flags = flags_of weak own x in
    let s : ℕ = before.superstate in
    let watched : List Region = made.watched (has_aborts own) (made.monitor s fs f own) in
    let first : State = made.fork name begins (inside.regions ++ watched) (suc place) in
    let second : State = made.continuation s fs f to own in
    let stands : List (Option ℕ) = Some at.state ∷ (inside.stands_for ++ monitor_stands (has_aborts own)) in
    let m : StatePieces = made.forked name own fs f inside to place begins before in
    let told : stands ++ Some at.state ∷ [] ≡ m.stands_for =
    ap (λ n. Some n ∷ (inside.stands_for ++ monitor_stands (has_aborts own) ++ Some n ∷ [])) (sym same) in
    comes_as all (of_states (first ∷ second ∷ []) (stands ++ Some at.state ∷ [])) (of_those m) (origin.forked own bs ends within at) refl refl refl
    told
    (states_join all (first ∷ []) (second ∷ []) stands (Some at.state ∷ []) (origin.forked own bs ends within at)
    (both_come all (of_states (first ∷ []) stands) (of_states (second ∷ []) (Some at.state ∷ [])) (origin.fork own bs within at)
    (origin.continuation own bs ends at) (fork_comes all fs bs weak name s x (suc place) own begins inside within at h.encloses t come)
    (continuation_comes all fs bs to ends name s x own at h t)))

as_it_is_comes : (all : Contents) (to : RegionPlaces) (ends : Ends) (name : List ℕ) (own : List Transition) (begins : Bool) (inside : Regions)
    (within : Origins) (at : ElementNumbers) (before : old.NextNumbers) → before.state ≡ at.state → EndAlike to ends → Stated all name at own →
    Comes all (of_inside inside) within →
    Comes all (of_those (made.as_it_is name own inside to begins before)) (origin.as_it_is own ends within at)
as_it_is_comes all to ends name own begins inside within at before same alike t come =
    let mine : Origins = chosen choice.All (taken ends) own at in
    subst
    (λ n. Comes all (of_states (state name begins false inside.regions (map (led to) own) ∷ []) (Some n ∷ inside.stands_for))
    (origin.as_it_is own ends within at)) (sym same)
    (state_holds all name begins false inside.regions (map (led to) own) (Some at.state) inside.stands_for (origin.as_it_is own ends within at)
    (both_come all (one_state name (Some at.state)) (joined (moves (map (led to) own)) (of_inside inside)) (origin.state (element.State at.state))
    (beside mine within) (itself_comes all name at.state t.named)
    (both_come all (moves (map (led to) own)) (of_inside inside) mine within (led_come all to ends own at alike t.owned) come)))

split_comes : (all : Contents) (fs : List Flags) (bs : List Around) (to : RegionPlaces) (ends : Ends) (name : List ℕ) (regions x place : ℕ)
    (own : List Transition) (begins : Bool) (inside : Regions) (within : Origins) (at : ElementNumbers) (before : old.NextNumbers) →
    before.state ≡ at.state → Within all fs bs to ends → Stated all name at own → Comes all (of_inside inside) within →
    Comes all (of_those (made.split name regions own fs (flags_of (flags.weak_around fs) own x) inside to place begins before))
    (origin.split own bs ends within at)
split_comes all fs bs to ends name regions x place own begins inside within at before same h t come =
    over (has_aborts own || counts (flags.weak_around fs) own) (has_aborts own || counts (weak_around bs) own)
    (ap (λ w. has_aborts own || counts w own) (weak_alike all fs bs h.encloses))
  where
    f : Flags
    f = flags_of (flags.weak_around fs) own x

    over : (b c : Bool) → b ≡ c →
        Comes all
        (of_those (if b
        then pieces.beside (made.prepared regions own f to place begins before) (made.forked name own fs f inside to (suc place) false before)
        else made.forked name own fs f inside to place begins before))
        (beside (if c then origin.preparation own bs ends at else nothing) (origin.forked own bs ends within at))
    over true true e =
        let p : StatePieces = made.prepared regions own f to place begins before in
        let m : StatePieces = made.forked name own fs f inside to (suc place) false before in
        states_join all p.states m.states p.stands_for m.stands_for
        (beside (origin.preparation own bs ends at) (origin.forked own bs ends within at))
        (both_come all (of_those p) (of_those m) (origin.preparation own bs ends at) (origin.forked own bs ends within at)
        (subst (λ n. Comes all (of_states p.states (Some n ∷ [])) (origin.preparation own bs ends at)) (sym same)
        (preparation_comes all fs bs to ends name before.superstate x regions own (suc place) begins at h t))
        (forked_comes all fs bs to ends name x (suc place) own false inside within at before same h t come))
    over false false e = forked_comes all fs bs to ends name x place own begins inside within at before same h t come
    over true false e = absurd cc
    over false true e = absurd cc

pub superstate_comes : (all : Contents) (fs : List Flags) (bs : List Around) (to : RegionPlaces) (ends : Ends) (name : List ℕ) (regions x place : ℕ)
    (own : List Transition) (begins : Bool) (inside : Regions) (within : Origins) (at : ElementNumbers) (before : old.NextNumbers) →
    before.state ≡ at.state → Within all fs bs to ends → Stated all name at own → Comes all (of_inside inside) within →
    Comes all (of_those (made.superstate_over name regions own fs (flags_of (flags.weak_around fs) own x) inside to place begins before))
    (origin.superstate_over own bs ends within at)
superstate_comes all fs bs to ends name regions x place own begins inside within at before same h t come =
    over (has_aborts own || flags.aborts_around fs) (has_aborts own || aborts_around bs)
    (ap (λ w. has_aborts own || w) (aborts_alike all fs bs h.encloses))
  where
    f : Flags
    f = flags_of (flags.weak_around fs) own x

    over : (b c : Bool) → b ≡ c →
        Comes all
        (of_those (if not b then made.as_it_is name own inside to begins before
        else made.split name regions own fs f inside to place begins before))
        (if c then origin.split own bs ends within at else origin.as_it_is own ends within at)
    over true true e = split_comes all fs bs to ends name regions x place own begins inside within at before same h t come
    over false false e = as_it_is_comes all to ends name own begins inside within at before same h.alike t come
    over true false e = absurd cc
    over false true e = absurd cc
