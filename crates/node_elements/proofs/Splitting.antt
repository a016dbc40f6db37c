-- The states that simple states and superstates become come from them, over what is inside a superstate.
use Rattle.std.proofs.Common.{◌≡◌, ℕ, ◌+◌, ◌<◌, Bool, true, false, Some, None, List, [], ◌∷◌, ◌++◌, map, length}
use Rattle.std.proofs.Common.{slice_get, refl, sym, subst, ◌∙◌}
use Rattle.std.proofs.lemmas.List.{append-nil}
use Rattle.core_charts.specs.declared.region.Effect.{Effect}
use Rattle.core_charts.specs.declared.region.Transition.{Transition}
use Rattle.core_charts.specs.Tests.{at_once, strong_aborts}
use Rattle.core_charts.specs.Aborts.{has_strong, has_weak}
use Rattle.core_charts.specs.declared.elements.element.Element.TheVariants as element
use Rattle.core_charts.specs.declared.elements.numbers.ElementNumbers.{ElementNumbers}
use Rattle.core_charts.specs.Elements.{Contents}
use Rattle.abort_expansion.specs.declared.flags.Flags.{Flags}
use Rattle.abort_expansion.specs.declared.places.RegionPlaces.{RegionPlaces}
use Rattle.abort_expansion.specs.Flags.{counts, flags_of, given, one, preparation_name}
use Rattle.abort_expansion.specs.Flags as flags
use Rattle.abort_expansion.specs.Transitions.{go, led, led_by, on, put, strong_checks, weak_checks}
use Rattle.abort_expansion.specs.Superstates as made
use Rattle.node_elements.specs.declared.expansion.origins.Origins.{Origins}
use Rattle.node_elements.specs.declared.expansion.around.Around.{Around}
use Rattle.node_elements.specs.declared.expansion.transitions.Choice.TheVariants as choice
use Rattle.node_elements.specs.declared.expansion.transitions.Ends.{Ends}
use Rattle.node_elements.specs.ExpansionOrigins.{beside, chosen, once, taken, weak_around}
use Rattle.node_elements.specs.ExpansionOrigins as origin
use Rattle.node_elements.specs.ExpansionLaws.{EffectFrom, is_added}
use Rattle.core_charts.proofs.Standing.{Owned, below}
use Rattle.node_elements.proofs.Coming.{Comes, Pairs, both_come, moves, moves_as, one_state, pairs_append, three}
use Rattle.node_elements.proofs.Enclosing.{Encloses, strong_come}
use Rattle.node_elements.proofs.Enclosing.{weak_alike, weak_come}
use Rattle.node_elements.proofs.Chosen.{EndAlike, entry_come, led_come}
use Rattle.node_elements.proofs.Shapes.{of_states, simple_holds}

-- a state of the chart, with its transitions
pub record Stated (all : Contents) (name : List ℕ) (at : ElementNumbers) (own : List Transition) : Type 0 where
  pub named : slice_get all.states at.state ≡ Some name
  pub owned : Owned all at own

-- what it becomes is within the same superstates, and ends in the same states
pub record Within (all : Contents) (fs : List Flags) (bs : List Around) (to : RegionPlaces) (ends : Ends) : Type 0 where
  pub encloses : Encloses all fs bs
  pub alike : EndAlike to ends

-- ---- single states

pub itself_comes : (all : Contents) (name : List ℕ) (n : ℕ) → slice_get all.states n ≡ Some name →
    Comes all (one_state name (Some n)) (origin.state (element.State n))
itself_comes all name n h =
    record { regions = tt; states = ((below all.states n name h, λ e. h), tt); transitions = tt; effects = tt; stands = refl }

pub added_comes : (all : Contents) (name : List ℕ) (n : ℕ) → is_added name ≡ true → n < length all.states →
    Comes all (one_state name (Some n)) (origin.state (element.State n))
added_comes all name n added small = record {
  regions = tt;
  states = ((small, λ e. absurd (differ (sym added ∙ e))), tt);
  transitions = tt;
  effects = tt;
  stands = refl;
}
  where
    differ : true ≡ false → ⊥
    differ e = cc

pub watched_comes : (all : Contents) (name : List ℕ) (n : ℕ) → is_added name ≡ true → n < length all.transitions →
    Comes all (one_state name None) (origin.state (element.Transition n))
watched_comes all name n added small =
    record { regions = tt; states = ((added, small), tt); transitions = tt; effects = tt; stands = refl }

pub move_comes : (all : Contents) (t : Transition) (n : ℕ) → t.effects ≡ [] → n < length all.states →
    Comes all (moves (t ∷ [])) (origin.transition (element.State n) [])
move_comes all t n bare small = record {
  regions = tt;
  states = tt;
  transitions = (small, tt);
  effects = subst (λ es. Pairs (EffectFrom all) [] (es ++ [])) (sym bare) tt;
  stands = refl;
}

-- ---- simple states

pub simple_comes : (all : Contents) (fs : List Flags) (bs : List Around) (to : RegionPlaces) (ends : Ends) (final : Bool) (name : List ℕ)
    (own : List Transition) (begins : Bool) (at : ElementNumbers) → Within all fs bs to ends → Stated all name at own →
    Comes all (of_states (made.simple final name own fs to begins ∷ []) (Some at.state ∷ [])) (origin.simple final own bs ends at)
simple_comes all fs bs to ends true name own begins at h s =
    simple_holds all name begins true [] (Some at.state) (origin.state (element.State at.state)) (itself_comes all name at.state s.named)
simple_comes all fs bs to ends false name own begins at h s =
    let first : List Transition = strong_checks false to.left fs in
    let second : List Transition = map (led to) own in
    let third : List Transition = weak_checks true to.left fs in
    let mine : Origins = chosen choice.All (taken ends) own at in
    simple_holds all name begins false (first ++ second ++ third) (Some at.state)
    (beside (origin.state (element.State at.state)) (beside (origin.strong_checks bs) (beside mine (origin.weak_checks bs))))
    (both_come all (one_state name (Some at.state)) (moves (first ++ second ++ third)) (origin.state (element.State at.state))
    (beside (origin.strong_checks bs) (beside mine (origin.weak_checks bs))) (itself_comes all name at.state s.named)
    (moves_as all (first ++ second ++ third) (first ++ (second ++ third)) (beside (origin.strong_checks bs) (beside mine (origin.weak_checks bs)))
    (three first second third)
    (both_come all (moves first) (moves (second ++ third)) (origin.strong_checks bs) (beside mine (origin.weak_checks bs))
    (strong_come all false to.left fs bs h.encloses)
    (both_come all (moves second) (moves third) mine (origin.weak_checks bs) (led_come all to ends own at h.alike s.owned)
    (weak_come all true to.left fs bs h.encloses)))))

-- ---- the preparation state

once_come : (all : Contents) (b : Bool) (x n : ℕ) (f : ℕ → Effect) → n < length all.states →
    Pairs (EffectFrom all) (once b (element.State n)) (on (given b x) f)
once_come all true x n f small = (small, tt)
once_come all false x n f small = tt

resets_come : (all : Contents) (fs : List Flags) (bs : List Around) (own : List Transition) (x regions n : ℕ) → Encloses all fs bs →
    n < length all.states →
    Pairs (EffectFrom all) (origin.resets own bs (element.State n)) (made.resets (flags_of (flags.weak_around fs) own x) regions)
resets_come all fs bs own x regions n h small =
    let weak : Bool = flags.weak_around fs in
    subst
    (λ b. Pairs (EffectFrom all)
    (once (has_strong own) (element.State n) ++ once (has_weak own) (element.State n) ++ once (counts b own) (element.State n))
    (made.resets (flags_of weak own x) regions)) (weak_alike all fs bs h)
    (pairs_append (EffectFrom all) (once (has_strong own) (element.State n) ++ once (has_weak own) (element.State n))
    (once (counts weak own) (element.State n))
    (on (given (has_strong own) x) (λ y. put y 0) ++ on (given (has_weak own) (x + one (has_strong own))) (λ y. put y 0))
    (on (given (counts weak own) (x + one (has_strong own) + one (has_weak own))) (λ y. put y regions))
    (pairs_append (EffectFrom all) (once (has_strong own) (element.State n)) (once (has_weak own) (element.State n))
    (on (given (has_strong own) x) (λ y. put y 0)) (on (given (has_weak own) (x + one (has_strong own))) (λ y. put y 0))
    (once_come all (has_strong own) x n (λ y. put y 0) small)
    (once_come all (has_weak own) (x + one (has_strong own)) n (λ y. put y 0) small))
    (once_come all (counts weak own) (x + one (has_strong own) + one (has_weak own)) n (λ y. put y regions) small))

effects_of_one : (all : Contents) (t : Transition) (n : ℕ) (os : Origins) → n < length all.states →
    os ≡ origin.transition (element.State n) os.effects → Pairs (EffectFrom all) os.effects t.effects → Comes all (moves (t ∷ [])) os
effects_of_one all t n os small is h =
    subst (Comes all (moves (t ∷ []))) (sym is) (record {
      regions = tt;
      states = tt;
      transitions = (small, tt);
      effects = subst (Pairs (EffectFrom all) os.effects) (sym (append-nil t.effects)) h;
      stands = refl;
    })

pub preparation_comes : (all : Contents) (fs : List Flags) (bs : List Around) (to : RegionPlaces) (ends : Ends) (name : List ℕ) (s x regions : ℕ)
    (own : List Transition) (fork : ℕ) (begins : Bool) (at : ElementNumbers) → Within all fs bs to ends → Stated all name at own →
    Comes all
    (of_states (made.preparation s (flags_of (flags.weak_around fs) own x) regions own to fork begins ∷ []) (Some at.state ∷ []))
    (origin.preparation own bs ends at)
preparation_comes all fs bs to ends name s x regions own fork begins at h t =
    let small : at.state < length all.states = below all.states at.state name t.named in
    let f : Flags = flags_of (flags.weak_around fs) own x in
    let tested : List Transition = map (λ u. led_by to u.trigger u) (at_once (strong_aborts own)) in
    let last : Transition = go true None (made.resets f regions) fork in
    let mine : Origins = chosen choice.AtEntry (taken ends) own at in
    let end : Origins = origin.transition (element.State at.state) (origin.resets own bs (element.State at.state)) in
    simple_holds all (preparation_name s) begins false (tested ++ last ∷ []) (Some at.state)
    (beside (origin.state (element.State at.state)) (beside mine end))
    (both_come all (one_state (preparation_name s) (Some at.state)) (moves (tested ++ last ∷ [])) (origin.state (element.State at.state))
    (beside mine end) (added_comes all (preparation_name s) at.state refl small)
    (both_come all (moves tested) (moves (last ∷ [])) mine end (entry_come all to ends own at h.alike t.owned)
    (effects_of_one all last at.state end small refl (resets_come all fs bs own x regions at.state h.encloses small))))
