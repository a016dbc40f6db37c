-- For each element of the core chart of a chart the element of the chart from which it comes: a fold beside the
-- expansion, sentence by sentence. What a transition of the text becomes comes from it, and what looks for an abort from
-- the first one of its sort; the states that a superstate becomes come from it, a monitor from the first abort, and an
-- abandoned state from its region.
use Rattle.std.specs.Prelude.{ℕ, suc, Bool, true, false, ◌||◌, ◌&&◌, Option, Some, None, List, [], ◌∷◌, ◌++◌, map, slice_get, unwrap_or, if◌then◌else◌}
use Rattle.std.specs.List.{list_any}
use Rattle.core_charts.specs.declared.region.Transition.{Transition}
use Rattle.core_charts.specs.declared.region.TransitionKind.{TransitionKind}
use Rattle.core_charts.specs.declared.region.Region.{Region}
use Rattle.core_charts.specs.declared.region.State.{State}
use Rattle.core_charts.specs.declared.region.Region.TheOpen.{Region-F, State-F}
use Rattle.core_charts.specs.declared.region.Region.TheFolds.{fold-Region, fold-State}
use Rattle.core_charts.specs.Chart.{Chart}
use Rattle.core_charts.specs.Tests.{is_strong, is_weak, is_join}
use Rattle.core_charts.specs.Aborts.{has_strong, has_weak, has_aborts}
use Rattle.core_charts.specs.declared.elements.element.Element.{Element}
use Rattle.core_charts.specs.declared.elements.element.Element.TheVariants as element
use Rattle.core_charts.specs.declared.elements.numbers.ElementNumbers.{ElementNumbers}
use Rattle.core_charts.specs.Numbers.{behind_all, behind_transition, effects, first, within_region, within_state}
use Rattle.abort_expansion.specs.Flags.{counts, is_there}
use Rattle.node_elements.specs.declared.expansion.origins.Origins.{Origins}
use Rattle.node_elements.specs.declared.expansion.around.Around.{Around}
use Rattle.node_elements.specs.declared.expansion.around.Sort.{Sort}
use Rattle.node_elements.specs.declared.expansion.around.Sort.TheVariants as sort
use Rattle.node_elements.specs.declared.expansion.transitions.Choice.{Choice}
use Rattle.node_elements.specs.declared.expansion.transitions.Choice.TheVariants as choice
use Rattle.node_elements.specs.declared.expansion.transitions.Ends.{Ends}

-- ---- rows of origins, one sort beside the other

abbrev pub nothing : Origins
nothing = record { regions = []; states = []; transitions = []; effects = [] }

abbrev pub beside : Origins → Origins → Origins
beside a b =
    record {
      regions = a.regions ++ b.regions;
      states = a.states ++ b.states;
      transitions = a.transitions ++ b.transitions;
      effects = a.effects ++ b.effects;
    }

abbrev pub region : Element → Origins
region from = record { regions = from ∷ []; states = []; transitions = []; effects = [] }

abbrev pub state : Element → Origins
state from = record { regions = []; states = from ∷ []; transitions = []; effects = [] }

-- a transition with its effects
abbrev pub transition : Element → List Element → Origins
transition from effects = record { regions = []; states = []; transitions = from ∷ []; effects = effects }

-- ---- aborts and terminations

abbrev pub is_of : Sort → TransitionKind → Bool
is_of sort.Strong k = is_strong k
is_of sort.Weak k = is_weak k
is_of sort.Join k = is_join k

-- the number of the first transition of a sort, where they are numbered from n on
abbrev pub first_of : Sort → List Transition → (n : ℕ) → Option ℕ
first_of s [] n = None
first_of s (t ∷ own) n = if is_of s t.kind then Some n else first_of s own (suc n)

-- what encloses what is inside a superstate with these transitions: its first strong and its first weak abort
abbrev pub around_of : List Transition → (n : ℕ) → Around
around_of own n = record { strong = first_of sort.Strong own n; weak = first_of sort.Weak own n }

abbrev pub aborts_around : List Around → Bool
aborts_around around = list_any (λ a. is_there a.strong || is_there a.weak) around

abbrev pub weak_around : List Around → Bool
weak_around around = list_any (λ a. is_there a.weak) around

-- ---- transitions

abbrev pub check : Option ℕ → Origins
check (Some n) = transition (element.Transition n) []
check None = nothing

abbrev pub strong_checks : List Around → Origins
strong_checks [] = nothing
strong_checks (a ∷ around) = beside (check a.strong) (strong_checks around)

abbrev pub weak_checks : List Around → Origins
weak_checks [] = nothing
weak_checks (a ∷ around) = beside (check a.weak) (weak_checks around)

-- a transition to a final state counts down, where regions are counted
abbrev pub counted : Ends → (target : ℕ) → Element → List Element
counted to target from = if to.counts && unwrap_or (slice_get to.finals target) false then from ∷ [] else []

-- what does as a transition of the text does
abbrev pub taken : Ends → Transition → ElementNumbers → Origins
taken to t at =
    transition (element.Transition at.transition)
    (effects t.effects at.effect ++ counted to t.target (element.Transition at.transition))

-- what raises the flag of an abort
abbrev pub raised : ElementNumbers → Origins
raised at = transition (element.Transition at.transition) (element.Transition at.transition ∷ [])

abbrev pub is_chosen : Choice → Transition → Bool
is_chosen choice.All t = true
is_chosen choice.AtEntry t = is_strong t.kind && t.immediate
is_chosen (choice.Of s) t = is_of s t.kind

-- what is made of the chosen ones
abbrev pub chosen : Choice → (Transition → ElementNumbers → Origins) → List Transition → ElementNumbers → Origins
chosen c made [] at = nothing
chosen c made (t ∷ own) at =
    beside (if is_chosen c t then made t at else nothing) (chosen c made own (behind_transition t at))

-- ---- simple states

abbrev pub simple_transitions : List Transition → List Around → Ends → ElementNumbers → Origins
simple_transitions own around to at =
    beside (strong_checks around) (beside (chosen choice.All (taken to) own at) (weak_checks around))

abbrev pub simple : Bool → List Transition → List Around → Ends → ElementNumbers → Origins
simple true own around to at = state (element.State at.state)
simple false own around to at = beside (state (element.State at.state)) (simple_transitions own around to at)

-- ---- superstates

-- as many as there are such variables
abbrev pub once : Bool → Element → List Element
once true from = from ∷ []
once false from = []

-- the flags and the counter as they are where a superstate is entered
abbrev pub resets : List Transition → List Around → Element → List Element
resets own around from =
    once (has_strong own) from ++ once (has_weak own) from ++ once (counts (weak_around around) own) from

-- the preparation state: the aborts at entry, and the transition that sets the flags and the counter
abbrev pub preparation : List Transition → List Around → Ends → ElementNumbers → Origins
preparation own around to at =
    beside (state (element.State at.state))
    (beside (chosen choice.AtEntry (taken to) own at)
    (transition (element.State at.state) (resets own around (element.State at.state))))

-- the first abort of both sorts, strong ones before weak ones
abbrev pub first_abort : Around → Option ℕ
first_abort a = if is_there a.strong then a.strong else a.weak

-- in the monitor, of which all transitions lead to its end
abbrev pub monitor_transitions : List Transition → List Around → ElementNumbers → Origins
monitor_transitions own around at =
    beside (strong_checks around)
    (beside (chosen (choice.Of sort.Strong) (λ t. raised) own at)
    (beside (chosen (choice.Of sort.Weak) (λ t. raised) own at)
    (beside (check (first_of sort.Join own at.transition)) (weak_checks around))))

-- the monitor, where there is an abort: a region of two states
abbrev pub monitor : Option ℕ → List Transition → List Around → ElementNumbers → Origins
monitor None own around at = nothing
monitor (Some n) own around at =
    beside (region (element.Transition n))
    (beside (state (element.Transition n))
    (beside (monitor_transitions own around at) (state (element.Transition n))))

-- what the continuation state does where no flag is raised: by the termination, and where weak aborts enclose the
-- superstate it is left
abbrev pub closing : List Transition → List Around → Ends → ElementNumbers → Origins
closing [] around to at = weak_checks around
closing (t ∷ own) around to at =
    if is_join t.kind
    then beside (taken to t at) (if weak_around around then transition (element.State at.state) [] else nothing)
    else closing own around to (behind_transition t at)

abbrev pub continuation : List Transition → List Around → Ends → ElementNumbers → Origins
continuation own around to at =
    beside (state (element.State at.state))
    (beside (strong_checks around)
    (beside (chosen (choice.Of sort.Strong) (taken to) own at)
    (beside (chosen (choice.Of sort.Weak) (taken to) own at)
    (closing own around to at))))

-- the fork, with what is inside it and the monitor
abbrev pub fork : List Transition → List Around → Origins → ElementNumbers → Origins
fork own around inside at =
    beside (state (element.State at.state))
    (beside (transition (element.State at.state) [])
    (beside inside (monitor (first_abort (around_of own at.transition)) own around at)))

abbrev pub forked : List Transition → List Around → Ends → Origins → ElementNumbers → Origins
forked own around to inside at = beside (fork own around inside at) (continuation own around to at)

abbrev pub as_it_is : List Transition → Ends → Origins → ElementNumbers → Origins
as_it_is own to inside at =
    beside (state (element.State at.state)) (beside (chosen choice.All (taken to) own at) inside)

abbrev pub split : List Transition → List Around → Ends → Origins → ElementNumbers → Origins
split own around to inside at =
    beside (if has_aborts own || counts (weak_around around) own then preparation own around to at else nothing)
    (forked own around to inside at)

-- a superstate with these transitions, over what is inside it
abbrev pub superstate_over : List Transition → List Around → Ends → Origins → ElementNumbers → Origins
superstate_over own around to inside at =
    if has_aborts own || aborts_around around then split own around to inside at else as_it_is own to inside at

-- ---- regions and states with all that is in them

-- the numbers that come next behind it, and what becomes of it: of a region by what encloses it and whether it is counted
pub record RegionPiece : Type 0 where
  pub behind : ElementNumbers → ElementNumbers
  pub origins : (around : List Around) → (counts : Bool) → ElementNumbers → Origins

pub record StatePiece : Type 0 where
  pub is_initial : Bool
  pub is_final : Bool
  pub behind : ElementNumbers → ElementNumbers
  pub origins : (around : List Around) → Ends → ElementNumbers → Origins

abbrev pub behind_regions : List RegionPiece → ElementNumbers → ElementNumbers
behind_regions regions at = behind_all (map (λ r. r.behind) regions) at

abbrev pub all_regions : List RegionPiece → List Around → Bool → ElementNumbers → Origins
all_regions [] around counted at = nothing
all_regions (r ∷ regions) around counted at =
    beside (r.origins around counted at) (all_regions regions around counted (r.behind at))

abbrev pub superstate : List RegionPiece → List Transition → List Around → Ends → ElementNumbers → Origins
superstate regions own around to at =
    superstate_over own around to
    (all_regions regions (around ++ around_of own at.transition ∷ []) (counts (weak_around around) own)
    (within_state own at)) at

abbrev pub state_origins : Bool → List RegionPiece → List Transition → List Around → Ends → ElementNumbers → Origins
state_origins is_final [] own = simple is_final own
state_origins is_final (r ∷ regions) own = superstate (r ∷ regions) own

abbrev pub state_piece : State-F RegionPiece StatePiece → StatePiece
state_piece s =
    record {
      is_initial = s.is_initial;
      is_final = s.is_final;
      behind = λ at. behind_regions s.regions (within_state s.transitions at);
      origins = state_origins s.is_final s.regions s.transitions;
    }

abbrev pub behind_states : List StatePiece → ElementNumbers → ElementNumbers
behind_states states at = behind_all (map (λ s. s.behind) states) at

abbrev pub all_states : List StatePiece → List Around → Ends → ElementNumbers → Origins
all_states [] around to at = nothing
all_states (s ∷ states) around to at = beside (s.origins around to at) (all_states states around to (s.behind at))

-- whether the initial state is final, in a superstate that counts
abbrev pub begins_anew : Bool → List StatePiece → Bool
begins_anew counts states = counts && list_any (λ s. s.is_initial && s.is_final) states

abbrev pub initial_number : List StatePiece → ElementNumbers → ℕ
initial_number [] at = at.state
initial_number (s ∷ states) at = if s.is_initial then at.state else initial_number states (s.behind at)

-- the new initial state, which counts down
abbrev pub new_initial : Bool → Element → Origins
new_initial true from = beside (state from) (transition from (from ∷ []))
new_initial false from = nothing

abbrev pub left_behind : Bool → Element → Origins
left_behind true from = state from
left_behind false from = nothing

-- how a region of these states ends
abbrev pub ends_of : List StatePiece → Bool → Ends
ends_of states counts = record { finals = map (λ s. s.is_final) states; counts = counts }

-- all states of a region, which is this element
abbrev pub inside_region : List StatePiece → List Around → Bool → (region : Element) → ElementNumbers → Origins
inside_region states around counts region at =
    beside (new_initial (begins_anew counts states) (element.State (initial_number states at)))
    (beside (all_states states around (ends_of states counts) at)
    (left_behind (aborts_around around) region))

-- a region of these states
abbrev pub region_over : List StatePiece → List Around → Bool → ElementNumbers → Origins
region_over states around counts at =
    beside (region (element.Region at.region))
    (inside_region states around counts (element.Region at.region) (within_region at))

abbrev pub region_piece : Region-F RegionPiece StatePiece → RegionPiece
region_piece r =
    record {
      behind = λ at. behind_states r.states (within_region at);
      origins = region_over r.states;
    }

abbrev pub piece_of_region : Region → RegionPiece
piece_of_region = fold-Region RegionPiece StatePiece region_piece state_piece

abbrev pub piece_of_state : State → StatePiece
piece_of_state = fold-State RegionPiece StatePiece region_piece state_piece

abbrev pub expansion_origins : Chart → Origins
expansion_origins c = all_regions (map piece_of_region c.regions) [] false first
