-- The warnings of a chart, in the order of the text: of its variables, then of its regions; of a state those that speak
-- of the state itself, of what is inside it, and of its transitions.
use Rattle.std.specs.Prelude.{ℕ, zero, suc, Bool, true, false, not, ◌&&◌, ◌||◌, nat_eq, nat_lt, Option, Some, None, List, [], ◌∷◌, ◌++◌}
use Rattle.std.specs.Prelude.{map, length, slice_get, if◌then◌else◌}
use Rattle.std.specs.List.{list_any, filter}
use Rattle.sc_values.specs.declared.expression.Expr.{Expr}
use Rattle.sc_graph.specs.declared.program.Variable.{Variable}
use Rattle.sc_graph.specs.declared.program.Role.{Role}
use Rattle.sc_graph.specs.declared.program.Role.TheVariants as role
use Rattle.core_charts.specs.declared.region.Transition.{Transition}
use Rattle.core_charts.specs.declared.region.TransitionKind.{TransitionKind}
use Rattle.core_charts.specs.declared.region.TransitionKind.TheVariants as kind
use Rattle.core_charts.specs.declared.region.Region.{Region}
use Rattle.core_charts.specs.declared.region.State.{State}
use Rattle.core_charts.specs.declared.region.Region.TheViews.{out-Region, out-State}
use Rattle.core_charts.specs.Chart.{Chart}
use Rattle.core_charts.specs.Rules.{depth_limit}
use Rattle.core_charts.specs.Tests.{is_join}
use Rattle.chart_warnings.specs.declared.warning.Warning.{Warning}
use Rattle.chart_warnings.specs.declared.warning.Warning.TheVariants as warning
use Rattle.chart_warnings.specs.declared.telling.Told.{Told}
use Rattle.chart_warnings.specs.Names.{asked_by, set_by, switched_by, counted_by, is_named, within, entry_of_state}

abbrev pub told_where : Bool → Warning → List Warning
told_where true w = w ∷ []
told_where false w = []

-- ---- W04, W05, W06: variables

-- of one that is asked for or not, and set or not
abbrev pub of_role : Role → (asked is_set : Bool) → ℕ → List Warning
of_role role.Input asked is_set x = told_where (not asked) (warning.NeverAsked x)
of_role role.Output asked is_set x = told_where (not is_set) (warning.NeverSet x)
of_role role.Local asked is_set x =
    told_where (not asked) (warning.NeverRead x) ++ told_where (not is_set) (warning.NeverSet x)

-- of these variables, the first of which has this number, where these are the chart's transitions
abbrev pub of_variables : List Transition → ℕ → List Variable → List Warning
of_variables all x [] = []
of_variables all x (v ∷ others) =
    of_role v.role (is_named asked_by all x) (is_named set_by all x) x ++ of_variables all (suc x) others

-- ---- W03, W08: states of a region

-- the targets of these transitions, of the state at this place, but for itself
abbrev pub targets_besides : ℕ → List Transition → List ℕ
targets_besides at transitions = filter (λ i. not (nat_eq at i)) (map (λ t. t.target) transitions)

abbrev pub left_for : ℕ → State → List ℕ
left_for at s = targets_besides at (out-State s).transitions

-- the places to which a transition of another state leads, of these states, the first of which has this place
abbrev pub led_to : ℕ → List State → List ℕ
led_to at [] = []
led_to at (s ∷ others) = left_for at s ++ led_to (suc at) others

abbrev pub is_none : List ℕ → Bool
is_none [] = true
is_none (x ∷ others) = false

-- of the state at this place among these, which has this number
abbrev pub of_state : List State → (at n : ℕ) → State → List Warning
of_state states at n s =
    told_where (not (out-State s).is_initial && not (list_any (nat_eq at) (led_to 0 states))) (warning.Unreached n)
    ++ told_where ((out-State s).is_initial && nat_lt 1 (length states) && is_none (left_for at s)) (warning.NeverLeft n)

-- ---- W02: transitions

-- in which order transitions of one state are tested, before that of the text: strong aborts, weak ones, the termination
abbrev pub turn : TransitionKind → ℕ
turn kind.Go = 0
turn kind.Strong = 0
turn kind.Weak = 1
turn kind.Join = 2

-- whether it is tested in the tick of entry too
abbrev pub is_first : Transition → Bool
is_first t = t.immediate || is_join t.kind

abbrev pub is_always : Option Expr → Bool
is_always None = true
is_always (Some trigger) = false

-- whether it is taken as soon as it is tested
abbrev pub is_sure : Transition → Bool
is_sure t = not (is_join t.kind) && is_always t.trigger

-- whether the first, at this place, is tested before the second, where both are
abbrev pub goes_before : ℕ → Transition → ℕ → Transition → Bool
goes_before j u i t = nat_lt (turn u.kind) (turn t.kind) || (nat_eq (turn u.kind) (turn t.kind) && nat_lt j i)

-- whether the second is never taken since the first is: it is tested later in each tick, or only in ticks that the first
-- does not let come
abbrev pub forestalls : ℕ → Transition → ℕ → Transition → Bool
forestalls j u i t = is_sure u && (if u.immediate then goes_before j u i t || not (is_first t) else goes_before j u i t && not (is_first t))

-- whether one of these, the first of which has place j, forestalls this one
abbrev pub is_forestalled : ℕ → List Transition → ℕ → Transition → Bool
is_forestalled j [] i t = false
is_forestalled j (u ∷ others) i t = forestalls j u i t || is_forestalled (suc j) others i t

-- ---- W07: terminations

abbrev pub ends : Region → Bool
ends r = list_any (λ s. (out-State s).is_final) (out-Region r).states

-- of these regions of state n, the first of which has place j, where k is the place of the termination
abbrev pub of_regions : (n k j : ℕ) → List Region → List Warning
of_regions n k j [] = []
of_regions n k j (r ∷ others) = told_where (not (ends r)) (warning.NeverEnded n k j) ++ of_regions n k (suc j) others

-- ---- W01: aborts

abbrev pub is_output : Role → Bool
is_output role.Output = true
is_output other = false

-- whether a variable stays as the inside has set it: the inside sets it to something else than `false` or 0, and never
-- computes it from its own value, and nothing that comes with the abort sets it
abbrev pub stays_on : (inside after : List Transition) → ℕ → Bool
stays_on inside after x = is_named switched_by inside x && not (is_named counted_by inside x) && not (is_named set_by after x)

-- of these variables, the first of which has number x
abbrev pub of_outputs : (inside after : List Transition) → (n k x : ℕ) → List Variable → List Warning
of_outputs inside after n k x [] = []
of_outputs inside after n k x (v ∷ others) =
    told_where (is_output v.role && stays_on inside after x) (warning.StaysOn n k x) ++ of_outputs inside after n k (suc x) others

-- those of a state's transitions whose turn this is in the tick in which it is entered
abbrev pub of_turn : ℕ → List Transition → List Transition
of_turn n transitions = filter (λ t. t.immediate && nat_eq (turn t.kind) n) transitions

-- in the order in which they are tested then; a termination, which comes last, does not leave the state whatever holds
abbrev pub tested_at_once : List Transition → List Transition
tested_at_once transitions = of_turn 0 transitions ++ of_turn 1 transitions

-- where transitions lead that are tested in this order, whatever holds then, where those before lead there too: one has no trigger,
-- and all before it lead there
abbrev pub agrees : Option ℕ → ℕ → Bool
agrees None target = true
agrees (Some other) target = nat_eq other target

abbrev pub led_at_once : (before : Option ℕ) → List Transition → Option ℕ
led_at_once before [] = None
led_at_once before (t ∷ others) =
    if agrees before t.target then (if is_always t.trigger then Some t.target else led_at_once (Some t.target) others) else None

abbrev pub left_at_once : Option State → Option ℕ
left_at_once None = None
left_at_once (Some s) = led_at_once None (tested_at_once (out-State s).transitions)

-- the immediate transitions of a state, and of what is entered with it
abbrev pub entry_at : Option State → List Transition
entry_at None = []
entry_at (Some s) = (entry_of_state s).transitions

abbrev pub at_place : List State → Option ℕ → Option State
at_place states None = None
at_place states (Some i) = slice_get states i

-- those of the state at this place, and of so many at most to which it leads at once, one behind the other
abbrev pub on_the_way : (steps : ℕ) → List State → Option ℕ → List Transition
on_the_way zero states place = []
on_the_way (suc steps) states place =
    entry_at (at_place states place) ++ on_the_way steps states (left_at_once (at_place states place))

-- what comes with a transition: its effects, and the immediate transitions of what is entered on its way
abbrev pub comes_with : List State → Transition → List Transition
comes_with states t = t ∷ on_the_way (length states) states (Some t.target)

-- ---- of a state's transitions

-- by the kind of that at place k
abbrev pub of_kind : TransitionKind → List Variable → List State → (n k : ℕ) → State → Transition → List Warning
of_kind kind.Go variables states n k s t = []
of_kind kind.Join variables states n k s t = of_regions n k 0 (out-State s).regions
of_kind other variables states n k s t =
    of_outputs (within (out-State s).regions) (comes_with states t) n k 0 variables

-- of these transitions of state n, the first of which has place k
abbrev pub of_transitions : List Variable → List State → (n k : ℕ) → State → List Transition → List Warning
of_transitions variables states n k s [] = []
of_transitions variables states n k s (t ∷ others) =
    (of_kind t.kind variables states n k s t
    ++ told_where (is_forestalled 0 (out-State s).transitions k t) (warning.Forestalled n k))
    ++ of_transitions variables states n (suc k) s others

-- ---- the walk over the text

abbrev pub tell : List Warning → Told → Told
tell more told = record told { warnings = told.warnings ++ more }

-- the next state has been met
abbrev pub count : Told → Told
count told = record told { states = suc told.states }

-- a state, over what its inside tells
abbrev pub told_state : (List Region → Told → Told) → List Variable → List State → ℕ → State → Told → Told
told_state inside variables states at s told =
    tell (of_transitions variables states told.states 0 s (out-State s).transitions)
    (inside (out-State s).regions (count (tell (of_state states at told.states s) told)))

-- these states of a region, the first of which has this place
abbrev pub told_states : (List Region → Told → Told) → List Variable → List State → ℕ → List State → Told → Told
told_states inside variables states at [] told = told
told_states inside variables states at (s ∷ others) told =
    told_states inside variables states (suc at) others (told_state inside variables states at s told)

abbrev pub told_in_order : (List Region → Told → Told) → List Variable → List Region → Told → Told
told_in_order inside variables [] told = told
told_in_order inside variables (r ∷ others) told =
    told_in_order inside variables others (told_states inside variables (out-Region r).states 0 (out-Region r).states told)

-- regions that nest this many levels deep at most
abbrev pub told_regions : List Variable → ℕ → List Region → Told → Told
told_regions variables zero regions told = told
told_regions variables (suc levels) regions told = told_in_order (told_regions variables levels) variables regions told

abbrev pub warnings_of : Chart → List Warning
warnings_of c =
    (told_regions c.variables depth_limit c.regions
    (record { states = 0; warnings = of_variables (within c.regions) 0 c.variables })).warnings
