-- Counts: in how many ticks a condition was true, behind the one in which a state was entered and before this one. A state whose
-- triggers ask for a count tells it, as the first of its entry actions, that it is entered. One more region hands over, as a
-- tick begins, what was counted up to the tick before; and when all else is done it counts the tick, or begins anew.
use Rattle.std.specs.Prelude.{ℕ, suc, pos, ◌+◌, ◌==◌, Option, Some, None, List, [], ◌∷◌, ◌++◌, map, length, codes, true, false, if◌then◌else◌}
use Rattle.sc_values.specs.declared.value.Value.TheVariants as value
use Rattle.sc_values.specs.declared.value.Kind.TheVariants as of_kind
use Rattle.sc_values.specs.declared.expression.Expr.{Expr}
use Rattle.sc_values.specs.declared.expression.Expr.TheVariants as expr
use Rattle.sc_values.specs.declared.expression.Expr.TheOpen.{Expr-F}
use Rattle.sc_values.specs.declared.expression.Expr.TheOpen as tree
use Rattle.sc_values.specs.declared.expression.Expr.TheFolds.{fold-Expr}
use Rattle.core_charts.specs.declared.region.Effect.{Effect}
use Rattle.core_charts.specs.declared.region.Transition.{Transition}
use Rattle.extended_charts.specs.declared.extended.Declared.{Declared}
use Rattle.extended_charts.specs.declared.extended.ExtendedChart.{ExtendedChart}
use Rattle.extended_charts.specs.declared.extended.ExtendedRegion.{ExtendedRegion}
use Rattle.extended_charts.specs.declared.extended.ExtendedState.{ExtendedState}
use Rattle.extended_charts.specs.declared.extended.ExtendedRegion.TheOpen.{ExtendedState-F}
use Rattle.extended_charts.specs.declared.extended.ExtendedRegion.TheViews.{roll-ExtendedRegion, roll-ExtendedState}
use Rattle.extended_charts.specs.declared.extended.ExtendedRegion.TheFolds.{fold-ExtendedRegion, fold-ExtendedState}
use Rattle.extended_charts.specs.declared.reading.Reading.TheVariants as reading
use Rattle.extended_charts.specs.Reading.{is_count, count_variable}
use Rattle.sc_text.specs.MadeNames.{numbered}
use Rattle.extended_charts.specs.Making.{has_some, local, copy, always, made_state, passing, all_passing, region}
use Rattle.extended_charts.specs.Durings.{ways_on}
use Rattle.extended_charts.specs.Signals.{emission, reset}
use Rattle.chart_reduction.specs.Clocks.{timed_by, one_more}

-- ---- variables: three for each count. The first is what triggers read; behind it the ticks up to the end of this one, and
-- whether the state was entered in this one

abbrev pub total_of : (count : ℕ) → ℕ
total_of count = count + 1

abbrev pub entered_of : (count : ℕ) → ℕ
entered_of count = count + 2

abbrev pub next_count : (count : ℕ) → ℕ
next_count count = count + 3

-- those of count number k
abbrev pub own_variables : (k : ℕ) → List Declared
own_variables k =
    local (numbered (codes "count__") k) of_kind.Int None
    ∷ local (numbered (codes "total__") k) of_kind.Int None
    ∷ local (numbered (codes "entered__") k) of_kind.Bool None
    ∷ []

-- those of the counts from number k on
abbrev pub count_variables : (k : ℕ) → (counts : List Expr) → List Declared
count_variables k [] = []
count_variables k (condition ∷ counts) = own_variables k ++ count_variables (suc k) counts

-- ---- states that ask

abbrev pub first_of : Option ℕ → Option ℕ → Option ℕ
first_of (Some x) other = Some x
first_of None other = other

abbrev pub asked_step : (counts : ℕ) → Expr-F (Option ℕ) → Option ℕ
asked_step n (tree.Literal v) = None
asked_step n (tree.Load x) = if is_count n x then Some x else None
asked_step n (tree.Unary f a) = a
asked_step n (tree.Binary f a b) = first_of a b

-- the first count that an expression reads, where there are so many
abbrev pub asked_in : (counts : ℕ) → Expr → Option ℕ
asked_in n = fold-Expr (Option ℕ) (asked_step n)

abbrev pub asked_by : (counts : ℕ) → Option Expr → Option ℕ
asked_by n (Some trigger) = asked_in n trigger
asked_by n None = None

-- this count is told that its state is entered
abbrev pub telling : (first counts : ℕ) → Option ℕ → List Effect
telling first n (Some x) = emission (entered_of (count_variable first n x)) ∷ []
telling first n None = []

abbrev pub tellings : (first counts : ℕ) → List Transition → List Effect
tellings first n [] = []
tellings first n (t ∷ transitions) = telling first n (asked_by n t.trigger) ++ tellings first n transitions

abbrev pub state_step : (first counts : ℕ) → ExtendedState-F ExtendedRegion ExtendedState → ExtendedState
state_step first n s =
    roll-ExtendedState (record s {
      entry = tellings first n s.transitions ++ s.entry;
      during = [];
      transitions = map (timed_by (reading.Counted first n)) s.transitions;
    })

abbrev pub counted_region : (first counts : ℕ) → ExtendedRegion → ExtendedRegion
counted_region first n = fold-ExtendedRegion ExtendedRegion ExtendedState roll-ExtendedRegion (state_step first n)

abbrev pub counted_state : (first counts : ℕ) → ExtendedState → ExtendedState
counted_state first n = fold-ExtendedState ExtendedRegion ExtendedState roll-ExtendedRegion (state_step first n)

-- ---- the region that counts

-- what is done as a tick begins, for the counts whose variables begin here
abbrev pub beginnings : (count : ℕ) → (counts : List Expr) → List Effect
beginnings count [] = []
beginnings count (condition ∷ counts) =
    copy count (total_of count) ∷ reset (entered_of count) ∷ beginnings (next_count count) counts

abbrev pub none_yet : (total : ℕ) → Effect
none_yet total = record { variable = total; value = expr.Literal (value.Int (pos 0)) }

-- where the state was entered none is counted, and else this tick, where the condition is true
abbrev pub counting_ways : (count : ℕ) → (condition : Expr) → (target : ℕ) → List Transition
counting_ways count condition target =
    record (always true (none_yet (total_of count) ∷ []) target) { trigger = Some (expr.Load (entered_of count)) }
    ∷ ways_on (Some condition) (one_more (total_of count) ∷ []) target

-- the state of this place, which counts and leads to the place behind it
abbrev pub counting : (place count : ℕ) → (condition : Expr) → ExtendedState
counting place count condition =
    made_state (numbered (codes "step__") place) (place == 0) [] (counting_ways count condition (suc place))

abbrev pub all_counting : (place count : ℕ) → (counts : List Expr) → List ExtendedState
all_counting place count [] = []
all_counting place count (condition ∷ counts) =
    counting place count condition ∷ all_counting (suc place) (next_count count) counts

-- Behind so many states that hand over stand those that count, and behind these one that waits for the next tick
abbrev pub count_states : (begun : List Effect) → (first : ℕ) → (counts : List Expr) → List ExtendedState
count_states begun first counts =
    (all_passing 0 begun ++ all_counting (length begun) first counts) ++ passing false (length begun + length counts) [] 0 ∷ []

abbrev pub count_region : (first : ℕ) → (counts : List Expr) → ExtendedRegion
count_region first counts = region (codes "counts__1") (count_states (beginnings first counts) first counts)

-- ---- charts

abbrev pub counted : (first : ℕ) → ExtendedChart → ExtendedChart
counted first c =
    record c {
      counts = [];
      variables = c.variables ++ count_variables 1 c.counts;
      regions = map (counted_region first (length c.counts)) c.regions ++ count_region first c.counts ∷ [];
    }

-- the chart in which triggers read variables for the counts
abbrev pub with_counts : ExtendedChart → ExtendedChart
with_counts c = if has_some c.counts then counted (length c.variables) c else c
