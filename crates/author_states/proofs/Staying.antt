-- No pass changes the own paths of a chart.
use Rattle.std.proofs.Common.{◌≡◌, ℕ, zero, suc, ◌+◌, ◌==◌, Bool, true, false, List, [], ◌∷◌, ◌++◌, map, length, codes, refl, ap, ◌∙◌}
use Rattle.std.proofs.Common.{append-nil}
use Rattle.std.specs.Prelude.{if◌then◌else◌}
use Rattle.sc_values.specs.declared.expression.Expr.{Expr}
use Rattle.core_charts.specs.declared.region.Effect.{Effect}
use Rattle.extended_charts.specs.declared.extended.ExtendedChart.{ExtendedChart}
use Rattle.extended_charts.specs.declared.extended.ExtendedRegion.{ExtendedRegion}
use Rattle.extended_charts.specs.declared.extended.ExtendedState.{ExtendedState}
use Rattle.chart_reduction.specs.declared.entries.recalls.Kept.{Kept}
use Rattle.extended_charts.specs.declared.reading.Reading.TheVariants as reading
use Rattle.sc_text.specs.MadeNames.{numbered}
use Rattle.extended_charts.specs.Making.{all_passing, always, has_some, made_state, passing, region}
use Rattle.chart_reduction.specs.Clocks as clocks
use Rattle.chart_reduction.specs.Constants.{named_values, without_constants}
use Rattle.chart_reduction.specs.Counts as counts
use Rattle.extended_charts.specs.Durings.{with_durings}
use Rattle.chart_reduction.specs.Endings as endings
use Rattle.chart_reduction.specs.Exits.{with_exits}
use Rattle.chart_reduction.specs.Histories as histories
use Rattle.extended_charts.specs.Holds.{with_holds}
use Rattle.chart_reduction.specs.Initial as initial
use Rattle.chart_reduction.specs.Reduction.{with_entry, with_variables}
use Rattle.chart_reduction.specs.Registers as registers
use Rattle.extended_charts.specs.Signals as signals
use Rattle.author_states.specs.Own.{among, own_in_region, own_in_state, own_paths}
use Rattle.author_states.proofs.Ended.{endings_kept}
use Rattle.author_states.proofs.Folded.{constants_kept, counts_kept, durings_kept, holds_kept}
use Rattle.author_states.proofs.Left.{exits_kept}
use Rattle.author_states.proofs.Made.{all_passing_silent, made_silent, one_silent, passing_silent, silent_region}
use Rattle.author_states.proofs.Past.{histories_kept}
use Rattle.author_states.proofs.Timed.{clocks_kept}
use Rattle.author_states.proofs.Walking.{SameRegions, Silent, among_append, region_parts, silent_append, state_parts}

abbrev Stays : (ExtendedChart → ExtendedChart) → Type 0
Stays pass = (c : ExtendedChart) → SameRegions (pass c).regions c.regions

-- ---- regions that are added

signals_silent : (all : List ℕ) → Silent (passing false 0 [] 1 ∷ all_passing 1 (signals.resets all) ++ passing true (suc (length all)) [] 0 ∷ [])
signals_silent all =
    let resets : List Effect = signals.resets all in
    one_silent (passing false 0 [] 1) (all_passing 1 resets ++ passing true (suc (length all)) [] 0 ∷ []) (passing_silent false 0 [] 1)
    (silent_append (all_passing 1 resets) (passing true (suc (length all)) [] 0 ∷ []) (all_passing_silent 1 resets)
    (passing_silent true (suc (length all)) [] 0))

ring_silent : (count : ℕ) (stored handed : List Effect) → Silent (registers.ring count stored handed)
ring_silent count stored handed =
    let last : List ExtendedState = passing true (suc count + count) [] 0 ∷ [] in
    let waiting : List ExtendedState = passing false count [] (suc count) ∷ all_passing (suc count) handed in
    silent_append (all_passing 0 stored ++ waiting) last
    (silent_append (all_passing 0 stored) waiting (all_passing_silent 0 stored)
    (one_silent (passing false count [] (suc count)) (all_passing (suc count) handed) (passing_silent false count [] (suc count))
    (all_passing_silent (suc count) handed)))
    (passing_silent true (suc count + count) [] 0)

counting_silent : (place count : ℕ) (conditions : List Expr) → Silent (counts.all_counting place count conditions)
counting_silent place count [] = λ around before. refl
counting_silent place count (e ∷ conditions) =
    one_silent (counts.counting place count e) (counts.all_counting (suc place) (counts.next_count count) conditions)
    (made_silent (numbered (codes "step__") place) (place == 0) (counts.counting_ways count e (suc place)))
    (counting_silent (suc place) (counts.next_count count) conditions)

counts_silent : (begun : List Effect) (first : ℕ) (conditions : List Expr) → Silent (counts.count_states begun first conditions)
counts_silent begun first conditions =
    let counting : List ExtendedState = counts.all_counting (length begun) first conditions in
    let last : List ExtendedState = passing false (length begun + length conditions) [] 0 ∷ [] in
    silent_append (all_passing 0 begun ++ counting) last
    (silent_append (all_passing 0 begun) counting (all_passing_silent 0 begun) (counting_silent (length begun) first conditions))
    (passing_silent false (length begun + length conditions) [] 0)

-- ---- each pass

constants_stay : Stays without_constants
constants_stay c = constants_kept (reading.Values (named_values c.variables c.befores c.constants)) c.regions

where_some : {A : Type 0} (xs : List A) (c d : ExtendedChart) → SameRegions d.regions c.regions → SameRegions (if has_some xs then d else c).regions c.regions
where_some [] c d same = λ around. refl
where_some (x ∷ xs) c d same = same

signals_stay : Stays signals.with_signals
signals_stay c =
    where_some c.signals c (signals.signalled c)
    (silent_region (codes "signals__1") (passing false 0 [] 1 ∷ all_passing 1 (signals.resets c.signals) ++ passing true (suc (length c.signals)) [] 0 ∷ [])
    c.regions (signals_silent c.signals))

registers_stay : Stays registers.with_registers
registers_stay c =
    let n : ℕ = length c.variables in
    let stored : List Effect = registers.storing (n + length c.befores) c.befores in
    let handed : List Effect = registers.handing n (n + length c.befores) c.befores in
    where_some c.befores c (registers.registered c)
    (silent_region (codes "registers__1") (registers.ring (length c.befores) stored handed) c.regions (ring_silent (length c.befores) stored handed))

histories_stay : Stays histories.with_histories
histories_stay c =
    let kept : List Kept = histories.kept_in false (map histories.past_region c.regions) in
    where_some kept c (histories.recalling kept c) (histories_kept (length c.variables) c.regions)

durings_stay : Stays with_durings
durings_stay c = durings_kept c.regions

where_none : (none : Bool) (c d : ExtendedChart) → SameRegions d.regions c.regions → SameRegions (if none then c else d).regions c.regions
where_none true c d same = λ around. refl
where_none false c d same = same

endings_stay : Stays endings.with_endings
endings_stay c =
    let count : ℕ = endings.endings_in (map endings.ending_in_region c.regions) in
    where_none (count == 0) c (endings.ending count c) (endings_kept (length c.variables) c.regions)

counts_stay : Stays counts.with_counts
counts_stay c =
    let first : ℕ = length c.variables in
    let begun : List Effect = counts.beginnings first c.counts in
    let regions : List ExtendedRegion = map (counts.counted_region first (length c.counts)) c.regions in
    where_some c.counts c (counts.counted first c) (λ around.
    silent_region (codes "counts__1") (counts.count_states begun first c.counts) regions (counts_silent begun first c.counts) around
    ∙ counts_kept first (length c.counts) c.regions around)

clocks_stay : Stays clocks.with_clocks
clocks_stay c =
    let now : ℕ = length c.variables in
    let count : ℕ = clocks.clocks_in (map clocks.timed_region c.regions) in
    let regions : List ExtendedRegion = clocks.all_regions now (suc now) (map clocks.timed_region c.regions) in
    let tick : ExtendedState = made_state (codes "tick__1") true [] (always false (clocks.one_more now ∷ []) 0 ∷ []) in
    where_none (count == 0) c (clocks.clocked count c) (λ around.
    silent_region (codes "clock__1") (tick ∷ []) regions (made_silent (codes "tick__1") true (always false (clocks.one_more now ∷ []) 0 ∷ [])) around
    ∙ clocks_kept now (suc now) c.regions around)

exits_stay : Stays with_exits
exits_stay c = exits_kept (length c.variables) c.regions

holds_stay : Stays with_holds
holds_stay c = holds_kept c.regions

framed_same : (effects : List Effect) (regions : List ExtendedRegion) → SameRegions (initial.framed effects regions) regions
framed_same [] regions around = refl
framed_same (e ∷ effects) regions around =
    let all : List ExtendedState = all_passing 0 (e ∷ effects) in
    let whole : ExtendedState = made_state (codes "whole__1") false regions [] in
    let before : List ℕ = (around ++ codes "whole__1") ++ codes "." in
    append-nil (own_in_region (region (codes "whole__1") (all ++ whole ∷ [])) around)
    ∙ region_parts (record { name = codes "whole__1"; states = all ++ whole ∷ [] }) around
    ∙ among_append all (whole ∷ []) around before
    ∙ ap (λ ps. ps ++ among (map own_in_state (whole ∷ [])) around before) (all_passing_silent 0 (e ∷ effects) around before)
    ∙ append-nil (own_in_state whole around before)
    ∙ state_parts (record {
      name = codes "whole__1";
      is_own = false;
      is_initial = false;
      is_final = false;
      entry = [];
      exit = [];
      during = [];
      regions = regions;
      transitions = [];
    }) around before

settings_stay : Stays initial.with_settings
settings_stay c = framed_same (initial.settings 0 c.variables) c.regions

-- ---- all of them

variables_stay : Stays with_variables
variables_stay c around =
    registers_stay (signals.with_signals (without_constants c)) around
    ∙ signals_stay (without_constants c) around
    ∙ constants_stay c around

all_stay : Stays with_entry
all_stay c around =
    let a : ExtendedChart = with_variables c in
    let b : ExtendedChart = histories.with_histories a in
    let i : ExtendedChart = endings.with_endings b in
    let d : ExtendedChart = with_durings i in
    let e : ExtendedChart = counts.with_counts d in
    let f : ExtendedChart = clocks.with_clocks e in
    let g : ExtendedChart = with_exits f in
    let h : ExtendedChart = with_holds g in
    settings_stay h around ∙ holds_stay g around ∙ exits_stay f around ∙ clocks_stay e around ∙ counts_stay d around ∙ durings_stay i around
    ∙ endings_stay b around ∙ histories_stay a around ∙ variables_stay c around

pub authors_stay : (c : ExtendedChart) → own_paths (with_entry c).regions ≡ own_paths c.regions
authors_stay c = all_stay c []
