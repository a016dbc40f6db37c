-- A chart without any construct is reduced to itself.
use Rattle.std.proofs.Common.{◌≡◌, ◌≤◌, List, [], ◌∷◌, ◌++◌, map, length, refl, ap, ◌∙◌, arith}
use Rattle.std.specs.Prelude.{◌==◌, codes, if◌then◌else◌}
use Rattle.std.proofs.lemmas.List.{length-map}
use Rattle.sc_graph.specs.declared.program.Variable.{Variable}
use Rattle.sc_graph.specs.Limits.{variable_limit}
use Rattle.core_charts.specs.declared.features.Features.TheVariants as features
use Rattle.core_charts.specs.Chart.{Chart}
use Rattle.core_charts.specs.Rules.{IsChart, kinds_of, depth_limit}
use Rattle.extended_charts.specs.declared.extended.ExtendedChart.{ExtendedChart}
use Rattle.extended_charts.specs.declared.extended.ExtendedRegion.{ExtendedRegion}
use Rattle.extended_charts.specs.Making.{has_some, integers}
use Rattle.extended_charts.specs.Reading.{elapsed}
use Rattle.chart_reduction.specs.Constants.{named_values, without_constants}
use Rattle.chart_reduction.specs.Registers.{with_registers}
use Rattle.extended_charts.specs.Signals.{with_signals}
use Rattle.chart_reduction.specs.Counts.{with_counts}
use Rattle.chart_reduction.specs.Clocks.{clocked, with_clocks}
use Rattle.chart_reduction.specs.Exits.{left_region, outer_regions, with_exits}
use Rattle.chart_reduction.specs.Histories.{recalling, with_histories}
use Rattle.chart_reduction.specs.Endings.{ending, with_endings}
use Rattle.extended_charts.specs.Durings.{acting_region, with_durings}
use Rattle.extended_charts.specs.Holds.{held_region, with_holds}
use Rattle.chart_reduction.specs.Initial.{framed, with_settings}
use Rattle.chart_reduction.specs.Reduction.{with_entry, chart_of, reduced}
use Rattle.chart_reduction.specs.Laws.{of_region, of_variable, of_chart}
use Rattle.chart_reduction.proofs.ByRules.{each_region}
use Rattle.chart_reduction.proofs.PlainParts.{both_same}
use Rattle.chart_reduction.proofs.PlainValues.{nothing_set, nothing_named, RegionSame, StateSame, values_stay}
use Rattle.chart_reduction.proofs.PlainClocks.{RegionUntimed, StateUntimed, no_clocks_in, nothing_timed}
use Rattle.chart_reduction.proofs.PlainExits.{RegionUnleft, StateUnleft, none_inside, outer_stay, nothing_left}
use Rattle.chart_reduction.proofs.PlainHistories.{RegionKeeps, StateKeeps, none_kept_in, nothing_recalled}
use Rattle.chart_reduction.proofs.PlainEndings.{RegionUnended, StateUnended, no_endings_in, nothing_ends}
use Rattle.chart_reduction.proofs.PlainDurings.{RegionActs, StateActs, nothing_acts}
use Rattle.chart_reduction.proofs.PlainHolds.{RegionHeld, StateHeld, nothing_held}
use Rattle.chart_reduction.proofs.PlainEntry.{RegionStands, StateStands, regions_stand, all_stand}

few_kinds : (variables : List Variable) → length variables ≤ variable_limit → length (kinds_of variables) ≤ elapsed
few_kinds variables few = let same : length (kinds_of variables) ≡ length variables = length-map variables (λ x. x.kind) in omega (arith, few, same)

variables_same : (variables : List Variable) → map (λ d. d.variable) (map of_variable variables) ≡ variables
variables_same [] = refl
variables_same (v ∷ variables) = ap (λ vs. v ∷ vs) (variables_same variables)

append_nothing : {A : Type 0} (xs : List A) → xs ++ [] ≡ xs
append_nothing [] = refl
append_nothing (x ∷ xs) = ap (λ ys. x ∷ ys) (append_nothing xs)

-- ---- pass by pass

constants_stay : (c : Chart) → IsChart features.Extended c → without_constants (of_chart c) ≡ of_chart c
constants_stay c h =
    let E : ExtendedChart = of_chart c in
    let none = nothing_named E.variables in
    let each = each_region c.variables (RegionSame (named_values E.variables [] []) none) (StateSame (named_values E.variables [] []) none)
    (values_stay (named_values E.variables [] []) none c.variables) depth_limit c.regions h.regions in
    ap (λ rs. record E { regions = rs }) (both_same _ of_region c.regions each)

clocks_stay : (c : Chart) → IsChart features.Extended c → with_clocks (of_chart c) ≡ of_chart c
clocks_stay c h =
    let few : length (kinds_of c.variables) ≤ elapsed = few_kinds c.variables h.variables.count in
    let each = each_region c.variables (RegionUntimed c.variables few) (StateUntimed c.variables few) (nothing_timed c.variables few)
    depth_limit c.regions h.regions in
    ap (λ n. if n == 0 then of_chart c else clocked n (of_chart c)) (no_clocks_in c.variables few c.regions each)

exits_stay : (c : Chart) → IsChart features.Extended c → with_exits (of_chart c) ≡ of_chart c
exits_stay c h =
    let E : ExtendedChart = of_chart c in
    let each = each_region c.variables RegionUnleft StateUnleft (nothing_left c.variables) depth_limit c.regions h.regions in
    let regions : List ExtendedRegion = outer_regions (length E.variables) (map left_region E.regions) in
    ap (λ n. record E { variables = E.variables ++ integers (codes "in__") n; regions = regions }) (none_inside c.regions each)
    ∙ ap (λ vs. record E { variables = vs; regions = regions }) (append_nothing E.variables)
    ∙ ap (λ rs. record E { regions = rs }) (outer_stay c.regions each (length E.variables))

holds_stay : (c : Chart) → IsChart features.Extended c → with_holds (of_chart c) ≡ of_chart c
holds_stay c h =
    let each = each_region c.variables RegionHeld StateHeld (nothing_held c.variables) depth_limit c.regions h.regions in
    ap (λ rs. record (of_chart c) { regions = rs }) (both_same held_region of_region c.regions each)

settings_stay : (c : Chart) → with_settings (of_chart c) ≡ of_chart c
settings_stay c = ap (λ es. record (of_chart c) { regions = framed es (map of_region c.regions) }) (nothing_set 0 c.variables)

durings_stay : (c : Chart) → IsChart features.Extended c → with_durings (of_chart c) ≡ of_chart c
durings_stay c h =
    let each = each_region c.variables RegionActs StateActs (nothing_acts c.variables) depth_limit c.regions h.regions in
    ap (λ rs. record (of_chart c) { regions = rs }) (both_same acting_region of_region c.regions each)

endings_stay : (c : Chart) → IsChart features.Extended c → with_endings (of_chart c) ≡ of_chart c
endings_stay c h =
    let each = each_region c.variables RegionUnended StateUnended (nothing_ends c.variables) depth_limit c.regions h.regions in
    ap (λ n. if n == 0 then of_chart c else ending n (of_chart c)) (no_endings_in c.regions each)

histories_stay : (c : Chart) → IsChart features.Extended c → with_histories (of_chart c) ≡ of_chart c
histories_stay c h =
    let each = each_region c.variables RegionKeeps StateKeeps (nothing_recalled c.variables) depth_limit c.regions h.regions in
    ap (λ kept. if has_some kept then recalling kept (of_chart c) else of_chart c) (none_kept_in c.regions each)

pub nothing_is_added : (c : Chart) → IsChart features.Extended c → with_entry (of_chart c) ≡ of_chart c
nothing_is_added c h =
    ap
    (λ e. with_settings (with_holds (with_exits (with_clocks (with_counts (with_durings (with_endings (with_histories (with_registers
    (with_signals e))))))))))
    (constants_stay c h)
    ∙ ap (λ e. with_settings (with_holds (with_exits (with_clocks (with_counts (with_durings (with_endings e))))))) (histories_stay c h)
    ∙ ap (λ e. with_settings (with_holds (with_exits (with_clocks (with_counts (with_durings e)))))) (endings_stay c h)
    ∙ ap (λ e. with_settings (with_holds (with_exits (with_clocks (with_counts e))))) (durings_stay c h)
    ∙ ap (λ e. with_settings (with_holds (with_exits e))) (clocks_stay c h)
    ∙ ap (λ e. with_settings (with_holds e)) (exits_stay c h)
    ∙ ap with_settings (holds_stay c h)
    ∙ settings_stay c

entry_stays : (c : Chart) → IsChart features.Extended c → chart_of (of_chart c) ≡ c
entry_stays c h =
    let each = each_region c.variables RegionStands StateStands (all_stand c.variables) depth_limit c.regions h.regions in
    ap (λ vs. record (chart_of (of_chart c)) { variables = vs }) (variables_same c.variables)
    ∙ ap (λ rs. record c { regions = rs }) (regions_stand c.regions each)

pub stays : (c : Chart) → IsChart features.Extended c → reduced (of_chart c) ≡ c
stays c h = ap chart_of (nothing_is_added c h) ∙ entry_stays c h
