-- No superstate of a core chart has too many regions, by the rules of core charts.
use Rattle.std.proofs.Common.{◌≡◌, ℕ, zero, suc, ◌≤◌, max, Some, List, [], ◌∷◌, map, length, slice_get, refl, sym, ap, subst, arith}
use Rattle.sc_graph.specs.declared.program.Variable.{Variable}
use Rattle.core_charts.specs.declared.features.Features.TheVariants as features
use Rattle.core_charts.specs.declared.region.Region.{Region}
use Rattle.core_charts.specs.declared.region.State.{State}
use Rattle.core_charts.specs.declared.region.Region.TheViews.{out-Region, out-State}
use Rattle.core_charts.specs.declared.region.Region.TheFolds.{fold-Region, fold-State, fold_out-Region, fold_out-State}
use Rattle.core_charts.specs.Chart.{Chart}
use Rattle.core_charts.specs.Rules.{IsRegion, AreRegions, IsChart}
use Rattle.abort_expansion.specs.Expansion.{expanded, IsExpandable}
use Rattle.abort_expansion.specs.Limits.{greatest, most_in_region, most_in_state, KeepsLimits}
use Rattle.abort_expansion.proofs.Whole.{AreFew, core_chart}

abbrev most_of_region : Region → ℕ
most_of_region = fold-Region ℕ ℕ most_in_region most_in_state

abbrev most_of_state : State → ℕ
most_of_state = fold-State ℕ ℕ most_in_region most_in_state

both_within : (m n limit : ℕ) → m ≤ limit → n ≤ limit → max m n ≤ limit
both_within m n limit h k = grind (arith, h, k)

greatest_within : {A : Type 0} (f : A → ℕ) (limit : ℕ) (xs : List A) → ((i : ℕ) (x : A) → slice_get xs i ≡ Some x → f x ≤ limit)
    → greatest (map f xs) ≤ limit
greatest_within f limit [] h = omega arith
greatest_within f limit (x ∷ xs) h =
    both_within (f x) (greatest (map f xs)) limit (h 0 x refl) (greatest_within f limit xs (λ i y at. h (suc i) y at))

as_many : (f : Region → ℕ) (regions : List Region) → length (map f regions) ≡ length regions
as_many f [] = refl
as_many f (r ∷ regions) = ap suc (as_many f regions)

few_regions : (variables : List Variable) (levels : ℕ) (regions : List Region) → AreRegions features.Core variables levels regions
    → (length regions ≤ 64) × (greatest (map most_of_region regions) ≤ 64)
few_regions variables zero regions rules =
    subst (λ those. (length those ≤ 64) × (greatest (map most_of_region those) ≤ 64)) (sym rules) (omega arith, omega arith)
few_regions variables (suc levels) regions rules = (
  rules.count,
  greatest_within most_of_region 64 regions
      (λ i r at.
      let region : IsRegion features.Core variables (AreRegions features.Core variables levels) r = rules.each i r at in
      subst (λ n. n ≤ 64) (sym (fold_out-Region ℕ ℕ most_in_region most_in_state r))
      (greatest_within most_of_state 64 (out-Region r).states
      (λ j s is.
      let inner : (length (out-State s).regions ≤ 64) × (greatest (map most_of_region (out-State s).regions) ≤ 64) =
      few_regions variables levels (out-State s).regions (region.states j s is).regions in
      subst (λ n. n ≤ 64) (sym (fold_out-State ℕ ℕ most_in_region most_in_state s))
      (both_within (length (map most_of_region (out-State s).regions)) (greatest (map most_of_region (out-State s).regions)) 64
      (subst (λ n. n ≤ 64) (sym (as_many most_of_region (out-State s).regions)) inner.0) inner.1)))),
)

pub keeps_limits : (c : Chart) → IsChart features.Extended c → AreFew c → IsExpandable c → KeepsLimits c
keeps_limits c h few fits =
    let all : (length (expanded c).regions ≤ 64) × (greatest (map most_of_region (expanded c).regions) ≤ 64) =
    few_regions (expanded c).variables 32 (expanded c).regions (core_chart c h few fits).regions in
    record {
      variables = fits;
      regions = both_within (length (expanded c).regions) (greatest (map most_of_region (expanded c).regions)) 64 all.0 all.1;
    }
