-- Between two ticks the chart is entered exactly where its first thread is not away.
use Rattle.std.proofs.Common.{◌≡◌, ◌≢◌, ℕ, zero, suc, ◌<◌, ◌⊎◌, ⊎_elim, Bool, true, false, ◌&&◌, if◌then◌else◌, List, [], ◌∷◌, length}
use Rattle.std.proofs.Common.{refl, sym, ap, subst, ◌∙◌, arith}
use Rattle.std.specs.List.{list_all}
use Rattle.chart_machine.specs.declared.standing.Standing.TheVariants as stand
use Rattle.chart_machine.specs.declared.standing.Configuration.{Configuration}
use Rattle.chart_machine.specs.declared.table.Table.{Table}
use Rattle.chart_machine.specs.Table.{state_at, region_at}
use Rattle.chart_machine.specs.Turns.{standing_of}
use Rattle.chart_machine.specs.Machine.{is_outside}
use Rattle.scl.specs.Numbering.{Numbered}
use Rattle.scl.specs.Meaning.{State, Away, doing}
use Rattle.chart_lowering_laws.specs.Layout.{Layout, IsRegionOf, Lowers}
use Rattle.chart_lowering_laws.specs.Corresponds.{Live, Giving, Nothing, Ready, Turn, Past, giving_of_root, given, fresh, first_standing}
use Rattle.chart_lowering_laws.specs.Corresponds.{Fits, Corresponds}
use Rattle.chart_lowering_laws.specs.Keeps.{AtRest}
use Rattle.chart_lowering_laws.proofs.Matching.{is_within}
use Rattle.chart_lowering_laws.proofs.Structure.{given_top, given_in, giving_closed}
use Rattle.chart_lowering_laws.proofs.Woken.{not_live, all_outside, outside_all, root_away}

module _ (k : Table) (p : Numbered) (l : Layout) (low : Lowers k p l) (c : Configuration) (s : State) (rest : AtRest k p l c s) where
  abbrev corr : Corresponds k p l c s
  corr = rest.corresponds

  pub fits_as : (q : ℕ) (g : Giving) → IsRegionOf k q → given k c s (region_at k q).around ≡ g → Fits k p.root l q g (standing_of c q) (doing s q)
  fits_as q g there is = subst (λ g. Fits k p.root l q g (standing_of c q) (doing s q)) is (corr.each q there)

  pub fresh_enters : (r : ℕ) → IsRegionOf k r → is_outside (fresh k l r) ≡ false
  fresh_enters r there =
      ⊎_elim
      (λ h. ap (λ moves. is_outside (first_standing moves)) h.entered)
      (⊎_elim (λ h. ap (λ moves. is_outside (first_standing moves)) h.entered) (λ h. ap (λ moves. is_outside (first_standing moves)) h.entered))
      (low.states (l.initial r) (low.tree.initials r there).there)

  -- where no region is entered, the chart's are given nothing
  pub outside_nothing : (q : ℕ) → IsRegionOf k q → standing_of c q ≡ stand.Outside → given k c s (region_at k q).around ≡ Nothing
  outside_nothing q there out = by (given k c s (region_at k q).around) refl (corr.each q there)
    where
      by : (g : Giving) → given k c s (region_at k q).around ≡ g → Fits k p.root l q g (standing_of c q) (doing s q) →
          given k c s (region_at k q).around ≡ Nothing
      by Nothing is fits = is
      by Ready is fits = let h : is_outside (fresh k l q) ≡ true = ap is_outside (sym fits.0 ∙ out) in let i : is_outside (fresh k l q) ≡ false =
          fresh_enters q there in absurd (cc)
      by Turn is fits = absurd (not_live k p.root l q (doing s q) (subst (λ x. Live k p.root l q x (doing s q)) out fits.0))
      by Past is fits = let h : stand.Outside ≡ stand.Ended = sym out ∙ fits.0 in absurd (cc)

  -- with the chart's thread away nothing is entered
  pub nothing_entered : doing s zero ≡ Away → (n q : ℕ) → q < n → IsRegionOf k q → standing_of c q ≡ stand.Outside
  nothing_entered away zero q lt there = absurd (omega (arith, lt))
  nothing_entered away (suc n) q lt there =
      ⊎_elim
      (λ t. (fits_as q Nothing there (given_top k c s q t.1 ∙ ap giving_of_root away)).0)
      (λ u.
      let a : ℕ = (state_at k u.0).holder in
      let less : a < q = u.1.less in
      let above : standing_of c a ≡ stand.Outside = nothing_entered away n a (omega (arith, less, lt)) (low.tree.holders u.0 u.1.there) in
      (fits_as q Nothing there (given_in k c s q u.0 u.1 ∙ giving_closed k p l low u.0 (standing_of c a) (doing s a) (ap is_within above))).0)
      (low.tree.each q there)

  pub away_if_outside : list_all is_outside c.regions ≡ true → doing s zero ≡ Away
  away_if_outside h =
      let r : ℕ = low.root.some.0 in
      let top : IsRegionOf k r × ((region_at k r).around ≡ []) = low.tree.tops r low.root.some.1 in
      root_away (doing s zero) (sym (given_top k c s r top.1) ∙ outside_nothing r top.0 (all_outside c.regions h r))

  pub entered_if : list_all is_outside c.regions ≡ false → doing s zero ≢ Away
  entered_if h away =
      let all : list_all is_outside c.regions ≡ true = outside_all c.regions (λ q less. each q less) in absurd (cc)
    where
      each : (q : ℕ) → q < length c.regions → standing_of c q ≡ stand.Outside
      each zero less = corr.chart
      each (suc q) less = let same : length c.regions ≡ suc (length k.regions) = corr.regions in nothing_entered away (suc (suc q)) (suc q) (omega arith)
          (omega arith, omega (arith, less, same))
