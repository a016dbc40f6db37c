-- A region before a delayed test has its turn: who was just entered tests at once.
use Rattle.std.proofs.Common.{◌≡◌, ℕ, ⊎_elim, Bool, true, false, not, cond, List, [], ◌∷◌, refl, sym, ap, ◌∙◌}
use Rattle.std.specs.List.{list_any}
use Rattle.core_charts.specs.Tests.{at_once}
use Rattle.core_charts.specs.declared.region.Transition.{Transition}
use Rattle.chart_machine.specs.declared.standing.Standing.{Standing}
use Rattle.chart_machine.specs.declared.standing.Standing.TheVariants as stand
use Rattle.chart_machine.specs.declared.standing.Configuration.{Configuration}
use Rattle.chart_machine.specs.declared.table.Table.{Table}
use Rattle.chart_machine.specs.Table.{state_at, region_at}
use Rattle.chart_machine.specs.Turns.{standing_of}
use Rattle.scl.specs.Numbering.{Numbered}
use Rattle.scl.specs.Meaning.{State, doing}
use Rattle.chart_lowering_laws.specs.Layout.{Layout, IsSimple, IsFinal, IsSuper, IsRegionOf, Lowers}
use Rattle.chart_lowering_laws.specs.Corresponds.{Giving, Nothing, Ready, Turn, Past, given, fresh, first_standing, Fits, Corresponds}
use Rattle.chart_lowering_laws.proofs.Showing.{region_of}

-- a delayed test is still to be made
abbrev pub is_late : Standing → Bool
is_late (stand.Trying s tests) = list_any (λ t. not t.immediate) tests
is_late other = false

-- none of those that are made on entry
pub at_once_prompt : (ts : List Transition) → list_any (λ t. not t.immediate) (at_once ts) ≡ false
at_once_prompt [] = refl
at_once_prompt (t ∷ ts) = by t.immediate refl (at_once_prompt ts)
  where
    by : (b : Bool) → t.immediate ≡ b → list_any (λ t. not t.immediate) (at_once ts) ≡ false →
        list_any (λ t. not t.immediate) (cond b (t ∷ at_once ts) (at_once ts)) ≡ false
    by true is rest = rw (is, rest) refl
    by false is rest = rest

module _ (k : Table) (p : Numbered) (l : Layout) (lowers : Lowers k p l) where
  fresh_prompt : (r : ℕ) → IsRegionOf k r → is_late (fresh k l r) ≡ false
  fresh_prompt r there =
      ⊎_elim
      (λ (s : IsSimple k p.root l (l.initial r)).
      ap (λ ms. is_late (first_standing ms)) s.entered ∙ at_once_prompt (state_at k (l.initial r)).transitions)
      (⊎_elim (λ (s : IsFinal k p.root l (l.initial r)). ap (λ ms. is_late (first_standing ms)) s.entered)
      (λ (s : IsSuper k p.root l (l.initial r)). ap (λ ms. is_late (first_standing ms)) s.entered))
      (lowers.states (l.initial r) (lowers.tree.initials r there).there)

  pub late_has_turn : (c : Configuration) (s : State) → Corresponds k p l c s → (r : ℕ) → is_late (standing_of c r) ≡ true →
      given k c s (region_at k r).around ≡ Turn
  late_has_turn c s corr r late = by (given k c s (region_at k r).around) refl (corr.each r there)
    where
      there : IsRegionOf k r
      there = region_of k p l c s corr r (λ out. let wrong : true ≡ false = sym late ∙ ap is_late out in absurd (cc))

      by : (g : Giving) → given k c s (region_at k r).around ≡ g → Fits k p.root l r g (standing_of c r) (doing s r) →
          given k c s (region_at k r).around ≡ Turn
      by Turn is fits = is
      by Nothing is fits = let wrong : true ≡ false = sym late ∙ ap is_late fits.0 in absurd (cc)
      by Ready is fits = let wrong : true ≡ false = sym late ∙ (ap is_late fits.0 ∙ fresh_prompt r there) in absurd (cc)
      by Past is fits = let wrong : true ≡ false = sym late ∙ ap is_late fits.0 in absurd (cc)
