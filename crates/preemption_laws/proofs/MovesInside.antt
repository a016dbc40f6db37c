-- Where each region of a chart stands in a state of its own, and its tests lead to states of its own, the moves of a step are of the region that steps,
-- and of what lies in it.
use Rattle.std.proofs.Common.{◌≡◌, ℕ, ◌<◌, List, [], ◌∷◌, length, slice_set, Contains, ap, subst, ◌∙◌}
use Rattle.core_charts.specs.declared.region.Effect.{Effect}
use Rattle.core_charts.specs.declared.region.Transition.{Transition}
use Rattle.core_charts.specs.Tests.{closing_tests, first_closing_tests}
use Rattle.chart_machine.specs.declared.standing.Move.{Move}
use Rattle.chart_machine.specs.declared.standing.Standing.{Standing}
use Rattle.chart_machine.specs.declared.standing.Standing.TheVariants as at
use Rattle.chart_machine.specs.declared.table.Table.{Table}
use Rattle.chart_machine.specs.Steps.{to, moved, state_in, dropped, acts, taken}
use Rattle.chart_machine.specs.Table.{state_at, region_at}
use Rattle.chart_machine.specs.Turns.{inside, LiesIn, itself, deeper}
use Rattle.chart_machine_laws.specs.Tree.{IsThere, IsTree, around, holder}
use Rattle.abort_expansion_laws.specs.CoreRows.{own, IsState}
use Rattle.abort_expansion_laws.proofs.ChartSteps.{Makes, takes_trying, takes_entering, takes_guarding, takes_within, tries_on, enters_on, guards_on}
use Rattle.abort_expansion_laws.proofs.ChartSteps.{waits_on, acts_on}
use Rattle.abort_expansion_laws.proofs.FreshInside.{entered_apart}
use Rattle.abort_expansion_laws.proofs.InsideAround.{inside_around}
use Rattle.abort_expansion_laws.proofs.Leaving.{at_number, set_other, drops_out, moved_append}
use Rattle.abort_expansion_laws.proofs.StateEntry.{Entry}

module _ (k : Table) (tree : IsTree k) (entries : (x : ℕ) → IsState k x → Entry k x)
    (elsewhere : (s t : ℕ) (zs : List Standing) → IsState k s → ¬ Contains (around k t) s → at_number (moved (state_at k s).opened zs) t ≡ at_number zs t)
    (state_there : (r p : ℕ) → IsThere k r → p < length (region_at k r).states → IsState k (state_in k r p) × (holder k (state_in k r p) ≡ r)) where
  -- these tests lead to states of region r
  abbrev pub LeadIn : ℕ → List Transition → Type 0
  LeadIn r [] = Unit {0}
  LeadIn r (t ∷ tests) = (t.target < length (region_at k r).states) × LeadIn r tests

  -- the state is one of the region, and these are tests of it
  abbrev pub IsOfRegion : ℕ → ℕ → List Transition → Type 0
  IsOfRegion r s tests = IsState k s × (holder k s ≡ r) × LeadIn r tests

  -- region r may stand so
  abbrev pub MayStand : ℕ → Standing → Type 0
  MayStand r (at.Trying s tests) = IsOfRegion r s tests
  MayStand r (at.Entering s tests) = IsOfRegion r s tests
  MayStand r (at.Guarding s tests) = IsOfRegion r s tests
  MayStand r (at.Within s tests) = IsOfRegion r s tests
  MayStand r (at.Acting s effects p) = p < length (region_at k r).states
  MayStand r other = Unit {0}

  pub stands_within : (r s : ℕ) (tests : List Transition) → MayStand r (at.Within s tests) → holder k s ≡ r
  stands_within r s tests h = h.1

  module _ (r q : ℕ) (there : IsThere k r) (out : ¬ LiesIn k q r) where
    abbrev Stays : List Move → Type 0
    Stays ms = (zs : List Standing) → at_number (moved ms zs) q ≡ at_number zs q

    one_stays : (x : Standing) → Stays (to r x ∷ [])
    one_stays x zs = set_other zs r q x (λ same. out (itself same))

    drop_stays : (s : ℕ) → holder k s ≡ r → Stays (dropped k s)
    drop_stays s held zs = drops_out (inside k s) zs q (λ h. out (deeper s (inside_around k s q h) held))

    opened_too : (s : ℕ) (x : Standing) → IsState k s → holder k s ≡ r → Stays (to r x ∷ (state_at k s).opened)
    opened_too s x is held zs = elsewhere s q (slice_set zs r x) is (λ h. out (deeper s h held)) ∙ one_stays x zs

    acts_stay : (s : ℕ) (effects : List Effect) (p : ℕ) → p < length (region_at k r).states → Stays (acts k r s effects p)
    acts_stay s [] p lt zs =
        let target = state_there r p there lt in
        entered_apart k tree entries elsewhere (state_in k r p) q zs target.0 (λ lies. out (subst (LiesIn k q) target.1 lies))
    acts_stay s (e ∷ effects) p lt zs = one_stays (at.Acting s (e ∷ effects) p) zs

    taken_stay : (s : ℕ) (t : Transition) → holder k s ≡ r → t.target < length (region_at k r).states → Stays (taken k r s t)
    taken_stay s t held lt zs =
        ap (λ ys. at_number ys q) (moved_append (dropped k s) (acts k r s t.effects t.target) zs)
        ∙ (acts_stay s t.effects t.target lt (moved (dropped k s) zs) ∙ drop_stays s held zs)

    makes_stay : (x : Standing) (ms : List Move) → Makes k r x ms → MayStand r x → Stays ms
    makes_stay _ _ (takes_trying s t tests) h = taken_stay s t h.1 h.2.0
    makes_stay _ _ (takes_entering s t tests) h = taken_stay s t h.1 h.2.0
    makes_stay _ _ (takes_guarding s t tests) h = taken_stay s t h.1 h.2.0
    makes_stay _ _ (takes_within s t tests) h = taken_stay s t h.1 h.2.0
    makes_stay _ _ (tries_on s t tests) h = one_stays (at.Trying s tests)
    makes_stay _ _ (enters_on s t []) h = opened_too s (at.Within s (first_closing_tests (own k s))) h.0 h.1
    makes_stay _ _ (enters_on s t (u ∷ tests)) h = one_stays (at.Entering s (u ∷ tests))
    makes_stay _ _ (guards_on s t []) h = one_stays (at.Within s (closing_tests (own k s)))
    makes_stay _ _ (guards_on s t (u ∷ tests)) h = one_stays (at.Guarding s (u ∷ tests))
    makes_stay _ _ (waits_on s t tests) h = one_stays (at.Within s tests)
    makes_stay _ _ (acts_on s p e effects) h = acts_stay s effects p h

  -- who lies elsewhere stays
  pub moves_inside : (r q : ℕ) → IsThere k r → ¬ LiesIn k q r → (x : Standing) (ms : List Move) → Makes k r x ms → MayStand r x → (zs : List Standing) →
      at_number (moved ms zs) q ≡ at_number zs q
  moves_inside r q there out x ms makes stands zs = makes_stay r q there out x ms makes stands zs
