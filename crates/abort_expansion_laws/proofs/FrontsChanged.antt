-- Where the strong checks in front of a thread's tests stay, or are gone, and nobody ends, a thread still stands for its region.
use Rattle.std.proofs.Common.{◌≡◌, ◌≢◌, ℕ, Bool, true, false, List, ◌∷◌, ◌++◌, map, refl, sym, subst, ◌∙◌}
use Rattle.core_charts.specs.declared.region.Transition.{Transition}
use Rattle.chart_machine.specs.declared.standing.Standing.{Standing}
use Rattle.chart_machine.specs.declared.standing.Standing.TheVariants as at
use Rattle.chart_machine.specs.declared.standing.Configuration.{Configuration}
use Rattle.chart_machine.specs.declared.table.Table.{Table}
use Rattle.chart_machine.specs.Turns.{standing_of, has_ended}
use Rattle.abort_expansion.specs.Transitions.{led}
use Rattle.abort_expansion_laws.specs.CoreRows.{Images}
use Rattle.abort_expansion_laws.specs.Related.{front, held_back, is_behind, Stands, outside, ended, left, trying, acting, entering, guarding, staying}
use Rattle.abort_expansion_laws.specs.Related.{within, behind, IsCalm}
use Rattle.abort_expansion_laws.proofs.WokenConfigurations.{behind_too}
use Rattle.abort_expansion_laws.proofs.CalmStandings.{calm_entering}

-- behind the first test
abbrev pub tail_of : Standing → Standing
tail_of (at.Trying u (t ∷ tests)) = at.Trying u tests
tail_of other = other

-- a standing has one of these checks first, or none
pub data HasFirst (z : Bool → Transition) : Standing → Type 0 where
  one_first : (b : Bool) (u : ℕ) (rest : List Transition) → HasFirst z (at.Trying u (z b ∷ rest))
  none_first : (y : Standing) → tail_of y ≡ y → HasFirst z y

module _ (k core : Table) (i : Images) (c c' : Configuration) (ends : (r : ℕ) → has_ended (standing_of c' r) ≡ has_ended (standing_of c r)) where
  still_behind : (s : ℕ) → is_behind k core i c' s ≡ is_behind k core i c s
  still_behind s = behind_too k core i c c' ends s

  -- the checks in front stay
  pub stands_to : (q : ℕ) (x y : Standing) → Stands k core i c q x y → (x ≢ at.Outside → (b : Bool) → front k core i b c' q ≡ front k core i b c q) →
      Stands k core i c' q x y
  stands_to q _ _ outside fronts = outside
  stands_to q _ _ (ended inner) fronts = ended (λ s ss round. still_behind s ∙ inner s ss round)
  stands_to q _ _ (left s ss round over) fronts = left s ss round (still_behind s ∙ over)
  stands_to q _ _ (trying s tests simple held) fronts =
      subst (λ zs. Stands k core i c' q (at.Trying s tests) (at.Trying (i.main_of s) (zs ++ map (led (i.places_of q)) tests ++ held_back k core i q)))
      (fronts (λ e. absurd (cc)) false) (trying s tests simple held)
  stands_to q _ _ (acting s u p e effects lt) fronts = acting s u p e effects lt
  stands_to q _ _ (entering s fork t tests super held leads) fronts = entering s fork t tests super held leads
  stands_to q _ _ (guarding s join t tests has held leads) fronts = guarding s join t tests has held leads
  stands_to q _ _ (staying s tests super held stay) fronts = staying s tests super held stay
  stands_to q _ _ (within s join tests super held apart still leads) fronts = within s join tests super held apart (still_behind s ∙ still) leads
  stands_to q _ _ (behind s tests super held over) fronts =
      subst (λ zs. Stands k core i c' q (at.Within s tests) (at.Trying (i.behind_of s) (zs ++ held_back k core i q))) (fronts (λ e. absurd (cc)) true)
      (behind s tests super held (still_behind s ∙ over))

  module _ (q : ℕ) (z : Bool → Transition) (one : (b : Bool) → front k core i b c q ≡ z b ∷ front k core i b c' q) where
    -- this check is the first in front, of whoever is calm
    pub has_first : (x y : Standing) → Stands k core i c q x y → IsCalm x → HasFirst z y
    has_first _ _ outside calm = none_first at.Outside refl
    has_first _ _ (ended inner) calm = none_first at.Ended refl
    has_first _ _ (left s ss round over) calm = none_first at.Outside refl
    has_first _ _ (trying s tests simple held) calm =
        subst (λ zs. HasFirst z (at.Trying (i.main_of s) (zs ++ map (led (i.places_of q)) tests ++ held_back k core i q))) (sym (one false))
        (one_first false (i.main_of s) (front k core i false c' q ++ map (led (i.places_of q)) tests ++ held_back k core i q))
    has_first _ _ (acting s u p e effects lt) calm = none_first _ refl
    has_first _ _ (entering s fork t tests super held leads) calm = absurd (calm_entering (at.Entering s (t ∷ tests)) calm s (t ∷ tests) refl)
    has_first _ _ (guarding s join t tests has held leads) calm = none_first _ refl
    has_first _ _ (staying s tests super held stay) calm = none_first _ refl
    has_first _ _ (within s join tests super held apart still leads) calm = none_first _ refl
    has_first _ _ (behind s tests super held over) calm =
        subst (λ zs. HasFirst z (at.Trying (i.behind_of s) (zs ++ held_back k core i q))) (sym (one true))
        (one_first true (i.behind_of s) (front k core i true c' q ++ held_back k core i q))

    -- it is gone, and the others stay
    pub stands_dropped : (x y : Standing) → Stands k core i c q x y → IsCalm x → Stands k core i c' q x (tail_of y)
    stands_dropped _ _ outside calm = outside
    stands_dropped _ _ (ended inner) calm = ended (λ s ss round. still_behind s ∙ inner s ss round)
    stands_dropped _ _ (left s ss round over) calm = left s ss round (still_behind s ∙ over)
    stands_dropped _ _ (trying s tests simple held) calm =
        subst (λ zs. Stands k core i c' q (at.Trying s tests) (tail_of (at.Trying (i.main_of s) (zs ++ map (led
        (i.places_of q)) tests ++ held_back k core i q))))
        (sym (one false)) (trying s tests simple held)
    stands_dropped _ _ (acting s u p e effects lt) calm = acting s u p e effects lt
    stands_dropped _ _ (entering s fork t tests super held leads) calm = absurd (calm_entering (at.Entering s (t ∷ tests)) calm s (t ∷ tests) refl)
    stands_dropped _ _ (guarding s join t tests has held leads) calm = guarding s join t tests has held leads
    stands_dropped _ _ (staying s tests super held stay) calm = staying s tests super held stay
    stands_dropped _ _ (within s join tests super held apart still leads) calm = within s join tests super held apart (still_behind s ∙ still) leads
    stands_dropped _ _ (behind s tests super held over) calm =
        subst (λ zs. Stands k core i c' q (at.Within s tests) (tail_of (at.Trying (i.behind_of s) (zs ++ held_back k core i q)))) (sym (one true))
        (behind s tests super held (still_behind s ∙ over))
