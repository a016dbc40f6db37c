-- A step in no superstate that a region holds, and in no other region's that is around it, leaves the region its turn.
use Rattle.std.proofs.Common.{◌≡◌, ◌≢◌, ℕ, not, ◌&&◌, ◌||◌, ◌⊎◌, inl, inr, ⊎_elim, Some, List, [], ◌∷◌, Contains, refl, sym, ap, subst, ◌∙◌}
use Rattle.core_charts.specs.declared.features.Features.TheVariants as features
use Rattle.core_charts.specs.declared.region.Transition.{Transition}
use Rattle.core_charts.specs.Chart.{Chart}
use Rattle.core_charts.specs.Rules.{IsChart}
use Rattle.core_charts.specs.Tests.{is_join}
use Rattle.chart_machine.specs.declared.standing.Standing.{Standing}
use Rattle.chart_machine.specs.declared.standing.Standing.TheVariants as at
use Rattle.chart_machine.specs.declared.standing.Configuration.{Configuration}
use Rattle.chart_machine.specs.declared.table.Table.{Table}
use Rattle.chart_machine.specs.Table.{table, state_at}
use Rattle.chart_machine.specs.Turns.{LiesIn, itself, deeper, standing_of, has_ended, has_work, is_guarded, inside, inside_is_done, is_enabled}
use Rattle.chart_machine.specs.Steps.{step}
use Rattle.abort_expansion.specs.Expansion.{expanded}
use Rattle.tick_laws.proofs.Lists.{same_or_not}
use Rattle.chart_machine_laws.specs.Tree.{IsTree}
use Rattle.chart_machine_laws.proofs.LyingIn.{IsNested, around, holder, none_in, head_in, tail_in, head_or_tail, lies_in_outer}
use Rattle.abort_expansion_laws.specs.CoreRows.{Images}
use Rattle.abort_expansion_laws.specs.Related.{Related, Stands, outside, ended, left, trying, acting, entering, guarding, staying, within, behind}
use Rattle.abort_expansion_laws.proofs.DropsOut.{all_alike}
use Rattle.abort_expansion_laws.proofs.InsideAround.{inside_around, one_in_other}
use Rattle.abort_expansion_laws.proofs.KnownVariables.{present_there}
use Rattle.abort_expansion_laws.proofs.OwnTests.{OwnTests}
use Rattle.abort_expansion_laws.proofs.RowsOfCharts as whole
use Rattle.abort_expansion_laws.proofs.TicksOfCharts as ticks
use Rattle.preemption_laws.proofs.StepsInside.{LiesElsewhere, stays, guarded_same}

module _ (c : Chart) (rules : IsChart features.Extended c) (core_rules : IsChart features.Core (expanded c)) where
  abbrev k : Table
  k = table c

  abbrev core : Table
  core = table (expanded c)

  abbrev i : Images
  i = ticks.i c rules core_rules

  nested : IsNested k
  nested = ticks.nested c rules core_rules

  tree : IsTree k
  tree = whole.tree c rules core_rules

  -- ---- where a region lies

  holder_or_none : (a : ℕ) (ss : List ℕ) → ((s : ℕ) × Contains ss s × (holder k s ≡ a)) ⊎ ((s : ℕ) → Contains ss s → holder k s ≢ a)
  holder_or_none a [] = inr (λ s h. absurd (none_in s h))
  holder_or_none a (u ∷ ss) =
      ⊎_elim (λ same. inl (u, head_in u ss, same))
      (λ other. ⊎_elim (λ some. inl (some.0, tail_in u some.0 ss some.1, some.2))
      (λ none. inr (λ s h held. ⊎_elim (λ same. other (ap (holder k) same ∙ held)) (λ tail. none s tail held) (head_or_tail u s ss h)))
      (holder_or_none a ss))
      (same_or_not (holder k u) a)

  pub lies_or_not : (r a : ℕ) → LiesIn k r a ⊎ ¬ LiesIn k r a
  lies_or_not r a =
      ⊎_elim (λ same. inl (itself same))
      (λ other. ⊎_elim (λ some. inl (deeper some.0 some.1 some.2)) (λ none. inr (not_in other none)) (holder_or_none a (around k r)))
      (same_or_not r a)
    where
      not_in : r ≢ a → ((s : ℕ) → Contains (around k r) s → holder k s ≢ a) → LiesIn k r a → ⊥
      not_in other none (itself same) = other same
      not_in other none (deeper s inner held) = none s inner held

  pub elsewhere_from : (r t : ℕ) → ¬ LiesIn k t r → LiesElsewhere c rules core_rules r t
  elsewhere_from r t none = record { other = λ same. none (itself same); apart = λ s h held. none (deeper s h held) }

  -- a superstate in which a region stands is held by it
  pub within_held : (now : Configuration) (r s : ℕ) (tests : List Transition) (x y : Standing) → Stands k core i now r x y → x ≡ at.Within s tests →
      holder k s ≡ r
  within_held now r s tests _ _ outside e = absurd cc
  within_held now r s tests _ _ (ended inner) e = absurd cc
  within_held now r s tests _ _ (left u ss f over) e = absurd cc
  within_held now r s tests _ _ (trying u others simple held) e = absurd cc
  within_held now r s tests _ _ (acting u v p f effects lt) e = absurd cc
  within_held now r s tests _ _ (entering u fork t others super held leads) e = absurd cc
  within_held now r s tests _ _ (guarding u join t others has held leads) e = absurd cc
  within_held now r s tests _ _ (staying u others super held stay) e = let state : u ≡ s = cc in ap (holder k) (sym state) ∙ held
  within_held now r s tests _ _ (within u join others super held stay open_still leads) e = let state : u ≡ s = cc in ap (holder k) (sym state) ∙ held
  within_held now r s tests _ _ (behind u others super held over) e = let state : u ≡ s = cc in ap (holder k) (sym state) ∙ held

  -- ---- a step that is in no superstate of region z

  module _ (now d next : Configuration) (r : ℕ) (related : Related k core i now d) (owns : OwnTests k now) (steps : step k r now ≡ Some next) where
    -- is in nothing that lies in such a superstate
    module _ (z s : ℕ) (far : LiesElsewhere c rules core_rules r z) (outer : ¬ LiesIn k r z) (held : holder k s ≡ z) (v : ℕ)
        (inner : Contains (around k v) s) where
      outer_inside : ¬ LiesIn k r v
      outer_inside lies = outer (lies_in_outer k nested (around k r) r v z refl lies (deeper s inner held))

      not_held : (u : ℕ) → Contains (around k v) u → holder k u ≢ r
      not_held u there by_r =
          ⊎_elim (λ same. far.other (sym held ∙ (ap (holder k) same ∙ by_r)))
          (λ one. ⊎_elim (λ around_z. far.apart u (subst (λ h. Contains (around k h) u) held around_z) by_r)
          (λ around_r. outer (deeper s (subst (λ h. Contains (around k h) s) by_r around_r) held)) one)
          (one_in_other k nested (around k v) v s u refl inner there)

      far_inside : LiesElsewhere c rules core_rules r v
      far_inside = record { other = λ same. outer (deeper s (subst (λ w. Contains (around k w) s) same inner) held); apart = not_held }

    held_by : (z s : ℕ) (tests : List Transition) → standing_of now z ≡ at.Within s tests → holder k s ≡ z
    held_by z s tests is =
        within_held now z s tests (standing_of now z) (standing_of d (i.thread_of z))
        (related.regions z (present_there k core i now d related z (λ out. let wrong : at.Outside ≡ at.Within s tests = sym out ∙ is in absurd cc))) is

    work_by : (z : ℕ) → LiesElsewhere c rules core_rules r z → ¬ LiesIn k r z → (x : Standing) → standing_of now z ≡ x → has_work k next x ≡ has_work k now x
    work_by z far outer (at.Within s []) is = refl
    work_by z far outer (at.Within s (w ∷ tests)) is =
        ap (λ b. not (is_join w.kind) || b)
        (all_alike (λ v. has_ended (standing_of next v)) (λ v. has_ended (standing_of now v)) (state_at k s).regions
        (λ v child. ap has_ended (stays c rules core_rules now d next r related owns steps v
        (far_inside z s far outer (held_by z s (w ∷ tests) is) v
        (subst (λ ys. Contains ys s) (sym (tree.children s v child)) (head_in s (around k (holder k s))))))))
    work_by z far outer at.Outside is = refl
    work_by z far outer at.Ended is = refl
    work_by z far outer (at.Trying s []) is = refl
    work_by z far outer (at.Trying s (t ∷ tests)) is = refl
    work_by z far outer (at.Entering s tests) is = refl
    work_by z far outer (at.Guarding s tests) is = refl
    work_by z far outer (at.Acting s effects place) is = refl

    work_still : (z : ℕ) → LiesElsewhere c rules core_rules r z → ¬ LiesIn k r z → has_work k next (standing_of next z) ≡ has_work k now (standing_of now z)
    work_still z far outer =
        ap (has_work k next) (stays c rules core_rules now d next r related owns steps z far) ∙ work_by z far outer (standing_of now z) refl

    done_by : (z : ℕ) → LiesElsewhere c rules core_rules r z → ¬ LiesIn k r z → (x : Standing) → standing_of now z ≡ x →
        inside_is_done k next x ≡ inside_is_done k now x
    done_by z far outer (at.Within s tests) is =
        all_alike (λ v. not (has_work k next (standing_of next v))) (λ v. not (has_work k now (standing_of now v))) (inside k s)
        (λ v h. ap not (work_still v (far_inside z s far outer (held_by z s tests is) v (inside_around k s v h))
        (outer_inside z s far outer (held_by z s tests is) v (inside_around k s v h))))
    done_by z far outer at.Outside is = refl
    done_by z far outer at.Ended is = refl
    done_by z far outer (at.Trying s tests) is = refl
    done_by z far outer (at.Entering s tests) is = refl
    done_by z far outer (at.Guarding s tests) is = refl
    done_by z far outer (at.Acting s effects place) is = refl

    pub turn_still : (z : ℕ) → LiesElsewhere c rules core_rules r z → ¬ LiesIn k r z → is_enabled k next z ≡ is_enabled k now z
    turn_still z far outer =
        ap (λ b. b && (not (is_guarded k next (around k z)) && inside_is_done k next (standing_of next z))) (work_still z far outer)
        ∙ (ap (λ b. has_work k now (standing_of now z) && (not b && inside_is_done k next (standing_of next z)))
        (guarded_same c rules core_rules now d next r related owns steps z far (around k z) (λ s h. h))
        ∙ ap (λ b. has_work k now (standing_of now z) && (not (is_guarded k now (around k z)) && b))
        (ap (inside_is_done k next) (stays c rules core_rules now d next r related owns steps z far) ∙ done_by z far outer (standing_of now z) refl))
