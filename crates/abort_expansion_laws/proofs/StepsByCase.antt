-- Each step of a chart is followed, by where its region stands and how its first test comes out.
use Rattle.std.proofs.Common.{◌≡◌, ℕ, ◌⊎◌, inl, inr, Bool, true, false, Option, Some, None, List, [], ◌∷◌}
use Rattle.std.proofs.Common.{option_map, if◌then◌else◌, Contains, refl, sym, ap, subst, ◌∙◌}
use Rattle.core_charts.specs.declared.features.Features.TheVariants as features
use Rattle.core_charts.specs.declared.region.Effect.{Effect}
use Rattle.core_charts.specs.declared.region.Transition.{Transition}
use Rattle.core_charts.specs.Chart.{Chart}
use Rattle.core_charts.specs.Rules.{IsChart}
use Rattle.core_charts.specs.Tests.{is_weak, is_join}
use Rattle.chart_machine.specs.declared.standing.Standing.{Standing}
use Rattle.chart_machine.specs.declared.standing.Standing.TheVariants as at
use Rattle.chart_machine.specs.declared.standing.Move.{Move}
use Rattle.chart_machine.specs.declared.standing.Configuration.{Configuration}
use Rattle.chart_machine.specs.declared.table.Table.{Table}
use Rattle.chart_machine.specs.Table.{table}
use Rattle.chart_machine.specs.Turns.{standing_of, has_work}
use Rattle.chart_machine_laws.specs.Tree.{around, holder}
use Rattle.core_charts.specs.Aborts.{has_weak}
use Rattle.chart_machine.specs.Steps.{to, verdict, tested, taken, step, change_of, entering_on, guarding_on}
use Rattle.abort_expansion.specs.Expansion.{expanded}
use Rattle.abort_expansion_laws.specs.CoreRows.{own, Images}
use Rattle.abort_expansion_laws.specs.Related.{Related}
use Rattle.abort_expansion_laws.proofs.CasesFollowed as one
use Rattle.abort_expansion_laws.proofs.KnownVariables.{Stepped, stepped}
use Rattle.abort_expansion_laws.proofs.LeavesFollowed as leave
use Rattle.abort_expansion_laws.proofs.OwnTests.{OwnTests, IsOwn}
use Rattle.abort_expansion_laws.proofs.RowsOfCharts as whole
use Rattle.abort_expansion_laws.proofs.TestTargets.{ends_untested}
use Rattle.abort_expansion_laws.proofs.StrongTestReady.{strong_ready}
use Rattle.abort_expansion_laws.proofs.WeakTestReady as ready
use Rattle.abort_expansion_laws.proofs.FlagStages.{FlagStages, WeakFits, early_stages, outer_fits}

module _ (c : Chart) (rules : IsChart features.Extended c) (core_rules : IsChart features.Core (expanded c)) (stages : FlagStages c rules core_rules)
  where
    abbrev k : Table
    k = table c

    abbrev core : Table
    core = table (expanded c)

    abbrev i : Images
    i = whole.i c rules core_rules

    abbrev Followed : (now d : Configuration) (r : ℕ) (next : Configuration) → Type 0
    Followed = one.Followed c rules core_rules stages

    module _ (now d : Configuration) (related : Related k core i now d) (owns : OwnTests k now) (r : ℕ) (next : Configuration)
        (goes : step k r now ≡ Some next) where
      parts : Stepped k r now next
      parts = stepped k r now next goes

      none_tested : (s : ℕ) (t : Transition) (otherwise : List Move) → verdict now.variables t.trigger ≡ None → tested k now r s t otherwise ≡ None
      none_tested s t otherwise e = ap (option_map (λ holds. record { write = None; moves = if holds then taken k r s t else otherwise })) e

      undone : change_of k now r (standing_of now r) ≡ None → Followed now d r next
      undone none = let wrong : None ≡ Some parts.change = sym none ∙ parts.does in absurd cc

      idle : has_work k now (standing_of now r) ≡ false → Followed now d r next
      idle none = let wrong : true ≡ false = sym parts.works ∙ none in absurd cc

      by_trying : (s : ℕ) (t : Transition) (tests : List Transition) → standing_of now r ≡ at.Trying s (t ∷ tests) → (o : Option Bool) →
          verdict now.variables t.trigger ≡ o → Followed now d r next
      by_trying s t tests stands None e = undone (ap (change_of k now r) stands ∙ none_tested s t (to r (at.Trying s tests) ∷ []) e)
      by_trying s t tests stands (Some false) e = one.failing c rules core_rules stages now d related owns r next goes s t tests stands e
      by_trying s t tests stands (Some true) e = by_effects t.effects refl
        where
          by_effects : (es : List Effect) → t.effects ≡ es → Followed now d r next
          by_effects [] none = one.taken_at_once c rules core_rules stages now d related owns r next goes s t tests stands e none
          by_effects (f ∷ fs) some = one.holding c rules core_rules stages now d related owns r next goes s t tests stands e f fs some

      by_entering : (s : ℕ) (t : Transition) (tests : List Transition) → standing_of now r ≡ at.Entering s (t ∷ tests) → (o : Option Bool) →
          verdict now.variables t.trigger ≡ o → Followed now d r next
      by_entering s t tests stands None e = undone (ap (change_of k now r) stands ∙ none_tested s t (entering_on k r s tests) e)
      by_entering s t tests stands (Some true) e = one.aborted c rules core_rules stages now d related owns r next goes s t tests stands e
      by_entering s t [] stands (Some false) e = one.passed c rules core_rules stages now d related owns r next goes s t stands e
      by_entering s t (u ∷ tests) stands (Some false) e = one.entry_test c rules core_rules stages now d related owns r next goes s t u tests stands e

      by_guarding : (s : ℕ) (t : Transition) (tests : List Transition) → standing_of now r ≡ at.Guarding s (t ∷ tests) → (o : Option Bool) →
          verdict now.variables t.trigger ≡ o → Followed now d r next
      by_guarding s t tests stands None e = undone (ap (change_of k now r) stands ∙ none_tested s t (guarding_on k r s tests) e)
      by_guarding s t tests stands (Some true) e =
          strong_ready c rules core_rules stages now d related owns r next goes s t tests stands
          (λ z at_test monitor. leave.strong_taken c rules core_rules stages now z at_test owns r next goes s t tests stands monitor e)
      by_guarding s t [] stands (Some false) e =
          strong_ready c rules core_rules stages now d related owns r next goes s t [] stands
          (λ z at_test monitor. one.last_fails c rules core_rules stages now z at_test owns r next goes s t [] stands monitor refl e)
      by_guarding s t (u ∷ tests) stands (Some false) e =
          strong_ready c rules core_rules stages now d related owns r next goes s t (u ∷ tests) stands
          (λ z at_test monitor. one.next_strong c rules core_rules stages now z at_test owns r next goes s t u tests stands monitor e)

      -- a weak abort that is taken fits these stages
      module _ (fits : (s : ℕ) (t : Transition) (tests : List Transition) → standing_of now r ≡ at.Within s (t ∷ tests) → is_weak t.kind ≡ true →
          verdict now.variables t.trigger ≡ Some true → holder k s ≡ r → has_weak (own k s) ≡ true → WeakFits c rules core_rules stages r s) where
        by_within : (s : ℕ) (t : Transition) (tests : List Transition) → standing_of now r ≡ at.Within s (t ∷ tests) → (o : Option Bool) →
            verdict now.variables t.trigger ≡ o → Contains (own k s) t × ((is_weak t.kind ≡ true) ⊎ (is_join t.kind ≡ true)) → Followed now d r next
        by_within s t tests stands None e its = undone (ap (change_of k now r) stands ∙ none_tested s t (to r (at.Within s tests) ∷ []) e)
        by_within s t tests stands (Some true) e (own_one, inl is) =
            ready.when_ready c rules core_rules stages now d related owns r next goes s t tests stands own_one is
            (λ z at_test monitor.
            leave.weak_taken c rules core_rules stages now z at_test owns r next goes s t tests stands e own_one is monitor
            (fits s t tests stands is e (ready.held c rules core_rules stages now d related owns r next goes s t tests stands own_one is)
            (ready.has_some_weak c rules core_rules stages now d related owns r next goes s t tests stands own_one is)))
        by_within s t tests stands (Some true) e (own_one, inr is) =
            leave.terminated c rules core_rules stages now d related owns r next goes s t tests stands own_one is
        by_within s t tests stands (Some false) e (own_one, inl is) =
            ready.when_ready c rules core_rules stages now d related owns r next goes s t tests stands own_one is
            (λ z at_test monitor. one.weak_fails c rules core_rules stages now z at_test owns r next goes s t tests stands own_one is monitor e)
        by_within s t tests stands (Some false) e (own_one, inr is) =
            let plain = ends_untested features.Extended c rules s t own_one is in
            let wrong : Some true ≡ Some false = sym (ap (verdict now.variables) plain) ∙ e in absurd cc

        by_standing : (x : Standing) → standing_of now r ≡ x → Followed now d r next
        by_standing at.Outside is = idle (ap (has_work k now) is)
        by_standing at.Ended is = idle (ap (has_work k now) is)
        by_standing (at.Trying s []) is = idle (ap (has_work k now) is)
        by_standing (at.Trying s (t ∷ tests)) is = by_trying s t tests is (verdict now.variables t.trigger) refl
        by_standing (at.Entering s []) is = undone (ap (change_of k now r) is)
        by_standing (at.Entering s (t ∷ tests)) is = by_entering s t tests is (verdict now.variables t.trigger) refl
        by_standing (at.Guarding s []) is = undone (ap (change_of k now r) is)
        by_standing (at.Guarding s (t ∷ tests)) is = by_guarding s t tests is (verdict now.variables t.trigger) refl
        by_standing (at.Within s []) is = idle (ap (has_work k now) is)
        by_standing (at.Within s (t ∷ tests)) is =
            by_within s t tests is (verdict now.variables t.trigger) refl (subst (IsOwn k) is (owns r)).0
        by_standing (at.Acting s [] p) is = undone (ap (change_of k now r) is)
        by_standing (at.Acting s (e ∷ f ∷ es) p) is = one.effect c rules core_rules stages now d related owns r next goes s p e f es is
        by_standing (at.Acting s (e ∷ []) p) is = one.last_made c rules core_rules stages now d related owns r next goes s p e is

        pub step_followed : Followed now d r next
        step_followed = by_standing (standing_of now r) refl

module _ (c : Chart) (rules : IsChart features.Extended c) (core_rules : IsChart features.Core (expanded c)) where
  -- each step of a chart is followed, however aborts lie in others: if the weak flags around its region count as written early
  pub each_step_followed : (now d : Configuration) → Related (table c) (table (expanded c)) (whole.i c rules core_rules) now d → OwnTests (table c) now →
      (r : ℕ) (next : Configuration) → step (table c) r now ≡ Some next →
      one.Followed c rules core_rules (early_stages c rules core_rules (around (table c) r)) now d r next
  each_step_followed now d related owns r next goes =
      step_followed c rules core_rules (early_stages c rules core_rules (around (table c) r)) now d related owns r next goes
      (λ s t tests stands weak holds held has. outer_fits c rules core_rules r s held)
