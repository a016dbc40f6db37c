-- The tests of the continuation of a split superstate that terminates: its own flags are down, and what is tested last takes the termination.
use Rattle.std.proofs.Common.{◌≡◌, ℕ, ◌≤◌, inl, inr, Bool, true, false, ◌||◌, pos, Option, Some, None, List, [], ◌∷◌, ◌++◌}
use Rattle.std.proofs.Common.{length, slice_get, Contains, refl, sym, ap, subst, ◌∙◌, arith, if◌then◌else◌}
use Rattle.std.proofs.lemmas.List.{append_assoc}
use Rattle.sc_values.specs.declared.expression.Expr.{Expr}
use Rattle.sc_values.specs.declared.value.Value.{Value}
use Rattle.sc_values.specs.declared.value.Value.TheVariants as value_is
use Rattle.core_charts.specs.declared.region.Transition.{Transition}
use Rattle.core_charts.specs.Tests.{at_once, strong_aborts, weak_aborts, terminations, is_join}
use Rattle.core_charts.specs.Aborts.{has_aborts}
use Rattle.chart_machine.specs.declared.standing.Standing.TheVariants as at
use Rattle.chart_machine.specs.declared.standing.Configuration.{Configuration}
use Rattle.chart_machine.specs.declared.table.Table.{Table}
use Rattle.chart_machine.specs.Table.{state_at}
use Rattle.chart_machine.specs.Turns.{standing_of, has_work}
use Rattle.chart_machine.specs.Steps.{verdict, access_of_trigger}
use Rattle.abort_expansion.specs.Flags.{has_join, weak_around}
use Rattle.abort_expansion.specs.Transitions.{go, is_number, led_by, strong_checks, answers}
use Rattle.abort_expansion.specs.Superstates.{closing, joined_or_left}
use Rattle.abort_expansion_laws.specs.Stages.{Correspondence, IsSilent}
use Rattle.abort_expansion_laws.proofs.Supplying.{silent_test, silent_idle, tests}
use Rattle.chart_machine_laws.proofs.LyingIn.{IsNested, around, holder}
use Rattle.abort_expansion_laws.proofs.MoreValues.{same_verdict}
use Rattle.abort_expansion_laws.proofs.FlagAccess.{number_access}
use Rattle.abort_expansion_laws.specs.CoreRows.{own, IsState, Images, CoreRows, flags_around, behind_transitions, pair}
use Rattle.abort_expansion_laws.specs.Related.{IsInside, open_inside, not_ended, Stores, Related}
use Rattle.abort_expansion_laws.proofs.StartingRegions.{CounterRows}
use Rattle.abort_expansion_laws.proofs.OpensFork.{OpeningRows}
use Rattle.abort_expansion_laws.proofs.EnteringSimple.{once_append}
use Rattle.abort_expansion_laws.proofs.JoinsFork.{strong_once}
use Rattle.abort_expansion_laws.proofs.Answering.{AllFail, fails_on, none_answered, answers_first}
use Rattle.abort_expansion_laws.proofs.TerminationNext as next
use Rattle.abort_expansion_laws.proofs.TerminationJoins as joined

module _ (k core : Table) (i : Images) where
  -- what a continuation tests
  pub continuation_tests : (r s : ℕ) → at_once (behind_transitions k core i r s) ≡
      strong_checks true (i.places_of r).left (flags_around k core i r) ++ ((answers (i.places_of r) (i.flags_of s).strong 1 (strong_aborts (own k s))
      ++ answers (i.places_of r) (i.flags_of s).weak 1 (weak_aborts (own k s))) ++ at_once (closing (flags_around k core i r) (i.flags_of s) (i.places_of r)
      (terminations (own k s))))
  continuation_tests r s =
      ap at_once (append_assoc (checks ++ strong) weak last ∙ append_assoc checks strong (weak ++ last))
      ∙ (once_append checks (strong ++ (weak ++ last))
      ∙ (ap (λ zs. zs ++ at_once (strong ++ (weak ++ last))) (strong_once (i.places_of r).left (flags_around k core i r))
      ∙ ap (λ zs. checks ++ zs)
      (answers_first (i.places_of r) (i.flags_of s).strong (strong_aborts (own k s)) (weak ++ last) 1
      ∙ (ap (λ zs. strong ++ zs) (answers_first (i.places_of r) (i.flags_of s).weak (weak_aborts (own k s)) last 1)
      ∙ sym (append_assoc strong weak (at_once last))))))
    where
      checks : List Transition
      checks = strong_checks true (i.places_of r).left (flags_around k core i r)

      strong : List Transition
      strong = answers (i.places_of r) (i.flags_of s).strong 1 (strong_aborts (own k s))

      weak : List Transition
      weak = answers (i.places_of r) (i.flags_of s).weak 1 (weak_aborts (own k s))

      last : List Transition
      last = closing (flags_around k core i r) (i.flags_of s) (i.places_of r) (terminations (own k s))

module _ (k core : Table) (i : Images) (rows : CoreRows k core i) (tree : IsNested k) (counts : ℕ → Bool) (written_at : ℕ → ℕ)
    (counters : CounterRows k core i rows counts written_at) (opening : OpeningRows k core i rows)
    (children : (s r : ℕ) → Contains (state_at k s).regions r → around k r ≡ s ∷ around k (holder k s)) (c d : Configuration) (related : Related k core i c d)
    (r s : ℕ) (held : holder k s ≡ r) (t : Transition) (rest : List Transition) (stands : standing_of c r ≡ at.Within s (t ∷ rest))
    (join : is_join t.kind ≡ true) (works : has_work k c (standing_of c r) ≡ true) (s_there : IsState k s)
    (counter_given : (u : ℕ) → has_join (own k u) ≡ true → (has_aborts (own k u) || weak_around (flags_around k core i (holder k u))) ≡ true →
    (x : ℕ) × ((i.flags_of u).counter ≡ Some x))
  where
    abbrev corr : Correspondence
    corr = pair k core i rows tree counts written_at

    counted : (has_aborts (own k s) || weak_around (flags_around k core i r)) ≡ true → (x : ℕ) × ((i.flags_of s).counter ≡ Some x)
    counted some =
        counter_given s (next.has_one k core i rows tree counts written_at counters children c d related r s held t rest stands join works)
        (subst (λ q. (has_aborts (own k s) || weak_around (flags_around k core i q)) ≡ true) (sym held) some)

    pub counted_there : has_aborts (own k s) ≡ true → (x : ℕ) × ((i.flags_of s).counter ≡ Some x)
    counted_there has = counted (rw (has) refl)

    inside_s : IsInside k core i s (standing_of c (holder k s))
    inside_s = subst (λ q. IsInside k core i s (standing_of c q)) (sym held) (subst (IsInside k core i s) (sym stands) (open_inside (t ∷ rest)))

    home_of : (y : ℕ) → rows.of_flag y ≡ s → corr.home y ≡ i.thread_of r
    home_of y owner = ap (λ v. holder core (i.main_of v)) owner ∙ (rows.held s ∙ ap i.thread_of held)

    own_flag : (y : ℕ) → length k.variables ≤ y → rows.of_flag y ≡ s → IsSilent corr (i.thread_of r) None (tests y)
    own_flag y added owner = silent_test corr (i.thread_of r) None y added (inl (sym (home_of y owner)))

    -- ---- the tests of the continuation
    -- its own flags are down, and no abort is answered
    pub none_of : (values : List Value) → values ≡ d.variables → AllFail corr (i.thread_of r) values
        (answers (i.places_of r) (i.flags_of s).strong 1 (strong_aborts (own k s)) ++ answers (i.places_of r) (i.flags_of s).weak 1 (weak_aborts (own k s)))
    none_of values are =
        fails_on corr (i.thread_of r) values (answers (i.places_of r) (i.flags_of s).strong 1 (strong_aborts (own k s)))
        (answers (i.places_of r) (i.flags_of s).weak 1 (weak_aborts (own k s)))
        (by_flag (i.flags_of s).strong (i.flags_of s).strong refl (related.flags s s_there inside_s).strong (rows.strong_added s) (λ y e.
        (opening.flag_of s y (inl e)).0)
        (strong_aborts (own k s)))
        (by_flag (i.flags_of s).weak (i.flags_of s).weak refl (related.flags s s_there inside_s).weak (rows.weak_added s) (λ y e. (opening.flag_of s y
        (inr (inl e))).0)
        (weak_aborts (own k s)))
      where
        no_answers : (aborts : List Transition) (m : ℕ) → AllFail corr (i.thread_of r) values (answers (i.places_of r) None m aborts)
        no_answers [] m = tt
        no_answers (u ∷ aborts) m = tt

        by_flag : (f g : Option ℕ) → g ≡ f → Stores k core i d.variables g 0 → ((y : ℕ) → g ≡ Some y → length k.variables ≤ y) →
            ((y : ℕ) → g ≡ Some y → rows.of_flag y ≡ s) → (aborts : List Transition) → AllFail corr (i.thread_of r) values (answers (i.places_of r) f 1 aborts)
        by_flag None g e stored added owner aborts = no_answers aborts 1
        by_flag (Some y) g e stored added owner aborts =
            none_answered corr (i.thread_of r) (i.places_of r) values y (own_flag y (added y e) (owner y e))
            (ap (λ vs. slice_get vs y) are ∙ subst (λ z. Stores k core i d.variables z 0) e stored) aborts 1 (omega arith)

    -- what is tested last takes the termination
    pub record Takes : Type 0 where
      pub trigger : Option Expr
      pub later : List Transition
      pub are : at_once (closing (flags_around k core i r) (i.flags_of s) (i.places_of r) (terminations (own k s))) ≡ led_by (i.places_of r) trigger t ∷ later
      pub true_there : verdict d.variables trigger ≡ Some true
      pub silent : IsSilent corr (i.thread_of r) None (access_of_trigger trigger)

    ends_are : terminations (own k s) ≡ t ∷ rest
    ends_are = next.ends_are k core i rows tree counts written_at counters children c d related r s held t rest stands join works

    pub takes : Takes
    takes = by_weak (weak_around (flags_around k core i r)) refl
      where
        none_left : not_ended k core i c s ≡ 0
        none_left =
            joined.none_still k core i c (state_at k s).regions
            (next.child_ended k core i rows tree counts written_at counters children c d related r s held t rest stands join works)

        by_weak : (b : Bool) → weak_around (flags_around k core i r) ≡ b → Takes
        by_weak false none =
            record {
              trigger = None;
              later = [];
              are = ap (λ ts. at_once (closing (flags_around k core i r) (i.flags_of s) (i.places_of r) ts)) ends_are
                  ∙ rw (none) refl;
              true_there = refl;
              silent = silent_idle corr (i.thread_of r) None;
            }
        by_weak true some =
            let counter = counted (weak_too (has_aborts (own k s)) some) in
            let stored : slice_get d.variables counter.0 ≡ Some (value_is.Int (pos 0)) =
            subst (λ f. Stores k core i d.variables f (not_ended k core i c s)) counter.1 (related.flags s s_there inside_s).counter
            ∙ ap (λ n. Some (value_is.Int (pos n))) none_left in
            record {
              trigger = Some (is_number counter.0 0);
              later = go true None [] (i.places_of r).left ∷ [];
              are = ap (λ ts. at_once (closing (flags_around k core i r) (i.flags_of s) (i.places_of r) ts)) ends_are
                  ∙ (ap (λ b. at_once (if b then joined_or_left (i.places_of r) (i.flags_of s).counter t else led_by (i.places_of r) None t ∷ [])) some
                  ∙ ap (λ f. at_once (joined_or_left (i.places_of r) f t)) counter.1);
              true_there = same_verdict counter.0 0 d.variables stored;
              silent =
                  subst (IsSilent corr (i.thread_of r) None) (sym (number_access counter.0 0))
                  (own_flag counter.0 (rows.counter_added s counter.0 counter.1) (counters.counter_of s counter.0 counter.1));
            }
          where
            weak_too : (b : Bool) → weak_around (flags_around k core i r) ≡ true → (b || weak_around (flags_around k core i r)) ≡ true
            weak_too true e = refl
            weak_too false e = e
