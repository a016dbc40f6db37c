-- A monitor that is entered has the immediate weak tests of its superstate before it, and the count test.
use Rattle.std.proofs.Common.{◌≡◌, ℕ, suc, Bool, true, false, Option, Some, None, List, [], ◌∷◌, ◌++◌, map, refl, sym, ap, subst, ◌∙◌}
use Rattle.std.specs.Prelude.{filter}
use Rattle.core_charts.specs.declared.region.Transition.{Transition}
use Rattle.core_charts.specs.Aborts.{has_aborts}
use Rattle.core_charts.specs.Tests.{at_once, strong_aborts, weak_aborts, terminations, first_closing_tests, is_join}
use Rattle.chart_machine.specs.declared.standing.Standing.TheVariants as at
use Rattle.chart_machine.specs.declared.table.Table.{Table}
use Rattle.abort_expansion.specs.Transitions.{go, put, check, raising, strong_checks, weak_checks}
use Rattle.abort_expansion.specs.declared.flags.Flags.{Flags}
use Rattle.abort_expansion.specs.Superstates.{all_ended, monitor_transitions}
use Rattle.chart_machine_laws.specs.Tree.{IsNested, holder}
use Rattle.abort_expansion_laws.specs.CoreRows.{own, IsState, Images, CoreRows, flags_around}
use Rattle.abort_expansion_laws.specs.Related.{monitor_last}
use Rattle.abort_expansion_laws.specs.Related.{raise_each, raises, AreAmong, Watches, waits}
use Rattle.abort_expansion_laws.proofs.InsideLeaves.{AloneRows}
use Rattle.abort_expansion_laws.proofs.EnteringSimple.{once_append, weak_once}
use Rattle.abort_expansion_laws.proofs.WokenConfigurations.{numbered_from, numbered_are, all_among, raising_is, each_kept}
use Rattle.abort_expansion_laws.proofs.TickStarts.{StartRows}
use Rattle.abort_expansion_laws.proofs.WokenMonitors.{transitions_are}

-- some of these tests, with their numbers
module _ (P : Transition → Bool) where
  abbrev kept : List (ℕ × Transition) → List (ℕ × Transition)
  kept some = filter (λ x. P x.1) some

  still_among : (all : List Transition) (some : List (ℕ × Transition)) → AreAmong all some → AreAmong all (kept some)
  still_among all [] h = tt
  still_among all (x ∷ some) h = by_own (P x.1) refl (still_among all some h.1)
    where
      by_own : (b : Bool) → P x.1 ≡ b → AreAmong all (kept some) → AreAmong all (kept (x ∷ some))
      by_own true is rest = rw (is) (h.0, rest)
      by_own false is rest = rw (is) rest

  kept_numbered : (some : List (ℕ × Transition)) → map (λ x. x.1) (kept some) ≡ filter P (map (λ x. x.1) some)
  kept_numbered [] = refl
  kept_numbered (x ∷ some) = by_own (P x.1) refl (kept_numbered some)
    where
      by_own : (b : Bool) → P x.1 ≡ b → map (λ x. x.1) (kept some) ≡ filter P (map (λ x. x.1) some) →
          map (λ x. x.1) (kept (x ∷ some)) ≡ filter P (x.1 ∷ map (λ x. x.1) some)
      by_own true is rest = rw (is) (ap (λ zs. x.1 ∷ zs) rest)
      by_own false is rest = rw (is) rest

  once_raised : (flag : Option ℕ) (some : List (ℕ × Transition)) → at_once (raise_each P flag some) ≡ raise_each P flag (kept some)
  once_raised None some = refl
  once_raised (Some y) [] = refl
  once_raised (Some y) (x ∷ some) = by_own (P x.1) refl (once_raised (Some y) some)
    where
      by_own : (b : Bool) → P x.1 ≡ b → at_once (raise_each P (Some y) some) ≡ raise_each P (Some y) (kept some) →
          at_once (raises P y x ∷ map (raises P y) some) ≡ raise_each P (Some y) (kept (x ∷ some))
      by_own true is rest =
          rw (is)
          (ap (λ zs. go true x.1.trigger (put y (suc x.0) ∷ []) 1 ∷ zs) rest ∙
          ap (λ b. go b x.1.trigger (put y (suc x.0) ∷ []) 1 ∷ raise_each P (Some y) (kept some)) (sym is))
      by_own false is rest = rw (is) rest

never_raised : (flag : Option ℕ) (some : List (ℕ × Transition)) → at_once (raise_each (λ t. false) flag some) ≡ []
never_raised None some = refl
never_raised (Some y) [] = refl
never_raised (Some y) (x ∷ some) = never_raised (Some y) some

-- the checks of strong flags are not made at once
never_checked : (fs : List Flags) → at_once (strong_checks false 1 fs) ≡ []
never_checked [] = refl
never_checked (f ∷ fs) = by_flag f.strong (never_checked fs)
  where
    by_flag : (o : Option ℕ) → at_once (strong_checks false 1 fs) ≡ [] → at_once (check false 1 o ++ strong_checks false 1 fs) ≡ []
    by_flag None rest = rest
    by_flag (Some x) rest = rest

once_count : (flag : Option ℕ) → at_once (all_ended flag) ≡ all_ended flag
once_count None = refl
once_count (Some x) = refl

once_last : (k core : Table) (i : Images) (o : ℕ) → at_once (monitor_last k core i o) ≡ monitor_last k core i o
once_last k core i o =
    once_append (all_ended (i.flags_of o).counter) (weak_checks true 1 (flags_around k core i (holder k o)))
    ∙ (ap (λ zs. zs ++ at_once (weak_checks true 1 (flags_around k core i (holder k o)))) (once_count (i.flags_of o).counter)
    ∙ ap (λ zs. all_ended (i.flags_of o).counter ++ zs) (weak_once 1 (flags_around k core i (holder k o))))

module _ (k core : Table) (i : Images) (rows : CoreRows k core i) (lone : AloneRows k core i) (tree : IsNested k) (more_rows : StartRows k core i rows)
    (o : ℕ) (here : IsState k o) (has : has_aborts (own k o) ≡ true) where
  abbrev some : List (ℕ × Transition)
  some = numbered_from 0 (weak_aborts (own k o))

  abbrev row : List Transition
  row = monitor_transitions (flags_around k core i (holder k o)) (i.flags_of o) (own k o)

  row_is : row ≡ strong_checks false 1 (flags_around k core i (holder k o)) ++ (raising (λ t. false) 1 (i.flags_of o).strong 1 (strong_aborts (own k o))
      ++ (raising (λ t. t.immediate) 1 (i.flags_of o).weak 1 (weak_aborts (own k o)) ++ monitor_last k core i o))
  row_is = sym (ap (λ z. z.transitions) (rows.watcher o here has).row) ∙ transitions_are k core i rows lone tree more_rows o here has

  once_row : at_once row ≡ raise_each (λ t. t.immediate) (i.flags_of o).weak (kept (λ t. t.immediate) some) ++ monitor_last k core i o
  once_row =
      ap at_once row_is ∙
      (once_append (strong_checks false 1 (flags_around k core i (holder k o))) (raising (λ t. false) 1 (i.flags_of o).strong 1 (strong_aborts (own k o))
      ++ (raising (λ t. t.immediate) 1 (i.flags_of o).weak 1 (weak_aborts (own k o)) ++ monitor_last k core i o)) ∙
      (ap (λ zs. zs ++ at_once (raising (λ t. false) 1 (i.flags_of o).strong 1 (strong_aborts (own k o))
      ++ (raising (λ t. t.immediate) 1 (i.flags_of o).weak 1 (weak_aborts (own k o)) ++ monitor_last k core i o)))
      (never_checked (flags_around k core i (holder k o))) ∙
      (once_append (raising (λ t. false) 1 (i.flags_of o).strong 1 (strong_aborts (own k o)))
      (raising (λ t. t.immediate) 1 (i.flags_of o).weak 1 (weak_aborts (own k o)) ++ monitor_last k core i o) ∙
      (ap (λ zs. zs ++ at_once (raising (λ t. t.immediate) 1 (i.flags_of o).weak 1 (weak_aborts (own k o)) ++ monitor_last k core i o))
      (ap at_once (raising_is (λ t. false) (i.flags_of o).strong 0 (strong_aborts (own k o))) ∙
      never_raised (i.flags_of o).strong (numbered_from 0 (strong_aborts (own k o)))) ∙
      (once_append (raising (λ t. t.immediate) 1 (i.flags_of o).weak 1 (weak_aborts (own k o))) (monitor_last k core i o) ∙
      (ap (λ zs. zs ++ at_once (monitor_last k core i o))
      (ap at_once (raising_is (λ t. t.immediate) (i.flags_of o).weak 0 (weak_aborts (own k o))) ∙ once_raised (λ t. t.immediate) (i.flags_of o).weak some) ∙
      ap (λ zs. raise_each (λ t. t.immediate) (i.flags_of o).weak (kept (λ t. t.immediate) some) ++ zs) (once_last k core i o)))))))

  tests_are : map (λ x. x.1) (kept (λ t. t.immediate) some) ++ terminations (own k o) ≡ first_closing_tests (own k o)
  tests_are = ap (λ zs. zs ++ terminations (own k o)) (kept_numbered (λ t. t.immediate) some ∙ ap at_once (numbered_are 0 (weak_aborts (own k o))))

  pub monitor_entered : Watches k core i o (at.Within o (first_closing_tests (own k o))) (at.Trying (i.watching_of o) (at_once row))
  monitor_entered =
      subst (λ zs. Watches k core i o (at.Within o zs) (at.Trying (i.watching_of o) (at_once row))) tests_are
      (subst (λ zs. Watches k core i o (at.Within o (map (λ x. x.1) (kept (λ t. t.immediate) some) ++ terminations (own k o))) (at.Trying (i.watching_of o) zs))
      (sym once_row)
      (waits (kept (λ t. t.immediate) some) (terminations (own k o))
      (still_among (λ t. t.immediate) (weak_aborts (own k o)) some (all_among (weak_aborts (own k o))))
      (each_kept (λ t. is_join t.kind) (own k o))))
