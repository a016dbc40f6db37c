-- A monitor is woken: all tests of its superstate are to be made anew.
use Rattle.std.proofs.Common.{◌≡◌, ◌≢◌, ℕ, Bool, true, false, ◌||◌, Option, Some, None, List, [], ◌∷◌, ◌++◌, map}
use Rattle.std.proofs.Common.{Contains, refl, sym, ap, subst, ◌∙◌}
use Rattle.std.specs.Prelude.{reverse}
use Rattle.std.proofs.lemmas.List.{append_assoc}
use Rattle.core_charts.specs.declared.region.Transition.{Transition}
use Rattle.core_charts.specs.Tests.{strong_aborts, weak_aborts, terminations, closing_tests, is_strong, is_weak, is_join}
use Rattle.chart_machine.specs.declared.standing.Standing.{Standing}
use Rattle.chart_machine.specs.declared.standing.Standing.TheVariants as at
use Rattle.chart_machine.specs.declared.table.Table.{Table}
use Rattle.chart_machine.specs.Table.{state_at}
use Rattle.chart_machine.specs.Machine.{woken, guarded_first}
use Rattle.core_charts.specs.Aborts.{has_strong, has_weak, has_aborts}
use Rattle.abort_expansion.specs.Transitions.{strong_checks, weak_checks, raising}
use Rattle.abort_expansion.specs.Superstates.{all_ended}
use Rattle.chart_machine_laws.specs.Tree.{IsNested, around, holder}
use Rattle.abort_expansion_laws.specs.CoreRows.{own, IsState, Images, CoreRows, flags_around}
use Rattle.abort_expansion_laws.specs.Related.{monitor_last}
use Rattle.abort_expansion_laws.specs.Related.{raise_each, AreAmong, Watches, looks_strong, looks, elsewhere, LooksFirst, looks_never, looks_first}
use Rattle.abort_expansion_laws.proofs.InsideLeaves.{AloneRows}
use Rattle.abort_expansion_laws.proofs.Owed.{WatchRests, watch_within, watch_elsewhere}
use Rattle.abort_expansion_laws.proofs.WokenConfigurations.{numbered_from, numbered_are, all_among, raising_is, each_kept, guards_then, open_then}
use Rattle.abort_expansion_laws.proofs.TickStarts.{StartRows, some_kept}
use Rattle.abort_expansion_laws.proofs.YetToLook.{in_reversed, all_yet}

-- a list of five, the first in front of the others
five : (a b c d e : List Transition) → a ++ b ++ c ++ d ++ e ≡ a ++ (b ++ (c ++ (d ++ e)))
five a b c d e = append_assoc (a ++ b ++ c) d e ∙ (append_assoc (a ++ b) c (d ++ e) ∙ append_assoc a b (c ++ (d ++ e)))

raised_none : (flag : Option ℕ) → raising (λ t. false) 1 flag 1 [] ≡ []
raised_none None = refl
raised_none (Some x) = refl

second_of : (a b : Bool) → a ≡ false → (a || b) ≡ true → b ≡ true
second_of true b e f = absurd cc
second_of false b e f = f

module _ (k core : Table) (i : Images) (rows : CoreRows k core i) (lone : AloneRows k core i) (tree : IsNested k) (more_rows : StartRows k core i rows)
    (o : ℕ) (here : IsState k o) (has : has_aborts (own k o) ≡ true) where
  abbrev checks : List Transition
  checks = strong_checks false 1 (flags_around k core i (holder k o))

  -- at all of them
  abbrev each_one : List ℕ
  each_one = reverse (around k (holder k o))

  abbrev behind_checks : List Transition
  behind_checks =
      raising (λ t. false) 1 (i.flags_of o).strong 1 (strong_aborts (own k o))
      ++ (raising (λ t. t.immediate) 1 (i.flags_of o).weak 1 (weak_aborts (own k o)) ++ monitor_last k core i o)

  -- it looks at the strong flags around before anything else
  pub transitions_are : (state_at core (i.watching_of o)).transitions ≡ checks ++ behind_checks
  transitions_are =
      ap (λ z. z.transitions) (rows.watcher o here has).row ∙
      five checks (raising (λ t. false) 1 (i.flags_of o).strong 1 (strong_aborts (own k o)))
      (raising (λ t. t.immediate) 1 (i.flags_of o).weak 1 (weak_aborts (own k o))) (all_ended (i.flags_of o).counter)
      (weak_checks true 1 (flags_around k core i (holder k o)))

  -- the checks, and then all strong tests, where there are some, or all weak ones
  within_woken : (tests : List Transition) (strong : List Transition) → strong_aborts (own k o) ≡ strong →
      Watches k core i o (woken k (at.Within o tests)) (at.Trying (i.watching_of o) (state_at core (i.watching_of o)).transitions)
  within_woken tests (t ∷ strong) e =
      let all : List Transition = strong_aborts (own k o) in
      let chart : woken k (at.Within o tests) ≡ at.Guarding o (map (λ x. x.1) (numbered_from 0 all)) =
      guards_then k o tests t strong e ∙ ap (at.Guarding o) (sym e ∙ sym (numbered_are 0 all)) in
      let monitor : (state_at core (i.watching_of o)).transitions ≡ checks ++ (raise_each (λ t. false) (i.flags_of o).strong (numbered_from 0 all)
      ++ (raising (λ t. t.immediate) 1 (i.flags_of o).weak 1 (weak_aborts (own k o)) ++ monitor_last k core i o)) =
      transitions_are ∙
      ap (λ zs. checks ++ (zs ++ (raising (λ t. t.immediate) 1 (i.flags_of o).weak 1 (weak_aborts (own k o)) ++ monitor_last k core i o)))
      (raising_is (λ t. false) (i.flags_of o).strong 0 all) in
      subst (λ z. Watches k core i o z (at.Trying (i.watching_of o) (state_at core (i.watching_of o)).transitions)) (sym chart)
      (subst (λ zs. Watches k core i o (at.Guarding o (map (λ x. x.1) (numbered_from 0 all))) (at.Trying (i.watching_of o) zs)) (sym monitor)
      (looks_strong each_one [] (all_yet (around k (holder k o))) (numbered_from 0 all) (all_among all)))
  within_woken tests [] e =
      let all : List Transition = weak_aborts (own k o) in
      let first = some_kept (λ t. is_weak t.kind) (own k o)
      (second_of (has_strong (own k o)) (has_weak (own k o)) (none_strong (has_strong (own k o)) refl) has) in
      let chart : woken k (at.Within o tests) ≡ at.Within o (map (λ x. x.1) (numbered_from 0 all) ++ terminations (own k o)) =
      open_then k o tests e ∙ ap (λ zs. at.Within o (zs ++ terminations (own k o))) (sym (numbered_are 0 all)) in
      let monitor : (state_at core (i.watching_of o)).transitions ≡
      checks ++ (raise_each (λ t. t.immediate) (i.flags_of o).weak (numbered_from 0 all) ++ monitor_last k core i o) =
      transitions_are ∙
      ap (λ zs. checks ++ zs)
      (ap (λ zs. raising (λ t. false) 1 (i.flags_of o).strong 1 zs
      ++ (raising (λ t. t.immediate) 1 (i.flags_of o).weak 1 all ++ monitor_last k core i o)) e ∙
      (ap (λ zs. zs ++ (raising (λ t. t.immediate) 1 (i.flags_of o).weak 1 all ++ monitor_last k core i o)) (raised_none (i.flags_of o).strong) ∙
      ap (λ zs. zs ++ monitor_last k core i o) (raising_is (λ t. t.immediate) (i.flags_of o).weak 0 all))) in
      subst (λ z. Watches k core i o z (at.Trying (i.watching_of o) (state_at core (i.watching_of o)).transitions)) (sym chart)
      (subst (λ zs. Watches k core i o (at.Within o (map (λ x. x.1) (numbered_from 0 all) ++ terminations (own k o))) (at.Trying (i.watching_of o) zs))
      (sym monitor) (looks_at first.0 first.1.0 first.1.1))
    where
      none_strong : (b : Bool) → has_strong (own k o) ≡ b → has_strong (own k o) ≡ false
      none_strong false f = f
      none_strong true f =
          let one = some_kept (λ t. is_strong t.kind) (own k o) f in let wrong : one.0 ∷ one.1.0 ≡ [] = sym one.1.1 ∙ e in absurd cc

      -- the list of weak tests is not empty
      looks_at : (t : Transition) (more : List Transition) → weak_aborts (own k o) ≡ t ∷ more →
          Watches k core i o (at.Within o (map (λ x. x.1) (numbered_from 0 (weak_aborts (own k o))) ++ terminations (own k o)))
          (at.Trying (i.watching_of o) (checks
          ++ (raise_each (λ t. t.immediate) (i.flags_of o).weak (numbered_from 0 (weak_aborts (own k o))) ++ monitor_last k core i o)))
      looks_at t more is =
          subst (λ zs. Watches k core i o (at.Within o (map (λ x. x.1) (numbered_from 0 zs) ++ terminations (own k o)))
          (at.Trying (i.watching_of o) (checks
          ++ (raise_each (λ t. t.immediate) (i.flags_of o).weak (numbered_from 0 zs) ++ monitor_last k core i o)))) (sym is)
          (looks each_one [] (all_yet (around k (holder k o))) (0, t) (numbered_from 1 more) (terminations (own k o))
          (subst (λ zs. AreAmong zs (numbered_from 0 (t ∷ more))) (sym is) (all_among (t ∷ more))) (each_kept (λ t. is_join t.kind) (own k o)))

  first_guards : (s : ℕ) (strong closing tests : List Transition) → guarded_first s strong closing ≡ at.Guarding o tests → s ≡ o
  first_guards s [] closing tests e = absurd cc
  first_guards s (t ∷ strong) closing tests e = cc

  first_within : (s : ℕ) (strong closing tests : List Transition) → guarded_first s strong closing ≡ at.Within o tests → s ≡ o
  first_within s [] closing tests e = cc
  first_within s (t ∷ strong) closing tests e = absurd cc

  not_guarding : (x : Standing) → ((tests : List Transition) → x ≢ at.Within o tests) → ((s : ℕ) (tests : List Transition) → x ≢ at.Guarding s tests) →
      (tests : List Transition) → woken k x ≢ at.Guarding o tests
  not_guarding at.Outside other never tests e = absurd cc
  not_guarding at.Ended other never tests e = absurd cc
  not_guarding (at.Trying s others) other never tests e = absurd cc
  not_guarding (at.Acting s effects p) other never tests e = absurd cc
  not_guarding (at.Entering s others) other never tests e = absurd cc
  not_guarding (at.Guarding s others) other never tests e = never s others refl
  not_guarding (at.Within s others) other never tests e =
      let same : s ≡ o = first_guards s (strong_aborts (own k s)) (closing_tests (own k s)) tests e in
      other others (ap (λ z. at.Within z others) same)

  not_within : (x : Standing) → ((tests : List Transition) → x ≢ at.Within o tests) → (tests : List Transition) → woken k x ≢ at.Within o tests
  not_within at.Outside other tests e = absurd cc
  not_within at.Ended other tests e = absurd cc
  not_within (at.Trying s others) other tests e = absurd cc
  not_within (at.Acting s effects p) other tests e = absurd cc
  not_within (at.Entering s others) other tests e = absurd cc
  not_within (at.Guarding s others) other tests e = absurd cc
  not_within (at.Within s others) other tests e =
      let same : s ≡ o = first_within s (strong_aborts (own k s)) (closing_tests (own k s)) tests e in
      other others (ap (λ z. at.Within z others) same)

  pub monitor_woken : (x y : Standing) → WatchRests k core i o x y → ((s : ℕ) (tests : List Transition) → x ≢ at.Guarding s tests) →
      Watches k core i o (woken k x) (woken core y)
  monitor_woken _ _ (watch_within tests) never = within_woken tests (strong_aborts (own k o)) refl
  monitor_woken _ _ (watch_elsewhere x other) never = elsewhere (woken k x) (not_guarding x other never) (not_within x other)

  -- whatever it watches, it looks first
  pub woken_looks : (s : ℕ) → Contains (around k (holder k o)) s → (x y : Standing) → WatchRests k core i o x y → LooksFirst k core i o s (woken core y)
  woken_looks s inner _ _ (watch_within tests) =
      subst (λ zs. LooksFirst k core i o s (at.Trying (i.watching_of o) zs)) (sym transitions_are)
      (looks_first each_one [] behind_checks (all_yet (around k (holder k o))) (in_reversed (around k (holder k o)) s inner))
  woken_looks s inner _ _ (watch_elsewhere x other) = looks_never
