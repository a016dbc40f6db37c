-- A superstate in which somebody guards has a strong flag.
use Rattle.std.proofs.Common.{◌≡◌, ℕ, true, Some, List, [], ◌∷◌, ap, sym, ◌∙◌, refl}
use Rattle.core_charts.specs.declared.region.Transition.{Transition}
use Rattle.core_charts.specs.Aborts.{has_aborts}
use Rattle.chart_machine.specs.declared.standing.Standing.{Standing}
use Rattle.chart_machine.specs.declared.standing.Standing.TheVariants as at
use Rattle.chart_machine.specs.declared.standing.Configuration.{Configuration}
use Rattle.chart_machine.specs.declared.table.Table.{Table}
use Rattle.chart_machine.specs.Turns.{standing_of, guards as has_to_guard}
use Rattle.chart_machine_laws.proofs.LyingIn.{holder}
use Rattle.abort_expansion_laws.specs.CoreRows.{own, IsState, Images, CoreRows}
use Rattle.abort_expansion_laws.specs.Related.{Stands, outside, ended, left, trying, acting, entering, guarding, staying, within, behind}
use Rattle.abort_expansion_laws.specs.Related.{Watches, guards as watch_guards, waits, looks_strong, looks, elsewhere, IsInside, guarded, open_inside, Related}
use Rattle.abort_expansion_laws.proofs.KnownVariables.{present_there}
use Rattle.abort_expansion_laws.proofs.StandsInside.{inside_present}

module _ (k core : Table) (i : Images) (rows : CoreRows k core i) (c d : Configuration) (related : Related k core i c d) (s : ℕ) (here : IsState k s) where
  record Tests (tests : List Transition) : Type 0 where
    has : has_aborts (own k s) ≡ true
    first : Transition
    others : List Transition
    are : tests ≡ first ∷ others

  tests_left : (r : ℕ) (x y : Standing) → Stands k core i c r x y → (tests : List Transition) → x ≡ at.Guarding s tests → Tests tests
  tests_left r _ _ outside tests e = absurd cc
  tests_left r _ _ (ended inner) tests e = absurd cc
  tests_left r _ _ (left u ss round over) tests e = absurd cc
  tests_left r _ _ (trying u others simple held) tests e = absurd cc
  tests_left r _ _ (acting u v p f effects lt) tests e = absurd cc
  tests_left r _ _ (entering u fork t others super held leads) tests e = absurd cc
  tests_left r _ _ (guarding u join t others has held leads) tests e =
      let state : u ≡ s = cc in
      let same : t ∷ others ≡ tests = cc in
      record { has = ap (λ v. has_aborts (own k v)) (sym state) ∙ has; first = t; others = others; are = sym same }
  tests_left r _ _ (staying u others super held stays) tests e = absurd cc
  tests_left r _ _ (within u join others super held stays open_still leads) tests e = absurd cc
  tests_left r _ _ (behind u others super held over) tests e = absurd cc

  flag_for : (x y : Standing) → Watches k core i s x y → (t : Transition) (tests : List Transition) → x ≡ at.Guarding s (t ∷ tests) →
      (n : ℕ) × ((i.flags_of s).strong ≡ Some n)
  flag_for _ _ (watch_guards [] among) t tests e = absurd cc
  flag_for _ _ (watch_guards (z ∷ some) among) t tests e = rows.strong_there s z.0 z.1 here among.0
  flag_for _ _ (looks_strong yet seen parted [] among) t tests e = absurd cc
  flag_for _ _ (looks_strong yet seen parted (z ∷ some) among) t tests e = rows.strong_there s z.0 z.1 here among.0
  flag_for _ _ (waits some joins among ends) t tests e = absurd cc
  flag_for _ _ (looks yet seen parted first some joins among ends) t tests e = absurd cc
  flag_for x _ (elsewhere _ a b) t tests e = absurd (a (t ∷ tests) e)

  pub guard_flag : IsInside k core i s (standing_of c (holder k s)) → has_to_guard (standing_of c (holder k s)) ≡ true →
      (n : ℕ) × ((i.flags_of s).strong ≡ Some n)
  guard_flag inside_s on = by (standing_of c (holder k s)) inside_s refl on
    where
      by : (x : Standing) → IsInside k core i s x → standing_of c (holder k s) ≡ x → has_to_guard x ≡ true → (n : ℕ) × ((i.flags_of s).strong ≡ Some n)
      by _ (open_inside tests) is on_x = absurd cc
      by _ (guarded tests) is on_x =
          let these : Tests tests = tests_left (holder k s) (standing_of c (holder k s)) (standing_of d (i.thread_of (holder k s)))
          (related.regions (holder k s)
          (present_there k core i c d related (holder k s) (inside_present k core i s (standing_of c (holder k s)) inside_s))) tests is in
          flag_for (standing_of c (holder k s)) (standing_of d (i.watcher_of s)) (related.watchers s here these.has) these.first these.others
          (is ∙ ap (at.Guarding s) these.are)
