-- When a chart's tick is over, nobody of it guards, and nobody has work.
use Rattle.std.proofs.Common.{◌≡◌, ℕ, zero, suc, ◌+◌, ◌<◌, Bool, true, false, not, ◌||◌, List, [], ◌∷◌, length}
use Rattle.std.proofs.Common.{Contains, refl, sym, ap, subst, ◌∙◌, arith}
use Rattle.std.specs.List.{list_all, list_any}
use Rattle.sc_values.specs.Runs.{IsOver}
use Rattle.core_charts.specs.declared.region.Transition.{Transition}
use Rattle.chart_machine.specs.declared.standing.Standing.{Standing}
use Rattle.chart_machine.specs.declared.standing.Standing.TheVariants as at
use Rattle.chart_machine.specs.declared.standing.Configuration.{Configuration}
use Rattle.chart_machine.specs.declared.table.Table.{Table}
use Rattle.chart_machine.specs.Turns.{standing_of, guards as has_to_guard, is_guarded, has_work, inside, inside_is_done, is_enabled}
use Rattle.chart_machine.specs.Machine.{machine}
use Rattle.chart_machine_laws.specs.Tree.{IsThere, around, holder}
use Rattle.chart_machine_laws.proofs.LyingIn.{head_in, tail_in}
use Rattle.abort_expansion_laws.specs.CoreRows.{Images}
use Rattle.abort_expansion_laws.specs.Related.{Stands, outside, ended, left, trying, acting, entering}
use Rattle.abort_expansion_laws.specs.Related.{guarding, staying, within, behind, Related}
use Rattle.abort_expansion_laws.proofs.InsideAround.{inside_around}
use Rattle.abort_expansion_laws.proofs.KnownVariables.{present_there}
use Rattle.abort_expansion_laws.proofs.NumberedRegions.{past_number}

found : (p : ℕ → Bool) (xs : List ℕ) → list_any p xs ≡ true → (y : ℕ) × Contains xs y × (p y ≡ true)
found p [] e = absurd cc
found p (x ∷ xs) e = by_own (p x) refl e (λ rest. found p xs rest)
  where
    by_own : (b : Bool) → p x ≡ b → (p x || list_any p xs) ≡ true → (list_any p xs ≡ true → (y : ℕ) × Contains xs y × (p y ≡ true)) →
        (y : ℕ) × Contains (x ∷ xs) y × (p y ≡ true)
    by_own true is e rest = (x, head_in x xs, is)
    by_own false is e rest = let y = rest (subst (λ b. (b || list_any p xs) ≡ true) is e) in (y.0, tail_in x y.0 xs y.1, y.2)

all_not : (p : ℕ → Bool) (xs : List ℕ) → ((y : ℕ) → Contains xs y → p y ≡ false) → list_all (λ y. not (p y)) xs ≡ true
all_not p [] none = refl
all_not p (x ∷ xs) none = rw (none x (head_in x xs), all_not p xs (λ y h. none y (tail_in x y xs h))) refl

module _ (k core : Table) (i : Images) (c d : Configuration) (related : Related k core i c d)
    (deep : (q s : ℕ) → Contains (around k q) s → holder k s < q) (over : IsOver (machine k) c) where
  guard_works : (x : Standing) → has_to_guard x ≡ true → (has_work k c x ≡ true) × (inside_is_done k c x ≡ true)
  guard_works at.Outside e = absurd cc
  guard_works at.Ended e = absurd cc
  guard_works (at.Trying s tests) e = absurd cc
  guard_works (at.Acting s effects p) e = absurd cc
  guard_works (at.Entering s tests) e = (refl, refl)
  guard_works (at.Guarding s tests) e = (refl, refl)
  guard_works (at.Within s tests) e = absurd cc

  -- the outermost that guards would have its turn
  nobody_below : (n r : ℕ) → r < n → has_to_guard (standing_of c r) ≡ false
  nobody_below zero r lt = absurd (omega (lt, arith))
  nobody_below (suc n) r lt = by_case (has_to_guard (standing_of c r)) refl (λ q further. nobody_below n q (omega (lt, further, arith)))
    where
      by_around : (b : Bool) → is_guarded k c (around k r) ≡ b → has_to_guard (standing_of c r) ≡ true →
          ((q : ℕ) → q < r → has_to_guard (standing_of c q) ≡ false) → has_to_guard (standing_of c r) ≡ false
      by_around false free e outer =
          let two = guard_works (standing_of c r) e in
          let on : is_enabled k c r ≡ true = rw (two.0, free, two.1) refl in
          let wrong : true ≡ false = sym on ∙ over r in absurd cc
      by_around true some e outer =
          let s = found (λ u. has_to_guard (standing_of c (holder k u))) (around k r) some in
          let wrong : true ≡ false = sym s.2 ∙ outer (holder k s.0) (deep r s.0 s.1) in absurd cc

      by_case : (b : Bool) → has_to_guard (standing_of c r) ≡ b → ((q : ℕ) → q < r → has_to_guard (standing_of c q) ≡ false) →
          has_to_guard (standing_of c r) ≡ false
      by_case false e outer = e
      by_case true e outer = by_around (is_guarded k c (around k r)) refl e outer

  pub nobody_guards : (r : ℕ) → has_to_guard (standing_of c r) ≡ false
  nobody_guards r = nobody_below (suc r) r (omega arith)

  pub free : (zs : List ℕ) → is_guarded k c zs ≡ false
  free [] = refl
  free (s ∷ zs) = rw (nobody_guards (holder k s), free zs) refl

  within_held : (r : ℕ) (x y : Standing) → Stands k core i c r x y → (s : ℕ) (tests : List Transition) → x ≡ at.Within s tests → holder k s ≡ r
  within_held r _ _ outside s tests e = absurd cc
  within_held r _ _ (ended inner) s tests e = absurd cc
  within_held r _ _ (left u ss round over_it) s tests e = absurd cc
  within_held r _ _ (trying u others simple held) s tests e = absurd cc
  within_held r _ _ (acting u v p f effects lt) s tests e = absurd cc
  within_held r _ _ (entering u fork t others super held leads) s tests e = absurd cc
  within_held r _ _ (guarding u join t others has held leads) s tests e = absurd cc
  within_held r _ _ (staying u others super held stay) s tests e = let same : u ≡ s = cc in ap (holder k) (sym same) ∙ held
  within_held r _ _ (within u join others super held apart still leads) s tests e = let same : u ≡ s = cc in ap (holder k) (sym same) ∙ held
  within_held r _ _ (behind u others super held over_it) s tests e = let same : u ≡ s = cc in ap (holder k) (sym same) ∙ held

  idle_from : (n r : ℕ) → length k.regions < r + n → has_work k c (standing_of c r) ≡ false
  idle_from zero r lt =
      let size = related.chart_regions in
      ap (has_work k c) (past_number c.regions r (omega (size, lt, arith)))
  idle_from (suc n) r lt =
      by_case (has_work k c (standing_of c r)) refl
      (λ q more. idle_from n q (omega (lt, more, arith)))
    where
      done : (x : Standing) → standing_of c r ≡ x → ((q : ℕ) → r < q → has_work k c (standing_of c q) ≡ false) → inside_is_done k c x ≡ true
      done at.Outside e inner = refl
      done at.Ended e inner = refl
      done (at.Trying s tests) e inner = refl
      done (at.Acting s effects p) e inner = refl
      done (at.Entering s tests) e inner = refl
      done (at.Guarding s tests) e inner = refl
      done (at.Within s tests) e inner =
          let is : IsThere k r = present_there k core i c d related r (λ out. let wrong : at.Within s tests ≡ at.Outside = sym e ∙ out in absurd cc) in
          let held : holder k s ≡ r = within_held r (standing_of c r) _ (related.regions r is) s tests e in
          all_not (λ q. has_work k c (standing_of c q)) (inside k s)
          (λ q h. let below = deep q s (inside_around k s q h) in inner q (omega (below, held, arith)))

      by_case : (b : Bool) → has_work k c (standing_of c r) ≡ b → ((q : ℕ) → r < q → has_work k c (standing_of c q) ≡ false) →
          has_work k c (standing_of c r) ≡ false
      by_case false e inner = e
      by_case true e inner =
          let on : is_enabled k c r ≡ true = rw (e, free (around k r), done (standing_of c r) refl inner) refl in
          let wrong : true ≡ false = sym on ∙ over r in absurd cc

  pub idle : (r : ℕ) → has_work k c (standing_of c r) ≡ false
  idle r = idle_from (suc (length k.regions)) r (omega arith)
