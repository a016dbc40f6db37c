-- Once a flag is raised, everything inside its superstate leaves, what lies deeper first.
use Rattle.std.proofs.Common.{◌≡◌, ◌≢◌, ℕ, zero, suc, ◌<◌, ⊎_elim, true, false, not, Some, None, List, [], ◌∷◌, ◌++◌, map, length, slice_get, slice_set}
use Rattle.std.proofs.Common.{unwrap_or, Contains, refl, sym, ap, subst, ◌∙◌, arith}
use Rattle.std.specs.List.{list_all}
use Rattle.std.proofs.lemmas.List.{length-set}
use Rattle.core_charts.specs.declared.region.Transition.{Transition}
use Rattle.chart_machine.specs.declared.standing.Standing.{Standing}
use Rattle.chart_machine.specs.declared.standing.Standing.TheVariants as at
use Rattle.chart_machine.specs.declared.standing.Move.{Move}
use Rattle.chart_machine.specs.declared.standing.Configuration.{Configuration}
use Rattle.chart_machine.specs.declared.table.Table.{Table}
use Rattle.chart_machine.specs.Table.{state_at}
use Rattle.chart_machine.specs.Turns.{standing_of, has_ended, has_work, is_guarded, inside, is_enabled}
use Rattle.chart_machine.specs.Steps.{to, moved, acts, verdict, taken, change_of, step, state_in}
use Rattle.core_charts.specs.Tests.{is_join}
use Rattle.tick_laws.proofs.Lists.{same_or_not}
use Rattle.chart_machine_laws.proofs.LyingIn.{around, none_in, head_or_tail, head_in, tail_in}
use Rattle.abort_expansion_laws.specs.CoreRows.{joins}
use Rattle.abort_expansion_laws.proofs.TestFails.{tested_is}

-- ---- moves

abbrev pub drops : List ℕ → List Move
drops rs = map (λ r. to r at.Outside) rs

abbrev pub at_number : List Standing → ℕ → Standing
at_number zs q = unwrap_or (slice_get zs q) at.Outside

pub set_out : (zs : List Standing) (r : ℕ) → at_number (slice_set zs r at.Outside) r ≡ at.Outside
set_out [] r = refl
set_out (z ∷ zs) zero = refl
set_out (z ∷ zs) (suc r) = set_out zs r

pub set_other : (zs : List Standing) (r q : ℕ) (x : Standing) → q ≢ r → at_number (slice_set zs r x) q ≡ at_number zs q
set_other [] r q x ne = refl
set_other (z ∷ zs) zero zero x ne = absurd (ne refl)
set_other (z ∷ zs) zero (suc q) x ne = refl
set_other (z ∷ zs) (suc r) zero x ne = refl
set_other (z ∷ zs) (suc r) (suc q) x ne = set_other zs r q x (λ e. ne (ap suc e))

pub set_here : (zs : List Standing) (r : ℕ) (x : Standing) → r < length zs → at_number (slice_set zs r x) r ≡ x
set_here [] r x lt = absurd (omega (lt, arith))
set_here (z ∷ zs) zero x lt = refl
set_here (z ∷ zs) (suc r) x lt = set_here zs r x (omega (lt, arith))

pub stay_out : (rs : List ℕ) (zs : List Standing) (q : ℕ) → at_number zs q ≡ at.Outside → at_number (moved (drops rs) zs) q ≡ at.Outside
stay_out [] zs q e = e
stay_out (r ∷ rs) zs q e =
    stay_out rs (slice_set zs r at.Outside) q
    (⊎_elim (λ same. subst (λ p. at_number (slice_set zs r at.Outside) p ≡ at.Outside) (sym same) (set_out zs r)) (λ ne. set_other zs r q at.Outside ne ∙ e)
    (same_or_not q r))

pub drops_in : (rs : List ℕ) (zs : List Standing) (q : ℕ) → Contains rs q → at_number (moved (drops rs) zs) q ≡ at.Outside
drops_in [] zs q h = absurd (none_in q h)
drops_in (r ∷ rs) zs q h =
    ⊎_elim (λ same. stay_out rs (slice_set zs r at.Outside) q (subst (λ p. at_number (slice_set zs r at.Outside) p ≡ at.Outside) same (set_out zs r)))
    (λ tail. drops_in rs (slice_set zs r at.Outside) q tail) (head_or_tail r q rs h)

pub drops_out : (rs : List ℕ) (zs : List Standing) (q : ℕ) → ¬ Contains rs q → at_number (moved (drops rs) zs) q ≡ at_number zs q
drops_out [] zs q none = refl
drops_out (r ∷ rs) zs q none =
    drops_out rs (slice_set zs r at.Outside) q (λ h. none (tail_in r q rs h))
    ∙ set_other zs r q at.Outside (λ same. none (subst (Contains (r ∷ rs)) (sym same) (head_in r rs)))

pub drops_length : (rs : List ℕ) (zs : List Standing) → length (moved (drops rs) zs) ≡ length zs
drops_length [] zs = refl
drops_length (r ∷ rs) zs = drops_length rs (slice_set zs r at.Outside) ∙ length-set zs r at.Outside

pub moved_append : (a b : List Move) (zs : List Standing) → moved (a ++ b) zs ≡ moved b (moved a zs)
moved_append [] b zs = refl
moved_append (m ∷ a) b zs = moved_append a b (slice_set zs m.region m.standing)

-- ---- two steps of the core

module _ (core : Table) where
  pub leaves : (d : Configuration) (q s : ℕ) (w : Transition) (rest : List Transition) → is_guarded core d (around core q) ≡ false →
      standing_of d q ≡ at.Trying s (w ∷ rest) →
      verdict d.variables w.trigger ≡ Some true → w.effects ≡ [] → inside core s ≡ [] →
      (state_at core (state_in core q w.target)).entered ≡ to q at.Ended ∷ [] →
      step core q d ≡ Some (record { variables = d.variables; regions = slice_set d.regions q at.Ended })
  leaves d q s w rest free stands true_there none simple ends =
      let on : is_enabled core d q ≡ true = rw (stands, free) refl in
      let moves : taken core q s w ≡ to q at.Ended ∷ [] = rw (simple, none, ends) refl in
      let does : change_of core d q (standing_of d q) ≡ Some (record { write = None; moves = to q at.Ended ∷ [] }) =
      ap (change_of core d q) stands ∙ (tested_is core d q s w (to q (at.Trying s rest) ∷ []) true true_there ∙
      ap (λ ms. Some (record { write = None; moves = ms })) moves) in
      rw (on, does) refl

  pub joined : (d : Configuration) (q s j : ℕ) (x : Standing) → is_guarded core d (around core q) ≡ false → standing_of d q ≡ at.Within s (joins j ∷ []) →
      list_all (λ r. has_ended (standing_of d r)) (state_at core s).regions ≡ true →
      list_all (λ r. not (has_work core d (standing_of d r))) (inside core s) ≡ true →
      (state_at core (state_in core q j)).entered ≡ to q x ∷ [] →
      step core q d ≡ Some (record { variables = d.variables; regions = slice_set (moved (drops (inside core s)) d.regions) q x })
  joined d q s j x free stands ended idle enters =
      let on : is_enabled core d q ≡ true = rw (stands, ended, free, idle) refl in
      let moves : taken core q s (joins j) ≡ drops (inside core s) ++ to q x ∷ [] = rw (enters) refl in
      let does : change_of core d q (standing_of d q) ≡ Some (record { write = None; moves = drops (inside core s) ++ to q x ∷ [] }) =
      ap (change_of core d q) stands ∙ (tested_is core d q s (joins j) (to q (at.Within s []) ∷ []) true refl ∙
      ap (λ ms. Some (record { write = None; moves = ms })) moves) in
      let all : step core q d ≡ Some (record { variables = d.variables; regions = moved (drops (inside core s) ++ to q x ∷ []) d.regions }) =
      rw (on, does) refl in
      all ∙ ap (λ zs. Some (record { variables = d.variables; regions = zs })) (moved_append (drops (inside core s)) (to q x ∷ []) d.regions)

  -- a termination without a trigger is taken, when nobody is left inside
  pub terminated : (d : Configuration) (q s : ℕ) (w : Transition) (rest : List Transition) → is_guarded core d (around core q) ≡ false →
      standing_of d q ≡ at.Within s (w ∷ rest) → is_join w.kind ≡ true → w.trigger ≡ None →
      list_all (λ r. has_ended (standing_of d r)) (state_at core s).regions ≡ true →
      list_all (λ r. not (has_work core d (standing_of d r))) (inside core s) ≡ true →
      step core q d ≡ Some (record { variables = d.variables; regions = moved (acts core q s w.effects w.target) (moved (drops (inside core s)) d.regions) })
  terminated d q s w rest free stands join none ended idle =
      let on : is_enabled core d q ≡ true = rw (stands, join, ended, free, idle) refl in
      let true_there : verdict d.variables w.trigger ≡ Some true = ap (verdict d.variables) none in
      let does : change_of core d q (standing_of d q) ≡ Some (record { write = None; moves = taken core q s w }) =
      ap (change_of core d q) stands ∙ tested_is core d q s w (to q (at.Within s rest) ∷ []) true true_there in
      let all : step core q d ≡ Some (record { variables = d.variables; regions = moved (taken core q s w) d.regions }) = rw (on, does) refl in
      all ∙ ap (λ zs. Some (record { variables = d.variables; regions = zs })) (moved_append (drops (inside core s))
      (acts core q s w.effects w.target) d.regions)
