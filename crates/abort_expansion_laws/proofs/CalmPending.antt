-- Where a step is pending, nobody guards.
use Rattle.std.proofs.Common.{◌≡◌, ℕ, zero, suc, ◌≤◌, ◌⊎◌, inl, inr, ⊎_elim, true, false}
use Rattle.std.proofs.Common.{length, unwrap_or, refl, sym, ap, ◌∙◌, arith}
use Rattle.std.proofs.lemmas.Option.{slice_get_past}
use Rattle.std.proofs.lemmas.Bool.{cases_lt}
use Rattle.core_charts.specs.Aborts.{has_aborts}
use Rattle.chart_machine.specs.declared.standing.Standing.{Standing}
use Rattle.chart_machine.specs.declared.standing.Standing.TheVariants as at
use Rattle.chart_machine.specs.declared.standing.Configuration.{Configuration}
use Rattle.chart_machine.specs.declared.table.Table.{Table}
use Rattle.chart_machine.specs.Turns.{standing_of, guards as has_to_guard}
use Rattle.abort_expansion.specs.Superstates.{stays}
use Rattle.chart_machine_laws.proofs.LyingIn.{holder}
use Rattle.abort_expansion_laws.proofs.TablesCorrespond.{IsThere}
use Rattle.abort_expansion_laws.specs.CoreRows.{own, IsState, Images, CoreRows}
use Rattle.abort_expansion_laws.specs.Related.{Stands, outside, ended, left, trying, acting, entering, guarding, staying, within, behind, Watches}
use Rattle.abort_expansion_laws.specs.Related.{guards as watch_guards, waits, looks_strong, looks, elsewhere}
use Rattle.abort_expansion_laws.proofs.Pending.{Waits, settled, opening, starting, joining, ending, hidden}
use Rattle.abort_expansion_laws.proofs.Pending.{Pending}

-- ---- nobody in the core guards
module _ (k core : Table) (i : Images) (rows : CoreRows k core i) (c : Configuration) (n : ℕ) (d : Configuration) (p : Pending k core i c n d) where
  settled_calm : (r : ℕ) (x y : Standing) → Stands k core i c r x y → has_to_guard y ≡ false
  settled_calm r _ _ outside = refl
  settled_calm r _ _ (ended inner) = refl
  settled_calm r _ _ (left s ss e over) = refl
  settled_calm r _ _ (trying s tests simple held) = refl
  settled_calm r _ _ (acting s u q e effects lt) = refl
  settled_calm r _ _ (entering s fork t tests super held leads) = refl
  settled_calm r _ _ (guarding s join t tests has held leads) = refl
  settled_calm r _ _ (staying s tests super held stays) = refl
  settled_calm r _ _ (within s join tests super held stays still leads) = refl
  settled_calm r _ _ (behind s tests super held over) = refl

  waits_calm : (r : ℕ) → Waits k core i c d r → has_to_guard (standing_of d (i.thread_of r)) ≡ false
  waits_calm r (settled stands) = settled_calm r (standing_of c r) (standing_of d (i.thread_of r)) stands
  waits_calm r (opening s held o) = ap (λ q. has_to_guard (standing_of d (i.thread_of q))) (sym held) ∙ ap has_to_guard o.preparing
  waits_calm r (starting s o) = ap has_to_guard o.counting
  waits_calm r (joining s held o) = ap (λ q. has_to_guard (standing_of d (i.thread_of q))) (sym held) ∙ ap has_to_guard o.forked
  waits_calm r (ending s ss direct o over idle) = ap has_to_guard idle
  waits_calm r (hidden s inner o out) = ap has_to_guard out

  watch_calm : (o : ℕ) (x y : Standing) → Watches k core i o x y → has_to_guard y ≡ false
  watch_calm o _ _ (watch_guards some among) = refl
  watch_calm o _ _ (looks_strong yet seen parted some among) = refl
  watch_calm o _ _ (waits some joins among all) = refl
  watch_calm o _ _ (looks yet seen parted first some joins among all) = refl
  watch_calm o x _ (elsewhere z a b) = refl

  past_or_there : (t : ℕ) → (t ≡ 0) ⊎ (IsThere core t ⊎ (suc (length core.regions) ≤ t))
  past_or_there zero = inl refl
  past_or_there (suc t) = ⊎_elim (λ lt. inr (inl (omega arith, omega (lt, arith)))) (λ past. inr (inr (omega (past, arith))))
      (cases_lt t (length core.regions))

  pub all_calm : (t : ℕ) → has_to_guard (standing_of d t) ≡ false
  all_calm t = by_place (past_or_there t)
    where
      by_sort : ((r : ℕ) × IsThere k r × (t ≡ i.thread_of r)) ⊎ ((o : ℕ) × IsState k o × (has_aborts (own k o) ≡ true) × (t ≡ i.watcher_of o)) →
          has_to_guard (standing_of d t) ≡ false
      by_sort (inl r) = ap (λ z. has_to_guard (standing_of d z)) r.2 ∙ waits_calm r.0 (p.waits r.0 r.1)
      by_sort (inr o) =
          ap (λ z. has_to_guard (standing_of d z)) o.3
          ∙ ⊎_elim (λ w. watch_calm o.0 (standing_of c (holder k o.0)) (standing_of d (i.watcher_of o.0)) w) (λ hides. ap has_to_guard hides.0)
          (p.watchers o.0 o.1 o.2)

      by_place : (t ≡ 0) ⊎ (IsThere core t ⊎ (suc (length core.regions) ≤ t)) → has_to_guard (standing_of d t) ≡ false
      by_place (inl e) = ap (λ z. has_to_guard (standing_of d z)) e ∙ ap has_to_guard p.no_core
      by_place (inr (inl there)) = by_sort (rows.each t there)
      by_place (inr (inr past)) =
          let far : length d.regions ≤ t = let size = p.core_regions in omega (past, size, arith) in
          ap (λ o. has_to_guard (unwrap_or o at.Outside)) (slice_get_past d.regions t far)
