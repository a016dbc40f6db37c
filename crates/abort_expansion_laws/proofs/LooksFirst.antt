-- Monitors that have yet to look at the strong flags around their superstates: that they do is passed on where they stand as before.
use Rattle.std.proofs.Common.{◌≡◌, ◌≢◌, ℕ, ◌⊎◌, inl, inr, ⊎_elim, ◌∷◌, ◌++◌, map, refl, sym, subst}
use Rattle.chart_machine.specs.declared.standing.Standing.{Standing}
use Rattle.chart_machine.specs.declared.standing.Standing.TheVariants as at
use Rattle.chart_machine.specs.declared.table.Table.{Table}
use Rattle.abort_expansion_laws.specs.CoreRows.{Images}
use Rattle.abort_expansion_laws.specs.Related.{Watches, guards, waits, looks_strong, looks, elsewhere}
use Rattle.abort_expansion_laws.specs.Related.{IsInside, guarded, open_inside, LooksFirst, looks_never, looks_first}

module _ (k core : Table) (i : Images) where
  pub looks_not_ended : {s : ℕ} (o : ℕ) (y : Standing) → LooksFirst k core i o s y → y ≢ at.Ended
  looks_not_ended o _ looks_never e = absurd cc
  looks_not_ended o _ (looks_first yet seen rest parted inner) e = absurd cc

  -- who is not there does
  pub out_looks : {s : ℕ} (o : ℕ) (y : Standing) → y ≡ at.Outside → LooksFirst k core i o s y
  out_looks {s} o y out = subst (LooksFirst k core i o s) (sym out) looks_never

  pub still_looks : {s : ℕ} (o : ℕ) (y z : Standing) → z ≡ y → LooksFirst k core i o s y → LooksFirst k core i o s z
  still_looks {s} o y z same before = subst (LooksFirst k core i o s) (sym same) before

  -- the monitor of who is gone
  pub watch_gone : (o : ℕ) (x y : Standing) → Watches k core i o x y → (x ≡ at.Ended) ⊎ (x ≡ at.Outside) → y ≡ at.Outside
  watch_gone o _ _ (guards some among) gone = ⊎_elim (λ w. absurd cc) (λ w. absurd cc) gone
  watch_gone o _ _ (looks_strong yet seen parted some among) gone = ⊎_elim (λ w. absurd cc) (λ w. absurd cc) gone
  watch_gone o _ _ (waits some joins among ends) gone = ⊎_elim (λ w. absurd cc) (λ w. absurd cc) gone
  watch_gone o _ _ (looks yet seen parted first some joins among ends) gone = ⊎_elim (λ w. absurd cc) (λ w. absurd cc) gone
  watch_gone o x _ (elsewhere _ not_guarding not_within) gone = refl

  -- a superstate is guarded, or open, or its monitor is not there
  pub open_or_out : (o : ℕ) (x y : Standing) → Watches k core i o x y → IsInside k core i o x ⊎ (y ≡ at.Outside)
  open_or_out o _ _ (guards some among) = inl (guarded (map (λ z. z.1) some))
  open_or_out o _ _ (looks_strong yet seen parted some among) = inl (guarded (map (λ z. z.1) some))
  open_or_out o _ _ (waits some ends among only) = inl (open_inside (map (λ z. z.1) some ++ ends))
  open_or_out o _ _ (looks yet seen parted first some ends among only) = inl (open_inside (map (λ z. z.1) (first ∷ some) ++ ends))
  open_or_out o x _ (elsewhere _ a b) = inr refl
