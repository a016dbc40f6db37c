-- A region leaves a superstate for another standing, and all that is inside is dropped: where the regions stand then.
use Rattle.std.proofs.Common.{◌≡◌, ◌≢◌, ℕ, suc, ◌<◌, false, length, slice_set, Contains, refl, ap, subst, ◌∙◌, arith}
use Rattle.chart_machine.specs.declared.standing.Standing.{Standing}
use Rattle.chart_machine.specs.declared.standing.Standing.TheVariants as at
use Rattle.chart_machine.specs.declared.standing.Configuration.{Configuration}
use Rattle.chart_machine.specs.declared.table.Table.{Table}
use Rattle.chart_machine.specs.Turns.{standing_of, guards, is_guarded, inside}
use Rattle.chart_machine.specs.Steps.{moved}
use Rattle.chart_machine_laws.proofs.LyingIn.{IsNested, around, holder, around_around}
use Rattle.abort_expansion_laws.proofs.TablesCorrespond.{IsThere}
use Rattle.abort_expansion_laws.proofs.StageReached.{holds_other, inside_in}
use Rattle.abort_expansion_laws.proofs.InsideAround.{inside_around}
use Rattle.abort_expansion_laws.proofs.Leaving.{drops, set_here, set_other, drops_in, drops_out, drops_length}
use Rattle.abort_expansion_laws.proofs.DropsOut.{any_alike}

module _ (k : Table) (tree : IsNested k) (c : Configuration) (r o : ℕ) (held : holder k o ≡ r) (there : IsThere k r)
    (size : length c.regions ≡ suc (length k.regions)) (y : Standing) where
  abbrev pub dropped_to : Configuration
  dropped_to = record { variables = c.variables; regions = slice_set (moved (drops (inside k o)) c.regions) r y }

  in_chart : r < length (moved (drops (inside k o)) c.regions)
  in_chart = let lt = there.1 in omega (lt, size, drops_length (inside k o) c.regions, arith)

  pub here : standing_of dropped_to r ≡ y
  here = set_here (moved (drops (inside k o)) c.regions) r y in_chart

  r_out : ¬ Contains (around k r) o
  r_out h = holds_other k tree r o h held

  pub gone : (q : ℕ) → IsThere k q → Contains (around k q) o → standing_of dropped_to q ≡ at.Outside
  gone q q_there h =
      set_other (moved (drops (inside k o)) c.regions) r q y (λ is. r_out (subst (λ p. Contains (around k p) o) is h)) ∙
      drops_in (inside k o) c.regions q (inside_in k o q q_there h)

  pub same : (q : ℕ) → q ≢ r → ¬ Contains (around k q) o → standing_of dropped_to q ≡ standing_of c q
  same q ne out_q = set_other (moved (drops (inside k o)) c.regions) r q y ne ∙ drops_out (inside k o) c.regions q (λ h. out_q (inside_around k o q h))

  -- nobody comes to guard what is around it
  pub still_free : is_guarded k c (around k r) ≡ false → is_guarded k dropped_to (around k r) ≡ false
  still_free free =
      any_alike (λ s. guards (standing_of dropped_to (holder k s))) (λ s. guards (standing_of c (holder k s))) (around k r)
      (λ s h. ap guards (same (holder k s) (holds_other k tree r s h) (λ inner. r_out (around_around k tree (around k r) r s o refl h inner))))
      ∙ free
