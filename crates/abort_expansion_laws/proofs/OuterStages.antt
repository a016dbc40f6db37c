-- The stage of a step of a region that has work and that nobody guards, for whatever is around it.
use Rattle.std.proofs.Common.{◌≡◌, ◌≢◌, ℕ, ◌≤◌, inl, inr, true, false, Contains, sym}
use Rattle.std.proofs.Common.{ap, subst, ◌∙◌, arith}
use Rattle.std.specs.List.{list_any}
use Rattle.core_charts.specs.Tests.{is_weak}
use Rattle.core_charts.specs.Aborts.{has_aborts}
use Rattle.chart_machine.specs.declared.standing.Standing.{Standing}
use Rattle.chart_machine.specs.declared.standing.Standing.TheVariants as at
use Rattle.chart_machine.specs.declared.standing.Configuration.{Configuration}
use Rattle.chart_machine.specs.declared.table.Table.{Table}
use Rattle.chart_machine.specs.Turns.{standing_of, guards, has_work, is_guarded, inside}
use Rattle.chart_machine_laws.proofs.LyingIn.{LiesUnder, around, holder}
use Rattle.abort_expansion_laws.proofs.TablesCorrespond.{IsThere}
use Rattle.abort_expansion_laws.specs.CoreRows.{own, Images, CoreRows}
use Rattle.abort_expansion_laws.specs.Related.{IsInside, guarded, open_inside, Related}
use Rattle.abort_expansion_laws.proofs.Unchanged.{none_among}
use Rattle.abort_expansion_laws.proofs.StageReached.{some_work, stage_of, Stage, any_in, inside_in, one_at_least, one_at_most}
use Rattle.abort_expansion_laws.proofs.StandsInside.{inside_present}
use Rattle.abort_expansion_laws.proofs.KnownVariables.{present_there}

module _ (k core : Table) (i : Images) (rows : CoreRows k core i) (c d : Configuration) (related : Related k core i c d) (q : ℕ) (there : IsThere k q)
    (was_there : standing_of c q ≢ at.Outside) (works : has_work k c (standing_of c q) ≡ true) (free : is_guarded k c (around k q) ≡ false)
    (c' : Configuration) (same : (u : ℕ) → Contains (around k q) u → standing_of c' (holder k u) ≡ standing_of c (holder k u)) where
  module _ (u : ℕ) (inner : Contains (around k q) u) where
    pub stands_inside : IsInside k core i u (standing_of c (holder k u))
    stands_inside = related.enclosed q u there was_there inner

    pub holder_there : IsThere k (holder k u)
    holder_there = present_there k core i c d related (holder k u) (inside_present k core i u (standing_of c (holder k u)) stands_inside)

    not_guarding : guards (standing_of c (holder k u)) ≡ false
    not_guarding = none_among (λ v. guards (standing_of c (holder k v))) (around k q) u free inner

    busy : some_work k c u ≡ true
    busy = any_in (λ r. has_work k c (standing_of c r)) (inside k u) q (inside_in k u q there inner) works

    low : (x : Standing) → IsInside k core i u x → stage_of k c x ≤ 1
    low _ (guarded tests) = omega arith
    low _ (open_inside tests) = rw (busy) (one_at_most (has_aborts (own k u)))

    high : (x : Standing) → IsInside k core i u x → guards x ≡ false → 1 ≤ stage_of k c' x
    high _ (guarded tests) e = absurd cc
    high _ (open_inside tests) e = one_at_least (has_aborts (own k u)) (some_work k c' u) (list_any (λ t. is_weak t.kind) tests)

    high_there : 1 ≤ stage_of k c' (standing_of c' (holder k u))
    high_there =
        subst (λ x. 1 ≤ stage_of k c' x) (sym (same u inner))
        (high (standing_of c (holder k u)) stands_inside not_guarding)

  abbrev pub Inner : ℕ → ℕ → Type 0
  Inner h v = (b : ℕ) × LiesUnder k q b × (h ≡ i.thread_of b) × (v ≡ 1)

  pub under_stages : (e : Configuration) (h v : ℕ) → Inner h v → ((u : ℕ) → Stage k i.thread_of c d h u → u ≤ v) × Stage k i.thread_of c' e h v
  under_stages e h v (b, under, is, one) = by_kind under
    where
      by_kind : LiesUnder k q b → ((u : ℕ) → Stage k i.thread_of c d h u → u ≤ v) × Stage k i.thread_of c' e h v
      by_kind (inr root) = (
        λ u before. let n = before.chart (is ∙ ap i.thread_of root) in omega (n, one, arith),
        record {
          regions = λ r there w. let one_root : r ≡ 0 = rows.region_once r 0 (sym w ∙ (is ∙ ap i.thread_of root)) in let lt = there.0 in
              absurd (omega (one_root, lt, arith));
          chart = λ w. omega (one, arith);
        },
      )
      by_kind (inl inner) = (
        λ u before.
            let n = before.regions (holder k inner.0) (holder_there inner.0 inner.1) (is ∙ ap i.thread_of (sym inner.2)) in
            let m = low inner.0 inner.1 (standing_of c (holder k inner.0)) (stands_inside inner.0 inner.1) in omega (n, m, one, arith),
        record {
          regions = λ r there w.
              let its : holder k inner.0 ≡ r = inner.2 ∙ rows.region_once b r (sym is ∙ w) in
              let n : 1 ≤ stage_of k c' (standing_of c' r) = subst (λ x. 1 ≤ stage_of k c' (standing_of c' x)) its (high_there inner.0 inner.1) in
              omega (n, one, arith);
          chart = λ w. omega (one, arith);
        },
      )
