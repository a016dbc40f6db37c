-- Where the fork of a superstate was entered, the monitors of those inside of it are not there yet.
use Rattle.std.proofs.Common.{◌≡◌, ℕ, ◌⊎◌, inr, ⊎_elim, true, false, ◌∷◌, Contains, sym, subst, ◌∙◌}
use Rattle.core_charts.specs.Aborts.{has_aborts}
use Rattle.chart_machine.specs.declared.standing.Standing.TheVariants as at
use Rattle.chart_machine.specs.declared.standing.Configuration.{Configuration}
use Rattle.chart_machine.specs.declared.table.Table.{Table}
use Rattle.chart_machine.specs.Turns.{standing_of, guards as has_to_guard, is_guarded}
use Rattle.chart_machine_laws.proofs.LyingIn.{around, holder, head_in, tail_in}
use Rattle.abort_expansion_laws.specs.CoreRows.{own, IsState, Images, CoreRows}
use Rattle.abort_expansion_laws.specs.Related.{IsInside, LooksFirst}
use Rattle.abort_expansion_laws.proofs.LooksFirst.{open_or_out, out_looks, still_looks}
use Rattle.abort_expansion_laws.proofs.OpenedRows.{WithinIt, Opens, OpenedRows}
use Rattle.abort_expansion_laws.proofs.Pending.{IsOpening, IsEmpty}
use Rattle.abort_expansion_laws.proofs.Unchanged.{none_among}
use Rattle.abort_expansion_laws.proofs.ThreadsAround.{thread_within}

module _ (k core : Table) (i : Images) (rows : CoreRows k core i) (opened_rows : OpenedRows k core i) (c d e : Configuration) (s : ℕ)
    (opens_it : Opens k core i c d e s) (empty : (v : ℕ) → IsOpening k core i c e v → IsEmpty k core i c e v) where
  module _ (u : ℕ) (u_there : IsState k u) (has : has_aborts (own k u) ≡ true) (inner : Contains (around k (holder k u)) s) where
    in_main : (v : ℕ) → (v ≡ u) ⊎ Contains (around k (holder k u)) v → Contains (around core (i.watcher_of u)) (i.main_of v)
    in_main v which =
        subst (λ zs. Contains zs (i.main_of v)) (sym (rows.watcher u u_there has).encloses)
        (⊎_elim
        (λ same. subst (λ w. Contains (i.main_of u ∷ around core (i.thread_of (holder k u))) (i.main_of w)) (sym same)
        (head_in (i.main_of u) (around core (i.thread_of (holder k u)))))
        (λ further. tail_in (i.main_of u) (i.main_of v) (around core (i.thread_of (holder k u)))
        (thread_within k core i rows (holder k u) v further))
        which)

    -- a superstate with aborts is not opened at once: its preparation goes before, or that of one around it
    hidden : IsInside k core i u (standing_of c (holder k u)) → standing_of e (i.watcher_of u) ≡ at.Outside
    hidden inside_u =
        let covered = opened_rows.covered c d e s opens_it u has inner inside_u in empty covered.0 covered.1 (i.watcher_of u) (in_main covered.0 covered.2)

    monitor_gone : standing_of e (i.watcher_of u) ≡ at.Outside
    monitor_gone =
        ⊎_elim (λ w. ⊎_elim hidden (λ out. out) (open_or_out k core i u (standing_of c (holder k u)) (standing_of e (i.watcher_of u)) w)) (λ hides. hides.0)
        (opened_rows.watchers c d e s opens_it u u_there has (inr inner))

  -- so whoever had yet to look before has so still
  module _ (before : Configuration) (unseen : (u v : ℕ) → IsState k u → has_aborts (own k u) ≡ true → Contains (around k (holder k u)) v →
      has_to_guard (standing_of c (holder k v)) ≡ true → LooksFirst k core i u v (standing_of before (i.watcher_of u)))
      (same : (u : ℕ) → IsState k u → has_aborts (own k u) ≡ true → ¬ WithinIt k core i s u → standing_of e (i.watcher_of u) ≡ standing_of before
      (i.watcher_of u)) (free : is_guarded k c (around k (holder k s)) ≡ false) (within_or_not : (u : ℕ) → WithinIt k core i s u ⊎ ¬ WithinIt k core i s u)
    where
      pub still_unseen : (u v : ℕ) → IsState k u → has_aborts (own k u) ≡ true → Contains (around k (holder k u)) v →
          has_to_guard (standing_of c (holder k v)) ≡ true → LooksFirst k core i u v (standing_of e (i.watcher_of u))
      still_unseen u v u_there has inner guarded_by =
          ⊎_elim
          (⊎_elim (λ is. absurd (none_around (subst (λ w. Contains (around k (holder k w)) v) is inner)))
          (λ lies. out_looks k core i u (standing_of e (i.watcher_of u)) (monitor_gone u u_there has lies)))
          (λ out.
          still_looks k core i u (standing_of before (i.watcher_of u)) (standing_of e (i.watcher_of u)) (same u u_there has out)
          (unseen u v u_there has inner guarded_by))
          (within_or_not u)
        where
          none_around : Contains (around k (holder k s)) v → ⊥
          none_around round =
              let wrong : true ≡ false = sym guarded_by ∙ none_among (λ w. has_to_guard (standing_of c (holder k w))) (around k (holder k s)) v free round in
              absurd cc
