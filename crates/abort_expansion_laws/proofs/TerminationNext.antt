-- A termination is next and may be taken: all regions of its superstate have ended, nobody is further inside, and so it is in the core.
use Rattle.std.proofs.Common.{◌≡◌, ℕ, ◌⊎◌, inl, inr, ⊎_elim, Bool, true, false, not, ◌&&◌, ◌||◌, List, [], ◌∷◌, ◌++◌, Contains}
use Rattle.std.proofs.Common.{refl, sym, ap, subst, ◌∙◌}
use Rattle.std.specs.Prelude.{filter}
use Rattle.std.specs.List.{list_all, list_any}
use Rattle.core_charts.specs.declared.region.Transition.{Transition}
use Rattle.core_charts.specs.Tests.{terminations, is_join}
use Rattle.core_charts.specs.Aborts.{has_aborts}
use Rattle.chart_machine.specs.declared.standing.Standing.{Standing}
use Rattle.chart_machine.specs.declared.standing.Standing.TheVariants as at
use Rattle.chart_machine.specs.declared.standing.Configuration.{Configuration}
use Rattle.chart_machine.specs.declared.table.Table.{Table}
use Rattle.chart_machine.specs.Table.{state_at}
use Rattle.chart_machine.specs.Turns.{standing_of, has_ended, has_work}
use Rattle.abort_expansion.specs.Flags.{has_join}
use Rattle.abort_expansion.specs.Superstates.{stays}
use Rattle.chart_machine_laws.proofs.LyingIn.{IsNested, around, holder, none_in, head_or_tail, head_in, tail_in}
use Rattle.chart_lowering_laws.proofs.Finished.{all_each}
use Rattle.abort_expansion_laws.proofs.TablesCorrespond.{IsThere}
use Rattle.chart_machine_laws.proofs.ChartTables.{around_there}
use Rattle.abort_expansion_laws.specs.CoreRows.{own, IsState, Images, CoreRows, flags_around}
use Rattle.abort_expansion_laws.specs.Related.{Each, is_behind, Stands, outside, ended, left, trying, acting, entering, guarding, staying, within, behind}
use Rattle.abort_expansion_laws.specs.Related.{Watches, guards as watch_guards, waits, looks_strong, looks}
use Rattle.abort_expansion_laws.specs.Related.{elsewhere, IsInside, guarded, open_inside, Closes, Related}
use Rattle.abort_expansion_laws.proofs.StartingRegions.{Once, CounterRows}
use Rattle.abort_expansion_laws.proofs.SettledInOrder.{ended_back}
use Rattle.abort_expansion_laws.proofs.Unchanged.{there_or_not}
use Rattle.abort_expansion_laws.proofs.ThreadsAround.{region_within}

-- it has ended, or is outside
abbrev pub IsOver : Standing → Type 0
IsOver x = (x ≡ at.Ended) ⊎ (x ≡ at.Outside)

once_in : (r : ℕ) (xs : List ℕ) → Once r xs → Contains xs r
once_in r [] once = absurd once
once_in r (x ∷ xs) (inl here) = subst (Contains (x ∷ xs)) here.0 (head_in x xs)
once_in r (x ∷ xs) (inr later) = tail_in x r xs (once_in r xs later.1)

some_of : (p : Transition → Bool) (xs : List Transition) (t : Transition) (more : List Transition) → filter p xs ≡ t ∷ more → list_any p xs ≡ true
some_of p [] t more e = absurd cc
some_of p (x ∷ xs) t more e = by_own (p x) refl (λ skipped. some_of p xs t more skipped)
  where
    by_own : (b : Bool) → p x ≡ b → (filter p xs ≡ t ∷ more → list_any p xs ≡ true) → (p x || list_any p xs) ≡ true
    by_own true is rest = rw (is) refl
    by_own false is rest =
        let same : filter p (x ∷ xs) ≡ filter p xs = rw (is) refl in
        rw (is) (rest (sym same ∙ e))

module _ (k core : Table) (i : Images) (rows : CoreRows k core i) (tree : IsNested k) (counts : ℕ → Bool) (written_at : ℕ → ℕ)
    (counters : CounterRows k core i rows counts written_at)
    (children : (s r : ℕ) → Contains (state_at k s).regions r → around k r ≡ s ∷ around k (holder k s))
    (c d : Configuration) (related : Related k core i c d) (r s : ℕ) (held : holder k s ≡ r) (t : Transition) (rest : List Transition)
    (stands : standing_of c r ≡ at.Within s (t ∷ rest)) (join : is_join t.kind ≡ true) (works : has_work k c (standing_of c r) ≡ true) where
  -- nothing but terminations is left to test
  pub ends_are : terminations (own k s) ≡ t ∷ rest
  ends_are = by_some closes.some closes.no_join closes.are
    where
      closes : Closes k core i s (t ∷ rest)
      closes = related.closes_last s (t ∷ rest) (ap (standing_of c) held ∙ stands)

      by_some : (some : List Transition) → Each (λ z. is_join z.kind ≡ false) some → t ∷ rest ≡ some ++ terminations (own k s) →
          terminations (own k s) ≡ t ∷ rest
      by_some [] weak are = sym are
      by_some (u ∷ some) weak are =
          let same : t ≡ u = cc in
          let wrong : true ≡ false = sym join ∙ (ap (λ z. is_join z.kind) same ∙ weak.0) in absurd cc

  pub has_one : has_join (own k s) ≡ true
  has_one = some_of (λ z. is_join z.kind) (own k s) t rest ends_are

  pub not_behind : is_behind k core i c s ≡ false
  not_behind = by_case (stays (flags_around k core i (holder k s)) (own k s)) (has_aborts (own k s)) (has_join (own k s)) _ has_one
    where
      by_case : (a b h z : Bool) → h ≡ true → not a && (not b && (not h && z)) ≡ false
      by_case true b h z e = refl
      by_case false true h z e = refl
      by_case false false true z e = refl
      by_case false false false z e = absurd cc

  -- ---- in the chart

  all_ended : list_all (λ q. has_ended (standing_of c q)) (state_at k s).regions ≡ true
  all_ended =
      let may : (not (is_join t.kind) || list_all (λ q. has_ended (standing_of c q)) (state_at k s).regions) ≡ true = sym (ap (has_work k c) stands) ∙ works in
      subst (λ b. (not b || list_all (λ q. has_ended (standing_of c q)) (state_at k s).regions) ≡ true) join may

  pub child_ended : (q : ℕ) → Contains (state_at k s).regions q → standing_of c q ≡ at.Ended
  child_ended q h = ended_back (standing_of c q) (all_each (λ p. has_ended (standing_of c p)) (state_at k s).regions all_ended q h)

  under_over : (q u : ℕ) → IsThere k q → Contains (around k q) u → IsOver (standing_of c (holder k u)) → IsOver (standing_of c q)
  under_over q u there around_it over =
      ⊎_elim (λ out. inr out) (λ present. absurd (by_inside (standing_of c (holder k u)) (related.enclosed q u there present around_it) over))
      (there_or_not (standing_of c q))
    where
      by_inside : (w : Standing) → IsInside k core i u w → IsOver w → ⊥
      by_inside _ (guarded tests) (inl e) = absurd cc
      by_inside _ (guarded tests) (inr e) = absurd cc
      by_inside _ (open_inside tests) (inl e) = absurd cc
      by_inside _ (open_inside tests) (inr e) = absurd cc

  over_by : (ss : List ℕ) (q : ℕ) → around k q ≡ ss → Contains ss s → IsThere k q → IsOver (standing_of c q)
  over_by [] q round h there = absurd (none_in s h)
  over_by (u ∷ us) q round h there =
      ⊎_elim
      (λ same. inl (child_ended q (once_in q (state_at k s).regions (counters.once q s us there (round ∙ ap (λ v. v ∷ us) same)))))
      (λ tail.
      let up : around k (holder k u) ≡ us = sym (tree.upward q u us round) in
      under_over q u there (subst (λ zs. Contains zs u) (sym round) (head_in u us))
      (over_by us (holder k u) up tail (around_there k (holder k u) s (subst (λ zs. Contains zs s) (sym up) tail))))
      (head_or_tail u s us h)

  pub inside_over : (q : ℕ) → Contains (around k q) s → IsOver (standing_of c q)
  inside_over q h = over_by (around k q) q refl h (around_there k q s h)

  -- ---- in the core

  from_core : (q : ℕ) → Contains (around core (i.thread_of q)) (i.main_of s) → Contains (around k q) s
  from_core q h =
      region_within k core i rows q s h

  thread_over : (q : ℕ) (x y : Standing) → Stands k core i c q x y → IsOver x → IsOver y
  thread_over q _ _ outside over = over
  thread_over q _ _ (ended inner) over = over
  thread_over q _ _ (left u us e gone) over = inr refl
  thread_over q _ _ (trying u tests simple its) (inl e) = absurd cc
  thread_over q _ _ (trying u tests simple its) (inr e) = absurd cc
  thread_over q _ _ (acting u v p e effects lt) (inl f) = absurd cc
  thread_over q _ _ (acting u v p e effects lt) (inr f) = absurd cc
  thread_over q _ _ (entering u fork z tests super its leads) (inl e) = absurd cc
  thread_over q _ _ (entering u fork z tests super its leads) (inr e) = absurd cc
  thread_over q _ _ (guarding u j z tests some its leads) (inl e) = absurd cc
  thread_over q _ _ (guarding u j z tests some its leads) (inr e) = absurd cc
  thread_over q _ _ (staying u tests super its stay) (inl e) = absurd cc
  thread_over q _ _ (staying u tests super its stay) (inr e) = absurd cc
  thread_over q _ _ (within u j tests super its stay still leads) (inl e) = absurd cc
  thread_over q _ _ (within u j tests super its stay still leads) (inr e) = absurd cc
  thread_over q _ _ (behind u tests super its gone) (inl e) = absurd cc
  thread_over q _ _ (behind u tests super its gone) (inr e) = absurd cc

  watcher_over : (u : ℕ) (x y : Standing) → Watches k core i u x y → IsOver x → IsOver y
  watcher_over u _ _ (watch_guards some among) (inl e) = absurd cc
  watcher_over u _ _ (looks_strong yet seen parted some among) (inl e) = absurd cc
  watcher_over u _ _ (watch_guards some among) (inr e) = absurd cc
  watcher_over u _ _ (looks_strong yet seen parted some among) (inr e) = absurd cc
  watcher_over u _ _ (waits some joins among ends) (inl e) = absurd cc
  watcher_over u _ _ (waits some joins among ends) (inr e) = absurd cc
  watcher_over u _ _ (looks yet seen parted first some joins among ends) (inl e) = absurd cc
  watcher_over u _ _ (looks yet seen parted first some joins among ends) (inr e) = absurd cc
  watcher_over u x _ (elsewhere z a b) over = inr refl

  -- a thread in the fork is over, or it is the monitor
  pub core_over : (g : ℕ) → Contains (around core g) (i.main_of s) → IsOver (standing_of d g) ⊎ ((g ≡ i.watcher_of s) × (has_aborts (own k s) ≡ true))
  core_over g h = by_sort (rows.each g (around_there core g (i.main_of s) h))
    where
      by_region : (q : ℕ) → IsThere k q → g ≡ i.thread_of q → IsOver (standing_of d g)
      by_region q there e =
          subst (λ v. IsOver (standing_of d v)) (sym e)
          (thread_over q (standing_of c q) (standing_of d (i.thread_of q)) (related.regions q there)
          (inside_over q (from_core q (subst (λ v. Contains (around core v) (i.main_of s)) e h))))

      by_monitor : (u : ℕ) → IsState k u → has_aborts (own k u) ≡ true → g ≡ i.watcher_of u →
          IsOver (standing_of d g) ⊎ ((g ≡ i.watcher_of s) × (has_aborts (own k s) ≡ true))
      by_monitor u there some e =
          ⊎_elim
          (λ same. let is : u ≡ s = rows.main_once u s same in inr (e ∙ ap i.watcher_of is, ap (λ v. has_aborts (own k v)) (sym is) ∙ some))
          (λ tail.
          inl (subst (λ v. IsOver (standing_of d v)) (sym e)
          (watcher_over u (standing_of c (holder k u)) (standing_of d (i.watcher_of u)) (related.watchers u there some)
          (inside_over (holder k u) (from_core (holder k u) tail)))))
          (head_or_tail (i.main_of u) (i.main_of s) (around core (i.thread_of (holder k u)))
          (subst (λ zs. Contains zs (i.main_of s)) ((rows.watcher u there some).encloses) (subst (λ v. Contains (around core v) (i.main_of s)) e h)))

      by_sort : ((q : ℕ) × IsThere k q × (g ≡ i.thread_of q)) ⊎ ((u : ℕ) × IsState k u × (has_aborts (own k u) ≡ true) × (g ≡ i.watcher_of u)) →
          IsOver (standing_of d g) ⊎ ((g ≡ i.watcher_of s) × (has_aborts (own k s) ≡ true))
      by_sort (inl q) = inl (by_region q.0 q.1 q.2)
      by_sort (inr u) = by_monitor u.0 u.1 u.2 u.3

  heads : (a b : ℕ) (xs ys : List ℕ) → a ∷ xs ≡ b ∷ ys → a ≡ b
  heads a b xs ys e = cc

  ended_too : (q : ℕ) (x y : Standing) → Stands k core i c q x y → x ≡ at.Ended →
      ((u : ℕ) (us : List ℕ) → around k q ≡ u ∷ us → is_behind k core i c u ≡ false) → y ≡ at.Ended
  ended_too q _ _ outside e still = absurd cc
  ended_too q _ _ (ended inner) e still = refl
  ended_too q _ _ (left u us round gone) e still = let wrong : true ≡ false = sym gone ∙ still u us round in absurd cc
  ended_too q _ _ (trying u tests simple its) e still = absurd cc
  ended_too q _ _ (acting u v p f effects lt) e still = absurd cc
  ended_too q _ _ (entering u fork z tests super its leads) e still = absurd cc
  ended_too q _ _ (guarding u j z tests some its leads) e still = absurd cc
  ended_too q _ _ (staying u tests super its stay) e still = absurd cc
  ended_too q _ _ (within u j tests super its stay open_still leads) e still = absurd cc
  ended_too q _ _ (behind u tests super its gone) e still = absurd cc

  -- the threads of its regions have ended
  pub child_thread_ended : (q : ℕ) → Contains (state_at k s).regions q → standing_of d (i.thread_of q) ≡ at.Ended
  child_thread_ended q child =
      let round : around k q ≡ s ∷ around k (holder k s) = children s q child in
      let there : IsThere k q = around_there k q s (subst (λ zs. Contains zs s) (sym round) (head_in s (around k (holder k s)))) in
      ended_too q (standing_of c q) (standing_of d (i.thread_of q)) (related.regions q there) (child_ended q child)
      (λ u us e. subst (λ v. is_behind k core i c v ≡ false) (heads s u (around k (holder k s)) us (sym round ∙ e)) not_behind)
