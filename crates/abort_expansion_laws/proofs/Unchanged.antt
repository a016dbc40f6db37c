-- What a step of one region leaves as it is.
use Rattle.std.proofs.Common.{◌≡◌, ◌≢◌, ℕ, zero, suc, ◌<◌, ◌≤◌, ◌⊎◌, inl, inr, ⊎_elim, Bool, true, false, Some, List, [], ◌∷◌, ◌++◌, map, length, slice_get}
use Rattle.std.proofs.Common.{slice_set, unwrap_or, Contains, refl, sym, ap, subst, ◌∙◌, arith}
use Rattle.std.specs.List.{list_all, list_any}
use Rattle.std.proofs.lemmas.Option.{slice_get_past}
use Rattle.std.proofs.lemmas.Bool.{cases_lt, or_parts}
use Rattle.core_charts.specs.Aborts.{has_aborts}
use Rattle.chart_machine.specs.declared.standing.Standing.{Standing}
use Rattle.chart_machine.specs.declared.standing.Standing.TheVariants as at
use Rattle.chart_machine.specs.declared.standing.Configuration.{Configuration}
use Rattle.chart_machine.specs.declared.table.Table.{Table}
use Rattle.chart_machine.specs.Table.{state_at}
use Rattle.chart_machine.specs.Turns.{standing_of, has_ended, guards, is_guarded}
use Rattle.chart_machine_laws.proofs.LyingIn.{around, holder, none_in, head_or_tail, head_in, tail_in}
use Rattle.abort_expansion_laws.proofs.Fronts.{front_same}
use Rattle.abort_expansion_laws.proofs.TablesCorrespond.{IsThere}
use Rattle.abort_expansion_laws.specs.CoreRows.{own, IsState, Images, CoreRows}
use Rattle.abort_expansion.specs.Transitions.{led}
use Rattle.abort_expansion_laws.specs.Related.{front, held_back, tests_of, is_behind, Stands}
use Rattle.abort_expansion_laws.specs.Related.{outside, ended, left, trying, acting, entering, guarding, staying, within, behind, Watches}
use Rattle.abort_expansion_laws.specs.Related.{guards as watch_guards, looks_strong, waits, looks, elsewhere, IsInside, Related}

-- ---- one region comes to stand elsewhere

pub get_same : {A : Type 0} (xs : List A) (i : ℕ) (v : A) → i < length xs → slice_get (slice_set xs i v) i ≡ Some v
get_same [] i v lt = absurd (omega (lt, arith))
get_same (x ∷ xs) zero v lt = refl
get_same (x ∷ xs) (suc i) v lt = get_same xs i v (omega (lt, arith))

pub get_other : {A : Type 0} (xs : List A) (i j : ℕ) (v : A) → j ≢ i → slice_get (slice_set xs i v) j ≡ slice_get xs j
get_other [] i j v ne = refl
get_other (x ∷ xs) zero zero v ne = absurd (ne refl)
get_other (x ∷ xs) zero (suc j) v ne = refl
get_other (x ∷ xs) (suc i) zero v ne = refl
get_other (x ∷ xs) (suc i) (suc j) v ne = get_other xs i j v (λ e. ne (ap suc e))

pub set_twice : {A : Type 0} (xs : List A) (n : ℕ) (v w : A) → slice_set (slice_set xs n v) n w ≡ slice_set xs n w
set_twice [] n v w = refl
set_twice (x ∷ xs) zero v w = refl
set_twice (x ∷ xs) (suc n) v w = ap (λ zs. x ∷ zs) (set_twice xs n v w)

pub stands_same : (c d : Configuration) (r : ℕ) (x : Standing) → d.regions ≡ slice_set c.regions r x → r < length c.regions → standing_of d r ≡ x
stands_same c d r x is lt = ap (λ zs. unwrap_or (slice_get zs r) at.Outside) is ∙ ap (λ o. unwrap_or o at.Outside) (get_same c.regions r x lt)

pub stands_other : (c d : Configuration) (r q : ℕ) (x : Standing) → d.regions ≡ slice_set c.regions r x → q ≢ r → standing_of d q ≡ standing_of c q
stands_other c d r q x is ne = ap (λ zs. unwrap_or (slice_get zs q) at.Outside) is ∙ ap (λ o. unwrap_or o at.Outside) (get_other c.regions r q x ne)

-- ---- where nobody comes to end, or to guard, the core's standings are given as before

pub record SameShape (c d : Configuration) : Type 0 where
  pub ends : (q : ℕ) → has_ended (standing_of d q) ≡ has_ended (standing_of c q)
  pub guards_alike : (q : ℕ) → guards (standing_of d q) ≡ guards (standing_of c q)

-- where nobody has to guard, no region is guarded
pub unguarded : (k : Table) (d : Configuration) → ((q : ℕ) → guards (standing_of d q) ≡ false) → (ss : List ℕ) → is_guarded k d ss ≡ false
unguarded k d none [] = refl
unguarded k d none (s ∷ ss) = rw (none (holder k s), unguarded k d none ss) refl

pub all_ended_by : (c d : Configuration) → ((q : ℕ) → has_ended (standing_of d q) ≡ has_ended (standing_of c q)) → (rs : List ℕ) →
    list_all (λ r. has_ended (standing_of d r)) rs ≡ list_all (λ r. has_ended (standing_of c r)) rs
all_ended_by c d ends [] = refl
all_ended_by c d ends (r ∷ rs) = rw (ends r, all_ended_by c d ends rs) refl

-- where nobody comes to end or to guard around a region, its thread is given as before
module _ (k core : Table) (i : Images) (c d : Configuration) (ends : (q : ℕ) → has_ended (standing_of d q) ≡ has_ended (standing_of c q)) where
  over_same : (s : ℕ) → is_behind k core i d s ≡ is_behind k core i c s
  over_same s = rw (all_ended_by c d ends (state_at k s).regions) refl

  pub stands_so : (r : ℕ) → ((b : Bool) → front k core i b d r ≡ front k core i b c r) → (x y : Standing) → Stands k core i c r x y → Stands k core i d r x y
  stands_so r fronts _ _ outside = outside
  stands_so r fronts _ _ (ended inner) = ended (λ s ss e. over_same s ∙ inner s ss e)
  stands_so r fronts _ _ (left s ss e over) = left s ss e (over_same s ∙ over)
  stands_so r fronts _ _ (trying s tests simple held) =
      subst (λ z. Stands k core i d r (at.Trying s tests) (at.Trying (i.main_of s) z)) tests_too (trying s tests simple held)
    where
      tests_too : tests_of k core i d r tests ≡ tests_of k core i c r tests
      tests_too = ap (λ zs. zs ++ map (led (i.places_of r)) tests ++ held_back k core i r) (fronts false)
  stands_so r fronts _ _ (acting s u p e effects lt) = acting s u p e effects lt
  stands_so r fronts _ _ (entering s fork t tests super held leads) = entering s fork t tests super held leads
  stands_so r fronts _ _ (guarding s join t tests has held leads) = guarding s join t tests has held leads
  stands_so r fronts _ _ (staying s tests super held stays) = staying s tests super held stays
  stands_so r fronts _ _ (within s join tests super held stays open_still leads) = within s join tests super held stays (over_same s ∙ open_still) leads
  stands_so r fronts _ _ (behind s tests super held over) =
      subst (λ z. Stands k core i d r (at.Within s tests) (at.Trying (i.behind_of s) (z ++ held_back k core i r))) (fronts true)
      (behind s tests super held (over_same s ∙ over))

module _ (k core : Table) (i : Images) (c d : Configuration) (same : SameShape c d) where
  pub stands_kept : (r : ℕ) (x y : Standing) → Stands k core i c r x y → Stands k core i d r x y
  stands_kept r x y stands = stands_so k core i c d same.ends r (front_same k core i c d r (λ s h. same.guards_alike (holder k s))) x y stands

-- ---- who lies in a region where nobody is inside of anything

-- whether somebody is there
pub there_or_not : (x : Standing) → (x ≡ at.Outside) ⊎ (x ≢ at.Outside)
there_or_not at.Outside = inl refl
there_or_not at.Ended = inr (λ e. absurd cc)
there_or_not (at.Trying s tests) = inr (λ e. absurd cc)
there_or_not (at.Acting s effects p) = inr (λ e. absurd cc)
there_or_not (at.Entering s tests) = inr (λ e. absurd cc)
there_or_not (at.Guarding s tests) = inr (λ e. absurd cc)
there_or_not (at.Within s tests) = inr (λ e. absurd cc)

pub nobody_lies : (k core : Table) (i : Images) (c d : Configuration) → Related k core i c d → (r : ℕ) →
    ((s : ℕ) → holder k s ≡ r → IsInside k core i s (standing_of c r) → ⊥) → (q s : ℕ) → IsThere k q → Contains (around k q) s → holder k s ≡ r →
    standing_of c q ≡ at.Outside
nobody_lies k core i c d related r bare q s there inner held =
    ⊎_elim (λ out. out)
    (λ present. absurd (bare s held (subst (λ z. IsInside k core i s (standing_of c z)) held (related.enclosed q s there present inner))))
    (there_or_not (standing_of c q))

-- ---- nobody in the core guards

module _ (k core : Table) (i : Images) (rows : CoreRows k core i) (c d : Configuration) (related : Related k core i c d) where
  not_guarding : (r : ℕ) (x y : Standing) → Stands k core i c r x y → guards y ≡ false
  not_guarding r _ _ outside = refl
  not_guarding r _ _ (ended inner) = refl
  not_guarding r _ _ (left s ss e over) = refl
  not_guarding r _ _ (trying s tests simple held) = refl
  not_guarding r _ _ (acting s u p e effects lt) = refl
  not_guarding r _ _ (entering s fork t tests super held leads) = refl
  not_guarding r _ _ (guarding s join t tests has held leads) = refl
  not_guarding r _ _ (staying s tests super held stays) = refl
  not_guarding r _ _ (within s join tests super held stays open_still leads) = refl
  not_guarding r _ _ (behind s tests super held over) = refl

  not_watching : (o : ℕ) (x y : Standing) → Watches k core i o x y → guards y ≡ false
  not_watching o _ _ (watch_guards some among) = refl
  not_watching o _ _ (looks_strong yet seen parted some among) = refl
  not_watching o _ _ (waits some joins among ends) = refl
  not_watching o _ _ (looks yet seen parted first some joins among ends) = refl
  not_watching o x _ (elsewhere z a b) = refl

  past_or_there : (t : ℕ) → (t ≡ 0) ⊎ (IsThere core t ⊎ (suc (length core.regions) ≤ t))
  past_or_there zero = inl refl
  past_or_there (suc t) = by_place (cases_lt t (length core.regions))
    where
      by_place : (t < length core.regions) ⊎ (length core.regions ≤ t) → (suc t ≡ 0) ⊎ (IsThere core (suc t) ⊎ (suc (length core.regions) ≤ suc t))
      by_place (inl lt) = inr (inl (omega arith, omega (lt, arith)))
      by_place (inr past) = inr (inr (omega (past, arith)))

  pub no_guards : (t : ℕ) → guards (standing_of d t) ≡ false
  no_guards t = by_place (past_or_there t)
    where
      by_sort : ((r : ℕ) × IsThere k r × (t ≡ i.thread_of r)) ⊎ ((o : ℕ) × IsState k o × (has_aborts (own k o) ≡ true) × (t ≡ i.watcher_of o)) →
          guards (standing_of d t) ≡ false
      by_sort (inl r) = ap (λ z. guards (standing_of d z)) r.2 ∙ not_guarding r.0 (standing_of c r.0) (standing_of d (i.thread_of r.0))
          (related.regions r.0 r.1)
      by_sort (inr o) =
          ap (λ z. guards (standing_of d z)) o.3 ∙ not_watching o.0 (standing_of c (holder k o.0)) (standing_of d (i.watcher_of o.0))
          (related.watchers o.0 o.1 o.2)

      by_place : (t ≡ 0) ⊎ (IsThere core t ⊎ (suc (length core.regions) ≤ t)) → guards (standing_of d t) ≡ false
      by_place (inl e) = ap (λ z. guards (standing_of d z)) e ∙ ap guards related.no_core
      by_place (inr (inl there)) = by_sort (rows.each t there)
      by_place (inr (inr past)) =
          let far : length d.regions ≤ t = omega (past, related.core_regions, arith) in
          ap (λ o. guards (unwrap_or o at.Outside)) (slice_get_past d.regions t far)

  pub never_guarded : (zs : List ℕ) → is_guarded core d zs ≡ false
  never_guarded [] = refl
  never_guarded (s ∷ zs) = rw (no_guards (holder core s), never_guarded zs) refl

-- ---- whose turn it is, by whom nobody guards

pub none_among : (p : ℕ → Bool) (xs : List ℕ) (y : ℕ) → list_any p xs ≡ false → Contains xs y → p y ≡ false
none_among p [] y e h = absurd (none_in y h)
none_among p (x ∷ xs) y e h =
    let both = or_parts (p x) (list_any p xs) e in ⊎_elim (λ same. ap p (sym same) ∙ both.0) (λ tail. none_among p xs y both.1 tail) (head_or_tail x y xs h)

pub none_are : (p : ℕ → Bool) (xs : List ℕ) → ((x : ℕ) → Contains xs x → p x ≡ true → ⊥) → list_any p xs ≡ false
none_are p [] each = refl
none_are p (x ∷ xs) each = rw (never (p x) (each x (head_in x xs)), none_are p xs (λ y tail. each y (tail_in x y xs tail))) refl
  where
    never : (b : Bool) → (b ≡ true → ⊥) → b ≡ false
    never true no_way = absurd (no_way refl)
    never false no_way = refl
