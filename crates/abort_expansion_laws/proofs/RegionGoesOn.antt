-- A region goes on, and so does its thread: what corresponds still does.
use Rattle.std.proofs.Common.{◌≡◌, ◌≢◌, ℕ, ◌<◌, ◌≤◌, ◌⊎◌, inl, inr, ⊎_elim, true, false, List, [], ◌∷◌, ◌++◌, length}
use Rattle.std.proofs.Common.{slice_get, slice_set}
use Rattle.std.proofs.Common.{Contains, refl, sym, ap, subst, ◌∙◌, arith}
use Rattle.std.proofs.lemmas.List.{length-set}
use Rattle.sc_values.specs.declared.value.Value.{Value}
use Rattle.scl_graph_laws.proofs.Searching.{unlike}
use Rattle.core_charts.specs.declared.region.Transition.{Transition}
use Rattle.core_charts.specs.Aborts.{has_aborts}
use Rattle.chart_machine.specs.declared.standing.Standing.{Standing}
use Rattle.chart_machine.specs.declared.standing.Standing.TheVariants as at
use Rattle.chart_machine.specs.declared.standing.Configuration.{Configuration}
use Rattle.chart_machine.specs.declared.table.Table.{Table}
use Rattle.chart_machine.specs.Turns.{standing_of, has_ended, guards, is_guarded}
use Rattle.tick_laws.proofs.Lists.{same_or_not}
use Rattle.chart_machine_laws.proofs.LyingIn.{around, holder, none_in, head_or_tail, head_in, tail_in}
use Rattle.abort_expansion_laws.proofs.TablesCorrespond.{IsThere}
use Rattle.abort_expansion_laws.specs.CoreRows.{own, IsState, Images, CoreRows, RegionImage, WatcherImage}
use Rattle.abort_expansion_laws.specs.Related.{IsCalm, calm_outside, Closes, Stands, outside, ended, left, trying, acting, entering, guarding, staying}
use Rattle.abort_expansion_laws.specs.Related.{LooksFirst}
use Rattle.abort_expansion_laws.specs.Related.{within, behind, Watches, IsInside, open_inside, Related}
use Rattle.abort_expansion_laws.proofs.Fronts.{front_same}
use Rattle.abort_expansion_laws.proofs.Unchanged.{none_among, none_are, stands_same, stands_other, SameShape, stands_so, stands_kept, nobody_lies}
use Rattle.abort_expansion_laws.proofs.LooksFirst.{out_looks, still_looks, watch_gone}
use Rattle.abort_expansion_laws.proofs.RegionMoved.{RegionMoved, back_inside, still_inside, was_present, is_present, down_still}
use Rattle.chart_machine_laws.proofs.ChartTables.{around_there}

module _ (k core : Table) (i : Images) (rows : CoreRows k core i) where
  -- region r comes to stand at y, its thread at z; variables may change, but no flags
  pub record GoesOn (c d : Configuration) (r : ℕ) (y z : Standing) (c' d' : Configuration) : Type 0 where
    pub there : IsThere k r
    pub chart : c'.regions ≡ slice_set c.regions r y
    pub core_too : d'.regions ≡ slice_set d.regions (i.thread_of r) z
    pub ends : has_ended y ≡ has_ended (standing_of c r)
    pub guards_alike : guards y ≡ guards (standing_of c r)
    pub was_there : standing_of c r ≢ at.Outside
    pub is_there : y ≢ at.Outside
    pub stands : Stands k core i c r y z
    pub watches : (o : ℕ) → IsState k o → has_aborts (own k o) ≡ true → holder k o ≡ r → Watches k core i o y (standing_of d (i.watcher_of o))
    pub inside : (s : ℕ) → holder k s ≡ r → IsInside k core i s (standing_of c r) → IsInside k core i s y
    pub inside_back : (s : ℕ) → holder k s ≡ r → IsInside k core i s y → IsInside k core i s (standing_of c r)
    pub closes : (s : ℕ) (tests : List Transition) → holder k s ≡ r → y ≡ at.Within s tests → Closes k core i s tests
    pub free : is_guarded k c (around k r) ≡ false
    pub more : List Value
    pub variables : d'.variables ≡ c'.variables ++ more
    pub flag_count : length d'.variables ≡ length core.variables
    pub values : length c'.variables ≡ length k.variables
    pub flags : (x : ℕ) → length k.variables ≤ x → slice_get d'.variables x ≡ slice_get d.variables x

  -- the same of a region in which nobody lies, neither before nor after: it may come to guard, or guard no more
  pub record BareGoesOn (c d : Configuration) (r : ℕ) (y z : Standing) (c' d' : Configuration) : Type 0 where
    pub there : IsThere k r
    pub chart : c'.regions ≡ slice_set c.regions r y
    pub core_too : d'.regions ≡ slice_set d.regions (i.thread_of r) z
    pub ends : has_ended y ≡ has_ended (standing_of c r)
    pub was_there : standing_of c r ≢ at.Outside
    pub is_there : y ≢ at.Outside
    pub stands : Stands k core i c r y z
    pub watches : (o : ℕ) → IsState k o → has_aborts (own k o) ≡ true → holder k o ≡ r → Watches k core i o y (standing_of d (i.watcher_of o))
    pub bare : (s : ℕ) → IsInside k core i s (standing_of c r) → ⊥
    pub bare_then : (s : ℕ) → IsInside k core i s y → ⊥
    pub free : is_guarded k c (around k r) ≡ false
    pub more : List Value
    pub variables : d'.variables ≡ c'.variables ++ more
    pub flag_count : length d'.variables ≡ length core.variables
    pub values : length c'.variables ≡ length k.variables
    pub flags : (x : ℕ) → length k.variables ≤ x → slice_get d'.variables x ≡ slice_get d.variables x

  -- what both say, with what is made of who guards
  record Changes (c d : Configuration) (r : ℕ) (y z : Standing) (c' d' : Configuration) : Type 0 where
    there : IsThere k r
    chart : c'.regions ≡ slice_set c.regions r y
    core_too : d'.regions ≡ slice_set d.regions (i.thread_of r) z
    ends : has_ended y ≡ has_ended (standing_of c r)
    was_there : standing_of c r ≢ at.Outside
    is_there : y ≢ at.Outside
    stands : Stands k core i c' r y z
    others : (q : ℕ) → IsThere k q → q ≢ r → Stands k core i c' q (standing_of c q) (standing_of d (i.thread_of q))
    watches : (o : ℕ) → IsState k o → has_aborts (own k o) ≡ true → holder k o ≡ r → Watches k core i o y (standing_of d (i.watcher_of o))
    inside : (s : ℕ) → holder k s ≡ r → IsInside k core i s (standing_of c r) → IsInside k core i s y
    inside_back : (s : ℕ) → holder k s ≡ r → IsInside k core i s y → IsInside k core i s (standing_of c r)
    closes : (s : ℕ) (tests : List Transition) → holder k s ≡ r → y ≡ at.Within s tests → Closes k core i s tests
    calm : (q s : ℕ) → IsThere k q → Contains (around k q) s → guards (standing_of c' (holder k s)) ≡ true → IsCalm (standing_of c' q)
    unseen : (o s : ℕ) → IsState k o → has_aborts (own k o) ≡ true → Contains (around k (holder k o)) s → guards (standing_of c' (holder k s)) ≡ true →
        LooksFirst k core i o s (standing_of d (i.watcher_of o))
    more : List Value
    variables : d'.variables ≡ c'.variables ++ more
    flag_count : length d'.variables ≡ length core.variables
    values : length c'.variables ≡ length k.variables
    flags : (x : ℕ) → length k.variables ≤ x → slice_get d'.variables x ≡ slice_get d.variables x

  module _ (c d : Configuration) (related : Related k core i c d) (r : ℕ) (y z : Standing) (c' d' : Configuration) (go : Changes c d r y z c' d') where
    in_chart : r < length c.regions
    in_chart = let lt = go.there.1 in omega (lt, related.chart_regions, arith)

    image : RegionImage k core i r
    image = rows.region r go.there

    in_core : i.thread_of r < length d.regions
    in_core = let lt = image.there.1 in omega (lt, related.core_regions, arith)

    here : standing_of c' r ≡ y
    here = stands_same c c' r y go.chart in_chart

    elsewhere : (q : ℕ) → q ≢ r → standing_of c' q ≡ standing_of c q
    elsewhere q ne = stands_other c c' r q y go.chart ne

    core_here : standing_of d' (i.thread_of r) ≡ z
    core_here = stands_same d d' (i.thread_of r) z go.core_too in_core

    core_elsewhere : (t : ℕ) → t ≢ i.thread_of r → standing_of d' t ≡ standing_of d t
    core_elsewhere t ne = stands_other d d' (i.thread_of r) t z go.core_too ne

    moved_so : RegionMoved k core i c r y c'
    moved_so =
        record {
          here = here;
          elsewhere = elsewhere;
          ends = go.ends;
          was_there = go.was_there;
          is_there = go.is_there;
          inside = go.inside;
          inside_back = go.inside_back;
        }

    regions_kept : (q : ℕ) → IsThere k q → Stands k core i c' q (standing_of c' q) (standing_of d' (i.thread_of q))
    regions_kept q there = ⊎_elim same other (same_or_not q r)
      where
        same : q ≡ r → Stands k core i c' q (standing_of c' q) (standing_of d' (i.thread_of q))
        same e =
            subst (λ p. Stands k core i c' p (standing_of c' p) (standing_of d' (i.thread_of p))) (sym e)
            (subst (λ w. Stands k core i c' r w (standing_of d' (i.thread_of r))) (sym here)
            (subst (Stands k core i c' r y) (sym core_here) go.stands))

        other : q ≢ r → Stands k core i c' q (standing_of c' q) (standing_of d' (i.thread_of q))
        other ne =
            subst (λ w. Stands k core i c' q w (standing_of d' (i.thread_of q))) (sym (elsewhere q ne))
            (subst (Stands k core i c' q (standing_of c q)) (sym (core_elsewhere (i.thread_of q) (λ e. ne (rows.region_once q r e))))
            (go.others q there ne))

    watchers_kept : (o : ℕ) → IsState k o → has_aborts (own k o) ≡ true → Watches k core i o (standing_of c' (holder k o)) (standing_of d' (i.watcher_of o))
    watchers_kept o there has = subst (Watches k core i o (standing_of c' (holder k o))) (sym core_same) (⊎_elim same other (same_or_not (holder k o) r))
      where
        watcher : WatcherImage k core i o
        watcher = rows.watcher o there has

        core_same : standing_of d' (i.watcher_of o) ≡ standing_of d (i.watcher_of o)
        core_same = core_elsewhere (i.watcher_of o) (λ e. watcher.no_thread r (sym e))

        same : holder k o ≡ r → Watches k core i o (standing_of c' (holder k o)) (standing_of d (i.watcher_of o))
        same e = subst (λ w. Watches k core i o w (standing_of d (i.watcher_of o))) (sym (ap (standing_of c') e ∙ here)) (go.watches o there has e)

        other : holder k o ≢ r → Watches k core i o (standing_of c' (holder k o)) (standing_of d (i.watcher_of o))
        other ne = subst (λ w. Watches k core i o w (standing_of d (i.watcher_of o))) (sym (elsewhere (holder k o) ne)) (related.watchers o there has)

    not_zero : (n : ℕ) → 0 < n → 0 ≢ n
    not_zero n lt e = absurd (omega (lt, e, arith))

    changed : Related k core i c' d'
    changed =
        record {
          more = go.more;
          variables = go.variables;
          flag_count = go.flag_count;
          chart_regions = ap length go.chart ∙ (length-set c.regions r y ∙ related.chart_regions);
          core_regions = ap length go.core_too ∙ (length-set d.regions (i.thread_of r) z ∙ related.core_regions);
          values = go.values;
          no_chart = elsewhere 0 (not_zero r go.there.0) ∙ related.no_chart;
          no_core = core_elsewhere 0 (not_zero (i.thread_of r) image.there.0) ∙ related.no_core;
          regions = regions_kept;
          watchers = watchers_kept;
          flags = λ s there inner.
              down_still k core i c r y c' moved_so rows d.variables d'.variables go.flags s
              (related.flags s there (back_inside k core i c r y c' moved_so s inner));
          enclosed = λ q s there present around_it.
              still_inside k core i c r y c' moved_so s (related.enclosed q s there (was_present k core i c r y c' moved_so q present) around_it);
          opened = λ s q there inner child.
              is_present k core i c r y c' moved_so q (related.opened s q there (back_inside k core i c r y c' moved_so s inner) child);
          closes_last = λ s tests is.
              ⊎_elim (λ e. go.closes s tests e (sym here ∙ (ap (standing_of c') (sym e) ∙ is)))
              (λ ne. related.closes_last s tests (sym (elsewhere (holder k s) ne) ∙ is))
              (same_or_not (holder k s) r);
          calm = go.calm;
          unseen = λ o s there has inner guarded_by.
              still_looks k core i o (standing_of d (i.watcher_of o)) (standing_of d' (i.watcher_of o))
              (core_elsewhere (i.watcher_of o) (λ e. (rows.watcher o there has).no_thread r (sym e))) (go.unseen o s there has inner guarded_by);
        }

  -- ---- nobody comes to guard

  module _ (c d : Configuration) (related : Related k core i c d) (r : ℕ) (y z : Standing) (c' d' : Configuration) (go : GoesOn c d r y z c' d') where
    goes_to : standing_of c' r ≡ y
    goes_to = stands_same c c' r y go.chart (let lt = go.there.1 in omega (lt, related.chart_regions, arith))

    rests : (q : ℕ) → q ≢ r → standing_of c' q ≡ standing_of c q
    rests q ne = stands_other c c' r q y go.chart ne

    pub same_shape : SameShape c c'
    same_shape =
        record {
          ends = λ q.
              ⊎_elim (λ e. ap (λ p. has_ended (standing_of c' p)) e ∙ (ap has_ended goes_to ∙ (go.ends ∙ ap (λ p. has_ended (standing_of c p)) (sym e))))
              (λ ne. ap has_ended (rests q ne)) (same_or_not q r);
          guards_alike = λ q.
              ⊎_elim (λ e. ap (λ p. guards (standing_of c' p)) e ∙ (ap guards goes_to ∙ (go.guards_alike ∙ ap (λ p. guards (standing_of c p)) (sym e))))
              (λ ne. ap guards (rests q ne)) (same_or_not q r);
        }

    still_calm : (q s : ℕ) → IsThere k q → Contains (around k q) s → guards (standing_of c' (holder k s)) ≡ true → IsCalm (standing_of c' q)
    still_calm q s there around_it guarded_by =
        let was : guards (standing_of c (holder k s)) ≡ true = sym (same_shape.guards_alike (holder k s)) ∙ guarded_by in
        ⊎_elim
        (λ e. absurd (unlike (guards (standing_of c (holder k s))) was
        (none_among (λ v. guards (standing_of c (holder k v))) (around k r) s go.free (subst (λ p. Contains (around k p) s) e around_it))))
        (λ ne. subst IsCalm (sym (rests q ne)) (related.calm q s there around_it was)) (same_or_not q r)

    pub goes_on : Related k core i c' d'
    goes_on =
        changed c d related r y z c' d'
        (record {
          there = go.there;
          chart = go.chart;
          core_too = go.core_too;
          ends = go.ends;
          was_there = go.was_there;
          is_there = go.is_there;
          stands = stands_kept k core i c c' same_shape r y z go.stands;
          others = λ q there ne. stands_kept k core i c c' same_shape q (standing_of c q) (standing_of d (i.thread_of q)) (related.regions q there);
          watches = go.watches;
          inside = go.inside;
          inside_back = go.inside_back;
          closes = go.closes;
          calm = still_calm;
          unseen = λ o s there has inner guarded_by.
              related.unseen o s there has inner (sym (same_shape.guards_alike (holder k s)) ∙ guarded_by);
          more = go.more;
          variables = go.variables;
          flag_count = go.flag_count;
          values = go.values;
          flags = go.flags;
        })

  -- ---- nobody lies in the region

  module _ (c d : Configuration) (related : Related k core i c d) (r : ℕ) (y z : Standing) (c' d' : Configuration) (go : BareGoesOn c d r y z c' d') where
    rests_so : (q : ℕ) → q ≢ r → standing_of c' q ≡ standing_of c q
    rests_so q ne = stands_other c c' r q y go.chart ne

    ends_so : (q : ℕ) → has_ended (standing_of c' q) ≡ has_ended (standing_of c q)
    ends_so q =
        ⊎_elim
        (λ e.
        ap (λ p. has_ended (standing_of c' p)) e ∙
        (ap has_ended (stands_same c c' r y go.chart (let lt = go.there.1 in omega (lt, related.chart_regions, arith))) ∙
        (go.ends ∙ ap (λ p. has_ended (standing_of c p)) (sym e))))
        (λ ne. ap has_ended (rests_so q ne)) (same_or_not q r)

    -- whoever lies in the region is outside
    out_in : (q s : ℕ) → IsThere k q → Contains (around k q) s → holder k s ≡ r → standing_of c q ≡ at.Outside
    out_in q s there around_it held = nobody_lies k core i c d related r (λ u its inner. go.bare u inner) q s there around_it held

    out_so : (q : ℕ) (x w : Standing) → x ≡ at.Outside → Stands k core i c q x w → Stands k core i c' q x w
    out_so q _ _ e outside = outside
    out_so q _ _ e (ended inner) = absurd cc
    out_so q _ _ e (left s ss round over) = absurd cc
    out_so q _ _ e (trying s tests simple held) = absurd cc
    out_so q _ _ e (acting s u p f effects lt) = absurd cc
    out_so q _ _ e (entering s fork t tests super held leads) = absurd cc
    out_so q _ _ e (guarding s join t tests has held leads) = absurd cc
    out_so q _ _ e (staying s tests super held stays) = absurd cc
    out_so q _ _ e (within s join tests super held stays open_still leads) = absurd cc
    out_so q _ _ e (behind s tests super held over) = absurd cc

    -- something around is held by the region, or nothing is
    held_or_not : (zs : List ℕ) → ((s : ℕ) × Contains zs s × (holder k s ≡ r)) ⊎ ((s : ℕ) → Contains zs s → holder k s ≢ r)
    held_or_not [] = inr (λ s h. absurd (none_in s h))
    held_or_not (s ∷ zs) =
        ⊎_elim (λ e. inl (s, head_in s zs, e))
        (λ ne.
        ⊎_elim (λ h. inl (h.0, tail_in s h.0 zs h.1, h.2))
        (λ none. inr (λ u h. ⊎_elim (λ is. subst (λ v. holder k v ≢ r) is ne) (λ tail. none u tail) (head_or_tail s u zs h))) (held_or_not zs))
        (same_or_not (holder k s) r)

    -- then who guards around is as before
    guards_so : (s : ℕ) → holder k s ≢ r → guards (standing_of c' (holder k s)) ≡ guards (standing_of c (holder k s))
    guards_so s ne = ap guards (rests_so (holder k s) ne)

    stands_beside : (q : ℕ) → ((s : ℕ) → Contains (around k q) s → holder k s ≢ r) → (x w : Standing) → Stands k core i c q x w → Stands k core i c' q x w
    stands_beside q none x w stands = stands_so k core i c c' ends_so q (front_same k core i c c' q (λ s h. guards_so s (none s h))) x w stands

    stands_then : (q : ℕ) → IsThere k q → (x w : Standing) → standing_of c q ≡ x → Stands k core i c q x w → Stands k core i c' q x w
    stands_then q there x w is stands =
        ⊎_elim (λ h. out_so q x w (sym is ∙ out_in q h.0 there h.1 h.2) stands)
        (λ none. stands_beside q none x w stands) (held_or_not (around k q))

    not_around : (s : ℕ) → Contains (around k r) s → holder k s ≢ r
    not_around s around_it held = go.was_there (out_in r s go.there around_it held)

    calm_then : (q s : ℕ) → IsThere k q → Contains (around k q) s → guards (standing_of c' (holder k s)) ≡ true → IsCalm (standing_of c' q)
    calm_then q s there around_it guarded_by =
        ⊎_elim
        (λ held.
        let ne : q ≢ r = λ e. not_around s (subst (λ p. Contains (around k p) s) e around_it) held in
        subst IsCalm (sym (rests_so q ne ∙ out_in q s there around_it held)) calm_outside)
        (λ elsewhere.
        let was : guards (standing_of c (holder k s)) ≡ true = sym (ap guards (rests_so (holder k s) elsewhere)) ∙ guarded_by in
        ⊎_elim
        (λ e. absurd (unlike (guards (standing_of c (holder k s))) was
        (none_among (λ v. guards (standing_of c (holder k v))) (around k r) s go.free (subst (λ p. Contains (around k p) s) e around_it))))
        (λ ne. subst IsCalm (sym (rests_so q ne)) (related.calm q s there around_it was)) (same_or_not q r))
        (same_or_not (holder k s) r)

    unseen_then : (o s : ℕ) → IsState k o → has_aborts (own k o) ≡ true → Contains (around k (holder k o)) s → guards (standing_of c' (holder k s)) ≡ true →
        LooksFirst k core i o s (standing_of d (i.watcher_of o))
    unseen_then o s there has inner guarded_by =
        ⊎_elim
        (λ held.
        out_looks k core i o (standing_of d (i.watcher_of o))
        (watch_gone k core i o (standing_of c (holder k o)) (standing_of d (i.watcher_of o)) (related.watchers o there has)
        (inr (out_in (holder k o) s (around_there k (holder k o) s inner) inner held))))
        (λ elsewhere. related.unseen o s there has inner (sym (ap guards (rests_so (holder k s) elsewhere)) ∙ guarded_by))
        (same_or_not (holder k s) r)

    -- nobody guards it, as before
    pub bare_free : is_guarded k c' (around k r) ≡ false
    bare_free =
        none_are (λ s. guards (standing_of c' (holder k s))) (around k r)
        (λ s h on.
        unlike (guards (standing_of c' (holder k s))) on
        (guards_so s (not_around s h) ∙ none_among (λ v. guards (standing_of c (holder k v))) (around k r) s go.free h))

    pub bare_goes_on : Related k core i c' d'
    bare_goes_on =
        changed c d related r y z c' d'
        (record {
          there = go.there;
          chart = go.chart;
          core_too = go.core_too;
          ends = go.ends;
          was_there = go.was_there;
          is_there = go.is_there;
          stands = stands_beside r not_around y z go.stands;
          others = λ q there ne. stands_then q there (standing_of c q) (standing_of d (i.thread_of q)) refl (related.regions q there);
          watches = go.watches;
          inside = λ s held inner. absurd (go.bare s inner);
          inside_back = λ s held inner. absurd (go.bare_then s inner);
          closes = λ s tests held is. absurd (go.bare_then s (subst (IsInside k core i s) (sym is) (open_inside tests)));
          calm = calm_then;
          unseen = unseen_then;
          more = go.more;
          variables = go.variables;
          flag_count = go.flag_count;
          values = go.values;
          flags = go.flags;
        })
