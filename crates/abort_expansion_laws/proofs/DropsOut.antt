-- An abort is taken: all that is inside its superstate is dropped, in the chart and in the core. What corresponds still does.
use Rattle.std.proofs.Common.{◌≡◌, ◌≢◌, ℕ, zero, suc, ◌<◌, ⊎_elim, Bool, true, false, List, [], ◌∷◌, ◌++◌, map, length, slice_set, Contains, refl, sym, ap}
use Rattle.std.proofs.Common.{subst, ◌∙◌, arith}
use Rattle.std.specs.List.{list_all, list_any}
use Rattle.std.proofs.lemmas.Bool.{cases_lt}
use Rattle.std.proofs.lemmas.List.{length-set}
use Rattle.sc_values.specs.declared.value.Value.{Value}
use Rattle.scl_graph_laws.proofs.Searching.{unlike}
use Rattle.core_charts.specs.declared.region.Transition.{Transition}
use Rattle.core_charts.specs.Aborts.{has_aborts}
use Rattle.chart_machine.specs.declared.standing.Standing.{Standing}
use Rattle.chart_machine.specs.declared.standing.Standing.TheVariants as at
use Rattle.chart_machine.specs.declared.standing.Configuration.{Configuration}
use Rattle.chart_machine.specs.declared.table.Table.{Table}
use Rattle.chart_machine.specs.Table.{state_at}
use Rattle.chart_machine.specs.Turns.{standing_of, has_ended, guards, is_guarded, inside}
use Rattle.chart_machine.specs.Steps.{moved}
use Rattle.abort_expansion.specs.Transitions.{led}
use Rattle.tick_laws.proofs.Lists.{same_or_not, contained}
use Rattle.chart_machine_laws.proofs.LyingIn.{IsNested, around, holder, none_in, head_or_tail, head_in, tail_in, around_around}
use Rattle.abort_expansion_laws.proofs.TablesCorrespond.{IsThere}
use Rattle.abort_expansion_laws.specs.CoreRows.{own, IsState, Images, CoreRows, WatcherImage}
use Rattle.abort_expansion_laws.proofs.Unchanged.{none_among}
use Rattle.abort_expansion_laws.specs.Related.{IsCalm, calm_outside, front, held_back, is_behind, Stands, outside, ended, left, trying, acting, entering}
use Rattle.abort_expansion_laws.specs.Related.{Related, guarding, staying, within, behind, Watches, elsewhere, IsInside, guarded, open_inside, Stores}
use Rattle.abort_expansion_laws.specs.Related.{FlagsAreDown, still_in, not_ended, LooksFirst}
use Rattle.abort_expansion_laws.proofs.Fronts.{front_same}
use Rattle.abort_expansion_laws.proofs.StageReached.{inside_in, holds_other}
use Rattle.abort_expansion_laws.proofs.Leaving.{drops, at_number, set_here, set_other, drops_in, drops_out, drops_length}
use Rattle.abort_expansion_laws.proofs.InsideAround.{inside_around}
use Rattle.abort_expansion_laws.proofs.TestFails.{watch_other}
use Rattle.chart_machine_laws.proofs.ChartTables.{nothing_around}
use Rattle.abort_expansion_laws.proofs.StandsInside.{inside_present}
use Rattle.abort_expansion_laws.proofs.LooksFirst.{out_looks, still_looks}
use Rattle.abort_expansion_laws.proofs.ThreadsAround.{thread_within, region_within}

pub all_alike : (p q : ℕ → Bool) (xs : List ℕ) → ((x : ℕ) → Contains xs x → p x ≡ q x) → list_all p xs ≡ list_all q xs
all_alike p q [] h = refl
all_alike p q (x ∷ xs) h = rw (h x (head_in x xs), all_alike p q xs (λ y tail. h y (tail_in x y xs tail))) refl

pub any_alike : (p q : ℕ → Bool) (xs : List ℕ) → ((x : ℕ) → Contains xs x → p x ≡ q x) → list_any p xs ≡ list_any q xs
any_alike p q [] h = refl
any_alike p q (x ∷ xs) h = rw (h x (head_in x xs), any_alike p q xs (λ y tail. h y (tail_in x y xs tail))) refl

module _ (k core : Table) (i : Images) (rows : CoreRows k core i) (tree : IsNested k)
    (children : (s r : ℕ) → Contains (state_at k s).regions r → around k r ≡ s ∷ around k (holder k s)) where
  -- region r leaves superstate o for y, its thread for z; whatever is inside of o or of its fork is dropped
  pub record DropsOut (c d : Configuration) (r o : ℕ) (y z : Standing) (c' d' : Configuration) : Type 0 where
    pub there : IsThere k r
    pub held : holder k o ≡ r
    -- where it stands, no other superstate is open
    pub was_there : standing_of c r ≢ at.Outside
    pub was_not_over : has_ended (standing_of c r) ≡ false
    pub only : (s : ℕ) → IsInside k core i s (standing_of c r) → s ≡ o
    pub chart : c'.regions ≡ slice_set (moved (drops (inside k o)) c.regions) r y
    pub size : length d'.regions ≡ length d.regions
    pub dropped : (t : ℕ) → Contains (around core t) (i.main_of o) → standing_of d' t ≡ at.Outside
    pub here_too : standing_of d' (i.thread_of r) ≡ z
    pub others : (t : ℕ) → t ≢ i.thread_of r → ¬ Contains (around core t) (i.main_of o) → standing_of d' t ≡ standing_of d t
    pub stands : Stands k core i c' r y z
    pub not_over : has_ended y ≡ false
    pub is_there : y ≢ at.Outside
    pub not_inside : (s : ℕ) → IsInside k core i s y → ⊥
    pub no_guard : guards y ≡ false
    pub free : is_guarded k c (around k r) ≡ false
    pub more : List Value
    pub variables : d'.variables ≡ c'.variables ++ more
    pub flag_count : length d'.variables ≡ length core.variables
    pub values : length c'.variables ≡ length k.variables
    pub strong : (s n : ℕ) → s ≢ o → Stores k core i d.variables (i.flags_of s).strong n → Stores k core i d'.variables (i.flags_of s).strong n
    pub weak : (s n : ℕ) → s ≢ o → Stores k core i d.variables (i.flags_of s).weak n → Stores k core i d'.variables (i.flags_of s).weak n
    pub counter : (s n : ℕ) → s ≢ o → Stores k core i d.variables (i.flags_of s).counter n → Stores k core i d'.variables (i.flags_of s).counter n

  module _ (c d : Configuration) (related : Related k core i c d) (r o : ℕ) (y z : Standing) (c' d' : Configuration) (go : DropsOut c d r o y z c' d') where
    abbrev In : ℕ → Type 0
    In q = Contains (around k q) o

    out_of_it : (q : ℕ) → ¬ In q → ¬ Contains (inside k o) q
    out_of_it q out_q h = out_q (inside_around k o q h)

    r_out : ¬ In r
    r_out h = holds_other k tree r o h go.held

    in_chart : r < length (moved (drops (inside k o)) c.regions)
    in_chart = let lt = go.there.1 in omega (lt, related.chart_regions, drops_length (inside k o) c.regions, arith)

    here : standing_of c' r ≡ y
    here = ap (λ zs. at_number zs r) go.chart ∙ set_here (moved (drops (inside k o)) c.regions) r y in_chart

    not_r : (q : ℕ) → In q → q ≢ r
    not_r q h e = r_out (subst In e h)

    gone : (q : ℕ) → IsThere k q → In q → standing_of c' q ≡ at.Outside
    gone q there h =
        ap (λ zs. at_number zs q) go.chart ∙ (set_other (moved (drops (inside k o)) c.regions) r q y (not_r q h) ∙ drops_in
        (inside k o) c.regions q (inside_in k o q there h))

    same : (q : ℕ) → q ≢ r → ¬ In q → standing_of c' q ≡ standing_of c q
    same q ne out_q =
        ap (λ zs. at_number zs q) go.chart ∙ (set_other (moved (drops (inside k o)) c.regions) r q y ne ∙
        drops_out (inside k o) c.regions q (out_of_it q out_q))

    -- ---- the core's side
    in_core : (q : ℕ) → In q → Contains (around core (i.thread_of q)) (i.main_of o)
    in_core q h = thread_within k core i rows q o h

    from_core : (q : ℕ) → Contains (around core (i.thread_of q)) (i.main_of o) → In q
    from_core q h =
        region_within k core i rows q o h

    core_same : (q : ℕ) → q ≢ r → ¬ In q → standing_of d' (i.thread_of q) ≡ standing_of d (i.thread_of q)
    core_same q ne out_q = go.others (i.thread_of q) (λ e. ne (rows.region_once q r e)) (λ h. out_q (from_core q h))

    -- ---- who does not end, and does not guard
    ends_alike : (q : ℕ) → ¬ In q → has_ended (standing_of c' q) ≡ has_ended (standing_of c q)
    ends_alike q out_q =
        ⊎_elim (λ e. ap (λ p. has_ended (standing_of c' p)) e ∙ (ap has_ended here ∙
        (go.not_over ∙ (sym go.was_not_over ∙ ap (λ p. has_ended (standing_of c p)) (sym e)))))
        (λ ne. ap has_ended (same q ne out_q)) (same_or_not q r)

    -- the regions of a superstate that is neither o nor inside of it
    far : (s q : ℕ) → s ≢ o → ¬ In (holder k s) → Contains (state_at k s).regions q → ¬ In q
    far s q ne out_s child h =
        ⊎_elim (λ e. ne e) (λ tail. out_s tail) (head_or_tail s o (around k (holder k s)) (subst (λ zs. Contains zs o) (children s q child) h))

    behind_far : (s : ℕ) → s ≢ o → ¬ In (holder k s) → is_behind k core i c' s ≡ is_behind k core i c s
    behind_far s ne out_s =
        rw (all_alike (λ q. has_ended (standing_of c' q)) (λ q. has_ended (standing_of c q)) (state_at k s).regions
        (λ q child. ends_alike q (far s q ne out_s child))) refl

    as_many : (rs : List ℕ) → ((q : ℕ) → Contains rs q → ¬ In q) → still_in k core i c' rs ≡ still_in k core i c rs
    as_many [] outs = refl
    as_many (q ∷ rs) outs = rw (ends_alike q (outs q (head_in q rs)), as_many rs (λ p tail. outs p (tail_in q p rs tail))) refl

    -- who is there and not inside of o stands in no superstate that r holds
    not_by_r : (q s : ℕ) → IsThere k q → standing_of c q ≢ at.Outside → ¬ In q → Contains (around k q) s → holder k s ≢ r
    not_by_r q s there present out_q around_it e =
        let inner : IsInside k core i s (standing_of c r) = subst (λ p. IsInside k core i s (standing_of c p)) e
        (related.enclosed q s there present around_it) in
        out_q (subst (Contains (around k q)) (go.only s inner) around_it)

    outer_out : (q s : ℕ) → ¬ In q → Contains (around k q) s → ¬ In (holder k s)
    outer_out q s out_q around_it h = out_q (around_around k tree (around k q) q s o refl around_it h)

    holder_same : (q s : ℕ) → IsThere k q → standing_of c q ≢ at.Outside → ¬ In q → Contains (around k q) s →
        standing_of c' (holder k s) ≡ standing_of c (holder k s)
    holder_same q s there present out_q around_it = same (holder k s) (not_by_r q s there present out_q around_it) (outer_out q s out_q around_it)

    front_alike : (b : Bool) (q : ℕ) → IsThere k q → standing_of c q ≢ at.Outside → ¬ In q → front k core i b c' q ≡ front k core i b c q
    front_alike b q there present out_q = front_same k core i c c' q (λ s h. ap guards (holder_same q s there present out_q h)) b

    -- the superstate right around a region that is not inside of o, and the one in which another region than r stands
    around_first : (q s : ℕ) (ss : List ℕ) → ¬ In q → around k q ≡ s ∷ ss → is_behind k core i c' s ≡ is_behind k core i c s
    around_first q s ss out_q e =
        behind_far s (λ is. out_q (subst (λ zs. Contains zs o) (sym e) (subst (λ w. Contains (s ∷ ss) w) is (head_in s ss))))
        (outer_out q s out_q (subst (λ zs. Contains zs s) (sym e) (head_in s ss)))

    its_own : (q s : ℕ) → q ≢ r → ¬ In q → holder k s ≡ q → is_behind k core i c' s ≡ is_behind k core i c s
    its_own q s ne out_q held = behind_far s (λ is. ne (sym held ∙ (ap (holder k) is ∙ go.held))) (λ h. out_q (subst In held h))

    pub stands_far : (q : ℕ) → IsThere k q → q ≢ r → ¬ In q → (x w : Standing) → standing_of c q ≡ x → Stands k core i c q x w → Stands k core i c' q x w
    stands_far q there ne out_q _ _ is outside = outside
    stands_far q there ne out_q _ _ is (ended inner) = ended (λ s ss e. around_first q s ss out_q e ∙ inner s ss e)
    stands_far q there ne out_q _ _ is (left s ss e over) = left s ss e (around_first q s ss out_q e ∙ over)
    stands_far q there ne out_q _ _ is (trying s tests simple held) =
        subst (λ f. Stands k core i c' q (at.Trying s tests) (at.Trying (i.main_of s) ((f ++ map (led (i.places_of q)) tests) ++ held_back k core i q)))
        (front_alike false q there (λ e. let wrong : at.Trying s tests ≡ at.Outside = sym is ∙ e in absurd cc) out_q) (trying s tests simple held)
    stands_far q there ne out_q _ _ is (acting s u p e effects lt) = acting s u p e effects lt
    stands_far q there ne out_q _ _ is (entering s fork t tests super held leads) = entering s fork t tests super held leads
    stands_far q there ne out_q _ _ is (guarding s join t tests has held leads) = guarding s join t tests has held leads
    stands_far q there ne out_q _ _ is (staying s tests super held stays) = staying s tests super held stays
    stands_far q there ne out_q _ _ is (within s join tests super held stays open_still leads) =
        within s join tests super held stays (its_own q s ne out_q held ∙ open_still) leads
    stands_far q there ne out_q _ _ is (behind s tests super held over) =
        subst (λ f. Stands k core i c' q (at.Within s tests) (at.Trying (i.behind_of s) (f ++ held_back k core i q)))
        (front_alike true q there (λ e. let wrong : at.Within s tests ≡ at.Outside = sym is ∙ e in absurd cc) out_q)
        (behind s tests super held (its_own q s ne out_q held ∙ over))

    regions_kept : (q : ℕ) → IsThere k q → Stands k core i c' q (standing_of c' q) (standing_of d' (i.thread_of q))
    regions_kept q there = ⊎_elim own_step (λ ne. ⊎_elim (inner ne) (outer ne) (contained (around k q) o)) (same_or_not q r)
      where
        own_step : q ≡ r → Stands k core i c' q (standing_of c' q) (standing_of d' (i.thread_of q))
        own_step e =
            subst (λ p. Stands k core i c' p (standing_of c' p) (standing_of d' (i.thread_of p))) (sym e)
            (subst (λ w. Stands k core i c' r w (standing_of d' (i.thread_of r))) (sym here) (subst (Stands k core i c' r y) (sym go.here_too) go.stands))

        inner : q ≢ r → In q → Stands k core i c' q (standing_of c' q) (standing_of d' (i.thread_of q))
        inner ne h =
            subst (λ w. Stands k core i c' q w (standing_of d' (i.thread_of q))) (sym (gone q there h))
            (subst (Stands k core i c' q at.Outside) (sym (go.dropped (i.thread_of q) (in_core q h))) outside)

        outer : q ≢ r → ¬ In q → Stands k core i c' q (standing_of c' q) (standing_of d' (i.thread_of q))
        outer ne out_q =
            subst (λ w. Stands k core i c' q w (standing_of d' (i.thread_of q))) (sym (same q ne out_q))
            (subst (Stands k core i c' q (standing_of c q)) (sym (core_same q ne out_q))
            (stands_far q there ne out_q (standing_of c q) (standing_of d (i.thread_of q)) refl (related.regions q there)))

    y_no_guard : (u : ℕ) (tests : List Transition) → y ≢ at.Guarding u tests
    y_no_guard u tests e = go.not_inside u (subst (IsInside k core i u) (sym e) (guarded tests))

    y_no_within : (u : ℕ) (tests : List Transition) → y ≢ at.Within u tests
    y_no_within u tests e = go.not_inside u (subst (IsInside k core i u) (sym e) (open_inside tests))

    guards_o : (u : ℕ) → u ≢ o → (tests : List Transition) → standing_of c r ≢ at.Guarding u tests
    guards_o u ne tests e = ne (go.only u (subst (IsInside k core i u) (sym e) (guarded tests)))

    within_o : (u : ℕ) → u ≢ o → (tests : List Transition) → standing_of c r ≢ at.Within u tests
    within_o u ne tests e = ne (go.only u (subst (IsInside k core i u) (sym e) (open_inside tests)))

    gone_in : (q : ℕ) → In q → standing_of c' q ≡ at.Outside
    gone_in zero h = absurd (none_in o h)
    gone_in (suc j) h = ⊎_elim (λ lt. gone (suc j) (omega arith, lt) h)
        (λ past. absurd (none_in o (subst (λ zs. Contains zs o) (nothing_around k j (omega (past, arith))) h)))
        (cases_lt (suc j) (suc (length k.regions)))

    watchers_kept : (u : ℕ) → IsState k u → has_aborts (own k u) ≡ true → Watches k core i u (standing_of c' (holder k u)) (standing_of d' (i.watcher_of u))
    watchers_kept u there has = ⊎_elim its (λ ne. other ne) (same_or_not u o)
      where
        monitor : WatcherImage k core i u
        monitor = rows.watcher u there has

        its : u ≡ o → Watches k core i u (standing_of c' (holder k u)) (standing_of d' (i.watcher_of u))
        its e =
            subst (Watches k core i u (standing_of c' (holder k u))) (sym
            (go.dropped (i.watcher_of u) (subst (λ zs. Contains zs (i.main_of o)) (sym monitor.encloses)
            (subst (λ v. Contains (i.main_of u ∷ around core (i.thread_of (holder k u))) (i.main_of v)) e
            (head_in (i.main_of u) (around core (i.thread_of (holder k u))))))))
            (subst (λ w. Watches k core i u w at.Outside) (sym (ap (λ v. standing_of c' (holder k v)) e ∙ (ap (standing_of c') go.held ∙ here)))
            (elsewhere y (y_no_guard u) (y_no_within u)))

        watcher_out : u ≢ o → ¬ In (holder k u) → ¬ Contains (around core (i.watcher_of u)) (i.main_of o)
        watcher_out ne out_h h =
            ⊎_elim (λ e. ne (rows.main_once u o e)) (λ tail. out_h (from_core (holder k u) tail))
            (head_or_tail (i.main_of u) (i.main_of o) (around core (i.thread_of (holder k u))) (subst (λ zs. Contains zs (i.main_of o)) monitor.encloses h))

        unmoved : u ≢ o → ¬ In (holder k u) → standing_of d' (i.watcher_of u) ≡ standing_of d (i.watcher_of u)
        unmoved ne out_h = go.others (i.watcher_of u) (λ e. monitor.no_thread r (sym e)) (watcher_out ne out_h)

        by_r : u ≢ o → holder k u ≡ r → Watches k core i u (standing_of c' (holder k u)) (standing_of d' (i.watcher_of u))
        by_r ne e =
            subst (Watches k core i u (standing_of c' (holder k u))) (sym (unmoved ne (λ h. r_out (subst In e h))))
            (subst (λ w. Watches k core i u w (standing_of d (i.watcher_of u))) (sym (ap (standing_of c') e ∙ here))
            (watch_other k core i u (standing_of c r) (standing_of d (i.watcher_of u)) y
            (subst (λ p. Watches k core i u (standing_of c p) (standing_of d (i.watcher_of u))) e (related.watchers u there has))
            (guards_o u ne) (within_o u ne) (y_no_guard u) (y_no_within u)))

        out_no_guard : (v : ℕ) (tests : List Transition) → at.Outside ≢ at.Guarding v tests
        out_no_guard v tests e = absurd cc

        out_no_within : (v : ℕ) (tests : List Transition) → at.Outside ≢ at.Within v tests
        out_no_within v tests e = absurd cc

        inside_it : u ≢ o → In (holder k u) → Watches k core i u (standing_of c' (holder k u)) (standing_of d' (i.watcher_of u))
        inside_it ne h =
            subst (Watches k core i u (standing_of c' (holder k u)))
            (sym (go.dropped (i.watcher_of u) (subst (λ zs. Contains zs (i.main_of o)) (sym monitor.encloses)
            (tail_in (i.main_of u) (i.main_of o) (around core (i.thread_of (holder k u))) (in_core (holder k u) h)))))
            (subst (λ w. Watches k core i u w at.Outside) (sym (gone_in (holder k u) h)) (elsewhere at.Outside (out_no_guard u) (out_no_within u)))

        outside_it : u ≢ o → holder k u ≢ r → ¬ In (holder k u) → Watches k core i u (standing_of c' (holder k u)) (standing_of d' (i.watcher_of u))
        outside_it ne not_by out_h =
            subst (Watches k core i u (standing_of c' (holder k u))) (sym (unmoved ne out_h))
            (subst (λ w. Watches k core i u w (standing_of d (i.watcher_of u))) (sym (same (holder k u) not_by out_h)) (related.watchers u there has))

        other : u ≢ o → Watches k core i u (standing_of c' (holder k u)) (standing_of d' (i.watcher_of u))
        other ne = ⊎_elim (by_r ne) (λ not_by. ⊎_elim (inside_it ne) (outside_it ne not_by) (contained (around k (holder k u)) o)) (same_or_not (holder k u) r)

    -- who holds an entered superstate now held it before, and is neither r nor inside of o
    record Holds (s : ℕ) : Type 0 where
      not_by : holder k s ≢ r
      out_h : ¬ In (holder k s)
      not_o : s ≢ o
      was : IsInside k core i s (standing_of c (holder k s))

    present_there : (q : ℕ) → standing_of c' q ≢ at.Outside → In q → ⊥
    present_there q present h = present (gone_in q h)

    holds_before : (s : ℕ) → IsInside k core i s (standing_of c' (holder k s)) → Holds s
    holds_before s inner =
        record {
          not_by = not_by;
          out_h = out_h;
          not_o = λ e. not_by (ap (holder k) e ∙ go.held);
          was = subst (IsInside k core i s) (same (holder k s) not_by out_h) inner;
        }
      where
        not_by : holder k s ≢ r
        not_by e = go.not_inside s (subst (IsInside k core i s) (ap (standing_of c') e ∙ here) inner)

        out_h : ¬ In (holder k s)
        out_h h = present_there (holder k s) (inside_present k core i s (standing_of c' (holder k s)) inner) h

    down_still : (s : ℕ) → s ≢ o → ¬ In (holder k s) → FlagsAreDown k core i c d.variables s → FlagsAreDown k core i c' d'.variables s
    down_still s not_o out_h down =
        record {
          strong = go.strong s 0 not_o down.strong;
          weak = go.weak s 0 not_o down.weak;
          counter =
              subst (Stores k core i d'.variables (i.flags_of s).counter) (sym (as_many (state_at k s).regions (λ q child. far s q not_o out_h child)))
              (go.counter s (not_ended k core i c s) not_o down.counter);
        }

    still_there : (q : ℕ) → standing_of c' q ≢ at.Outside → q ≢ r → standing_of c q ≢ at.Outside
    still_there q present ne was = present (same q ne (λ h. present_there q present h) ∙ was)

    enclosed_still : (q s : ℕ) → IsThere k q → standing_of c' q ≢ at.Outside → Contains (around k q) s → IsInside k core i s (standing_of c' (holder k s))
    enclosed_still q s there present around_it =
        ⊎_elim
        (λ e. subst (IsInside k core i s) (sym (same (holder k s) (λ f. holds_other k tree q s around_it (f ∙ sym e))
        (outer_out q s (λ h. present_there q present h) around_it)))
        (related.enclosed q s there (λ was. go.was_there (ap (standing_of c) (sym e) ∙ was)) around_it))
        (λ ne.
        let out_q : ¬ In q = λ h. present_there q present h in
        let was : standing_of c q ≢ at.Outside = still_there q present ne in
        subst (IsInside k core i s) (sym (holder_same q s there was out_q around_it)) (related.enclosed q s there was around_it)) (same_or_not q r)

    opened_still : (s q : ℕ) → IsState k s → IsInside k core i s (standing_of c' (holder k s)) → Contains (state_at k s).regions q →
        standing_of c' q ≢ at.Outside
    opened_still s q there inner child is =
        let holds : Holds s = holds_before s inner in
        ⊎_elim (λ e. go.is_there (sym here ∙ (ap (standing_of c') (sym e) ∙ is)))
        (λ ne. related.opened s q there holds.was child (sym (same q ne (far s q holds.not_o holds.out_h child)) ∙ is)) (same_or_not q r)

    not_zero : (n : ℕ) → 0 < n → 0 ≢ n
    not_zero n lt e = absurd (omega (lt, e, arith))

    calm_still : (q s : ℕ) → IsThere k q → Contains (around k q) s → guards (standing_of c' (holder k s)) ≡ true → IsCalm (standing_of c' q)
    calm_still q s q_there around_it guarded_by = ⊎_elim (λ e. absurd (own_step e)) (λ ne. ⊎_elim inner (outer ne) (contained (around k q) o)) (same_or_not q r)
      where
        own_step : q ≡ r → ⊥
        own_step e =
            let around_r : Contains (around k r) s = subst (λ p. Contains (around k p) s) e around_it in
            let kept : standing_of c' (holder k s) ≡ standing_of c (holder k s) =
            same (holder k s) (holds_other k tree r s around_r) (outer_out r s r_out around_r) in
            unlike (guards (standing_of c (holder k s))) (ap guards (sym kept) ∙ guarded_by)
            (none_among (λ v. guards (standing_of c (holder k v))) (around k r) s go.free around_r)

        inner : In q → IsCalm (standing_of c' q)
        inner h = subst IsCalm (sym (gone q q_there h)) calm_outside

        outer : q ≢ r → ¬ In q → IsCalm (standing_of c' q)
        outer ne out_q = ⊎_elim by_r other (same_or_not (holder k s) r)
          where
            by_r : holder k s ≡ r → IsCalm (standing_of c' q)
            by_r e = absurd (unlike (guards y) (ap guards (sym here) ∙ (ap (λ p. guards (standing_of c' p)) (sym e) ∙ guarded_by)) go.no_guard)

            other : holder k s ≢ r → IsCalm (standing_of c' q)
            other far_from =
                let kept : standing_of c' (holder k s) ≡ standing_of c (holder k s) = same (holder k s) far_from (outer_out q s out_q around_it) in
                subst IsCalm (sym (same q ne out_q)) (related.calm q s q_there around_it (ap guards (sym kept) ∙ guarded_by))

    -- monitors inside are gone, and the others stand as before
    unseen_still : (u s : ℕ) → IsState k u → has_aborts (own k u) ≡ true → Contains (around k (holder k u)) s →
        guards (standing_of c' (holder k s)) ≡ true → LooksFirst k core i u s (standing_of d' (i.watcher_of u))
    unseen_still u s u_there has around_it guarded_by =
        ⊎_elim (λ inner. out_looks k core i u (standing_of d' (i.watcher_of u)) (go.dropped (i.watcher_of u) inner))
        (λ out.
        still_looks k core i u (standing_of d (i.watcher_of u)) (standing_of d' (i.watcher_of u))
        (go.others (i.watcher_of u) (λ e. monitor.no_thread r (sym e)) out)
        (related.unseen u s u_there has around_it (ap guards (sym (same (holder k s) not_by (outer_out (holder k u) s (out_h out) around_it))) ∙ guarded_by)))
        (contained (around core (i.watcher_of u)) (i.main_of o))
      where
        monitor : WatcherImage k core i u
        monitor = rows.watcher u u_there has

        out_h : ¬ Contains (around core (i.watcher_of u)) (i.main_of o) → ¬ In (holder k u)
        out_h out h =
            out (subst (λ zs. Contains zs (i.main_of o)) (sym monitor.encloses)
            (tail_in (i.main_of u) (i.main_of o) (around core (i.thread_of (holder k u))) (in_core (holder k u) h)))

        not_by : holder k s ≢ r
        not_by e = unlike (guards y) (ap guards (sym here) ∙ (ap (λ p. guards (standing_of c' p)) (sym e) ∙ guarded_by)) go.no_guard

    pub dropped_out : Related k core i c' d'
    dropped_out =
        record {
          more = go.more;
          variables = go.variables;
          flag_count = go.flag_count;
          chart_regions = ap length go.chart ∙ (length-set (moved (drops (inside k o)) c.regions) r y ∙
              (drops_length (inside k o) c.regions ∙ related.chart_regions));
          core_regions = go.size ∙ related.core_regions;
          values = go.values;
          no_chart = same 0 (not_zero r go.there.0) (λ h. none_in o h) ∙ related.no_chart;
          no_core = go.others 0 (not_zero (i.thread_of r) (rows.region r go.there).there.0) (λ h. none_in (i.main_of o) h) ∙ related.no_core;
          regions = regions_kept;
          watchers = watchers_kept;
          flags = λ s there inner. let holds : Holds s = holds_before s inner in down_still s holds.not_o holds.out_h (related.flags s there holds.was);
          enclosed = enclosed_still;
          opened = opened_still;
          closes_last = λ s tests is.
              let holds : Holds s = holds_before s (subst (IsInside k core i s) (sym is) (open_inside tests)) in
              related.closes_last s tests (sym (same (holder k s) holds.not_by holds.out_h) ∙ is);
          calm = calm_still;
          unseen = unseen_still;
        }
