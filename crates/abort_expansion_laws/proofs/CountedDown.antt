-- A region that ended on entry counts down: the first of the steps by which what was entered settles.
use Rattle.std.proofs.Common.{◌≡◌, ◌≢◌, ℕ, zero, suc, pos, ◌+◌, ◌<◌, ◌≤◌, inl, inr, ⊎_elim, Bool, true, false, Option, Some, None, List, [], ◌∷◌, ◌++◌}
use Rattle.std.proofs.Common.{map, length, slice_get, slice_set, Contains, refl, sym, ap, subst, ◌∙◌, arith, if◌then◌else◌}
use Rattle.std.proofs.lemmas.Option.{same_Some}
use Rattle.std.proofs.lemmas.List.{length-set}
use Rattle.sc_values.specs.declared.value.Value.{Value}
use Rattle.sc_values.specs.declared.value.Value.TheVariants as value_is
use Rattle.sc_values.specs.declared.operator.Combination.TheVariants as combine
use Rattle.sc_values.specs.Access.{Access, no_access}
use Rattle.core_charts.specs.declared.region.Transition.{Transition}
use Rattle.core_charts.specs.Aborts.{has_aborts}
use Rattle.chart_machine.specs.declared.standing.Standing.TheVariants as at
use Rattle.chart_machine.specs.declared.standing.Configuration.{Configuration}
use Rattle.chart_machine.specs.declared.table.Table.{Table}
use Rattle.chart_machine.specs.Table.{state_at}
use Rattle.chart_machine.specs.Turns.{standing_of, guards as has_to_guard}
use Rattle.chart_machine.specs.Steps.{access_of}
use Rattle.abort_expansion.specs.Transitions.{go, count_down}
use Rattle.tick_laws.proofs.Lists.{same_or_not}
use Rattle.abort_expansion_laws.specs.Stages.{Entry, Silent, Correspondence, IsSilent}
use Rattle.abort_expansion_laws.proofs.Supplying.{climbs_step, silent_idle, silent_count, combines}
use Rattle.chart_machine_laws.proofs.LyingIn.{IsNested, around, holder, head_in, tail_in}
use Rattle.abort_expansion_laws.proofs.TablesCorrespond.{IsThere}
use Rattle.abort_expansion_laws.specs.CoreRows.{own, Images, CoreRows}
use Rattle.abort_expansion_laws.specs.Related.{is_behind, Stands, ended, Watches}
use Rattle.abort_expansion_laws.specs.Related.{IsInside, open_inside, Stores}
use Rattle.abort_expansion_laws.proofs.Unchanged.{get_same, get_other, stands_same, stands_other, unguarded}
use Rattle.abort_expansion_laws.proofs.StageReached.{stage_of, one_at_least}
use Rattle.abort_expansion_laws.proofs.ImageSteps.{pair}
use Rattle.abort_expansion_laws.proofs.CoreSteps.{takes, writes_last}
use Rattle.abort_expansion_laws.proofs.CounterValues.{counted_value, counted_access}
use Rattle.abort_expansion_laws.proofs.Pending.{Sound, IsStarting, Waits, settled, Covered, goes_in, still_going}
use Rattle.abort_expansion_laws.proofs.Pending.{Flagged, Pending, IsBusy, starts, opens, joins_then, Reached, behind_parts}
use Rattle.abort_expansion_laws.proofs.SettledInOrder.{skips, Piece}
use Rattle.abort_expansion_laws.proofs.StartingRegions.{Once, CounterRows, set_behind, opening_on, joining_on, starting_on, covered_on, waits_on}
use Rattle.abort_expansion_laws.proofs.CalmPending.{all_calm}
use Rattle.abort_expansion_laws.proofs.LooksFirst.{still_looks}

module _ (k core : Table) (i : Images) (rows : CoreRows k core i) (tree : IsNested k) (counts : ℕ → Bool) (written_at : ℕ → ℕ)
    (Told : Configuration → Entry → Type 0)
    (told : (d : Configuration) (t : ℕ) (stage : Option (ℕ × ℕ)) (a : Access) → Told d (Silent t stage a))
    (deeper : (q s : ℕ) → Contains (around k q) s → holder k s < q)
    (children : (s r : ℕ) → Contains (state_at k s).regions r → around k r ≡ s ∷ around k (holder k s))
    (counters : CounterRows k core i rows counts written_at) (c : Configuration) (sound : Sound k core i c)
    (r : ℕ) (d : Configuration) (p : Pending k core i c r d) (there : IsThere k r) (s : ℕ) (st : IsStarting k core i c d r s) where
  abbrev x : ℕ
  x = st.counter

  abbrev g : ℕ
  g = i.thread_of r

  abbrev w : Transition
  w = go true None (count_down x ∷ []) st.place

  abbrev regions : List ℕ
  regions = (state_at k s).regions

  abbrev corr : Correspondence
  corr = pair k core i rows tree counts written_at

  inner : Contains (around k r) s
  inner = subst (λ zs. Contains zs s) (sym st.direct) (head_in s st.outer)

  holder_below : holder k s < r
  holder_below = deeper r s inner

  not_covered : Covered k core i c d s → ⊥
  not_covered covered =
      let low = p.late covered.0 covered.1 in
      ⊎_elim (λ e. let same : holder k covered.0 ≡ holder k s = ap (holder k) e in let up = holder_below in omega (low, same, up, arith))
      (λ h. let higher = deeper (holder k s) covered.0 h in let up = holder_below in omega (low, higher, up, arith)) covered.2

  stands_inside : IsInside k core i s (standing_of c (holder k s))
  stands_inside = subst (IsInside k core i s) (sym st.open_in_chart) (open_inside st.tests)

  flagged : Flagged k core i c d s
  flagged = ⊎_elim (λ f. f) (λ covered. absurd (not_covered covered)) (p.flags s st.there stands_inside)

  -- ---- one less is left
  goes_now : goes_in k core i c d r ≡ true
  goes_now = rw (st.over_in_chart, st.counting) refl

  abbrev d1 : Configuration
  d1 = record { variables = d.variables; regions = slice_set d.regions g (at.Acting st.first (count_down x ∷ []) st.place) }

  abbrev after_counting : ℕ → Configuration
  after_counting m = record {
    variables = slice_set d.variables x (value_is.Int (pos m));
    regions =
        slice_set (slice_set d.regions g (at.Acting st.first (count_down x ∷ []) st.place)) g at.Ended;
  }

  image_there : IsThere core g
  image_there = (rows.region r there).there

  in_core : g < length d.regions
  in_core = let lt = image_there.1 in let size = p.core_regions in omega (lt, size, arith)

  module _ (m : ℕ) where
    abbrev e : Configuration
    e = after_counting m

    here : standing_of e g ≡ at.Ended
    here = stands_same d1 e g at.Ended refl (let lt = in_core in let size = length-set d.regions g (at.Acting st.first (count_down x ∷ []) st.place) in
        omega (lt, size, arith))

    same : (t : ℕ) → t ≢ g → standing_of e t ≡ standing_of d t
    same t ne = stands_other d1 e g t at.Ended refl ne ∙ stands_other d d1 g t (at.Acting st.first (count_down x ∷ []) st.place) refl ne

    goes_gone : goes_in k core i c e r ≡ false
    goes_gone = rw (st.over_in_chart, here) refl

    thread_other : (q : ℕ) → q ≢ r → standing_of e (i.thread_of q) ≡ standing_of d (i.thread_of q)
    thread_other q ne = same (i.thread_of q) (λ f. ne (rows.region_once q r f))

    goes_same : (q : ℕ) → q ≢ r → goes_in k core i c e q ≡ goes_in k core i c d q
    goes_same q ne = rw (thread_other q ne) refl

    none_less : (rs : List ℕ) → ¬ Contains rs r → still_going k core i c e rs ≡ still_going k core i c d rs
    none_less [] out = refl
    none_less (q ∷ rs) out = rw (goes_same q (λ f. out (subst (Contains (q ∷ rs)) f (head_in q rs))), none_less rs (λ h. out (tail_in q r rs h))) refl

    one_less : (rs : List ℕ) → Once r rs → still_going k core i c d rs ≡ suc (still_going k core i c e rs)
    one_less [] once = absurd once
    one_less (q ∷ rs) (inl (is, out)) =
        let was : goes_in k core i c d q ≡ true = ap (goes_in k core i c d) is ∙ goes_now in
        let now : goes_in k core i c e q ≡ false = ap (goes_in k core i c e) is ∙ goes_gone in
        let rest = none_less rs out in rw (was, now, rest) (omega arith)
    one_less (q ∷ rs) (inr (ne, once)) =
        let rest = one_less rs once in
        let own_one = goes_same q ne in rw (own_one, rest) (one_more (if goes_in k core i c d q then 1 else 0) (still_going k core i c e rs))
      where
        one_more : (a b : ℕ) → a + suc b ≡ suc (a + b)
        one_more a b = omega arith

  at_most : (rs : List ℕ) → still_going k core i c d rs ≤ length rs
  at_most [] = omega arith
  at_most (q ∷ rs) = let rest = at_most rs in one_or_none (goes_in k core i c d q) (still_going k core i c d rs) (length rs) rest
    where
      one_or_none : (b : Bool) (n l : ℕ) → n ≤ l → (if b then 1 else 0) + n ≤ suc l
      one_or_none true n l le = omega (le, arith)
      one_or_none false n l le = omega (le, arith)

  once : Once r regions
  once = counters.once r s st.outer there st.direct

  abbrev m : ℕ
  m = still_going k core i c (after_counting 0) regions

  -- what is left does not depend on the variables
  same_left : (a b : ℕ) (rs : List ℕ) → still_going k core i c (after_counting a) rs ≡ still_going k core i c (after_counting b) rs
  same_left a b [] = refl
  same_left a b (q ∷ rs) = ap (λ z. (if goes_in k core i c (after_counting a) q then 1 else 0) + z) (same_left a b rs)

  abbrev next : Configuration
  next = after_counting m

  was : still_going k core i c d regions ≡ suc m
  was = one_less 0 regions once

  left_now : still_going k core i c next regions ≡ m
  left_now = same_left m 0 regions

  few : m < 2147483648
  few = let top = at_most regions in let bound = counters.few s in let is = was in omega (top, bound, is, arith)

  stored : slice_get d.variables x ≡ Some (value_is.Int (pos (suc m)))
  stored = subst (λ o. Stores k core i d.variables o (suc m)) st.counts (subst (Stores k core i d.variables (i.flags_of s).counter) was flagged.counter)

  -- ---- the variables
  declared : length k.variables ≤ x
  declared = rows.counter_added s x st.counts

  counter_there : x < length d.variables
  counter_there = let lt = counters.counter_there s x st.counts in let size = p.flag_count in omega (lt, size, arith)

  now_stored : slice_get next.variables x ≡ Some (value_is.Int (pos m))
  now_stored = get_same d.variables x (value_is.Int (pos m)) counter_there

  other_stored : (o : Option ℕ) (n : ℕ) → ((y : ℕ) → o ≡ Some y → y ≢ x) → Stores k core i d.variables o n → Stores k core i next.variables o n
  other_stored None n differ stores = tt
  other_stored (Some y) n differ stores = get_other d.variables x y (value_is.Int (pos m)) (differ y refl) ∙ stores

  not_counter : (y : ℕ) → counts y ≡ false → y ≢ x
  not_counter y none f = let wrong : true ≡ false = sym (counters.counter_counts s x st.counts) ∙ (ap counts (sym f) ∙ none) in absurd cc

  not_child : (u : ℕ) → u ≢ s → ¬ Contains (state_at k u).regions r
  not_child u ne h =
      let both : s ∷ st.outer ≡ u ∷ around k (holder k u) = sym st.direct ∙ children u r h in
      let same_state : s ≡ u = cc in ne (sym same_state)

  flagged_now : (u : ℕ) → Flagged k core i c d u → Flagged k core i c next u
  flagged_now u down =
      record {
        strong = other_stored (i.flags_of u).strong 0 (λ y is. not_counter y (counters.strong_not u y is)) down.strong;
        weak = other_stored (i.flags_of u).weak 0 (λ y is. not_counter y (counters.weak_not u y is)) down.weak;
        counter =
            ⊎_elim
            (λ f. subst (λ z. Stores k core i next.variables (i.flags_of z).counter (still_going k core i c next (state_at k z).regions)) (sym f)
            (subst (λ o. Stores k core i next.variables o (still_going k core i c next regions)) (sym st.counts)
            (now_stored ∙ ap (λ z. Some (value_is.Int (pos z))) (sym left_now))))
            (λ ne. subst (Stores k core i next.variables (i.flags_of u).counter) (sym (none_less m (state_at k u).regions (not_child u ne)))
            (other_stored (i.flags_of u).counter (still_going k core i c d (state_at k u).regions)
            (λ y is f. ne (sym (counters.counter_of u y is) ∙ (ap rows.of_flag f ∙ counters.counter_of s x st.counts))) down.counter)) (same_or_not u s);
      }

  -- ---- all that waits still does, and region r is settled
  set_size : {A : Type 0} (ys : List A) (j : ℕ) (v : A) → length (slice_set ys j v) ≡ length ys
  set_size [] j v = refl
  set_size (y ∷ ys) zero v = refl
  set_size (y ∷ ys) (suc j) v = ap suc (set_size ys j v)

  not_behind : (u : ℕ) (us : List ℕ) → around k r ≡ u ∷ us → is_behind k core i c u ≡ false
  not_behind u us e = by_case (is_behind k core i c u) refl
    where
      is_s : u ≡ s
      is_s = let both : u ∷ us ≡ s ∷ st.outer = sym e ∙ st.direct in cc

      by_case : (b : Bool) → is_behind k core i c u ≡ b → is_behind k core i c u ≡ false
      by_case false f = f
      by_case true f =
          let parts = behind_parts k core i c s (subst (λ z. is_behind k core i c z ≡ true) is_s f) in
          let wrong : true ≡ false = sym (counters.counter_joins s x st.counts) ∙ parts.2 in absurd cc

  settled_now : Stands k core i c r (standing_of c r) (standing_of next g)
  settled_now = subst (λ z. Stands k core i c r z (standing_of next g)) (sym st.over_in_chart)
      (subst (Stands k core i c r at.Ended) (sym (here m)) (ended not_behind))

  back : (t : ℕ) → t ≢ g → standing_of d t ≡ standing_of next t
  back t ne = sym (same m t ne)

  flags_behind : (zs : List Value) × (slice_set (c.variables ++ p.more) x (value_is.Int (pos m)) ≡ c.variables ++ zs)
  flags_behind = set_behind c.variables p.more x (value_is.Int (pos m)) (let le = declared in let size = sound.values in omega (le, size, arith))

  -- who is outside stays there
  still_empty : (t : ℕ) → standing_of d t ≡ at.Outside → standing_of next t ≡ at.Outside
  still_empty t out =
      ⊎_elim
      (λ e.
      let wrong : at.Trying st.first (go true None (count_down x ∷ []) st.place ∷ []) ≡ at.Outside = sym st.counting ∙ (ap (standing_of d) (sym e) ∙ out) in
      absurd cc) (λ ne. same m t ne ∙ out) (same_or_not t g)

  still_pending : Pending k core i c r next
  still_pending =
      record {
        more = flags_behind.0;
        variables = ap (λ vs. slice_set vs x (value_is.Int (pos m))) p.variables ∙ flags_behind.1;
        flag_count = set_size d.variables x (value_is.Int (pos m)) ∙ p.flag_count;
        core_regions =
            set_size (slice_set d.regions g (at.Acting st.first (count_down x ∷ []) st.place)) g at.Ended
            ∙ (set_size d.regions g (at.Acting st.first (count_down x ∷ []) st.place) ∙ p.core_regions);
        no_core = same m 0 (λ e. let lt = image_there.0 in absurd (omega (lt, e, arith))) ∙ p.no_core;
        waits = λ q q_there.
            ⊎_elim (λ e. subst (Waits k core i c next) (sym e) (settled settled_now))
            (λ ne. waits_on k core i rows c d next r (same m) st.over_in_chart q ne (p.waits q q_there)) (same_or_not q r);
        done = λ q q_there lt.
            subst (Stands k core i c q (standing_of c q)) (sym (thread_other m q (λ e. absurd (omega (lt, e, arith))))) (p.done q q_there lt);
        watchers = λ o o_there has.
            let kept : standing_of next (i.watcher_of o) ≡ standing_of d (i.watcher_of o) =
            same m (i.watcher_of o) (λ e. (rows.watcher o o_there has).no_thread r (sym e)) in
            ⊎_elim (λ watching. inl (subst (Watches k core i o (standing_of c (holder k o))) (sym kept) watching))
            (λ hides. inr (kept ∙ hides.0, covered_on k core i rows c d next r (same m) st.over_in_chart o hides.1)) (p.watchers o o_there has);
        unseen = λ o u o_there has inner guarded_by.
            still_looks k core i o (standing_of d (i.watcher_of o)) (standing_of next (i.watcher_of o))
            (same m (i.watcher_of o) (λ e. (rows.watcher o o_there has).no_thread r (sym e))) (p.unseen o u o_there has inner guarded_by);
        flags = λ u u_there inside_u.
            ⊎_elim (λ down. inl (flagged_now u down)) (λ covered. inr (covered_on k core i rows c d next r (same m) st.over_in_chart u covered))
            (p.flags u u_there inside_u);
        late = λ u o. p.late u (opening_on k core i rows c next d r back st.over_in_chart u o);
        ready = λ u o.
            let before = p.ready u (opening_on k core i rows c next d r back st.over_in_chart u o) in
            (before.0, (λ t h. still_empty t (before.1.0 t h), before.1.1));
        joinable = λ u o.
            let before = p.joinable u (joining_on k core i rows c next d r back st.over_in_chart u o) in
            record {
              free = before.free;
              chart_inside = before.chart_inside;
              ended_there = λ t h. ⊎_elim (λ e. ap (standing_of next) e ∙ here m) (λ ne. same m t ne ∙ before.ended_there t h) (same_or_not t g);
              over_inside = λ t h.
                  ⊎_elim (λ e. inl (ap (standing_of next) e ∙ here m))
                  (λ ne. ⊎_elim (λ is. inl (same m t ne ∙ is)) (λ is. inr (same m t ne ∙ is)) (before.over_inside t h)) (same_or_not t g);
            };
      }

  -- ---- the two steps
  abbrev at_one : Option (ℕ × ℕ)
  at_one = Some (corr.home x, written_at x)

  calm_too : (t : ℕ) → has_to_guard (standing_of d1 t) ≡ false
  calm_too t =
      ⊎_elim (λ e. ap (λ z. has_to_guard (standing_of d1 z)) e ∙ ap has_to_guard here1)
      (λ ne. ap has_to_guard (stands_other d d1 g t (at.Acting st.first (count_down x ∷ []) st.place) refl ne) ∙ all_calm k core i rows c r d p t)
      (same_or_not t g)
    where
      here1 : standing_of d1 g ≡ at.Acting st.first (count_down x ∷ []) st.place
      here1 = stands_same d d1 g (at.Acting st.first (count_down x ∷ []) st.place) refl in_core

  acting_now : standing_of d1 g ≡ at.Acting st.first (count_down x ∷ []) st.place
  acting_now = stands_same d d1 g (at.Acting st.first (count_down x ∷ []) st.place) refl in_core

  home_is : corr.home x ≡ i.thread_of (holder k s)
  home_is = ap (λ z. holder core (i.main_of z)) (counters.counter_of s x st.counts) ∙ rows.held s

  within_it : corr.Within g x
  within_it =
      subst (λ z. Contains (around core g) (i.main_of z)) (sym (counters.counter_of s x st.counts))
      (subst (λ zs. Contains zs (i.main_of s)) (sym (rows.encloses r ∙ ap (map i.main_of) st.direct)) (head_in (i.main_of s) (map i.main_of st.outer)))

  fits : IsSilent corr g at_one (combines x combine.Add)
  fits = silent_count corr g at_one x declared (counters.counter_counts s x st.counts, refl, within_it, refl)

  abbrev Mid : ℕ → ℕ → Type 0
  Mid h n = (g ≢ h) × Reached k core i c d h n

  low : 1 ≤ stage_of k c (standing_of c (holder k s))
  low = subst (λ z. 1 ≤ stage_of k c z) (sym st.open_in_chart) (one_at_least (has_aborts (own k s)) _ _)

  own_stage : (h n : ℕ) → at_one ≡ Some (h, n) → ((u : ℕ) → Mid h u → u ≤ n) × Reached k core i c next h n
  own_stage h n e = (
    λ u before. let le = before.1.busy r s s there (starts st) inner at_home in omega (le, is_one, arith),
    record {
      staged = record {
        regions = λ q q_there f.
            let here_too : holder k s ≡ q = rows.region_once (holder k s) q (sym at_home ∙ f) in
            let le : 1 ≤ stage_of k c (standing_of c q) = subst (λ z. 1 ≤ stage_of k c (standing_of c z)) here_too low in omega (le, is_one, arith);
        chart = λ f. omega (is_one, arith);
      };
      busy = λ q u v q_there b around_it f. omega (is_one, arith);
    },
  )
    where
      both : ◌≡◌ {A = ℕ × ℕ} (corr.home x, written_at x) (h, n)
      both = same_Some (corr.home x, written_at x) (h, n) e

      at_home : h ≡ i.thread_of (holder k s)
      at_home = sym (ap (λ z. z.0) both) ∙ home_is

      is_one : n ≡ 1
      is_one = sym (ap (λ z. z.1) both) ∙ counters.counter_at s x st.counts

  busy_before : (q u : ℕ) → IsBusy k core i c next q u → IsBusy k core i c d q u
  busy_before q u (starts o) =
      starts (starting_on k core i rows c next d r back q u
      (λ e. let wrong : at.Trying o.first (go true None (count_down o.counter ∷ []) o.place ∷ []) ≡ at.Ended = sym o.counting ∙
      (ap (λ z. standing_of next (i.thread_of z)) e ∙ here m) in absurd cc) o)
  busy_before q u (opens held o) = opens held (opening_on k core i rows c next d r back st.over_in_chart u o)
  busy_before q u (joins_then held o) = joins_then held (joining_on k core i rows c next d r back st.over_in_chart u o)

  others_stay : (h n : ℕ) → g ≢ h → Mid h n → Reached k core i c next h n
  others_stay h n ne before =
      record {
        staged = record { regions = before.1.staged.regions; chart = before.1.staged.chart };
        busy = λ q u v q_there b around_it f. before.1.busy q u v q_there (busy_before q u b) around_it f;
      }

  pub counted_down : Piece k core i rows tree counts written_at Told deeper c sound r d
  counted_down =
      record {
        log = Silent g None no_access ∷ Silent g at_one (combines x combine.Add) ∷ [];
        last = next;
        follows = (
          ap (λ a. record { thread = g; access = a }) (sym (ap access_of st.counting)),
          told d g None no_access,
          (
            d1,
            takes core d g st.first w [] (count_down x) [] (unguarded core d (all_calm k core i rows c r d p) (around core g)) st.counting refl st.alone refl,
            (
              ap (λ a. record { thread = g; access = a }) (sym (ap access_of acting_now ∙ counted_access x)),
              told d1 g at_one (combines x combine.Add),
              (
                next,
                writes_last core d1 g st.first st.place (count_down x) (value_is.Int (pos m)) at.Ended (unguarded core d1 calm_too (around core g)) acting_now
                    (counted_value x m d.variables few stored) (counters.counter_kind s x st.counts) st.ends,
                refl,
              ),
            ),
          ),
        );
        charted = refl;
        fits = (silent_idle corr g None, (fits, tt));
        climbs = λ rest climbs.
            climbs_step corr (Reached k core i c d) Mid (Silent g None no_access) (Silent g at_one (combines x combine.Add) ∷ rest) (λ h n e. absurd cc)
            (λ h n ne before. (ne, before))
            (climbs_step corr Mid (Reached k core i c next) (Silent g at_one (combines x combine.Add)) rest own_stage others_stay climbs);
        reaches = skips k core i rows tree counts written_at Told deeper c sound r next still_pending (λ _. settled_now);
      }
