-- When a chart's tick is over, what its core has left: a weak check in each thread inside of a superstate with weak aborts, and the
-- count test of each monitor that has one. They fail.
use Rattle.std.proofs.Common.{◌≡◌, ◌≢◌, ℕ, zero, suc, pos, ◌+◌, ◌<◌, ◌≤◌, ◌⊎◌, inl, inr, Bool, true, false, not, ◌||◌, Option, Some, None}
use Rattle.std.proofs.Common.{List, [], ◌∷◌, ◌++◌, map, length, slice_get, Contains, refl, sym, ap, subst, ◌∙◌, arith}
use Rattle.std.specs.Prelude.{filter, reverse}
use Rattle.std.specs.List.{list_any}
use Rattle.std.proofs.lemmas.Option.{none-some, same_Some}
use Rattle.sc_values.specs.declared.value.Value.TheVariants as value_is
use Rattle.sc_values.specs.Access.{Access}
use Rattle.sc_values.specs.Runs.{IsOver}
use Rattle.core_charts.specs.declared.region.Transition.{Transition}
use Rattle.core_charts.specs.Tests.{terminations, is_weak, is_join}
use Rattle.chart_machine.specs.declared.standing.Standing.{Standing}
use Rattle.chart_machine.specs.declared.standing.Standing.TheVariants as at
use Rattle.chart_machine.specs.declared.standing.Configuration.{Configuration}
use Rattle.chart_machine.specs.declared.table.Table.{Table}
use Rattle.chart_machine.specs.Table.{state_at}
use Rattle.chart_machine.specs.Turns.{standing_of, has_work, inside}
use Rattle.chart_machine.specs.Machine.{machine}
use Rattle.core_charts.specs.Aborts.{has_aborts}
use Rattle.abort_expansion.specs.Transitions.{go, is_raised, is_number, check, weak_checks}
use Rattle.abort_expansion.specs.Superstates.{all_ended}
use Rattle.chart_machine_laws.specs.Tree.{IsNested, IsThere, around, holder}
use Rattle.chart_machine_laws.proofs.LyingIn.{head_in, tail_in}
use Rattle.abort_expansion_laws.specs.Stages.{Entry, Silent, Correspondence}
use Rattle.abort_expansion_laws.specs.CoreRows.{own, IsState, Images, CoreRows, flags_around, pair}
use Rattle.abort_expansion_laws.specs.Related.{Each, front, held_back, Stands, outside, ended, left, trying, acting, entering, guarding, staying}
use Rattle.abort_expansion_laws.specs.Related.{within, behind, Watches, waits, looks_strong, looks, elsewhere, raise_each}
use Rattle.abort_expansion_laws.specs.Related.{not_ended, Stores, IsInside, guarded, open_inside}
use Rattle.abort_expansion_laws.specs.Related.{Closes, Related, monitor_last}
use Rattle.abort_expansion_laws.specs.Related.{guards as watch_guards}
use Rattle.abort_expansion_laws.proofs.Fronts.{front_free}
use Rattle.abort_expansion_laws.specs.StageReached.{some_work, stage_of, Stage}
use Rattle.abort_expansion_laws.proofs.KnownVariables.{present_there}
use Rattle.abort_expansion_laws.proofs.InsideLeaves.{AloneRows}
use Rattle.abort_expansion_laws.proofs.MoreValues.{lowered_verdict, other_verdict}
use Rattle.abort_expansion_laws.proofs.FlagAccess.{raised_access, number_access}
use Rattle.abort_expansion_laws.proofs.StartingRegions.{CounterRows}
use Rattle.abort_expansion_laws.proofs.OpensFork.{OpeningRows}
use Rattle.abort_expansion_laws.proofs.WokenConfigurations.{each_kept}
use Rattle.abort_expansion_laws.proofs.TickStarts.{StartRows, some_kept}
use Rattle.abort_expansion_laws.proofs.LaterTicks.{weak_no_join, each_more}
use Rattle.abort_expansion_laws.proofs.IdleChart.{free, idle}
use Rattle.abort_expansion_laws.proofs.LastTests.{Ends, nothing_left, some_left, FailsAtLast, none_left, one_more, fails_both}
use Rattle.abort_expansion_laws.proofs.YetToLook.{in_reverse}
use Rattle.abort_expansion_laws.proofs.WeakSeen.{still_none}
use Rattle.abort_expansion_laws.proofs.NumberedRegions.{past_number}
use Rattle.abort_expansion_laws.proofs.ThreadsAround.{thread_within}

none_any : (P : ℕ → Bool) (xs : List ℕ) → ((y : ℕ) → P y ≡ false) → list_any P xs ≡ false
none_any P [] none = refl
none_any P (x ∷ xs) none = rw (none x, none_any P xs none) refl

each_none : (P : Transition → Bool) (ts : List Transition) → Each (λ t. P t ≡ false) ts → list_any P ts ≡ false
each_none P [] all = refl
each_none P (t ∷ ts) all = rw (all.0, each_none P ts all.1) refl

join_no_weak : (t : Rattle.core_charts.specs.declared.region.TransitionKind.TransitionKind) → is_join t ≡ true → is_weak t ≡ false
join_no_weak Rattle.core_charts.specs.declared.region.TransitionKind.TheVariants.Go e = refl
join_no_weak Rattle.core_charts.specs.declared.region.TransitionKind.TheVariants.Strong e = refl
join_no_weak Rattle.core_charts.specs.declared.region.TransitionKind.TheVariants.Weak e = absurd cc
join_no_weak Rattle.core_charts.specs.declared.region.TransitionKind.TheVariants.Join e = refl

pub kept_is : (P : Transition → Bool) (ts : List Transition) (n : ℕ) (t : Transition) → slice_get (filter P ts) n ≡ Some t → P t ≡ true
kept_is P ts n t e = among (filter P ts) n (each_kept P ts) e
  where
    among : (us : List Transition) (n : ℕ) → Each (λ u. P u ≡ true) us → slice_get us n ≡ Some t → P t ≡ true
    among [] n all e = absurd (none-some t e)
    among (u ∷ us) zero all e = subst (λ z. P z ≡ true) (same_Some u t e) all.0
    among (u ∷ us) (suc n) all e = among us n all.1 e

module _ (k core : Table) (i : Images) (rows : CoreRows k core i) (lone : AloneRows k core i) (tree : IsNested k) (counts : ℕ → Bool) (written_at : ℕ → ℕ)
    (counters : CounterRows k core i rows counts written_at) (opening : OpeningRows k core i rows) (start_rows : StartRows k core i rows)
    (written_low : (x : ℕ) → written_at x < 3) (Told : Configuration → Entry → Type 0)
    (told : (e : Configuration) (t : ℕ) (stage : Option (ℕ × ℕ)) (a : Access) → Told e (Silent t stage a))
    (c d : Configuration) (related : Related k core i c d) (deep : (q s : ℕ) → Contains (around k q) s → holder k s < q) (over : IsOver (machine k) c) where
  abbrev pub corr : Correspondence
  corr = pair k core i rows tree counts written_at

  abbrev pub Reached : ℕ → ℕ → Type 0
  Reached h n = Stage k i.thread_of c d h n

  abbrev pub EndsAt : ℕ → Standing → Type 0
  EndsAt t y = Ends core corr Told told d Reached t y

  idle_here : (r : ℕ) → has_work k c (standing_of c r) ≡ false
  idle_here r = idle k core i c d related deep over r

  pub works_not : (r : ℕ) (x : Standing) → standing_of c r ≡ x → has_work k c x ≡ true → ⊥
  works_not r x e works = let wrong : true ≡ false = sym works ∙ (sym (ap (has_work k c) e) ∙ idle_here r) in absurd cc

  -- ---- a superstate with aborts in which somebody stands: its stage is 3

  module _ (o : ℕ) (is : IsInside k core i o (standing_of c (holder k o))) (has : has_aborts (own k o) ≡ true) where
    opened_tests : (x : Standing) → standing_of c (holder k o) ≡ x → IsInside k core i o x → (tests : List Transition) ×
        (standing_of c (holder k o) ≡ at.Within o tests)
    opened_tests _ e (guarded tests) = absurd (works_not (holder k o) (at.Guarding o tests) e refl)
    opened_tests _ e (open_inside tests) = (tests, e)

    holder_there : IsThere k (holder k o)
    holder_there = present_there k core i c d related (holder k o) (present (standing_of c (holder k o)) is)
      where
        present : (x : Standing) → IsInside k core i o x → x ≢ at.Outside
        present _ (guarded tests) e = absurd cc
        present _ (open_inside tests) e = absurd cc

    no_weak : (tests : List Transition) → standing_of c (holder k o) ≡ at.Within o tests → list_any (λ t. is_weak t.kind) tests ≡ false
    no_weak tests e = by_some closes.some closes.no_join closes.are
      where
        closes : Closes k core i o tests
        closes = related.closes_last o tests e

        by_some : (some : List Transition) → Each (λ t. is_join t.kind ≡ false) some → tests ≡ some ++ terminations (own k o) →
            list_any (λ t. is_weak t.kind) tests ≡ false
        by_some [] none are =
            ap (list_any (λ t. is_weak t.kind)) are ∙
            each_none (λ t. is_weak t.kind) (terminations (own k o))
            (each_more (λ t. is_join t.kind) (λ t. is_weak t.kind) true false (terminations (own k o)) (λ t join. join_no_weak t.kind join)
            (each_kept (λ t. is_join t.kind) (own k o)))
        by_some (t ∷ some) none are =
            absurd (works_not (holder k o) (at.Within o (t ∷ some ++ terminations (own k o))) (e ∙ ap (at.Within o) are) (rw (none.0) refl))

    stage_is : stage_of k c (standing_of c (holder k o)) ≡ 3
    stage_is =
        let found = opened_tests (standing_of c (holder k o)) refl is in
        let quiet : some_work k c o ≡ false = none_any (λ r. has_work k c (standing_of c r)) (inside k o) idle_here in
        ap (stage_of k c) found.1 ∙ rw (has, quiet, no_weak found.0 found.1) refl

    module _ (x : ℕ) (owner : rows.of_flag x ≡ o) where
      home_is : corr.home x ≡ i.thread_of (holder k o)
      home_is = ap (λ s. holder core (i.main_of s)) owner ∙ rows.held o

      most : (n : ℕ) → Reached (corr.home x) n → n ≤ 3
      most n before = let le = before.regions (holder k o) holder_there home_is in omega (le, stage_is, arith)

      reaches : Reached (corr.home x) 3
      reaches =
          record {
            regions = λ q q_there e.
                let same : holder k o ≡ q = rows.region_once (holder k o) q (sym home_is ∙ e) in
                let three : stage_of k c (standing_of c q) ≡ 3 = subst (λ p. stage_of k c (standing_of c p) ≡ 3) same stage_is in omega (three, arith);
            chart = λ e.
                let root : holder k o ≡ 0 = rows.region_once (holder k o) 0 (sym home_is ∙ e) in
                let lt = holder_there.0 in absurd (omega (root, lt, arith));
          }

  -- ---- weak checks

  weak_aborts_of : (s x : ℕ) → (i.flags_of s).weak ≡ Some x → has_aborts (own k s) ≡ true
  weak_aborts_of s x e = rw (start_rows.weak_for s x e) (either (Rattle.core_charts.specs.Aborts.has_strong (own k s)))
    where
      either : (a : Bool) → (a || true) ≡ true
      either true = refl
      either false = refl

  -- the weak checks of a thread that lies in all that is around a region, wherever they lead
  module _ (t r place : ℕ) (is : IsThere k r) (present : standing_of c r ≢ at.Outside)
      (lies_in : (s : ℕ) → Contains (around k r) s → Contains (around core t) (i.main_of s)) where
    one_weak : (s : ℕ) → Contains (around k r) s → (f : Option ℕ) → (i.flags_of s).weak ≡ f →
        FailsAtLast core corr Told told d Reached t (check true place f)
    one_weak s inner None e = none_left
    one_weak s inner (Some x) e =
        let has : has_aborts (own k s) ≡ true = weak_aborts_of s x e in
        let inside_s : IsInside k core i s (standing_of c (holder k s)) = related.enclosed r s is present inner in
        let owner : rows.of_flag x ≡ s = (opening.flag_of s x (inr (inl e))).0 in
        let low : slice_get d.variables x ≡ Some (value_is.Int (pos 0)) =
        subst (λ f. Stores k core i d.variables f 0) e (related.flags s (start_rows.super_there r s inner) inside_s).weak in
        one_more x (go true (Some (is_raised x)) [] place) [] (lowered_verdict x d.variables low) (raised_access x) (rows.weak_added s x e)
        (inr (inr (counters.weak_not s x e, subst (λ v. Contains (around core t) (i.main_of v)) (sym owner) (lies_in s inner)), (3, refl, written_low x)))
        (most s inside_s has x owner) (reaches s inside_s has x owner) none_left

    weak_fail : (zs : List ℕ) → ((s : ℕ) → Contains zs s → Contains (around k r) s) →
        FailsAtLast core corr Told told d Reached t (weak_checks true place (map i.flags_of zs))
    weak_fail [] around_it = none_left
    weak_fail (s ∷ zs) around_it =
        fails_both core corr Told told d Reached t (check true place (i.flags_of s).weak) (weak_checks true place (map i.flags_of zs))
        (one_weak s (around_it s (head_in s zs)) (i.flags_of s).weak refl) (weak_fail zs (λ u h. around_it u (tail_in s u zs h)))

    pub weak_all : FailsAtLast core corr Told told d Reached t (weak_checks true place (flags_around k core i r))
    weak_all = weak_fail (reverse (around k r)) (λ s h. in_reverse (around k r) s h)

  in_fork : (r s : ℕ) → Contains (around k r) s → Contains (around core (i.thread_of r)) (i.main_of s)
  in_fork r s inner = thread_within k core i rows r s inner

  -- a thread with its weak checks alone
  weak_left : (r : ℕ) → IsThere k r → standing_of c r ≢ at.Outside → (u : ℕ) → EndsAt (i.thread_of r) (at.Trying u (held_back k core i r))
  weak_left r is present u = some_left u (held_back k core i r) (weak_all (i.thread_of r) r (i.places_of r).left is present (λ s inner. in_fork r s inner))

  pub front_none : (r : ℕ) (b : Bool) → front k core i b c r ≡ []
  front_none r b = front_free k core i c r (free k core i c d related deep over (around k r)) b

  region_ends : (r : ℕ) → IsThere k r → (x y : Standing) → standing_of c r ≡ x → Stands k core i c r x y → EndsAt (i.thread_of r) y
  region_ends r is _ _ e outside = nothing_left at.Outside refl
  region_ends r is _ _ e (ended inner) = nothing_left at.Ended refl
  region_ends r is _ _ e (left s ss round over_it) = nothing_left at.Outside refl
  region_ends r is _ _ e (trying s [] simple held) =
      subst (λ f. EndsAt (i.thread_of r) (at.Trying (i.main_of s) (f ++ [] ++ held_back k core i r))) (sym (front_none r false))
      (weak_left r is (λ out. let wrong : at.Trying s [] ≡ at.Outside = sym e ∙ out in absurd cc) (i.main_of s))
  region_ends r is _ _ e (trying s (t ∷ tests) simple held) = absurd (works_not r (at.Trying s (t ∷ tests)) e refl)
  region_ends r is _ _ e (acting s u p f effects lt) = absurd (works_not r (at.Acting s (f ∷ effects) p) e refl)
  region_ends r is _ _ e (entering s fork t tests super held leads) = absurd (works_not r (at.Entering s (t ∷ tests)) e refl)
  region_ends r is _ _ e (guarding s join t tests has held leads) = absurd (works_not r (at.Guarding s (t ∷ tests)) e refl)
  region_ends r is _ _ e (staying s tests super held stay) = nothing_left _ refl
  region_ends r is _ _ e (within s join tests super held apart still leads) = nothing_left _ refl
  region_ends r is _ _ e (behind s tests super held over_it) =
      subst (λ f. EndsAt (i.thread_of r) (at.Trying (i.behind_of s) (f ++ held_back k core i r))) (sym (front_none r true))
      (weak_left r is (λ out. let wrong : at.Within s tests ≡ at.Outside = sym e ∙ out in absurd cc) (i.behind_of s))

  -- ---- count tests

  -- a counter is not down to 0: else the termination would have its turn
  not_counted : (o x : ℕ) (tests : List Transition) → standing_of c (holder k o) ≡ at.Within o tests → (i.flags_of o).counter ≡ Some x →
      not_ended k core i c o ≢ 0
  not_counted o x tests e flag none = by_tests tests e (related.closes_last o tests e)
    where
      join : (t : Transition) × ((more : List Transition) × (terminations (own k o) ≡ t ∷ more))
      join = some_kept (λ t. is_join t.kind) (own k o) (counters.counter_joins o x flag)

      by_tests : (tests : List Transition) → standing_of c (holder k o) ≡ at.Within o tests → Closes k core i o tests → ⊥
      by_tests [] e closes = none_left closes.some closes.are
        where
          none_left : (some : List Transition) → [] ≡ some ++ terminations (own k o) → ⊥
          none_left [] are = let wrong : [] ≡ join.0 ∷ join.1.0 = are ∙ join.1.1 in absurd cc
          none_left (u ∷ some) are = absurd cc
      by_tests (t ∷ tests) e closes =
          works_not (holder k o) (at.Within o (t ∷ tests)) e (rw (still_none k core i c (state_at k o).regions none) (or_true (not (is_join t.kind))))
        where
          or_true : (b : Bool) → (b || true) ≡ true
          or_true true = refl
          or_true false = refl

  pub none_raised : (immediate : Transition → Bool) (flag : Option ℕ) → raise_each immediate flag [] ≡ []
  none_raised immediate None = refl
  none_raised immediate (Some x) = refl

  count_fails : (o : ℕ) → IsState k o → has_aborts (own k o) ≡ true → (tests : List Transition) → standing_of c (holder k o) ≡ at.Within o tests →
      FailsAtLast core corr Told told d Reached (i.watcher_of o) (all_ended (i.flags_of o).counter)
  count_fails o is has tests e = by_counter (i.flags_of o).counter refl
    where
      inside_o : IsInside k core i o (standing_of c (holder k o))
      inside_o = subst (IsInside k core i o) (sym e) (open_inside tests)

      by_counter : (f : Option ℕ) → (i.flags_of o).counter ≡ f → FailsAtLast core corr Told told d Reached (i.watcher_of o) (all_ended f)
      by_counter None flag = none_left
      by_counter (Some x) flag =
          let owner : rows.of_flag x ≡ o = counters.counter_of o x flag in
          let stored : slice_get d.variables x ≡ Some (value_is.Int (pos (not_ended k core i c o))) =
          subst (λ f. Stores k core i d.variables f (not_ended k core i c o)) flag (related.flags o is inside_o).counter in
          one_more x (go true (Some (is_number x 0)) [] 1) [] (other_verdict x (not_ended k core i c o) 0 d.variables stored
          (not_counted o x tests e flag)) (number_access x 0) (rows.counter_added o x flag)
          (inr (inl (counters.counter_counts o x flag, ap i.watcher_of (sym owner)), (3, refl, written_low x))) (most o inside_o has x owner)
          (reaches o inside_o has x owner) none_left

  count_left : (o : ℕ) → IsState k o → has_aborts (own k o) ≡ true → (tests : List Transition) → standing_of c (holder k o) ≡ at.Within o tests →
      EndsAt (i.watcher_of o) (at.Trying (i.watching_of o) (monitor_last k core i o))
  count_left o is has tests e =
      some_left (i.watching_of o) (monitor_last k core i o)
      (fails_both core corr Told told d Reached (i.watcher_of o) (all_ended (i.flags_of o).counter) (weak_checks true 1 (flags_around k core i (holder k o)))
      (count_fails o is has tests e)
      (weak_all (i.watcher_of o) (holder k o) 1 (present_there k core i c d related (holder k o) present) present
      (λ s inner. subst (λ zs. Contains zs (i.main_of s)) (sym (rows.watcher o is has).encloses)
      (tail_in (i.main_of o) (i.main_of s) (around core (i.thread_of (holder k o))) (in_fork (holder k o) s inner)))))
    where
      present : standing_of c (holder k o) ≢ at.Outside
      present out = let wrong : at.Within o tests ≡ at.Outside = sym e ∙ out in absurd cc

  watcher_ends : (o : ℕ) → IsState k o → has_aborts (own k o) ≡ true → (x y : Standing) → standing_of c (holder k o) ≡ x → Watches k core i o x y →
      EndsAt (i.watcher_of o) y
  watcher_ends o is has _ _ e (watch_guards some among) = absurd (works_not (holder k o) (at.Guarding o (map (λ z. z.1) some)) e refl)
  watcher_ends o is has _ _ e (looks_strong yet seen parted some among) = absurd (works_not (holder k o) (at.Guarding o (map (λ z. z.1) some)) e refl)
  watcher_ends o is has _ _ e (waits [] ends among only) =
      subst (λ zs. EndsAt (i.watcher_of o) (at.Trying (i.watching_of o) (zs ++ monitor_last k core i o)))
      (sym (none_raised (λ t. t.immediate) (i.flags_of o).weak)) (count_left o is has ends e)
  watcher_ends o is has _ _ e (waits (z ∷ some) ends among only) =
      let weak : is_weak z.1.kind ≡ true = kept_is (λ t. is_weak t.kind) (own k o) z.0 z.1 among.0 in
      let no_join : is_join z.1.kind ≡ false = weak_no_join z.1.kind weak in
      absurd (works_not (holder k o) (at.Within o (z.1 ∷ (map (λ w. w.1) some ++ ends))) e (rw (no_join) refl))
  watcher_ends o is has _ _ e (looks yet seen parted z some ends among only) =
      let weak : is_weak z.1.kind ≡ true = kept_is (λ t. is_weak t.kind) (own k o) z.0 z.1 among.0 in
      let no_join : is_join z.1.kind ≡ false = weak_no_join z.1.kind weak in
      absurd (works_not (holder k o) (at.Within o (z.1 ∷ (map (λ w. w.1) some ++ ends))) e (rw (no_join) refl))
  watcher_ends o is has _ _ e (elsewhere x one two) = nothing_left at.Outside refl

  -- ---- each thread of the core

  pub all_end : (t : ℕ) → EndsAt t (standing_of d t)
  all_end zero = subst (EndsAt zero) (sym related.no_core) (nothing_left at.Outside refl)
  all_end (suc j) = by_place (below j (length core.regions))
    where
      below : (n m : ℕ) → (n < m) ⊎ (m ≤ n)
      below n m = grind arith

      by_sort : (t : ℕ) → ((r : ℕ) × IsThere k r × (t ≡ i.thread_of r)) ⊎ ((s : ℕ) × IsState k s × (has_aborts (own k s) ≡ true) × (t ≡ i.watcher_of s)) →
          EndsAt t (standing_of d t)
      by_sort t (inl is) =
          subst (λ g. EndsAt g (standing_of d g)) (sym is.2)
          (region_ends is.0 is.1 (standing_of c is.0) (standing_of d (i.thread_of is.0)) refl (related.regions is.0 is.1))
      by_sort t (inr is) =
          subst (λ g. EndsAt g (standing_of d g)) (sym is.3)
          (watcher_ends is.0 is.1 is.2 (standing_of c (holder k is.0)) (standing_of d (i.watcher_of is.0)) refl (related.watchers is.0 is.1 is.2))

      by_place : (j < length core.regions) ⊎ (length core.regions ≤ j) → EndsAt (suc j) (standing_of d (suc j))
      by_place (inl lt) = by_sort (suc j) (rows.each (suc j) (omega arith, omega (lt, arith)))
      by_place (inr past) =
          let size = related.core_regions in
          subst (EndsAt (suc j))
          (sym (past_number d.regions (suc j) (omega (past, size, arith)))) (nothing_left at.Outside refl)
