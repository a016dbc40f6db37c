-- When the chart rests and is over, so is its core.
use Rattle.std.proofs.Common.{◌≡◌, ◌≢◌, ℕ, zero, suc, ◌+◌, ◌<◌, ◌⊎◌, inl, inr, ⊎_elim, Bool, true, false, not, ◌&&◌, ◌||◌, List, [], ◌∷◌, ◌++◌, map, length}
use Rattle.std.proofs.Common.{Contains, refl, sym, ap, subst, ◌∙◌, arith, if◌then◌else◌}
use Rattle.std.specs.Prelude.{filter}
use Rattle.std.specs.List.{list_all, list_any}
use Rattle.std.proofs.lemmas.Bool.{and_parts, false_from_ne_true}
use Rattle.sc_values.specs.Runs.{IsOver}
use Rattle.core_charts.specs.declared.region.Transition.{Transition}
use Rattle.core_charts.specs.Tests.{is_join, terminations}
use Rattle.core_charts.specs.Aborts.{has_aborts}
use Rattle.chart_machine.specs.declared.standing.Standing.{Standing}
use Rattle.chart_machine.specs.declared.standing.Standing.TheVariants as at
use Rattle.chart_machine.specs.declared.standing.Configuration.{Configuration}
use Rattle.chart_machine.specs.declared.table.Table.{Table}
use Rattle.chart_machine.specs.Table.{state_at}
use Rattle.chart_machine.specs.Turns.{standing_of, has_ended, guards, may_close, has_work, is_guarded, inside, is_enabled}
use Rattle.chart_machine.specs.Machine.{machine}
use Rattle.chart_machine.proofs.Outside.{within_or_past}
use Rattle.abort_expansion.specs.Flags.{has_join}
use Rattle.abort_expansion.specs.Superstates.{stays}
use Rattle.chart_machine_laws.proofs.LyingIn.{around, holder, head_in, tail_in}
use Rattle.chart_lowering_laws.proofs.Joining.{list_any_none}
use Rattle.abort_expansion_laws.proofs.TablesCorrespond.{IsThere}
use Rattle.abort_expansion_laws.proofs.InsideLeaves.{true_or_false}
use Rattle.chart_machine_laws.proofs.ChartTables.{around_there}
use Rattle.abort_expansion_laws.proofs.InsideAround.{inside_around}
use Rattle.abort_expansion_laws.specs.CoreRows.{own, IsState, IsSuper, Images, CoreRows, StayingImage, SplitImage, watchers, flags_around}
use Rattle.abort_expansion_laws.specs.Related.{Each, is_behind, Closes}
use Rattle.abort_expansion_laws.proofs.Owed.{RestsIn, rests_outside, rests_ended, rests_left, rests_trying, rests_staying, rests_within, rests_behind}
use Rattle.abort_expansion_laws.proofs.Owed.{WatchRests, watch_within, watch_elsewhere, Resting}
use Rattle.abort_expansion_laws.proofs.NumberedRegions.{past_regions, super_is_state}

none_works : (p : ℕ → Bool) (xs : List ℕ) → ((x : ℕ) → Contains xs x → p x ≡ false) → list_all (λ x. not (p x)) xs ≡ true
none_works p [] each = refl
none_works p (x ∷ xs) each = rw (each x (head_in x xs), none_works p xs (λ y tail. each y (tail_in x y xs tail))) refl

-- whoever has ended in the one has in the other
all_back : (p q : ℕ → Bool) (f : ℕ → ℕ) (xs : List ℕ) → ((x : ℕ) → Contains xs x → p (f x) ≡ true → q x ≡ true) → list_all p (map f xs) ≡ true →
    list_all q xs ≡ true
all_back p q f [] each e = refl
all_back p q f (x ∷ xs) each e =
    let both = and_parts (p (f x)) (list_all p (map f xs)) e in
    rw (each x (head_in x xs) both.0, all_back p q f xs (λ y tail. each y (tail_in x y xs tail)) both.1) refl

all_first : (p : ℕ → Bool) (xs ys : List ℕ) → list_all p (xs ++ ys) ≡ true → list_all p xs ≡ true
all_first p [] ys e = refl
all_first p (x ∷ xs) ys e = let both = and_parts (p x) (list_all p (xs ++ ys)) e in rw (both.0, all_first p xs ys both.1) refl

all_last : (p : ℕ → Bool) (xs : List ℕ) (y : ℕ) → list_all p (xs ++ y ∷ []) ≡ true → p y ≡ true
all_last p [] y e = (and_parts (p y) true e).0
all_last p (x ∷ xs) y e = all_last p xs y (and_parts (p x) (list_all p (xs ++ y ∷ [])) e).1

still_closed : (j a b : Bool) → (not j || a) ≡ false → (b ≡ true → a ≡ true) → (not j || b) ≡ false
still_closed false a b e back = absurd cc
still_closed true a true e back = let is : a ≡ true = back refl in let wrong : true ≡ false = sym is ∙ e in absurd cc
still_closed true a false e back = refl

no_join_none : (ts : List Transition) → list_any (λ t. is_join t.kind) ts ≡ true → filter (λ t. is_join t.kind) ts ≢ []
no_join_none [] e none = absurd cc
no_join_none (t ∷ ts) e none = by_kind (is_join t.kind) refl e none (λ f n. no_join_none ts f n)
  where
    by_kind : (b : Bool) → is_join t.kind ≡ b → (b || list_any (λ u. is_join u.kind) ts) ≡ true →
        (if b then t ∷ filter (λ u. is_join u.kind) ts else filter (λ u. is_join u.kind) ts) ≡ [] →
        (list_any (λ u. is_join u.kind) ts ≡ true → filter (λ u. is_join u.kind) ts ≡ [] → ⊥) → ⊥
    by_kind true is f empty rest = absurd cc
    by_kind false is f empty rest = rest f empty

-- with all its regions ended, an opened superstate with a termination has work
closes_works : (k core : Table) (i : Images) (c : Configuration) (s : ℕ) (some ends tests : List Transition) → ends ≢ [] →
    Each (λ t. is_join t.kind ≡ false) some → tests ≡ some ++ ends →
    list_all (λ r. has_ended (standing_of c r)) (state_at k s).regions ≡ true → may_close k c s tests ≡ true
closes_works k core i c s [] [] tests there none are over = absurd (there refl)
closes_works k core i c s [] (t ∷ ends) tests there none are over = ap (may_close k c s) are ∙
    either (is_join t.kind) (list_all (λ r. has_ended (standing_of c r)) (state_at k s).regions) over
  where
    either : (j b : Bool) → b ≡ true → (not j || b) ≡ true
    either true b e = e
    either false b e = refl
closes_works k core i c s (u ∷ some) ends tests there none are over = ap (may_close k c s) are ∙ rw (none.0) refl

is_open : (st ab jn al : Bool) → st ≡ false → ab ≡ false → al ≡ true → (not st && (not ab && (not jn && al))) ≡ false → jn ≡ true
is_open true ab jn al e f g h = absurd cc
is_open false true jn al e f g h = absurd cc
is_open false false true al e f g h = refl
is_open false false false al e f g h = let wrong : true ≡ false = sym g ∙ h in absurd cc

module _ (k core : Table) (i : Images) (rows : CoreRows k core i) (children : (s r : ℕ) → Contains (state_at k s).regions r →
    around k r ≡ s ∷ around k (holder k s))
    (deep : (q s : ℕ) → Contains (around k q) s → holder k s < q) (c d : Configuration) (rests : Resting k core i c d) (over : IsOver (machine k) c) where
  -- where a region is
  placed : (P : Standing → Type 0) → P at.Outside → ((r : ℕ) → IsThere k r → P (standing_of c r)) → (r : ℕ) → P (standing_of c r)
  placed P none each zero = subst P (sym rests.no_chart) none
  placed P none each (suc r) =
      ⊎_elim (λ lt. each (suc r) (omega arith, omega (lt, arith))) (λ le. subst P (sym (past_regions c k rests.chart_regions (suc r) (omega (le, arith)))) none)
      (within_or_past r (length k.regions))

  rests_calm : (r : ℕ) (x y : Standing) → RestsIn k core i c r x y → guards x ≡ false
  rests_calm r _ _ rests_outside = refl
  rests_calm r _ _ (rests_ended inner) = refl
  rests_calm r _ _ (rests_left s ss e behind) = refl
  rests_calm r _ _ (rests_trying s simple held) = refl
  rests_calm r _ _ (rests_staying s tests super held stay) = refl
  rests_calm r _ _ (rests_within s join tests super held stay still leads) = refl
  rests_calm r _ _ (rests_behind s tests super held behind) = refl

  nobody_guards : (r : ℕ) → guards (standing_of c r) ≡ false
  nobody_guards = placed (λ x. guards x ≡ false) refl (λ r there. rests_calm r (standing_of c r) (standing_of d (i.thread_of r)) (rests.regions r there))

  free : (zs : List ℕ) → is_guarded k c zs ≡ false
  free zs = list_any_none (λ s. guards (standing_of c (holder k s))) zs (λ s h. nobody_guards (holder k s))

  off : (a : Bool) → (a && true) ≡ false → a ≡ false
  off true e = absurd cc
  off false e = refl

  in_super : (r s : ℕ) (tests : List Transition) → standing_of c r ≡ at.Within s tests → holder k s ≡ r →
      ((q : ℕ) → r < q → has_work k c (standing_of c q) ≡ false) → may_close k c s tests ≡ false
  in_super r s tests is held inner =
      let done : list_all (λ q. not (has_work k c (standing_of c q))) (inside k s) ≡ true =
      none_works (λ q. has_work k c (standing_of c q)) (inside k s) (λ q h. let lt = deep q s (inside_around k s q h) in inner q (omega (lt, held, arith))) in
      let off_here : is_enabled k c r ≡ false = over r in
      off (may_close k c s tests) (sym (rw (is, free (around k r), done) refl) ∙ off_here)

  -- nobody in the chart has work: the innermost who had some would have its turn
  idle_at : (r : ℕ) (x y : Standing) → standing_of c r ≡ x → RestsIn k core i c r x y → ((q : ℕ) → r < q → has_work k c (standing_of c q) ≡ false) →
      has_work k c x ≡ false
  idle_at r _ _ is rests_outside inner = refl
  idle_at r _ _ is (rests_ended open_still) inner = refl
  idle_at r _ _ is (rests_left s ss e behind) inner = refl
  idle_at r _ _ is (rests_trying s simple held) inner = refl
  idle_at r _ _ is (rests_staying s tests super held stay) inner = in_super r s tests is held inner
  idle_at r _ _ is (rests_within s join tests super held stay still leads) inner = in_super r s tests is held inner
  idle_at r _ _ is (rests_behind s tests super held behind) inner = in_super r s tests is held inner

  idle_from : (n r : ℕ) → length k.regions < r + n → has_work k c (standing_of c r) ≡ false
  idle_from zero r lt = ap (has_work k c) (past_regions c k rests.chart_regions r (omega (lt, arith)))
  idle_from (suc n) r lt =
      placed_at r (λ q more. idle_from n q (omega (lt, more, arith)))
    where
      placed_at : (r : ℕ) → ((q : ℕ) → r < q → has_work k c (standing_of c q) ≡ false) → has_work k c (standing_of c r) ≡ false
      placed_at zero inner = ap (has_work k c) rests.no_chart
      placed_at (suc r) inner =
          ⊎_elim (λ lt. idle_at (suc r) (standing_of c (suc r)) (standing_of d (i.thread_of (suc r))) refl
          (rests.regions (suc r) (omega arith, omega (lt, arith))) inner)
          (λ le. ap (has_work k c) (past_regions c k rests.chart_regions (suc r) (omega (le, arith)))) (within_or_past r (length k.regions))

  idle : (r : ℕ) → has_work k c (standing_of c r) ≡ false
  idle r = idle_from (suc (length k.regions)) r (omega arith)

  -- ---- nor has anybody in the core

  ends_back : (q : ℕ) (x y : Standing) → RestsIn k core i c q x y → has_ended y ≡ true → has_ended x ≡ true
  ends_back q _ _ rests_outside e = absurd cc
  ends_back q _ _ (rests_ended inner) e = refl
  ends_back q _ _ (rests_left s ss f behind) e = absurd cc
  ends_back q _ _ (rests_trying s simple held) e = absurd cc
  ends_back q _ _ (rests_staying s tests super held stay) e = absurd cc
  ends_back q _ _ (rests_within s join tests super held stay still leads) e = absurd cc
  ends_back q _ _ (rests_behind s tests super held behind) e = absurd cc

  child_there : (s q : ℕ) → Contains (state_at k s).regions q → IsThere k q
  child_there s q h = around_there k q s (subst (λ zs. Contains zs s) (sym (children s q h)) (head_in s (around k (holder k s))))

  ended_back : (s : ℕ) → list_all (λ q. has_ended (standing_of d q)) (map i.thread_of (state_at k s).regions) ≡ true →
      list_all (λ q. has_ended (standing_of c q)) (state_at k s).regions ≡ true
  ended_back s =
      all_back (λ q. has_ended (standing_of d q)) (λ q. has_ended (standing_of c q)) i.thread_of (state_at k s).regions
      (λ q h. ends_back q (standing_of c q) (standing_of d (i.thread_of q)) (rests.regions q (child_there s q h)))

  -- the monitor of an opened superstate has not ended
  watch_open : (o : ℕ) (x y : Standing) (tests : List Transition) → WatchRests k core i o x y → x ≡ at.Within o tests → has_ended y ≡ false
  watch_open o _ _ tests (watch_within others) e = refl
  watch_open o x _ tests (watch_elsewhere z none) e = absurd (none tests e)

  joins_not : (s : ℕ) (tests : List Transition) → IsSuper k s → standing_of c (holder k s) ≡ at.Within s tests →
      stays (flags_around k core i (holder k s)) (own k s) ≡ false → is_behind k core i c s ≡ false →
      list_all (λ q. has_ended (standing_of d q)) (state_at core (i.main_of s)).regions ≡ true → ⊥
  joins_not s tests super is stay still all = ⊎_elim with_aborts without (true_or_false (has_aborts (own k s)))
    where
      image : SplitImage k core i s
      image = rows.split s (super_is_state k s super) super stay

      here : list_all (λ q. has_ended (standing_of d q)) (map i.thread_of (state_at k s).regions ++ watchers k core i s) ≡ true
      here = sym (ap (λ row. list_all (λ q. has_ended (standing_of d q)) row.regions) image.row) ∙ all

      with_aborts : has_aborts (own k s) ≡ true → ⊥
      with_aborts has =
          let one : watchers k core i s ≡ i.watcher_of s ∷ [] = rw (has) refl in
          let over_too : has_ended (standing_of d (i.watcher_of s)) ≡ true =
          all_last (λ q. has_ended (standing_of d q)) (map i.thread_of (state_at k s).regions) (i.watcher_of s)
          (subst (λ zs. list_all (λ q. has_ended (standing_of d q)) (map i.thread_of (state_at k s).regions ++ zs) ≡ true) one here) in
          let open_still =
          watch_open s (standing_of c (holder k s)) (standing_of d (i.watcher_of s)) tests (rests.watchers s (super_is_state k s super) has) is in
          let wrong : true ≡ false = sym over_too ∙ open_still in absurd cc

      without : has_aborts (own k s) ≡ false → ⊥
      without none =
          let ended : list_all (λ q. has_ended (standing_of c q)) (state_at k s).regions ≡ true =
          ended_back s (all_first (λ q. has_ended (standing_of d q)) (map i.thread_of (state_at k s).regions) (watchers k core i s) here) in
          let has : has_join (own k s) ≡ true =
          is_open (stays (flags_around k core i (holder k s)) (own k s)) (has_aborts (own k s)) (has_join (own k s))
          (list_all (λ q. has_ended (standing_of c q)) (state_at k s).regions) stay none ended still in
          let closes : Closes k core i s tests = rests.closes_last s tests is in
          let works : may_close k c s tests ≡ true = closes_works k core i c s closes.some (terminations (own k s)) tests (no_join_none (own k s) has)
          closes.no_join closes.are ended in
          let wrong : true ≡ false = sym works ∙ (sym (ap (has_work k c) is) ∙ idle (holder k s)) in absurd cc

  core_idle : (r : ℕ) (x y : Standing) → standing_of c r ≡ x → RestsIn k core i c r x y → has_work core d y ≡ false
  core_idle r _ _ is rests_outside = refl
  core_idle r _ _ is (rests_ended inner) = refl
  core_idle r _ _ is (rests_left s ss e behind) = refl
  core_idle r _ _ is (rests_trying s simple held) = refl
  core_idle r _ _ is (rests_staying s [] super held stay) = refl
  core_idle r _ _ is (rests_staying s (t ∷ tests) super held stay) =
      let image : StayingImage k core i s = rows.staying s (super_is_state k s super) super
      (subst (λ q. stays (flags_around k core i q) (own k s) ≡ true) (sym held) stay) in
      still_closed (is_join t.kind) (list_all (λ q. has_ended (standing_of c q)) (state_at k s).regions)
      (list_all (λ q. has_ended (standing_of d q)) (state_at core (i.main_of s)).regions)
      (sym (ap (has_work k c) is) ∙ idle r)
      (λ all. ended_back s (sym (ap (λ row. list_all (λ q. has_ended (standing_of d q)) row.regions) image.row) ∙ all))
  core_idle r _ _ is (rests_within s join tests super held stay still leads) =
      false_from_ne_true (list_all (λ q. has_ended (standing_of d q)) (state_at core (i.main_of s)).regions)
      (λ all. joins_not s tests super (ap (standing_of c) held ∙ is) (subst (λ q. stays (flags_around k core i q) (own k s) ≡ false) (sym held) stay) still all)
  core_idle r _ _ is (rests_behind s tests super held behind) = refl

  watch_idle : (o : ℕ) (x y : Standing) → WatchRests k core i o x y → has_work core d y ≡ false
  watch_idle o _ _ (watch_within tests) = refl
  watch_idle o x _ (watch_elsewhere z none) = refl

  core_works_not : (t : ℕ) → has_work core d (standing_of d t) ≡ false
  core_works_not zero = ap (has_work core d) rests.no_core
  core_works_not (suc t) = ⊎_elim in_core (λ le. ap (has_work core d) (past_regions d core rests.core_regions (suc t) (omega (le, arith))))
      (within_or_past t (length core.regions))
    where
      by_sort : (u : ℕ) → ((r : ℕ) × IsThere k r × (u ≡ i.thread_of r)) ⊎ ((o : ℕ) × IsState k o × (has_aborts (own k o) ≡ true) × (u ≡ i.watcher_of o)) →
          has_work core d (standing_of d u) ≡ false
      by_sort u (inl r) = ap (λ z. has_work core d (standing_of d z)) r.2 ∙
          core_idle r.0 (standing_of c r.0) (standing_of d (i.thread_of r.0)) refl (rests.regions r.0 r.1)
      by_sort u (inr o) = ap (λ z. has_work core d (standing_of d z)) o.3 ∙
          watch_idle o.0 (standing_of c (holder k o.0)) (standing_of d (i.watcher_of o.0)) (rests.watchers o.0 o.1 o.2)

      in_core : t < length core.regions → has_work core d (standing_of d (suc t)) ≡ false
      in_core lt = by_sort (suc t) (rows.each (suc t) (omega arith, omega (lt, arith)))

  pub over_too : IsOver (machine core) d
  over_too t = rw (core_works_not t) refl
