-- A weak abort that is not taken: when nobody inside has anything left to do, the monitor makes the same test.
use Rattle.std.proofs.Common.{◌≡◌, ◌≢◌, ℕ, ◌≤◌, inr, Bool, true, false, Some, None, List, [], ◌∷◌, ◌++◌, map, slice_get, slice_set, Contains, ⊎_elim, not}
use Rattle.std.proofs.Common.{◌&&◌, ◌||◌, refl, sym, ap, subst, ◌∙◌, arith, if◌then◌else◌}
use Rattle.std.specs.List.{list_all, list_any}
use Rattle.std.proofs.lemmas.Option.{same_Some}
use Rattle.std.proofs.lemmas.Bool.{and_parts, not-true}
use Rattle.sc_values.specs.Runs.{act_of}
use Rattle.core_charts.specs.declared.region.Transition.{Transition}
use Rattle.core_charts.specs.Tests.{terminations, weak_aborts, is_weak, is_join}
use Rattle.core_charts.specs.Aborts.{has_aborts}
use Rattle.chart_machine.specs.declared.standing.Standing.{Standing}
use Rattle.chart_machine.specs.declared.standing.Standing.TheVariants as at
use Rattle.chart_machine.specs.declared.standing.Configuration.{Configuration}
use Rattle.chart_machine.specs.declared.table.Table.{Table}
use Rattle.chart_machine.specs.Turns.{standing_of, has_ended, guards, has_work, is_guarded, inside, inside_is_done}
use Rattle.chart_machine.specs.Steps.{to, after, verdict, change_of, step, access_of, access_of_trigger, state_in}
use Rattle.chart_machine.specs.Machine.{machine}
use Rattle.abort_expansion.specs.Flags.{aborts_around}
use Rattle.abort_expansion.specs.Superstates.{stays}
use Rattle.chart_lowering_laws.proofs.ByRegions.{chosen_first}
use Rattle.compiled_charts_laws.proofs.Stands.{trigger_writes}
use Rattle.abort_expansion_laws.specs.Stages.{Entry, Watched}
use Rattle.abort_expansion_laws.proofs.Segments.{Segment}
use Rattle.chart_machine_laws.proofs.LyingIn.{IsNested, around, holder, head_in, tail_in}
use Rattle.abort_expansion_laws.proofs.TablesCorrespond.{IsThere}
use Rattle.abort_expansion_laws.proofs.MoreValues.{verdict_over_more}
use Rattle.abort_expansion_laws.specs.CoreRows.{own, IsState, IsSuper, joins, Images, CoreRows, flags_around}
use Rattle.abort_expansion_laws.specs.Related.{monitor_last}
use Rattle.abort_expansion_laws.specs.Related.{Closes, Each, AreAmong, is_behind, raises, raise_each, Stands, outside, ended, left, trying, acting, entering}
use Rattle.abort_expansion_laws.specs.Related.{guarding, staying, within, behind, Watches, waits, IsInside, guarded}
use Rattle.abort_expansion_laws.specs.Related.{open_inside, Related}
use Rattle.abort_expansion_laws.proofs.Unchanged.{SameShape, stands_same, stands_other, never_guarded}
use Rattle.abort_expansion_laws.proofs.StageReached.{Stage, some_work, has_work_same, holds_other}
use Rattle.abort_expansion_laws.proofs.InsideAround.{inside_around}
use Rattle.tick_laws.proofs.Lists.{same_or_not}
use Rattle.abort_expansion_laws.proofs.ImageSteps.{pair}
use Rattle.abort_expansion_laws.proofs.MonitorSteps.{WatchedStep, watched_segment}
use Rattle.abort_expansion_laws.proofs.KnownVariables.{Stepped, stepped, present_there, trigger_known}
use Rattle.abort_expansion_laws.proofs.TestFails.{tested_is, fails, watch_other}
use Rattle.abort_expansion_laws.proofs.LaterTicks.{weak_no_join}

-- where a region stands in a superstate with aborts, taken apart
pub record IsWithin (k core : Table) (i : Images) (c : Configuration) (r o : ℕ) (y : Standing) : Type 0 where
  pub super : IsSuper k o
  pub held : holder k o ≡ r
  pub stays_not : stays (flags_around k core i r) (own k o) ≡ false
  pub not_behind : is_behind k core i c o ≡ false
  pub join : ℕ
  pub leads : state_in core (i.thread_of r) join ≡ i.behind_of o
  pub is : y ≡ at.Within (i.main_of o) (joins join ∷ [])

always_split : (a b : Bool) → a ≡ true → not (a || b) ≡ false
always_split true b e = refl
always_split false b e = absurd cc

never_behind : (a b z : Bool) → b ≡ true → not a && (not b && z) ≡ false
never_behind true b z e = refl
never_behind false true z e = refl
never_behind false false z e = absurd cc

module _ (k core : Table) (i : Images) (c : Configuration) (r o : ℕ) (has : has_aborts (own k o) ≡ true) where
  o_splits : stays (flags_around k core i r) (own k o) ≡ false
  o_splits = always_split (has_aborts (own k o)) (aborts_around (flags_around k core i r)) has

  o_not_behind : (f : Configuration) → is_behind k core i f o ≡ false
  o_not_behind f = never_behind (stays (flags_around k core i (holder k o)) (own k o)) (has_aborts (own k o)) _ has

  pub within_back : (x y : Standing) → Stands k core i c r x y → (tests : List Transition) → x ≡ at.Within o tests → IsWithin k core i c r o y
  within_back _ _ outside tests e = absurd cc
  within_back _ _ (ended inner) tests e = absurd cc
  within_back _ _ (left u ss f over) tests e = absurd cc
  within_back _ _ (trying u others simple held) tests e = absurd cc
  within_back _ _ (acting u v p f effects lt) tests e = absurd cc
  within_back _ _ (entering u fork t others super held leads) tests e = absurd cc
  within_back _ _ (guarding u join t others has_some held leads) tests e = absurd cc
  within_back _ _ (staying u others super held stay) tests e =
      let state : u ≡ o = cc in
      let wrong : true ≡ false = sym stay ∙ (ap (λ v. stays (flags_around k core i r) (own k v)) state ∙ o_splits) in absurd cc
  within_back _ _ (within u join others super held stay open_still leads) tests e =
      let state : u ≡ o = cc in
      record {
        super = subst (IsSuper k) state super;
        held = ap (holder k) (sym state) ∙ held;
        stays_not = o_splits;
        not_behind = o_not_behind c;
        join = join;
        leads = leads ∙ ap i.behind_of state;
        is = ap (λ v. at.Within (i.main_of v) (joins join ∷ [])) state;
      }
  within_back _ _ (behind u others super held over) tests e =
      let state : u ≡ o = cc in
      let wrong : true ≡ false = sym over ∙ (ap (is_behind k core i c) state ∙ o_not_behind c) in absurd cc

-- where the monitor of a superstate stands in which a weak abort is next
pub record MonitorWaits (k core : Table) (i : Images) (o : ℕ) (t : Transition) (tests : List Transition) (y : Standing) : Type 0 where
  pub number : ℕ
  pub others : List (ℕ × Transition)
  pub joins_behind : List Transition
  pub first : slice_get (weak_aborts (own k o)) number ≡ Some t
  pub among : AreAmong (weak_aborts (own k o)) others
  pub only_joins : Each (λ z. is_join z.kind ≡ true) joins_behind
  pub tests_are : map (λ x. x.1) others ++ joins_behind ≡ tests
  pub is : y ≡ at.Trying (i.watching_of o) (raise_each (λ z. z.immediate) (i.flags_of o).weak ((number, t) ∷ others) ++ monitor_last k core i o)

module _ (k core : Table) (i : Images) (o : ℕ) where
  pub from_waiting : (some : List (ℕ × Transition)) (joins_behind : List Transition) → AreAmong (weak_aborts (own k o)) some →
      Each (λ z. is_join z.kind ≡ true) joins_behind → (t : Transition) (tests : List Transition) →
      is_join t.kind ≡ false → map (λ (x : ℕ × Transition). x.1) some ++ joins_behind ≡ t ∷ tests →
      MonitorWaits k core i o t tests (at.Trying (i.watching_of o) (raise_each (λ z. z.immediate) (i.flags_of o).weak some ++ monitor_last k core i o))
  from_waiting [] [] among ends t tests weak e = absurd cc
  from_waiting [] (j ∷ joins_behind) among ends t tests weak e =
      let same : j ≡ t = cc in
      let wrong : true ≡ false = sym ends.0 ∙ (ap (λ z. is_join z.kind) same ∙ weak) in absurd cc
  from_waiting ((n, u) ∷ some) joins_behind among ends t tests weak e =
      let same : u ≡ t = cc in
      let rest : map (λ (x : ℕ × Transition). x.1) some ++ joins_behind ≡ tests = cc in
      record {
        number = n;
        others = some;
        joins_behind = joins_behind;
        first = among.0 ∙ ap Some same;
        among = among.1;
        only_joins = ends;
        tests_are = rest;
        is = ap (λ z. at.Trying (i.watching_of o) (raise_each (λ w. w.immediate) (i.flags_of o).weak ((n, z) ∷ some) ++ monitor_last k core i o)) same;
      }

  pub inside_within : (s : ℕ) (x : Standing) → IsInside k core i s x → (tests : List Transition) → x ≡ at.Within o tests → s ≡ o
  inside_within s _ (guarded others) tests e = absurd cc
  inside_within s _ (open_inside others) tests e = cc

-- nobody inside has work
no_work : (w w' : ℕ → Bool) (xs : List ℕ) → ((q : ℕ) → Contains xs q → w' q ≡ w q) → list_all (λ q. not (w q)) xs ≡ true →
    (list_any w xs ≡ false) × (list_any w' xs ≡ false)
no_work w w' [] alike e = (refl, refl)
no_work w w' (q ∷ xs) alike e =
    let both = and_parts (not (w q)) (list_all (λ p. not (w p)) xs) e in
    let idle : w q ≡ false = not-true (w q) both.0 in
    let rest = no_work w w' xs (λ p tail. alike p (tail_in q p xs tail)) both.1 in (rw (idle, rest.0) refl, rw (alike q (head_in q xs), idle, rest.1) refl)

two_or_three : (a b : Bool) → a ≡ true → 2 ≤ (if a then (if b then 2 else 3) else 1)
two_or_three true true e = omega arith
two_or_three true false e = omega arith
two_or_three false b e = absurd cc

just_two : (a b : Bool) → a ≡ true → b ≡ true → (if a then (if b then 2 else 3) else 1) ≤ 2
just_two true true e f = omega arith
just_two true false e f = absurd cc
just_two false b e f = absurd cc

closes_on : (k core : Table) (i : Images) (o : ℕ) (t : Transition) (tests : List Transition) → is_join t.kind ≡ false → Closes k core i o (t ∷ tests) →
    Closes k core i o tests
closes_on k core i o t tests none closes = by_some closes.some closes.no_join closes.are
  where
    by_some : (some : List Transition) → Each (λ z. is_join z.kind ≡ false) some → t ∷ tests ≡ some ++ terminations (own k o) → Closes k core i o tests
    by_some [] weak e = let wrong : true ≡ false = sym (chosen_first (λ z. is_join z.kind) (own k o) t tests (sym e)) ∙ none in absurd cc
    by_some (u ∷ some) weak e = let rest : tests ≡ some ++ terminations (own k o) = cc in record { some = some; no_join = weak.1; are = rest }

module _ (k core : Table) (i : Images) (rows : CoreRows k core i) (tree : IsNested k) (counts : ℕ → Bool) (written_at : ℕ → ℕ)
    (c d : Configuration) (related : Related k core i c d) (r o : ℕ) (o_there : IsState k o) (has : has_aborts (own k o) ≡ true) (t : Transition)
    (weak : is_weak t.kind ≡ true) (tests : List Transition)
    (stands : standing_of c r ≡ at.Within o (t ∷ tests)) (monitor : MonitorWaits k core i o t tests (standing_of d (i.watcher_of o))) where
  there : IsThere k r
  there = present_there k core i c d related r (λ e. let wrong : at.Within o (t ∷ tests) ≡ at.Outside = sym stands ∙ e in absurd cc)

  region : IsWithin k core i c r o (standing_of d (i.thread_of r))
  region = within_back k core i c r o has (standing_of c r) (standing_of d (i.thread_of r)) (related.regions r there) (t ∷ tests) stands

  flag : (x : ℕ) × ((i.flags_of o).weak ≡ Some x)
  flag = rows.weak_there o monitor.number t o_there monitor.first

  core_stands : standing_of d (i.watcher_of o) ≡
      at.Trying (i.watching_of o) (raises (λ z. z.immediate) flag.0 (monitor.number, t) ∷
      (map (raises (λ z. z.immediate) flag.0) monitor.others ++ monitor_last k core i o))
  core_stands = monitor.is ∙ ap (λ f. at.Trying (i.watching_of o)
      (raise_each (λ z. z.immediate) f ((monitor.number, t) ∷ monitor.others) ++ monitor_last k core i o)) flag.1

  next_stands : at.Trying (i.watching_of o) (map (raises (λ z. z.immediate) flag.0) monitor.others ++ monitor_last k core i o)
      ≡ at.Trying (i.watching_of o) (raise_each (λ z. z.immediate) (i.flags_of o).weak monitor.others ++ monitor_last k core i o)
  next_stands = ap (λ f. at.Trying (i.watching_of o) (raise_each (λ z. z.immediate) f monitor.others ++ monitor_last k core i o)) (sym flag.1)

  abbrev pub after_it : Configuration
  after_it = record { variables = c.variables; regions = slice_set c.regions r (at.Within o tests) }

  same_shape : SameShape c after_it
  same_shape =
      record {
        ends = λ q. ⊎_elim (λ e. ap (λ p. has_ended (standing_of after_it p)) e ∙
            (ap has_ended here ∙ (sym (ap has_ended stands) ∙ ap (λ p. has_ended (standing_of c p)) (sym e))))
            (λ ne. ap has_ended (elsewhere_same q ne)) (same_or_not q r);
        guards_alike = λ q. ⊎_elim (λ e. ap (λ p. guards (standing_of after_it p)) e ∙
            (ap guards here ∙ (sym (ap guards stands) ∙ ap (λ p. guards (standing_of c p)) (sym e))))
            (λ ne. ap guards (elsewhere_same q ne)) (same_or_not q r);
      }
    where
      here : standing_of after_it r ≡ at.Within o tests
      here = let lt = there.1 in stands_same c after_it r (at.Within o tests) refl (omega (lt, related.chart_regions, arith))

      elsewhere_same : (q : ℕ) → q ≢ r → standing_of after_it q ≡ standing_of c q
      elsewhere_same q ne = stands_other c after_it r q (at.Within o tests) refl ne

  idle : inside_is_done k c (standing_of c r) ≡ true → (some_work k c o ≡ false) × (some_work k after_it o ≡ false)
  idle done =
      no_work (λ q. has_work k c (standing_of c q)) (λ q. has_work k after_it (standing_of after_it q)) (inside k o)
      (λ q h. has_work_same k core i c after_it same_shape (standing_of after_it q)
      ∙ ap (has_work k c) (stands_other c after_it r q (at.Within o tests) refl
      (λ e. holds_other k tree r o (inside_around k o r (subst (Contains (inside k o)) e h)) region.held)))
      (sym (ap (inside_is_done k c) stands) ∙ done)

  pub not_taken : verdict c.variables t.trigger ≡ Some false → has_work k c (standing_of c r) ≡ true → is_guarded k c (around k r) ≡ false →
      inside_is_done k c (standing_of c r) ≡ true →
      WatchedStep k core i rows tree counts written_at c d r o 2 (at.Within o tests)
      (at.Trying (i.watching_of o) (raise_each (λ z. z.immediate) (i.flags_of o).weak monitor.others ++ monitor_last k core i o))
      (record { variables = c.variables; regions = slice_set c.regions r (at.Within o tests) })
      (record {
        variables = d.variables;
        regions = slice_set d.regions (i.watcher_of o)
            (at.Trying (i.watching_of o) (raise_each (λ z. z.immediate) (i.flags_of o).weak monitor.others ++ monitor_last k core i o));
      })
      (access_of_trigger t.trigger)
  not_taken false_there works free done =
      record {
        goes =
            record {
              there = there;
              chart = refl;
              core_too = refl;
              state_there = o_there;
              has = has;
              held = region.held;
              ends = rw (stands) refl;
              guards_alike = rw (stands) refl;
              was_there = λ e. let wrong : at.Within o (t ∷ tests) ≡ at.Outside = sym stands ∙ e in absurd cc;
              is_there = λ e. absurd cc;
              stands =
                  subst (Stands k core i c r (at.Within o tests)) (sym region.is)
                  (within o region.join tests region.super region.held region.stays_not region.not_behind region.leads);
              watches =
                  subst (λ ts. Watches k core i o (at.Within o ts) (at.Trying (i.watching_of o)
                  (raise_each (λ z. z.immediate) (i.flags_of o).weak monitor.others ++ monitor_last k core i o)))
                  monitor.tests_are (waits monitor.others monitor.joins_behind monitor.among monitor.only_joins);
              watches_others = λ v v_there has_some held differ.
                  watch_other k core i v (standing_of c r) (standing_of d (i.watcher_of v)) (at.Within o tests)
                  (subst (λ p. Watches k core i v (standing_of c p) (standing_of d (i.watcher_of v))) held (related.watchers v v_there has_some))
                  (λ others e. let wrong : at.Within o (t ∷ tests) ≡ at.Guarding v others = sym stands ∙ e in absurd cc)
                  (λ others e. let same : at.Within o (t ∷ tests) ≡ at.Within v others = sym stands ∙ e in let state : o ≡ v = cc in differ (sym state))
                  (λ others e. absurd cc) (λ others e. let state : o ≡ v = cc in differ (sym state));
              inside = λ s held inner. subst (λ v. IsInside k core i v (at.Within o tests))
                  (sym (inside_within k core i o s (standing_of c r) inner (t ∷ tests) stands)) (open_inside tests);
              inside_back = λ s held inner.
                  subst (λ v. IsInside k core i v (standing_of c r)) (sym (inside_within k core i o s (at.Within o tests) inner tests refl))
                  (subst (IsInside k core i o) (sym stands) (open_inside (t ∷ tests)));
              free = free;
              closes = λ v others its w.
                  let state : o ≡ v = cc in
                  let same : tests ≡ others = cc in
                  subst (λ z. Closes k core i z others) state (subst (Closes k core i o) same
                  (closes_on k core i o t tests (weak_no_join t.kind weak) (related.closes_last o (t ∷ tests) (ap (standing_of c) region.held ∙ stands))));
              more = related.more;
              variables = related.variables;
              flag_count = related.flag_count;
              values = related.values;
              flags = λ x le. refl;
            };
        staged = inr refl;
        not_above = let calm = (idle done).0 in rw (stands, calm) (just_two (has_aborts (own k o)) (list_any (λ z. is_weak z.kind) (t ∷ tests)) has
            (rw (weak) refl));
        not_below = let calm = (idle done).1 in rw (calm) (two_or_three (has_aborts (own k o)) (list_any (λ z. is_weak z.kind) tests) has);
        plain = trigger_writes t.trigger;
        works = works;
        free = free;
        steps =
            fails core d (i.watcher_of o) (i.watching_of o) (raises (λ z. z.immediate) flag.0 (monitor.number, t))
            (map (raises (λ z. z.immediate) flag.0) monitor.others ++ monitor_last k core i o)
            (never_guarded k core i rows c d related (around core (i.watcher_of o))) core_stands
            (subst (λ vs. verdict vs t.trigger ≡ Some false) (sym related.variables) (verdict_over_more related.more c.variables t.trigger false false_there))
            ∙ ap (λ z. Some (record { variables = d.variables; regions = slice_set d.regions (i.watcher_of o) z })) next_stands;
        chart_access = ap access_of stands;
        core_access = ap access_of core_stands;
        declared = λ x touches. let lt = trigger_known c.variables t.trigger false false_there x touches in omega (lt, related.values, arith);
      }

  pub not_taken_followed : (Told : Configuration → Entry → Type 0) → Told d (Watched r (i.watcher_of o) 2 (access_of_trigger t.trigger)) →
      (next : Configuration) → step k r c ≡ Some next →
      verdict c.variables t.trigger ≡ Some false →
      Segment (machine core) (pair k core i rows tree counts written_at) Told d (Stage k i.thread_of c d) (Stage k i.thread_of next)
      (act_of (machine k) c r ∷ []) (Related k core i next)
  not_taken_followed Told told next steps false_there =
      let parts : Stepped k r c next = stepped k r c next steps in
      let change : record { write = None; moves = to r (at.Within o tests) ∷ [] } ≡ parts.change =
      same_Some _ parts.change (sym (ap (change_of k c r) stands ∙ tested_is k c r o t (to r (at.Within o tests) ∷ []) false false_there) ∙ parts.does) in
      let is : record { variables = c.variables; regions = slice_set c.regions r (at.Within o tests) } ≡ next = ap (λ e. after e c) change ∙ parts.is in
      subst (λ c'. Segment (machine core) (pair k core i rows tree counts written_at) Told d (Stage k i.thread_of c d) (Stage k i.thread_of c')
      (act_of (machine k) c r ∷ []) (Related k core i c')) is
      (watched_segment k core i rows tree counts written_at c d related r o 2 (at.Within o tests)
      (at.Trying (i.watching_of o) (raise_each (λ z. z.immediate) (i.flags_of o).weak monitor.others ++ monitor_last k core i o))
      (record { variables = c.variables; regions = slice_set c.regions r (at.Within o tests) })
      (record {
        variables = d.variables;
        regions = slice_set d.regions (i.watcher_of o)
            (at.Trying (i.watching_of o) (raise_each (λ z. z.immediate) (i.flags_of o).weak monitor.others ++ monitor_last k core i o));
      })
      (access_of_trigger t.trigger) (not_taken false_there parts.works parts.free parts.done) Told told)
