-- Entering, for many regions at once. The chart's configuration stays; the core has entered as much as it does in one step, and
-- goes on by itself: it prepares what is opened, counts down in what ended on entry, and joins the forks of what is over.
use Rattle.std.proofs.Common.{◌≡◌, ◌≢◌, ℕ, suc, ◌+◌, ◌<◌, ◌≤◌, ◌⊎◌, Bool, true, false, not, ◌&&◌, ◌||◌, Some, None, List, [], ◌∷◌, ◌++◌, length, Contains}
use Rattle.std.proofs.Common.{refl, sym, ap, subst, ◌∙◌, if◌then◌else◌}
use Rattle.sc_values.specs.declared.value.Value.{Value}
use Rattle.core_charts.specs.declared.region.Transition.{Transition}
use Rattle.core_charts.specs.Aborts.{has_aborts}
use Rattle.core_charts.specs.Tests.{first_closing_tests}
use Rattle.chart_machine.specs.declared.standing.Standing.{Standing}
use Rattle.chart_machine.specs.declared.standing.Standing.TheVariants as at
use Rattle.chart_machine.specs.declared.standing.Configuration.{Configuration}
use Rattle.chart_machine.specs.declared.table.Table.{Table}
use Rattle.chart_machine.specs.Table.{state_at}
use Rattle.chart_machine.specs.Turns.{standing_of, has_ended, guards as has_to_guard, is_guarded, inside}
use Rattle.chart_machine.specs.Steps.{to, moved, state_in}
use Rattle.abort_expansion_laws.proofs.Leaving.{at_number}
use Rattle.abort_expansion.specs.Flags.{has_join}
use Rattle.abort_expansion.specs.Transitions.{go, count_down}
use Rattle.abort_expansion.specs.Superstates.{stays, is_prepared, resets}
use Rattle.chart_machine_laws.proofs.LyingIn.{around, holder}
use Rattle.abort_expansion_laws.proofs.TablesCorrespond.{IsThere}
use Rattle.abort_expansion_laws.specs.CoreRows.{own, IsState, IsSuper, joins, Images, flags_around}
use Rattle.abort_expansion_laws.specs.Related.{IsCalm, is_behind, Stands, outside, ended, left, trying, acting, entering, guarding, staying, within, behind}
use Rattle.abort_expansion_laws.specs.Related.{LooksFirst}
use Rattle.abort_expansion_laws.specs.Related.{Watches, IsInside, Stores, Closes}
use Rattle.abort_expansion_laws.proofs.StageReached.{Stage}

abbrev pub is_trying : Standing → Bool
is_trying (at.Trying s tests) = true
is_trying other = false

module _ (k core : Table) (i : Images) (c : Configuration) where
  -- what holds of the chart's configuration alone, as in `Related`
  pub record Sound : Type 0 where
    pub chart_regions : length c.regions ≡ suc (length k.regions)
    pub values : length c.variables ≡ length k.variables
    pub no_chart : standing_of c 0 ≡ at.Outside
    pub enclosed : (r s : ℕ) → IsThere k r → standing_of c r ≢ at.Outside → Contains (around k r) s → IsInside k core i s (standing_of c (holder k s))
    pub opened : (s r : ℕ) → IsState k s → IsInside k core i s (standing_of c (holder k s)) → Contains (state_at k s).regions r → standing_of c r ≢ at.Outside
    pub closes_last : (s : ℕ) (tests : List Transition) → standing_of c (holder k s) ≡ at.Within s tests → Closes k core i s tests
    pub calm : (q s : ℕ) → IsThere k q → Contains (around k q) s → has_to_guard (standing_of c (holder k s)) ≡ true → IsCalm (standing_of c q)

  -- the superstate is open in the chart, and its thread is still in the preparation, at the test that resets
  pub record IsOpening (d : Configuration) (s : ℕ) : Type 0 where
    pub tests : List Transition
    pub fork : ℕ
    pub there : IsState k s
    pub super : IsSuper k s
    pub split : stays (flags_around k core i (holder k s)) (own k s) ≡ false
    pub prepared : is_prepared (flags_around k core i (holder k s)) (own k s) ≡ true
    -- none of its tests was made yet
    pub untested : tests ≡ first_closing_tests (own k s)
    pub open_in_chart : standing_of c (holder k s) ≡ at.Within s tests
    pub leads : state_in core (i.thread_of (holder k s)) fork ≡ i.main_of s
    pub preparing : standing_of d (i.thread_of (holder k s)) ≡ at.Trying (i.entry_of s)
        (go true None (resets (i.flags_of s) (length (state_at k s).regions)) fork ∷ [])

  -- region r, of superstate s, has ended in the chart, and its thread is in the new initial state, where it counts down
  pub record IsStarting (d : Configuration) (r s : ℕ) : Type 0 where
    pub outer : List ℕ
    pub first : ℕ
    pub place : ℕ
    pub counter : ℕ
    pub direct : around k r ≡ s ∷ outer
    pub counts : (i.flags_of s).counter ≡ Some counter
    pub there : IsState k s
    pub tests : List Transition
    pub open_in_chart : standing_of c (holder k s) ≡ at.Within s tests
    pub over_in_chart : standing_of c r ≡ at.Ended
    pub alone : inside core first ≡ []
    pub counting : standing_of d (i.thread_of r) ≡ at.Trying first (go true None (count_down counter ∷ []) place ∷ [])
    pub ends : (state_at core (state_in core (i.thread_of r) place)).entered ≡ to (i.thread_of r) at.Ended ∷ []

  -- the superstate can only be left from outside, all its regions have ended, and its fork still stands
  pub record IsJoining (d : Configuration) (s : ℕ) : Type 0 where
    pub tests : List Transition
    pub join : ℕ
    pub there : IsState k s
    pub super : IsSuper k s
    pub over : is_behind k core i c s ≡ true
    pub open_in_chart : standing_of c (holder k s) ≡ at.Within s tests
    pub leads : state_in core (i.thread_of (holder k s)) join ≡ i.behind_of s
    pub forked : standing_of d (i.thread_of (holder k s)) ≡ at.Within (i.main_of s) (joins join ∷ [])

  -- who prepares a superstate, who counts down and who joins does so still where its thread stands so
  pub opening_kept : (d z : Configuration) (s : ℕ) (a : IsOpening d s) → standing_of z (i.thread_of (holder k s)) ≡
      at.Trying (i.entry_of s) (go true None (resets (i.flags_of s) (length (state_at k s).regions)) a.fork ∷ []) → IsOpening z s
  opening_kept d z s a preparing =
      record {
        tests = a.tests;
        fork = a.fork;
        there = a.there;
        super = a.super;
        split = a.split;
        prepared = a.prepared;
        untested = a.untested;
        open_in_chart = a.open_in_chart;
        leads = a.leads;
        preparing = preparing;
      }

  pub starting_kept : (d z : Configuration) (r s : ℕ) (a : IsStarting d r s) → standing_of z (i.thread_of r) ≡
      at.Trying a.first (go true None (count_down a.counter ∷ []) a.place ∷ []) → IsStarting z r s
  starting_kept d z r s a counting =
      record {
        outer = a.outer;
        first = a.first;
        place = a.place;
        counter = a.counter;
        direct = a.direct;
        counts = a.counts;
        there = a.there;
        tests = a.tests;
        open_in_chart = a.open_in_chart;
        over_in_chart = a.over_in_chart;
        alone = a.alone;
        ends = a.ends;
        counting = counting;
      }

  pub joining_kept : (d z : Configuration) (s : ℕ) (a : IsJoining d s) → standing_of z (i.thread_of (holder k s)) ≡
      at.Within (i.main_of s) (joins a.join ∷ []) → IsJoining z s
  joining_kept d z s a forked =
      record {
        tests = a.tests;
        join = a.join;
        there = a.there;
        super = a.super;
        over = a.over;
        open_in_chart = a.open_in_chart;
        leads = a.leads;
        forked = forked;
      }

  -- then all is over inside of the fork
  pub record Over (d : Configuration) (s : ℕ) : Type 0 where
    pub free : is_guarded k c (around k (holder k s)) ≡ false
    pub chart_inside : (q : ℕ) → IsThere k q → Contains (around k q) s →
        ((ss : List ℕ) × (around k q ≡ s ∷ ss) × (standing_of c q ≡ at.Ended)) ⊎ (standing_of c q ≡ at.Outside)
    pub ended_there : (t : ℕ) → Contains (state_at core (i.main_of s)).regions t → standing_of d t ≡ at.Ended
    pub over_inside : (t : ℕ) → Contains (inside core (i.main_of s)) t → (standing_of d t ≡ at.Ended) ⊎ (standing_of d t ≡ at.Outside)

  pub data Waits (d : Configuration) (r : ℕ) : Type 0 where
    settled : Stands k core i c r (standing_of c r) (standing_of d (i.thread_of r)) → Waits d r
    opening : (s : ℕ) → holder k s ≡ r → IsOpening d s → Waits d r
    starting : (s : ℕ) → IsStarting d r s → Waits d r
    joining : (s : ℕ) → holder k s ≡ r → IsJoining d s → Waits d r
    -- of a superstate whose fork is to be joined
    ending : (s : ℕ) (ss : List ℕ) → around k r ≡ s ∷ ss → IsJoining d s → standing_of c r ≡ at.Ended → standing_of d (i.thread_of r) ≡ at.Ended → Waits d r
    -- inside of a superstate that is opened later
    hidden : (s : ℕ) → Contains (around k r) s → IsOpening d s → standing_of d (i.thread_of r) ≡ at.Outside → Waits d r

  abbrev pub Covered : Configuration → ℕ → Type 0
  Covered d s = (u : ℕ) × IsOpening d u × ((u ≡ s) ⊎ Contains (around k (holder k s)) u)

  -- how many of these regions have still to count down
  abbrev pub goes_in : Configuration → ℕ → Bool
  goes_in d r = not (has_ended (standing_of c r)) || is_trying (standing_of d (i.thread_of r))

  abbrev pub still_going : Configuration → List ℕ → ℕ
  still_going d [] = 0
  still_going d (r ∷ rs) = (if goes_in d r then 1 else 0) + still_going d rs

  pub record Flagged (d : Configuration) (s : ℕ) : Type 0 where
    pub strong : Stores k core i d.variables (i.flags_of s).strong 0
    pub weak : Stores k core i d.variables (i.flags_of s).weak 0
    pub counter : Stores k core i d.variables (i.flags_of s).counter (still_going d (state_at k s).regions)

  -- the inside of the superstate is what its own moves make of an empty inside
  abbrev pub IsFresh : ℕ → Type 0
  IsFresh s =
      (zs : List Standing) → length zs ≡ length c.regions → ((q : ℕ) → Contains (around k q) s → at_number zs q ≡ at.Outside) →
      (q : ℕ) → Contains (around k q) s → standing_of c q ≡ at_number (moved (state_at k s).opened zs) q

  -- nobody is inside of its fork yet
  abbrev pub IsEmpty : Configuration → ℕ → Type 0
  IsEmpty d s = (t : ℕ) → Contains (around core t) (i.main_of s) → standing_of d t ≡ at.Outside

  -- regions below number n are settled
  pub record Pending (n : ℕ) (d : Configuration) : Type 0 where
    pub more : List Value
    pub variables : d.variables ≡ c.variables ++ more
    pub flag_count : length d.variables ≡ length core.variables
    pub core_regions : length d.regions ≡ suc (length core.regions)
    pub no_core : standing_of d 0 ≡ at.Outside
    pub waits : (r : ℕ) → IsThere k r → Waits d r
    pub done : (r : ℕ) → IsThere k r → r < n → Stands k core i c r (standing_of c r) (standing_of d (i.thread_of r))
    pub watchers : (o : ℕ) → IsState k o → has_aborts (own k o) ≡ true →
        Watches k core i o (standing_of c (holder k o)) (standing_of d (i.watcher_of o)) ⊎ ((standing_of d (i.watcher_of o) ≡ at.Outside) × Covered d o)
    pub unseen : (o s : ℕ) → IsState k o → has_aborts (own k o) ≡ true → Contains (around k (holder k o)) s →
        has_to_guard (standing_of c (holder k s)) ≡ true → LooksFirst k core i o s (standing_of d (i.watcher_of o))
    pub flags : (s : ℕ) → IsState k s → IsInside k core i s (standing_of c (holder k s)) → Flagged d s ⊎ Covered d s
    pub late : (s : ℕ) → IsOpening d s → n ≤ holder k s
    pub joinable : (s : ℕ) → IsJoining d s → Over d s
    -- nobody guards around what is opened
    pub ready : (s : ℕ) → IsOpening d s → IsFresh s × (IsEmpty d s × (is_guarded k c (around k (holder k s)) ≡ false))

  -- a region whose thread has still to step, and the superstate for which
  pub data IsBusy (d : Configuration) (r s : ℕ) : Type 0 where
    starts : IsStarting d r s → IsBusy d r s
    opens : holder k s ≡ r → IsOpening d s → IsBusy d r s
    joins_then : holder k s ≡ r → IsJoining d s → IsBusy d r s

  -- which stages may be reached: who has still to step does so at stage 1 of what is around it
  pub record Reached (d : Configuration) (h n : ℕ) : Type 0 where
    pub staged : Stage k i.thread_of c d h n
    pub busy : (r s o : ℕ) → IsThere k r → IsBusy d r s → Contains (around k r) o → h ≡ i.thread_of (holder k o) → n ≤ 1

  -- ---- a standing is of one sort

  neither : (b e : Bool) → (not b && e) ≡ true → (b ≡ false) × (e ≡ true)
  neither true e both = absurd cc
  neither false e both = (refl, both)

  pub behind_parts : (s : ℕ) → is_behind k core i c s ≡ true →
      (stays (flags_around k core i (holder k s)) (own k s) ≡ false) × (has_aborts (own k s) ≡ false) × (has_join (own k s) ≡ false)
  behind_parts s over =
      let one = neither (stays (flags_around k core i (holder k s)) (own k s)) _ over in
      let two = neither (has_aborts (own k s)) _ one.1 in
      let three = neither (has_join (own k s)) _ two.1 in (one.0, two.0, three.0)

  pub behind_unprepared : (s : ℕ) → is_behind k core i c s ≡ true → is_prepared (flags_around k core i (holder k s)) (own k s) ≡ false
  behind_unprepared s over = let parts = behind_parts s over in rw (parts.1, parts.2) refl

  -- who stands in a preparation before its last test, while the chart is within, is not settled
  pub never_settled : (d : Configuration) (s r : ℕ) (x y : Standing) (tests : List Transition) (u : ℕ) (t : Transition) →
      is_prepared (flags_around k core i (holder k s)) (own k s) ≡ true →
      Stands k core i c r x y → x ≡ at.Within s tests → y ≡ at.Trying u (t ∷ []) → ⊥
  never_settled d s r _ _ tests u t prepared outside e f = absurd cc
  never_settled d s r _ _ tests u t prepared (ended inner) e f = absurd cc
  never_settled d s r _ _ tests u t prepared (left v ss round over) e f = absurd cc
  never_settled d s r _ _ tests u t prepared (trying v others simple held) e f = absurd cc
  never_settled d s r _ _ tests u t prepared (acting v w p g effects lt) e f = absurd cc
  never_settled d s r _ _ tests u t prepared (entering v fork w others super held leads) e f = absurd cc
  never_settled d s r _ _ tests u t prepared (guarding v join w others has held leads) e f = absurd cc
  never_settled d s r _ _ tests u t prepared (staying v others super held stay) e f = absurd cc
  never_settled d s r _ _ tests u t prepared (within v join others super held stay still leads) e f = absurd cc
  never_settled d s r _ _ tests u t prepared (behind v others super held over) e f =
      let same : v ≡ s = cc in
      let none = behind_unprepared s (subst (λ z. is_behind k core i c z ≡ true) same over) in let wrong : true ≡ false = sym prepared ∙ none in absurd cc

  -- who has ended does not count down any more
  pub quiet : (r : ℕ) (x y : Standing) → Stands k core i c r x y → x ≡ at.Ended → is_trying y ≡ false
  quiet r _ _ outside e = refl
  quiet r _ _ (ended inner) e = refl
  quiet r _ _ (left v ss round over) e = refl
  quiet r _ _ (trying v others simple held) e = absurd cc
  quiet r _ _ (acting v w p g effects lt) e = refl
  quiet r _ _ (entering v fork w others super held leads) e = absurd cc
  quiet r _ _ (guarding v join w others has held leads) e = refl
  quiet r _ _ (staying v others super held stay) e = refl
  quiet r _ _ (within v join others super held stay still leads) e = refl
  quiet r _ _ (behind v others super held over) e = absurd cc

  -- whose superstate is joined is held by a region that is not settled
  pub never_joined : (s r : ℕ) (x y : Standing) (tests joins_left : List Transition) → is_behind k core i c s ≡ true → Stands k core i c r x y → x ≡ at.Within
      s tests → y ≡ at.Within (i.main_of s) joins_left → ⊥
  never_joined s r _ _ tests joins_left over outside e f = absurd cc
  never_joined s r _ _ tests joins_left over (ended inner) e f = absurd cc
  never_joined s r _ _ tests joins_left over (left v ss round over_it) e f = absurd cc
  never_joined s r _ _ tests joins_left over (trying v others simple held) e f = absurd cc
  never_joined s r _ _ tests joins_left over (acting v w p g effects lt) e f = absurd cc
  never_joined s r _ _ tests joins_left over (entering v fork w others super held leads) e f = absurd cc
  never_joined s r _ _ tests joins_left over (guarding v join w others has held leads) e f = absurd cc
  never_joined s r _ _ tests joins_left over (staying v others super held stay) e f =
      let same : v ≡ s = cc in
      let parts = behind_parts s over in
      let no : stays (flags_around k core i r) (own k s) ≡ false = subst (λ q. stays (flags_around k core i q) (own k s) ≡ false)
      (ap (holder k) (sym same) ∙ held) parts.0 in
      let yes : stays (flags_around k core i r) (own k s) ≡ true = ap (λ z. stays (flags_around k core i r) (own k z)) (sym same) ∙ stay in
      let wrong : true ≡ false = sym yes ∙ no in absurd cc
  never_joined s r _ _ tests joins_left over (within v join others super held stay still leads) e f =
      let same : v ≡ s = cc in let wrong : true ≡ false = sym over ∙ subst (λ z. is_behind k core i c z ≡ false) same still in absurd cc
  never_joined s r _ _ tests joins_left over (behind v others super held over_it) e f = absurd cc
