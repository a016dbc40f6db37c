-- Each tick but the first begins with related configurations, without a step.
use Rattle.std.proofs.Common.{◌≡◌, ◌≢◌, ℕ, suc, ◌≤◌, Bool, true, false, Option, Some, None, List, [], ◌∷◌, ◌++◌, length, slice_get}
use Rattle.std.proofs.Common.{zero, ◌&&◌, unwrap_or}
use Rattle.std.specs.List.{list_all}
use Rattle.chart_machine.specs.Machine.{is_outside}
use Rattle.std.proofs.Common.{refl, sym, ap, subst, ◌∙◌, arith}
use Rattle.std.proofs.lemmas.List.{length-append, length-map}
use Rattle.sc_graph.specs.Tick.{Inputs, values_at_start}
use Rattle.core_charts.specs.declared.region.Transition.{Transition}
use Rattle.core_charts.specs.Tests.{strong_aborts, weak_aborts, closing_tests, is_weak, is_join}
use Rattle.core_charts.specs.declared.region.TransitionKind.{TransitionKind}
use Rattle.core_charts.specs.declared.region.TransitionKind.TheVariants as kind
use Rattle.chart_machine.specs.declared.standing.Standing.{Standing}
use Rattle.chart_machine.specs.declared.standing.Standing.TheVariants as at
use Rattle.chart_machine.specs.declared.standing.Configuration.{Configuration}
use Rattle.chart_machine.specs.declared.table.Table.{Table}
use Rattle.chart_machine.specs.Table.{state_at}
use Rattle.chart_machine.specs.Turns.{standing_of, has_ended}
use Rattle.chart_machine.specs.Machine.{woken, guarded_first}
use Rattle.chart_machine_laws.specs.Tree.{IsNested, IsThere, around, holder}
use Rattle.abort_expansion_laws.specs.CoreRows.{own, IsState, Images, CoreRows}
use Rattle.abort_expansion_laws.specs.Related.{Each, Watches, still_in, Stores, IsInside, guarded}
use Rattle.abort_expansion_laws.specs.Related.{open_inside, FlagsAreDown, Closes, Related, IsCalm, calm_outside}
use Rattle.abort_expansion_laws.specs.Related.{calm_ended, calm_trying, calm_within, calm_guarding}
use Rattle.abort_expansion_laws.proofs.InsideLeaves.{AloneRows}
use Rattle.abort_expansion_laws.proofs.Owed.{RestsIn, rests_outside, rests_ended, rests_left, rests_trying, rests_staying, rests_within, rests_behind, Resting}
use Rattle.abort_expansion_laws.proofs.WokenConfigurations.{each_kept, variables_started, started_size, behind_same}
use Rattle.abort_expansion_laws.proofs.WokenConfigurations.{woken_ended, present_before, present_after}
use Rattle.abort_expansion_laws.proofs.TickStarts.{StartRows}
use Rattle.abort_expansion_laws.proofs.TickStarts as starts
use Rattle.abort_expansion_laws.proofs.WokenMonitors.{monitor_woken, woken_looks}
use Rattle.abort_expansion_laws.proofs.LooksFirst.{still_looks}

pub weak_no_join : (t : TransitionKind) → is_weak t ≡ true → is_join t ≡ false
weak_no_join kind.Go e = refl
weak_no_join kind.Strong e = refl
weak_no_join kind.Weak e = refl
weak_no_join kind.Join e = absurd cc

pub each_more : (P Q : Transition → Bool) (p q : Bool) (ts : List Transition) → ((t : Transition) → P t ≡ p → Q t ≡ q) → Each (λ t. P t ≡ p) ts →
    Each (λ t. Q t ≡ q) ts
each_more P Q p q [] h all = tt
each_more P Q p q (t ∷ ts) h all = (h t all.0, each_more P Q p q ts h all.1)

-- all that a superstate tests when nobody inside can step ends with its termination
pub closes_whole : (k core : Table) (i : Images) (s : ℕ) → Closes k core i s (closing_tests (own k s))
closes_whole k core i s =
    record {
      some = weak_aborts (own k s);
      no_join =
          each_more (λ t. is_weak t.kind) (λ t. is_join t.kind) true false (weak_aborts (own k s)) (λ t weak. weak_no_join t.kind weak)
          (each_kept (λ t. is_weak t.kind) (own k s));
      are = refl;
    }

module _ (k core : Table) (i : Images) (rows : CoreRows k core i) (lone : AloneRows k core i) (tree : IsNested k) (more_rows : StartRows k core i rows)
    (before core_before : Configuration) (rests : Resting k core i before core_before) (inputs : Inputs) where
  abbrev c : Configuration
  c = starts.c k core i rows lone tree more_rows before core_before rests inputs

  abbrev d : Configuration
  d = starts.d k core i rows lone tree more_rows before core_before rests inputs

  at_c : (r : ℕ) → standing_of c r ≡ woken k (standing_of before r)
  at_c r = starts.at_c k core i rows lone tree more_rows before core_before rests inputs r

  pub never : (r : ℕ) → (s : ℕ) (tests : List Transition) → standing_of before r ≢ at.Guarding s tests
  never r s tests e =
      starts.never_guards k core i rows lone tree more_rows before core_before rests inputs r (standing_of before r) _
      (rests.regions r (starts.there k core i rows lone tree more_rows before core_before rests inputs r
      (λ out. let wrong : at.Guarding s tests ≡ at.Outside = sym e ∙ out in absurd cc))) s tests e

  -- ---- variables

  long_more : length rests.more ≡ length rows.added
  long_more =
      let sizes = rests.flag_count in
      let declared = rests.values in
      omega (
        arith,
        length-append before.variables rests.more,
        length-append k.variables rows.added,
        ap length rests.variables,
        ap length rows.variables,
        sizes,
        declared,
      )

  variables_are : d.variables ≡ c.variables ++ rests.more
  variables_are =
      ap (λ xs. values_at_start inputs xs core_before.variables) rows.variables ∙
      (ap (values_at_start inputs (k.variables ++ rows.added)) rests.variables ∙
      variables_started inputs k.variables rows.added before.variables rests.more rests.values long_more more_rows.locals)

  size_c : length c.variables ≡ length k.variables
  size_c = started_size inputs k.variables before.variables rests.values

  flag_same : (x : ℕ) → length k.variables ≤ x → slice_get d.variables x ≡ slice_get core_before.variables x
  flag_same x low =
      ap (λ vs. slice_get vs x) variables_are ∙
      (behind_same c.variables before.variables rests.more x (size_c ∙ sym rests.values) (omega (low, size_c, arith)) ∙
      ap (λ vs. slice_get vs x) (sym rests.variables))

  stores_same : (o : Option ℕ) (n : ℕ) → ((x : ℕ) → o ≡ Some x → length k.variables ≤ x) → Stores k core i core_before.variables o n →
      Stores k core i d.variables o n
  stores_same None n low h = tt
  stores_same (Some x) n low h = flag_same x (low x refl) ∙ h

  -- ---- who is inside

  inside_before : (s : ℕ) (x : Standing) → ((u : ℕ) (tests : List Transition) → x ≢ at.Guarding u tests) → IsInside k core i s (woken k x) →
      IsInside k core i s x
  inside_before s at.Outside other h = from_outside s h
    where
      from_outside : (s : ℕ) → IsInside k core i s at.Outside → IsInside k core i s at.Outside
      from_outside s h = h
  inside_before s at.Ended other h = h
  inside_before s (at.Trying u tests) other h = not_trying u (state_at k u).transitions h refl
    where
      not_trying : (u : ℕ) (all : List Transition) {x : Standing} → IsInside k core i s x → x ≡ at.Trying u all → IsInside k core i s (at.Trying u tests)
      not_trying u all (guarded others) e = absurd cc
      not_trying u all (open_inside others) e = absurd cc
  inside_before s (at.Acting u effects p) other h = h
  inside_before s (at.Entering u tests) other h = h
  inside_before s (at.Guarding u tests) other h = absurd (other u tests refl)
  inside_before s (at.Within u tests) other h = from (strong_aborts (own k u)) h
    where
      same_guard : (x : Standing) → IsInside k core i s x → (others : List Transition) → x ≡ at.Guarding u others → IsInside k core i s (at.Within u tests)
      same_guard _ (guarded mine) others e = let same : s ≡ u = cc in subst (λ z. IsInside k core i s (at.Within z tests)) same (open_inside tests)
      same_guard _ (open_inside mine) others e = absurd cc

      same_open : (x : Standing) → IsInside k core i s x → (others : List Transition) → x ≡ at.Within u others → IsInside k core i s (at.Within u tests)
      same_open _ (guarded mine) others e = absurd cc
      same_open _ (open_inside mine) others e = let same : s ≡ u = cc in subst (λ z. IsInside k core i s (at.Within z tests)) same (open_inside tests)

      from : (strong : List Transition) → IsInside k core i s (guarded_first u strong (closing_tests (own k u))) → IsInside k core i s (at.Within u tests)
      from [] h = same_open _ h (closing_tests (own k u)) refl
      from (t ∷ strong) h = same_guard _ h (t ∷ strong) refl

  first_inside : (s : ℕ) (strong closing : List Transition) → IsInside k core i s (guarded_first s strong closing)
  first_inside s [] closing = open_inside closing
  first_inside s (t ∷ strong) closing = guarded (t ∷ strong)

  inside_after : (s : ℕ) (x : Standing) → IsInside k core i s x → IsInside k core i s (woken k x)
  inside_after s _ (guarded tests) = guarded tests
  inside_after s _ (open_inside tests) = first_inside s (strong_aborts (own k s)) (closing_tests (own k s))

  was_inside : (s : ℕ) → IsInside k core i s (standing_of c (holder k s)) → IsInside k core i s (standing_of before (holder k s))
  was_inside s h = inside_before s (standing_of before (holder k s)) (never (holder k s)) (subst (IsInside k core i s) (at_c (holder k s)) h)

  still_same : (rs : List ℕ) → still_in k core i c rs ≡ still_in k core i before rs
  still_same [] = refl
  still_same (r ∷ rs) = rw (ap has_ended (at_c r) ∙ woken_ended k (standing_of before r), still_same rs) refl

  flags_down : (s : ℕ) → IsState k s → IsInside k core i s (standing_of c (holder k s)) → FlagsAreDown k core i c d.variables s
  flags_down s here h =
      let old : FlagsAreDown k core i before core_before.variables s = rests.flags s here (was_inside s h) in
      record {
        strong = stores_same (i.flags_of s).strong 0 (rows.strong_added s) old.strong;
        weak = stores_same (i.flags_of s).weak 0 (rows.weak_added s) old.weak;
        counter =
            subst (Stores k core i d.variables (i.flags_of s).counter) (sym (still_same (state_at k s).regions))
            (stores_same (i.flags_of s).counter _ (rows.counter_added s) old.counter);
      }

  -- ---- tests of an opened superstate

  closes : (s : ℕ) (x : Standing) → ((u : ℕ) (tests : List Transition) → x ≢ at.Guarding u tests) → (tests : List Transition) →
      woken k x ≡ at.Within s tests → Closes k core i s tests
  closes s at.Outside other tests e = absurd cc
  closes s at.Ended other tests e = absurd cc
  closes s (at.Trying u others) other tests e = absurd cc
  closes s (at.Acting u effects p) other tests e = absurd cc
  closes s (at.Entering u others) other tests e = absurd cc
  closes s (at.Guarding u others) other tests e = absurd (other u others refl)
  closes s (at.Within u others) other tests e = from (strong_aborts (own k u)) e
    where
      from : (strong : List Transition) → guarded_first u strong (closing_tests (own k u)) ≡ at.Within s tests → Closes k core i s tests
      from [] e =
          let same : u ≡ s = cc in
          let are : closing_tests (own k u) ≡ tests = cc in
          subst (Closes k core i s) (ap (λ z. closing_tests (own k z)) (sym same) ∙ are) (closes_whole k core i s)
      from (t ∷ strong) e = absurd cc

  -- ---- who is inside of what guards

  first_calm : (u : ℕ) (strong closing : List Transition) → IsCalm (guarded_first u strong closing)
  first_calm u [] closing = calm_within u closing
  first_calm u (t ∷ strong) closing = calm_guarding u (t ∷ strong)

  woken_calm : (r : ℕ) (x y : Standing) → RestsIn k core i before r x y → IsCalm (woken k x)
  woken_calm r _ _ rests_outside = calm_outside
  woken_calm r _ _ (rests_ended inside) = calm_ended
  woken_calm r _ _ (rests_left u ss round over) = calm_ended
  woken_calm r _ _ (rests_trying u simple held) = calm_trying u (own k u)
  woken_calm r _ _ (rests_staying u tests super held stay) = first_calm u (strong_aborts (own k u)) (closing_tests (own k u))
  woken_calm r _ _ (rests_within u join tests super held apart still leads) = first_calm u (strong_aborts (own k u)) (closing_tests (own k u))
  woken_calm r _ _ (rests_behind u tests super held over) = first_calm u (strong_aborts (own k u)) (closing_tests (own k u))

  present_from : (r : ℕ) → standing_of c r ≢ at.Outside → standing_of before r ≢ at.Outside
  present_from r present = present_before k (standing_of before r) (λ out. present (at_c r ∙ out))

  present_now : (r : ℕ) → standing_of before r ≢ at.Outside → standing_of c r ≢ at.Outside
  present_now r present out = present_after k (standing_of before r) present (sym (at_c r) ∙ out)

  calm_now : (q : ℕ) → IsThere k q → IsCalm (standing_of c q)
  calm_now q there = subst IsCalm (sym (at_c q)) (woken_calm q (standing_of before q) _ (rests.regions q there))

  pub woken_related : Related k core i c d
  woken_related =
      record {
        more = rests.more;
        variables = variables_are;
        flag_count = started_size inputs core.variables core_before.variables rests.flag_count;
        chart_regions = length-map before.regions (woken k) ∙ rests.chart_regions;
        core_regions = length-map core_before.regions (woken core) ∙ rests.core_regions;
        values = size_c;
        no_chart = at_c 0 ∙ ap (woken k) rests.no_chart;
        no_core = starts.at_d k core i rows lone tree more_rows before core_before rests inputs 0 ∙ ap (woken core) rests.no_core;
        regions = λ r there.
            subst (λ z. Rattle.abort_expansion_laws.specs.Related.Stands k core i c r z (standing_of d (i.thread_of r))) (sym (at_c r))
            (subst (Rattle.abort_expansion_laws.specs.Related.Stands k core i c r (woken k (standing_of before r)))
            (sym (starts.at_d k core i rows lone tree more_rows before core_before rests inputs (i.thread_of r)))
            (starts.wakes k core i rows lone tree more_rows before core_before rests inputs r there (standing_of before r) _ refl (rests.regions r there)));
        watchers = λ o here has.
            subst (λ z. Watches k core i o z (standing_of d (i.watcher_of o))) (sym (at_c (holder k o)))
            (subst (Watches k core i o (woken k (standing_of before (holder k o))))
            (sym (starts.at_d k core i rows lone tree more_rows before core_before rests inputs (i.watcher_of o)))
            (monitor_woken k core i rows lone tree more_rows o here has (standing_of before (holder k o)) _ (rests.watchers o here has)
            (never (holder k o))));
        flags = flags_down;
        enclosed = λ r s there present inner.
            subst (IsInside k core i s) (sym (at_c (holder k s)))
            (inside_after s (standing_of before (holder k s)) (rests.enclosed r s there (present_from r present) inner));
        opened = λ s r here h own_region. present_now r (rests.opened s r here (was_inside s h) own_region);
        closes_last = λ s tests e. closes s (standing_of before (holder k s)) (never (holder k s)) tests (sym (at_c (holder k s)) ∙ e);
        calm = λ q s there inner guarded_by. calm_now q there;
        unseen = λ o s here has inner guarded_by.
            still_looks k core i o (woken core (standing_of core_before (i.watcher_of o))) (standing_of d (i.watcher_of o))
            (starts.at_d k core i rows lone tree more_rows before core_before rests inputs (i.watcher_of o))
            (woken_looks k core i rows lone tree more_rows o here has s inner (standing_of before (holder k o)) (standing_of core_before (i.watcher_of o))
            (rests.watchers o here has));
      }

-- ---- neither takes the tick for the first

some_present : (zs : List Standing) (r : ℕ) → unwrap_or (slice_get zs r) at.Outside ≢ at.Outside → list_all is_outside zs ≡ false
some_present [] r present = absurd (present refl)
some_present (z ∷ zs) (suc r) present = last_false (is_outside z) (list_all is_outside zs) (some_present zs r present)
  where
    last_false : (a b : Bool) → b ≡ false → (a && b) ≡ false
    last_false true b e = e
    last_false false b e = refl
some_present (z ∷ zs) zero present = first_false z present
  where
    first_false : (z : Standing) → z ≢ at.Outside → (is_outside z && list_all is_outside zs) ≡ false
    first_false at.Outside present = absurd (present refl)
    first_false at.Ended present = refl
    first_false (at.Trying s tests) present = refl
    first_false (at.Acting s effects p) present = refl
    first_false (at.Entering s tests) present = refl
    first_false (at.Guarding s tests) present = refl
    first_false (at.Within s tests) present = refl

module _ (k core : Table) (i : Images) (c : Configuration) where
  -- the thread of a region of the chart itself is there with it
  thread_present : (r : ℕ) (x y : Standing) → RestsIn k core i c r x y → around k r ≡ [] → x ≢ at.Outside → y ≢ at.Outside
  thread_present r _ _ rests_outside none present e = present refl
  thread_present r _ _ (rests_ended inner) none present e = absurd cc
  thread_present r _ _ (rests_left s ss round over) none present e = let wrong : [] ≡ s ∷ ss = sym none ∙ round in absurd cc
  thread_present r _ _ (rests_trying s simple held) none present e = absurd cc
  thread_present r _ _ (rests_staying s tests super held stay) none present e = absurd cc
  thread_present r _ _ (rests_within s join tests super held apart still leads) none present e = absurd cc
  thread_present r _ _ (rests_behind s tests super held over) none present e = absurd cc

  pub chart_has_begun : (d : Configuration) → Resting k core i c d → list_all is_outside c.regions ≡ false
  chart_has_begun d rests = some_present c.regions rests.begun.0 rests.begun.3

  pub core_has_begun : (d : Configuration) → Resting k core i c d → list_all is_outside d.regions ≡ false
  core_has_begun d rests =
      some_present d.regions (i.thread_of rests.begun.0)
      (thread_present rests.begun.0 (standing_of c rests.begun.0) _ (rests.regions rests.begun.0 rests.begun.1) rests.begun.2 rests.begun.3)
