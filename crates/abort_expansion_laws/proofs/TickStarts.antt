-- The start of each tick but the first: what rests alike is related when it is woken.
use Rattle.std.proofs.Common.{◌≡◌, ◌≢◌, ℕ, ◌⊎◌, ⊎_elim, Bool, true, false, not, ◌||◌, Option, Some, None, List, []}
use Rattle.std.proofs.Common.{◌∷◌, ◌++◌, map, length, Contains, refl, sym, ap, subst, ◌∙◌, arith}
use Rattle.std.specs.Prelude.{filter}
use Rattle.std.specs.List.{list_any}
use Rattle.std.proofs.lemmas.List.{append-nil}
use Rattle.std.proofs.lemmas.Bool.{or_parts}
use Rattle.sc_graph.specs.Tick.{Inputs, values_at_start}
use Rattle.core_charts.specs.declared.region.Transition.{Transition}
use Rattle.core_charts.specs.Tests.{strong_aborts, weak_aborts, terminations, closing_tests, is_strong, is_weak, is_join}
use Rattle.chart_machine.specs.declared.standing.Standing.{Standing}
use Rattle.chart_machine.specs.declared.standing.Standing.TheVariants as at
use Rattle.chart_machine.specs.declared.standing.Configuration.{Configuration}
use Rattle.chart_machine.specs.declared.table.Table.{Table}
use Rattle.chart_machine.specs.Table.{state_at}
use Rattle.chart_machine.specs.Turns.{standing_of, has_ended, guards as has_to_guard}
use Rattle.chart_machine.specs.Steps.{state_in}
use Rattle.chart_machine.specs.Machine.{woken, guarded_first}
use Rattle.abort_expansion.specs.declared.flags.Flags.{Flags}
use Rattle.abort_expansion.specs.Flags.{has_join, aborts_around}
use Rattle.core_charts.specs.Aborts.{has_strong, has_weak, has_aborts}
use Rattle.abort_expansion.specs.Transitions.{led, strong_checks}
use Rattle.abort_expansion.specs.Superstates.{stays}
use Rattle.chart_machine_laws.specs.Tree.{IsNested, IsThere, around, holder}
use Rattle.abort_expansion_laws.specs.CoreRows.{own, IsState, IsSuper, joins, Images, CoreRows, flags_around}
use Rattle.abort_expansion_laws.specs.Related.{Each, front, held_back, tests_of}
use Rattle.abort_expansion_laws.specs.Related.{is_behind, Stands, outside, ended, left, trying, guarding}
use Rattle.abort_expansion_laws.specs.Related.{staying, within, behind, IsInside, guarded}
use Rattle.abort_expansion_laws.specs.Related.{open_inside}
use Rattle.abort_expansion_laws.proofs.Fronts.{front_whole}
use Rattle.abort_expansion_laws.proofs.InsideLeaves.{AloneRows}
use Rattle.abort_expansion_laws.proofs.Owed.{RestsIn, rests_outside, rests_ended, rests_left}
use Rattle.abort_expansion_laws.proofs.Owed.{rests_trying, rests_staying, rests_within, rests_behind}
use Rattle.abort_expansion_laws.proofs.Owed.{Resting}
use Rattle.abort_expansion_laws.proofs.WokenConfigurations.{IsLocal}
use Rattle.abort_expansion_laws.proofs.WokenConfigurations.{woken_at, woken_ended, guards_then}
use Rattle.abort_expansion_laws.proofs.WokenConfigurations.{open_then, behind_too}
use Rattle.abort_expansion_laws.proofs.NumberedRegions.{is_region}
use Rattle.abort_expansion_laws.proofs.JoinsFork.{no_chosen}

-- ---- of transitions

pub some_kept : (P : Transition → Bool) (ts : List Transition) → list_any P ts ≡ true → (t : Transition) × ((more : List Transition) × (filter P ts ≡ t ∷ more))
some_kept P [] e = absurd cc
some_kept P (t ∷ ts) e = by_own (P t) refl e (λ rest. some_kept P ts rest)
  where
    by_own : (b : Bool) → P t ≡ b → (P t || list_any P ts) ≡ true →
        (list_any P ts ≡ true → (u : Transition) × ((more : List Transition) × (filter P ts ≡ u ∷ more))) →
        (u : Transition) × ((more : List Transition) × (filter P (t ∷ ts) ≡ u ∷ more))
    by_own true is e rest = (t, (filter P ts, rw (is) refl))
    by_own false is e rest =
        let later = rest (subst (λ b. (b || list_any P ts) ≡ true) is e) in (later.0, (later.1.0, skipped ∙ later.1.1))
      where
        skipped : filter P (t ∷ ts) ≡ filter P ts
        skipped = rw (is) refl

-- leading somewhere keeps the sort
pub led_kept : (P : Transition → Bool) (places : Rattle.abort_expansion.specs.declared.places.RegionPlaces.RegionPlaces) → ((t : Transition) →
    P (led places t) ≡ P t) →
    (ts : List Transition) → filter P (map (led places) ts) ≡ map (led places) (filter P ts)
led_kept P places same [] = refl
led_kept P places same (t ∷ ts) = by_own (P t) refl (led_kept P places same ts)
  where
    by_own : (b : Bool) → P t ≡ b → filter P (map (led places) ts) ≡ map (led places) (filter P ts) →
        filter P (led places t ∷ map (led places) ts) ≡ map (led places) (filter P (t ∷ ts))
    by_own true is rest = rw (same t, is) (ap (λ zs. led places t ∷ zs) rest)
    by_own false is rest = rw (same t, is) rest

-- what more is asked of the rows: flags are there for aborts alone, and added variables are no inputs
pub record StartRows (k core : Table) (i : Images) (rows : CoreRows k core i) : Type 0 where
  pub strong_for : (s x : ℕ) → (i.flags_of s).strong ≡ Some x → has_strong (own k s) ≡ true
  pub weak_for : (s x : ℕ) → (i.flags_of s).weak ≡ Some x → has_weak (own k s) ≡ true
  pub super_there : (r s : ℕ) → Contains (around k r) s → IsState k s
  pub locals : Each IsLocal rows.added

module _ (k core : Table) (i : Images) (rows : CoreRows k core i) (lone : AloneRows k core i) (tree : IsNested k) (more_rows : StartRows k core i rows)
    (before core_before : Configuration) (rests : Resting k core i before core_before) (inputs : Inputs) where
  abbrev pub c : Configuration
  c = record { variables = values_at_start inputs k.variables before.variables; regions = map (woken k) before.regions }

  abbrev pub d : Configuration
  d = record { variables = values_at_start inputs core.variables core_before.variables; regions = map (woken core) core_before.regions }

  pub at_c : (r : ℕ) → standing_of c r ≡ woken k (standing_of before r)
  at_c r = woken_at k before.regions r

  pub at_d : (t : ℕ) → standing_of d t ≡ woken core (standing_of core_before t)
  at_d t = woken_at core core_before.regions t

  pub ends_alike : (r : ℕ) → has_ended (standing_of c r) ≡ has_ended (standing_of before r)
  ends_alike r = ap has_ended (at_c r) ∙ woken_ended k (standing_of before r)

  pub behind_is : (s : ℕ) → is_behind k core i c s ≡ is_behind k core i before s
  behind_is s = behind_too k core i before c ends_alike s

  -- ---- who rests

  pub there : (r : ℕ) → standing_of before r ≢ at.Outside → IsThere k r
  there = is_region k before rests.no_chart rests.chart_regions

  pub never_guards : (r : ℕ) (x y : Standing) → RestsIn k core i before r x y → (s : ℕ) (tests : List Transition) → x ≢ at.Guarding s tests
  never_guards r _ _ rests_outside s tests e = absurd cc
  never_guards r _ _ (rests_ended inner) s tests e = absurd cc
  never_guards r _ _ (rests_left u ss round over) s tests e = absurd cc
  never_guards r _ _ (rests_trying u simple held) s tests e = absurd cc
  never_guards r _ _ (rests_staying u others super held stay) s tests e = absurd cc
  never_guards r _ _ (rests_within u join others super held apart still leads) s tests e = absurd cc
  never_guards r _ _ (rests_behind u others super held over) s tests e = absurd cc

  -- who is inside of a superstate is within it
  pub is_open : (s : ℕ) (x : Standing) → standing_of before (holder k s) ≡ x → IsInside k core i s x →
      (tests : List Transition) × (standing_of before (holder k s) ≡ at.Within s tests)
  is_open s _ e (guarded tests) =
      absurd (never_guards (holder k s) (standing_of before (holder k s)) _
      (rests.regions (holder k s) (there (holder k s) (λ out. let wrong : at.Guarding s tests ≡ at.Outside = sym e ∙ out in absurd cc))) s tests e)
  is_open s _ e (open_inside tests) = (tests, e)

  -- a superstate with strong aborts that is open will guard
  pub will_guard : (s : ℕ) (tests : List Transition) → standing_of before (holder k s) ≡ at.Within s tests → has_strong (own k s) ≡ true →
      has_to_guard (standing_of c (holder k s)) ≡ true
  will_guard s tests e some =
      let strong = some_kept (λ t. is_strong t.kind) (own k s) some in
      ap has_to_guard (at_c (holder k s) ∙ (ap (woken k) e ∙ guards_then k s tests strong.0 strong.1.0 strong.1.1))

  -- whoever around has a flag for strong aborts will guard
  flags_guard : (r : ℕ) → IsThere k r → standing_of before r ≢ at.Outside → (s x : ℕ) → Contains (around k r) s → (i.flags_of s).strong ≡ Some x →
      has_to_guard (standing_of c (holder k s)) ≡ true
  flags_guard r is present s x h e =
      let open_now = is_open s (standing_of before (holder k s)) refl (rests.enclosed r s is present h) in
      will_guard s open_now.0 open_now.1 (more_rows.strong_for s x e)

  front_all : (r : ℕ) (b : Bool) → IsThere k r → standing_of before r ≢ at.Outside →
      front k core i b c r ≡ strong_checks b (i.places_of r).left (flags_around k core i r)
  front_all r b is present = front_whole k core i c r (flags_guard r is present) b

  -- ---- where regions stand

  -- the fork of a superstate that is split is woken to its join
  join_woken : (s join : ℕ) (split : Rattle.abort_expansion_laws.specs.CoreRows.SplitImage k core i s) →
      woken core (at.Within (i.main_of s) (joins join ∷ [])) ≡ at.Within (i.main_of s) (joins split.join ∷ [])
  join_woken s join split =
      ap (λ z. guarded_first (i.main_of s) (strong_aborts z.transitions) (closing_tests z.transitions)) split.row

  present_of : (r : ℕ) (x : Standing) → standing_of before r ≡ x → x ≢ at.Outside → standing_of before r ≢ at.Outside
  present_of r x e present out = present (sym e ∙ out)

  not_stays : (s : ℕ) (fs : List Flags) → stays fs (own k s) ≡ true → has_aborts (own k s) ≡ false
  not_stays s fs e = (or_parts (has_aborts (own k s)) (aborts_around fs) (not_true (has_aborts (own k s) || aborts_around fs) e)).0
    where
      not_true : (b : Bool) → not b ≡ true → b ≡ false
      not_true true e = absurd cc
      not_true false e = refl

  parts_behind : (s : ℕ) → is_behind k core i c s ≡ true → (has_aborts (own k s) ≡ false) × (has_join (own k s) ≡ false)
  parts_behind s e = let parts = Rattle.abort_expansion_laws.proofs.Pending.behind_parts k core i c s e in (parts.1, parts.2)

  pub wakes : (r : ℕ) → IsThere k r → (x y : Standing) → standing_of before r ≡ x → RestsIn k core i before r x y →
      Stands k core i c r (woken k x) (woken core y)
  wakes r is _ _ e rests_outside = outside
  wakes r is _ _ e (rests_ended inner) = ended (λ s ss round. behind_is s ∙ inner s ss round)
  wakes r is _ _ e (rests_left s ss round over) = left s ss round (behind_is s ∙ over)
  wakes r is _ _ e (rests_trying s simple held) =
      let present : standing_of before r ≢ at.Outside = present_of r (at.Trying s []) e (λ out. absurd (cc)) in
      let row : (state_at core (i.main_of s)).transitions ≡ strong_checks false (i.places_of r).left (flags_around k core i r)
      ++ map (led (i.places_of r)) (own k s) ++ held_back k core i r =
      ap (λ z. z.transitions) (rows.simple s simple).row ∙
      ap (λ q. strong_checks false (i.places_of q).left (flags_around k core i q) ++ map (led (i.places_of q)) (own k s) ++ held_back k core i q) held in
      let tests : (state_at core (i.main_of s)).transitions ≡ tests_of k core i c r (own k s) =
      row ∙ ap (λ zs. zs ++ map (led (i.places_of r)) (own k s) ++ held_back k core i r) (sym (front_all r false is present)) in
      subst (λ zs. Stands k core i c r (at.Trying s (own k s)) (at.Trying (i.main_of s) zs)) (sym tests) (trying s (own k s) simple held)
  wakes r is _ _ e (rests_staying s tests super held stay) =
      let plain = or_parts (has_strong (own k s)) (has_weak (own k s)) (not_stays s (flags_around k core i r) stay) in
      let strong : strong_aborts (own k s) ≡ [] = no_chosen (λ t. is_strong t.kind) (own k s) plain.0 in
      let chart : woken k (at.Within s tests) ≡ at.Within s (closing_tests (own k s)) = open_then k s tests strong in
      let here : IsState k s = state_of s super in
      let fork = rows.staying s here super (subst (λ q. stays (flags_around k core i q) (own k s) ≡ true) (sym held) stay) in
      let all : (state_at core (i.main_of s)).transitions ≡ map (led (i.places_of r)) (own k s) =
      ap (λ z. z.transitions) fork.row ∙ ap (λ q. map (led (i.places_of q)) (own k s)) held in
      let core_strong : strong_aborts (state_at core (i.main_of s)).transitions ≡ [] =
      ap strong_aborts all ∙ (led_kept (λ t. is_strong t.kind) (i.places_of r) (λ t. refl) (own k s) ∙ ap (map (led (i.places_of r))) strong) in
      let core_closing : closing_tests (state_at core (i.main_of s)).transitions ≡ map (led (i.places_of r)) (closing_tests (own k s)) =
      ap closing_tests all ∙ closing_led (i.places_of r) (own k s) in
      let thread : woken core (at.Within (i.main_of s) (map (led (i.places_of r)) tests)) ≡
      at.Within (i.main_of s) (map (led (i.places_of r)) (closing_tests (own k s))) =
      ap (λ zs. guarded_first (i.main_of s) zs (closing_tests (state_at core (i.main_of s)).transitions)) core_strong ∙ ap (at.Within
      (i.main_of s)) core_closing in
      subst (λ z. Stands k core i c r z (woken core (at.Within (i.main_of s) (map (led (i.places_of r)) tests)))) (sym chart)
      (subst (Stands k core i c r (at.Within s (closing_tests (own k s)))) (sym thread) (staying s (closing_tests (own k s)) super held stay))
    where
      state_of : (s : ℕ) → IsSuper k s → IsState k s
      state_of s super = ⊎_elim (λ lt. lt) (λ past. absurd (super (Rattle.chart_machine_laws.proofs.ChartTables.no_regions_past k s past)))
          (Rattle.chart_machine.proofs.Outside.within_or_past s (length k.states))

      closing_led : (places : Rattle.abort_expansion.specs.declared.places.RegionPlaces.RegionPlaces) (ts : List Transition) →
          closing_tests (map (led places) ts) ≡ map (led places) (closing_tests ts)
      closing_led places ts =
          ap (λ zs. zs ++ terminations (map (led places) ts)) (led_kept (λ t. is_weak t.kind) places (λ t. refl) ts) ∙
          (ap (λ zs. map (led places) (weak_aborts ts) ++ zs) (led_kept (λ t. is_join t.kind) places (λ t. refl) ts) ∙
          sym (Rattle.std.proofs.lemmas.List.map-append (led places) (weak_aborts ts) (terminations ts)))
  wakes r is _ _ e (rests_within s join tests super held apart still leads) =
      by_strong (strong_aborts (own k s)) refl
    where
      here : IsState k s
      here = ⊎_elim (λ lt. lt) (λ past. absurd (super (Rattle.chart_machine_laws.proofs.ChartTables.no_regions_past k s past)))
          (Rattle.chart_machine.proofs.Outside.within_or_past s (length k.states))

      split : Rattle.abort_expansion_laws.specs.CoreRows.SplitImage k core i s
      split = rows.split s here super (subst (λ q. stays (flags_around k core i q) (own k s) ≡ false) (sym held) apart)

      joined : state_in core (i.thread_of r) split.join ≡ i.behind_of s
      joined = subst (λ q. state_in core (i.thread_of q) split.join ≡ i.behind_of s) held split.joined

      some_aborts : (t : Transition) (more : List Transition) → strong_aborts (own k s) ≡ t ∷ more → has_aborts (own k s) ≡ true
      some_aborts t more e = by_has (has_strong (own k s)) refl
        where
          by_has : (b : Bool) → has_strong (own k s) ≡ b → (has_strong (own k s) || has_weak (own k s)) ≡ true
          by_has true is = rw (is) refl
          by_has false is =
              let none : strong_aborts (own k s) ≡ [] = no_chosen (λ t. is_strong t.kind) (own k s) is in
              let wrong : t ∷ more ≡ [] = sym e ∙ none in absurd cc

      by_strong : (strong : List Transition) → strong_aborts (own k s) ≡ strong →
          Stands k core i c r (woken k (at.Within s tests)) (woken core (at.Within (i.main_of s) (joins join ∷ [])))
      by_strong [] none =
          subst (λ z. Stands k core i c r z (woken core (at.Within (i.main_of s) (joins join ∷ [])))) (sym (open_then k s tests none))
          (subst (Stands k core i c r (at.Within s (closing_tests (own k s)))) (sym (join_woken s join split))
          (within s split.join (closing_tests (own k s)) super held apart (behind_is s ∙ still) joined))
      by_strong (t ∷ more) some =
          subst (λ z. Stands k core i c r z (woken core (at.Within (i.main_of s) (joins join ∷ [])))) (sym (guards_then k s tests t more some))
          (subst (Stands k core i c r (at.Guarding s (t ∷ more))) (sym (join_woken s join split))
          (guarding s split.join t more (some_aborts t more some) held joined))
  wakes r is _ _ e (rests_behind s tests super held over) =
      let now : is_behind k core i c s ≡ true = behind_is s ∙ over in
      let parts = parts_behind s now in
      let two = or_parts (has_strong (own k s)) (has_weak (own k s)) parts.0 in
      let strong : strong_aborts (own k s) ≡ [] = no_chosen (λ t. is_strong t.kind) (own k s) two.0 in
      let weak : weak_aborts (own k s) ≡ [] = no_chosen (λ t. is_weak t.kind) (own k s) two.1 in
      let ends : terminations (own k s) ≡ [] = no_chosen (λ t. is_join t.kind) (own k s) parts.1 in
      let chart : woken k (at.Within s tests) ≡ at.Within s (closing_tests (own k s)) = open_then k s tests strong in
      let present : standing_of before r ≢ at.Outside = present_of r (at.Within s tests) e (λ out. absurd (cc)) in
      let apart : stays (flags_around k core i (holder k s)) (own k s) ≡ false =
      (Rattle.abort_expansion_laws.proofs.Pending.behind_parts k core i c s now).0 in
      let fork = rows.split s (state_of s super) super apart in
      let cleared : Rattle.abort_expansion_laws.specs.CoreRows.behind_transitions k core i (holder k s) s ≡
      strong_checks true (i.places_of r).left (flags_around k core i r) ++ held_back k core i r =
      rw (strong, weak, ends, held) (ap (λ zs. zs ++ held_back k core i r)
      (after_none (strong_checks true (i.places_of r).left (flags_around k core i r)) (i.flags_of s).strong (i.flags_of s).weak (i.places_of r))) in
      let row : (state_at core (i.behind_of s)).transitions ≡ front k core i true c r ++ held_back k core i r =
      ap (λ z. z.transitions) fork.behind ∙ (cleared ∙ ap (λ zs. zs ++ held_back k core i r) (sym (front_all r true is present))) in
      subst (λ z. Stands k core i c r z (at.Trying (i.behind_of s) (state_at core (i.behind_of s)).transitions)) (sym chart)
      (subst (λ zs. Stands k core i c r (at.Within s (closing_tests (own k s))) (at.Trying (i.behind_of s) zs)) (sym row)
      (behind s (closing_tests (own k s)) super held now))
    where
      state_of : (s : ℕ) → IsSuper k s → IsState k s
      state_of s super = ⊎_elim (λ lt. lt) (λ past. absurd (super (Rattle.chart_machine_laws.proofs.ChartTables.no_regions_past k s past)))
          (Rattle.chart_machine.proofs.Outside.within_or_past s (length k.states))

      after_none : (zs : List Transition) (a b : Option ℕ) (places : Rattle.abort_expansion.specs.declared.places.RegionPlaces.RegionPlaces) →
          zs ++ Rattle.abort_expansion.specs.Transitions.answers places a 1 [] ++ Rattle.abort_expansion.specs.Transitions.answers places b 1 [] ≡ zs
      after_none zs None None places = append-nil (zs ++ []) ∙ append-nil zs
      after_none zs None (Some y) places = append-nil (zs ++ []) ∙ append-nil zs
      after_none zs (Some x) None places = append-nil (zs ++ []) ∙ append-nil zs
      after_none zs (Some x) (Some y) places = append-nil (zs ++ []) ∙ append-nil zs
