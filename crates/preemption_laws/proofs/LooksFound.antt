-- The looks of each core state: they stand last among its transitions, and its other transitions are tame.
use Rattle.std.proofs.Common.{◌≡◌, ℕ, ⊎_elim, Bool, true, false, ◌||◌}
use Rattle.std.proofs.Common.{Option, Some, None, List, [], ◌∷◌, ◌++◌, map, length, Contains, refl, sym, ap, subst, ◌∙◌}
use Rattle.std.specs.Prelude.{reverse}
use Rattle.sc_text.proofs.EachItem.{Each, each_append, each_filter}
use Rattle.core_charts.specs.declared.features.Features.TheVariants as features
use Rattle.core_charts.specs.declared.region.Transition.{Transition}
use Rattle.core_charts.specs.Aborts.{has_aborts}
use Rattle.core_charts.specs.Chart.{Chart}
use Rattle.core_charts.specs.Rules.{IsChart}
use Rattle.core_charts.specs.Tests.{is_strong, is_join, at_once, strong_aborts, weak_aborts, terminations}
use Rattle.chart_machine.specs.declared.standing.Standing.TheVariants as at
use Rattle.chart_machine.specs.declared.table.StateRow.{StateRow}
use Rattle.chart_machine.specs.declared.table.Table.{Table}
use Rattle.chart_machine.specs.Table.{table, state_at}
use Rattle.chart_machine.specs.Steps.{to, state_in}
use Rattle.chart_machine_laws.specs.Tree.{IsThere, around, holder}
use Rattle.chart_machine_laws.proofs.LyingIn.{none_in, head_in, tail_in, head_or_tail}
use Rattle.chart_machine_laws.proofs.SoundRows.{SoundTest}
use Rattle.abort_expansion.specs.declared.flags.Flags.{Flags}
use Rattle.abort_expansion.specs.Expansion.{expanded}
use Rattle.abort_expansion.specs.Flags.{aborts_around, is_there, has_join}
use Rattle.abort_expansion.specs.Superstates.{stays, is_prepared, resets, closing}
use Rattle.abort_expansion.specs.Transitions.{check, strong_checks, weak_checks, answers, led, led_by, go}
use Rattle.abort_expansion_laws.specs.CoreRows.{own, IsState, IsSuper, IsSimple, Images, CoreRows, SimpleImage, SplitImage}
use Rattle.abort_expansion_laws.specs.CoreRows.{flags_around}
use Rattle.abort_expansion_laws.proofs.RowsOfCharts as whole
use Rattle.abort_expansion_laws.proofs.TicksOfCharts as ticks
use Rattle.abort_expansion_laws.proofs.YetToLook.{in_reverse}
use Rattle.abort_expansion_laws.proofs.ThreadsAround.{thread_within}
use Rattle.abort_expansion_laws.proofs.JoinsFork.{no_chosen}
use Rattle.preemption_laws.specs.Looks.{look, checks_of, monitor_checks, waits_itself, waits_behind}
use Rattle.preemption_laws.proofs.TameLists.{joined_tame, strong_checks_tame, led_own, entry_tame, strong_answers, weak_answers, closing_tame}
use Rattle.preemption_laws.proofs.TameLists.{resets_tame, looks_mild, own_sound}
use Rattle.preemption_laws.proofs.TameTransitions.{IsWeak, Mild, Tame}

module _ (c : Chart) (rules : IsChart features.Extended c) (core_rules : IsChart features.Core (expanded c)) where
  abbrev k : Table
  k = table c

  abbrev core : Table
  core = table (expanded c)

  abbrev i : Images
  i = ticks.i c rules core_rules

  abbrev rows : CoreRows k core i
  rows = ticks.rows c rules core_rules

  abbrev flags_here : ℕ → List Flags
  flags_here r = flags_around k core i r

  abbrev Good : ℕ → Transition → Type 0
  Good n t = Tame c rules core_rules n t

  -- ---- the weak flags of some superstates

  abbrev pub listed : Option ℕ → List ℕ
  listed (Some x) = x ∷ []
  listed None = []

  abbrev pub weak_numbers : List ℕ → List ℕ
  weak_numbers [] = []
  weak_numbers (s ∷ zs) = listed (i.flags_of s).weak ++ weak_numbers zs

  pub are_checks : (left : ℕ) (zs : List ℕ) → weak_checks true left (map i.flags_of zs) ≡ map (look left) (weak_numbers zs)
  are_checks left [] = refl
  are_checks left (s ∷ zs) = by (i.flags_of s).weak (are_checks left zs)
    where
      by : (o : Option ℕ) → weak_checks true left (map i.flags_of zs) ≡ map (look left) (weak_numbers zs) →
          check true left o ++ weak_checks true left (map i.flags_of zs) ≡ map (look left) (listed o ++ weak_numbers zs)
      by None rest = rest
      by (Some y) rest = ap (λ ts. look left y ∷ ts) rest

  pub in_weak : (zs : List ℕ) (x : ℕ) → Contains (weak_numbers zs) x → (u : ℕ) × Contains zs u × IsWeak c rules core_rules u x
  in_weak [] x h = absurd (none_in x h)
  in_weak (s ∷ zs) x h = by (i.flags_of s).weak refl h (λ tail. let u = in_weak zs x tail in (u.0, tail_in s u.0 zs u.1, u.2))
    where
      by : (o : Option ℕ) → (i.flags_of s).weak ≡ o → Contains (listed o ++ weak_numbers zs) x →
          (Contains (weak_numbers zs) x → (u : ℕ) × Contains (s ∷ zs) u × IsWeak c rules core_rules u x) →
          (u : ℕ) × Contains (s ∷ zs) u × IsWeak c rules core_rules u x
      by None is inner rest = rest inner
      by (Some y) is inner rest =
          ⊎_elim (λ same. (s, head_in s zs, is ∙ ap Some same)) (λ tail. rest tail) (head_or_tail y x (weak_numbers zs) inner)

  aborts_among : (zs : List ℕ) (u x : ℕ) → Contains zs u → IsWeak c rules core_rules u x → aborts_around (map i.flags_of zs) ≡ true
  aborts_among [] u x h weak = absurd (none_in u h)
  aborts_among (s ∷ zs) u x h weak =
      ⊎_elim (λ same. first (is_there (i.flags_of s).strong) (aborts_around (map i.flags_of zs)) (here same))
      (λ tail. second (is_there (i.flags_of s).strong || is_there (i.flags_of s).weak) (aborts_around (map i.flags_of zs)) (aborts_among zs u x tail weak))
      (head_or_tail s u zs h)
    where
      here : s ≡ u → is_there (i.flags_of s).weak ≡ true
      here same = ap (λ v. is_there (i.flags_of v).weak) same ∙ ap is_there weak

      first : (a b : Bool) → is_there (i.flags_of s).weak ≡ true → ((a || is_there (i.flags_of s).weak) || b) ≡ true
      first true b e = refl
      first false b e = rw (e) refl

      second : (a b : Bool) → b ≡ true → (a || b) ≡ true
      second true b e = refl
      second false b e = e

  -- ---- which state a core state's looks are of

  pub data Match (n s : ℕ) : List Transition → Type 0 where
    by_main : n ≡ i.main_of s → waits_itself k core i s ≡ true → Match n s (checks_of k core i (holder k s))
    by_behind : n ≡ i.behind_of s → waits_behind k core i s ≡ true → Match n s (checks_of k core i (holder k s))
    by_watching : n ≡ i.watching_of s → has_aborts (own k s) ≡ true → Match n s (monitor_checks k core i s)

  -- ---- the looks of a state, and all that stands before them

  pub record IsFor (n : ℕ) (ts : List Transition) : Type 0 where
    pub left : ℕ
    pub seen : List ℕ
    pub are : ts ≡ map (look left) seen
    pub others : List Transition
    pub last : own core n ≡ others ++ ts
    pub tame : Each (Good n) others
    pub mild : Each (Mild c rules core_rules n) ts
    pub bare : (x : ℕ) → Contains seen x → (state_at core n).regions ≡ []
    pub ends : (x : ℕ) → Contains seen x → (state_at core (state_in core (holder core n) left)).entered ≡ to (holder core n) at.Ended ∷ []
    pub inside : (x : ℕ) → Contains seen x →
        (u : ℕ) × IsState k u × IsWeak c rules core_rules u x × Contains (around core (holder core n)) (i.main_of u)

  pub region_here : (s : ℕ) → IsState k s → IsThere k (holder k s)
  region_here s here = (whole.state_fits c rules core_rules s here).region.here

  -- of the thread of the region that holds a state
  module _ (n s : ℕ) (here : IsState k s) (held : holder core n ≡ i.thread_of (holder k s)) where
    abbrev r : ℕ
    r = holder k s

    abbrev left : ℕ
    left = (i.places_of r).left

    abbrev around_it : List ℕ
    around_it = reverse (around k r)

    pub thread_ends : (x : ℕ) → Contains (weak_numbers around_it) x →
        (state_at core (state_in core (holder core n) left)).entered ≡ to (holder core n) at.Ended ∷ []
    thread_ends x h =
        let u = in_weak around_it x h in
        subst (λ t. (state_at core (state_in core t left)).entered ≡ to t at.Ended ∷ []) (sym held)
        ((rows.region r (region_here s here)).left (aborts_among around_it u.0 x u.1 u.2))

    pub in_thread : (u : ℕ) → Contains (around k r) u → Contains (around core (i.thread_of r)) (i.main_of u)
    in_thread u inner = thread_within k core i rows r u inner

    pub thread_inside : (x : ℕ) → Contains (weak_numbers around_it) x →
        (u : ℕ) × IsState k u × IsWeak c rules core_rules u x × Contains (around core (holder core n)) (i.main_of u)
    thread_inside x h =
        let u = in_weak around_it x h in
        let inner : Contains (around k r) u.0 = in_reverse (around k r) u.0 u.1 in (
          u.0,
          whole.super_there c rules core_rules r u.0 inner,
          u.2,
          subst (λ t. Contains (around core t) (i.main_of u.0)) (sym held) (in_thread u.0 inner),
        )

  -- ---- a simple state

  pub main_for : (s : ℕ) → IsSimple k s → IsFor (i.main_of s) (checks_of k core i (holder k s))
  main_for s simple =
      record {
        left = (i.places_of r).left;
        seen = weak_numbers (reverse (around k r));
        are = are_checks (i.places_of r).left (reverse (around k r));
        others = strong_checks false (i.places_of r).left (flags_here r) ++ map (led (i.places_of r)) (own k s);
        last = ap (λ (z : StateRow). z.transitions) image.row;
        tame =
            each_append (Good (i.main_of s)) (strong_checks false (i.places_of r).left (flags_here r)) (map (led (i.places_of r)) (own k s))
            (strong_checks_tame c rules core_rules (i.main_of s) false (i.places_of r).left (reverse (around k r)))
            (led_own c rules core_rules (i.main_of s) r (region_here s simple.there) s
            ((whole.state_fits c rules core_rules s simple.there).flagless simple.no_regions).1);
        mild = looks_mild c rules core_rules (i.main_of s) true (i.places_of r).left (flags_here r);
        bare = λ x h. ap (λ (z : StateRow). z.regions) image.row;
        ends = thread_ends (i.main_of s) s simple.there (rows.held s);
        inside = thread_inside (i.main_of s) s simple.there (rows.held s);
      }
    where
      r : ℕ
      r = holder k s

      image : SimpleImage k core i s
      image = rows.simple s simple

  -- ---- the continuation of a superstate

  module _ (s : ℕ) (here : IsState k s) (super : IsSuper k s) (apart : stays (flags_here (holder k s)) (own k s) ≡ false) where
    abbrev split : SplitImage k core i s
    split = rows.split s here super apart

    abbrev home : ℕ
    home = holder k s

    abbrev at_left : ℕ
    at_left = (i.places_of home).left

    behind_held : holder core (i.behind_of s) ≡ i.thread_of home
    behind_held = ap (λ (z : StateRow). z.holder) split.behind

    at_home : holder core (i.behind_of s) ≡ holder core (i.main_of s)
    at_home = behind_held ∙ sym (rows.held s)

    abbrev checks : List Transition
    checks = strong_checks true at_left (flags_here home)

    abbrev strong_ones : List Transition
    strong_ones = answers (i.places_of home) (i.flags_of s).strong 1 (strong_aborts (own k s))

    abbrev weak_ones : List Transition
    weak_ones = answers (i.places_of home) (i.flags_of s).weak 1 (weak_aborts (own k s))

    abbrev front : List Transition
    front = checks ++ strong_ones ++ weak_ones

    front_tame : Each (Good (i.behind_of s)) front
    front_tame =
        each_append (Good (i.behind_of s)) (checks ++ strong_ones) weak_ones
        (each_append (Good (i.behind_of s)) checks strong_ones
        (strong_checks_tame c rules core_rules (i.behind_of s) true at_left (reverse (around k home)))
        (strong_answers c rules core_rules (i.behind_of s) home (region_here s here) s))
        (weak_answers c rules core_rules (i.behind_of s) home (region_here s here) s at_home)

    behind_own : own core (i.behind_of s) ≡ front ++ closing (flags_here home) (i.flags_of s) (i.places_of home) (terminations (own k s))
    behind_own = ap (λ (z : StateRow). z.transitions) split.behind

    -- where it has no termination
    pub behind_for : has_join (own k s) ≡ false → IsFor (i.behind_of s) (checks_of k core i home)
    behind_for none =
        record {
          left = at_left;
          seen = weak_numbers (reverse (around k home));
          are = are_checks at_left (reverse (around k home));
          others = front;
          last =
              behind_own
              ∙ ap (λ ts. front ++ closing (flags_here home) (i.flags_of s) (i.places_of home) ts)
              (no_chosen (λ t. is_join t.kind) (own k s) none);
          tame = front_tame;
          mild = looks_mild c rules core_rules (i.behind_of s) true at_left (flags_here home);
          bare = λ x h. ap (λ (z : StateRow). z.regions) split.behind;
          ends = thread_ends (i.behind_of s) s here behind_held;
          inside = thread_inside (i.behind_of s) s here behind_held;
        }

    -- where it has one
    pub behind_tame : (join : Transition) (others : List Transition) → terminations (own k s) ≡ join ∷ others →
        Each (Good (i.behind_of s)) (own core (i.behind_of s))
    behind_tame join others some =
        subst (Each (Good (i.behind_of s)))
        (sym (behind_own ∙ ap (λ ts. front ++ closing (flags_here home) (i.flags_of s) (i.places_of home) ts) some))
        (each_append (Good (i.behind_of s)) front
        (closing (flags_here home) (i.flags_of s) (i.places_of home) (join ∷ others)) front_tame
        (closing_tame c rules core_rules (i.behind_of s) home (region_here s here) s (flags_here home) join others first.0))
      where
        first : Each (SoundTest k.variables) (join ∷ others)
        first =
            subst (Each (SoundTest k.variables)) some
            (each_filter (SoundTest k.variables) (λ t. is_join t.kind) (own k s) (own_sound c rules core_rules s))

    -- ---- its fork, and its preparation

    pub fork_tame : Each (Good (i.main_of s)) (own core (i.main_of s))
    fork_tame =
        subst (Each (Good (i.main_of s))) (sym (ap (λ (z : StateRow). z.transitions) split.row)) (joined_tame c rules core_rules (i.main_of s) split.join)

    pub preparation_tame : is_prepared (flags_here home) (own k s) ≡ true → Each (Good (i.entry_of s)) (own core (i.entry_of s))
    preparation_tame some =
        subst (Each (Good (i.entry_of s))) (sym (ap (λ (z : StateRow). z.transitions) (split.prepared some).2))
        (each_append (Good (i.entry_of s)) (map (λ t. led_by (i.places_of home) t.trigger t) (at_once (strong_aborts (own k s))))
        (go true None (resets (i.flags_of s) (length (state_at k s).regions)) (split.prepared some).0 ∷ [])
        (entry_tame c rules core_rules (i.entry_of s) home (region_here s here) (at_once (strong_aborts (own k s)))
        (each_filter (SoundTest k.variables) (λ t. t.immediate) (strong_aborts (own k s))
        (each_filter (SoundTest k.variables) (λ t. is_strong t.kind) (own k s) (own_sound c rules core_rules s))))
        (resets_tame c rules core_rules (i.entry_of s) s (length (state_at k s).regions) (split.prepared some).0
        (ap (λ (z : StateRow). z.holder) (split.prepared some).2 ∙ sym (rows.held s))))
