-- The lists of transitions that the expansion makes are tame: of checks of strong flags, of transitions of the text, of answers, of a monitor's tests; and
-- those of looks set nothing.
use Rattle.std.proofs.Common.{◌≡◌, ℕ, suc, Bool, true, false, if◌then◌else◌, Option, Some, None, List, [], ◌∷◌, ◌++◌, map, refl, sym}
use Rattle.std.proofs.Common.{◌∙◌, unwrap_or, slice_get, inl, inr}
use Rattle.std.proofs.lemmas.Bool.{or_parts}
use Rattle.sc_values.specs.declared.expression.Expr.{Expr}
use Rattle.sc_text.proofs.EachItem.{Each, each_append, each_more, each_filter}
use Rattle.core_charts.specs.declared.features.Features.TheVariants as features
use Rattle.core_charts.specs.declared.region.Effect.{Effect}
use Rattle.core_charts.specs.declared.region.Transition.{Transition}
use Rattle.core_charts.specs.Aborts.{has_strong, has_weak, has_aborts}
use Rattle.core_charts.specs.Chart.{Chart}
use Rattle.core_charts.specs.Rules.{IsChart, IsEffect, depth_limit}
use Rattle.core_charts.specs.Tests.{is_strong, is_weak, strong_aborts, weak_aborts}
use Rattle.chart_machine.specs.declared.table.Table.{Table}
use Rattle.chart_machine.specs.Table.{table}
use Rattle.chart_machine_laws.specs.Tree.{IsThere, around}
use Rattle.chart_machine_laws.proofs.SoundRows.{SoundTest, rows_sound, row_sound}
use Rattle.abort_expansion.specs.declared.flags.Flags.{Flags}
use Rattle.abort_expansion.specs.declared.places.RegionPlaces.{RegionPlaces}
use Rattle.abort_expansion.specs.Expansion.{expanded}
use Rattle.abort_expansion.specs.Flags.{weak_around}
use Rattle.abort_expansion.specs.Superstates.{resets, all_ended, joined_or_left, closing}
use Rattle.abort_expansion.specs.Transitions.{is_number, is_raised, put, count_down, on, go, check, strong_checks, weak_checks, counting, led, led_by}
use Rattle.abort_expansion.specs.Transitions.{answers, raising}
use Rattle.abort_expansion_laws.specs.CoreRows.{own, Images, CoreRows, counter_over, joins}
use Rattle.abort_expansion_laws.proofs.MoreRows.{opening_rows}
use Rattle.abort_expansion_laws.proofs.TicksOfCharts as ticks
use Rattle.preemption_laws.proofs.TameTransitions.{AtHome, TameTrigger, TameEffect, Mild, Tame, no_trigger, strong_trigger, strong_number}
use Rattle.preemption_laws.proofs.TameTransitions.{counter_number, weak_number, declared_trigger, declared_effect, count_effect, raise_effect, own_effect}

-- no aborts are among these
abbrev pub IsPlain : Transition → Type 0
IsPlain t = (is_strong t.kind ≡ false) × (is_weak t.kind ≡ false)

all_plain : (ts : List Transition) → has_strong ts ≡ false → has_weak ts ≡ false → Each IsPlain ts
all_plain [] strong weak = tt
all_plain (t ∷ ts) strong weak =
    let one = or_parts (is_strong t.kind) (has_strong ts) strong in
    let two = or_parts (is_weak t.kind) (has_weak ts) weak in ((one.0, two.0), all_plain ts one.1 two.1)

pub plain_all : (ts : List Transition) → has_aborts ts ≡ false → Each IsPlain ts
plain_all ts none = let both = or_parts (has_strong ts) (has_weak ts) none in all_plain ts both.0 both.1

pub none_strong : (ts : List Transition) → Each IsPlain ts → strong_aborts ts ≡ []
none_strong [] plain = refl
none_strong (t ∷ ts) plain = rw (plain.0.0) (none_strong ts plain.1)

pub none_weak : (ts : List Transition) → Each IsPlain ts → weak_aborts ts ≡ []
none_weak [] plain = refl
none_weak (t ∷ ts) plain = rw (plain.0.1) (none_weak ts plain.1)

module _ (c : Chart) (rules : IsChart features.Extended c) (core_rules : IsChart features.Core (expanded c)) where
  abbrev k : Table
  k = table c

  abbrev core : Table
  core = table (expanded c)

  abbrev i : Images
  i = ticks.i c rules core_rules

  abbrev rows : CoreRows k core i
  rows = ticks.rows c rules core_rules

  abbrev Good : ℕ → Transition → Type 0
  Good n t = Tame c rules core_rules n t

  abbrev Gentle : ℕ → Effect → Type 0
  Gentle n e = TameEffect c rules core_rules n e

  -- ---- the transitions of the text

  pub own_sound : (s : ℕ) → Each (SoundTest k.variables) (own k s)
  own_sound s =
      (row_sound k (rows_sound c.variables features.Extended depth_limit c.regions rules.regions).0 s).transitions

  module _ (n : ℕ) where
    -- what goes by this trigger, and sets nothing
    bare : (immediate : Bool) (trigger : Option Expr) (place : ℕ) → TameTrigger c rules core_rules n trigger → Good n (go immediate trigger [] place)
    bare immediate trigger place is = record { mild = record { effects = tt; no_strong = refl; no_weak = refl }; trigger = is }

    pub joined_tame : (place : ℕ) → Each (Good n) (joins place ∷ [])
    joined_tame place =
        (record { mild = record { effects = tt; no_strong = refl; no_weak = refl }; trigger = no_trigger c rules core_rules n }, tt)

    pub strong_checks_tame : (immediate : Bool) (left : ℕ) (zs : List ℕ) → Each (Good n) (strong_checks immediate left (map i.flags_of zs))
    strong_checks_tame immediate left [] = tt
    strong_checks_tame immediate left (s ∷ zs) =
        each_append (Good n) (check immediate left (i.flags_of s).strong) (strong_checks immediate left (map i.flags_of zs))
        (by (i.flags_of s).strong refl) (strong_checks_tame immediate left zs)
      where
        by : (f : Option ℕ) → (i.flags_of s).strong ≡ f → Each (Good n) (check immediate left f)
        by None is = tt
        by (Some y) is = (bare immediate (Some (is_raised y)) left (strong_trigger c rules core_rules n s y is), tt)

    counted_tame : (o : Option ℕ) → ((y : ℕ) → o ≡ Some y → (s : ℕ) × ((i.flags_of s).counter ≡ Some y)) → Each (Gentle n) (on o count_down)
    counted_tame None of_some = tt
    counted_tame (Some y) of_some = let s = of_some y refl in (count_effect c rules core_rules n s.0 y s.1, tt)

    module _ (r : ℕ) (there : IsThere k r) where
      abbrev places : RegionPlaces
      places = i.places_of r

      counter_of : (y : ℕ) → places.counter ≡ Some y → (s : ℕ) × ((i.flags_of s).counter ≡ Some y)
      counter_of y is = by (around k r) (sym (rows.region r there).counter ∙ is)
        where
          by : (zs : List ℕ) → counter_over k core i zs ≡ Some y → (s : ℕ) × ((i.flags_of s).counter ≡ Some y)
          by [] e = absurd cc
          by (s ∷ ss) e = (s, e)

      pub start_tame : (target : ℕ) → Each (Good n) (go true None (on places.counter count_down) target ∷ [])
      start_tame target = (
        record {
          mild = record { effects = counted_tame places.counter counter_of; no_strong = refl; no_weak = refl };
          trigger = no_trigger c rules core_rules n;
        },
        tt,
      )

      counting_tame : (target : ℕ) (effects : List Effect) → Each (IsEffect k.variables) effects → Each (Gentle n) (counting places target effects)
      counting_tame target effects each = by (unwrap_or (slice_get places.finals target) false)
        where
          declared : Each (Gentle n) effects
          declared = each_more (IsEffect k.variables) (Gentle n) effects (λ e is. declared_effect c rules core_rules n e is) each

          by : (b : Bool) → Each (Gentle n) (if b then effects ++ on places.counter count_down else effects)
          by true = each_append (Gentle n) effects (on places.counter count_down) declared (counted_tame places.counter counter_of)
          by false = declared

      led_tame : (ts : List Transition) → Each (SoundTest k.variables) ts → Each IsPlain ts → Each (Good n) (map (led places) ts)
      led_tame [] sound plain = tt
      led_tame (t ∷ ts) sound plain = (
        record {
          mild = record { effects = counting_tame t.target t.effects sound.0.effects; no_strong = plain.0.0; no_weak = plain.0.1 };
          trigger = declared_trigger c rules core_rules n t sound.0;
        },
        led_tame ts sound.1 plain.1,
      )

      -- the transitions of a state without aborts
      pub led_own : (s : ℕ) → has_aborts (own k s) ≡ false → Each (Good n) (map (led places) (own k s))
      led_own s none = led_tame (own k s) (own_sound s) (plain_all (own k s) none)

      led_by_one : (trigger : Option Expr) (t : Transition) → SoundTest k.variables t → TameTrigger c rules core_rules n trigger →
          Good n (led_by places trigger t)
      led_by_one trigger t sound is =
          record { mild = record { effects = counting_tame t.target t.effects sound.effects; no_strong = refl; no_weak = refl }; trigger = is }

      pub entry_tame : (ts : List Transition) → Each (SoundTest k.variables) ts → Each (Good n) (map (λ t. led_by places t.trigger t) ts)
      entry_tame [] sound = tt
      entry_tame (t ∷ ts) sound =
          (led_by_one t.trigger t sound.0 (declared_trigger c rules core_rules n t sound.0), entry_tame ts sound.1)

      answers_tame : (f : Option ℕ) → ((y m : ℕ) → f ≡ Some y → TameTrigger c rules core_rules n (Some (is_number y m))) → (m : ℕ) (ts : List Transition) →
          Each (SoundTest k.variables) ts → Each (Good n) (answers places f m ts)
      answers_tame None home m ts sound = tt
      answers_tame (Some y) home m [] sound = tt
      answers_tame (Some y) home m (t ∷ ts) sound =
          (led_by_one (Some (is_number y m)) t sound.0 (home y m refl), answers_tame (Some y) home (suc m) ts sound.1)

      pub strong_answers : (s : ℕ) → Each (Good n) (answers places (i.flags_of s).strong 1 (strong_aborts (own k s)))
      strong_answers s =
          answers_tame (i.flags_of s).strong (λ y m is. strong_number c rules core_rules n s y m is) 1 (strong_aborts (own k s))
          (each_filter (SoundTest k.variables) (λ t. is_strong t.kind) (own k s) (own_sound s))

      pub weak_answers : (s : ℕ) → AtHome c rules core_rules n s → Each (Good n) (answers places (i.flags_of s).weak 1 (weak_aborts (own k s)))
      weak_answers s home =
          answers_tame (i.flags_of s).weak (λ y m is. weak_number c rules core_rules n s y m is home) 1 (weak_aborts (own k s))
          (each_filter (SoundTest k.variables) (λ t. is_weak t.kind) (own k s) (own_sound s))

      -- where there is a termination
      pub closing_tame : (s : ℕ) (fs : List Flags) (join : Transition) (others : List Transition) → SoundTest k.variables join →
          Each (Good n) (closing fs (i.flags_of s) places (join ∷ others))
      closing_tame s fs join others sound = by (weak_around fs)
        where
          by_counter : (o : Option ℕ) → (i.flags_of s).counter ≡ o → Each (Good n) (joined_or_left places o join)
          by_counter None is = (bare true None places.left (no_trigger c rules core_rules n), tt)
          by_counter (Some y) is = (
            led_by_one (Some (is_number y 0)) join sound (counter_number c rules core_rules n s y 0 is),
            (bare true None places.left (no_trigger c rules core_rules n), tt),
          )

          by : (b : Bool) → Each (Good n) (if b then joined_or_left places (i.flags_of s).counter join else led_by places None join ∷ [])
          by true = by_counter (i.flags_of s).counter refl
          by false = (led_by_one None join sound (no_trigger c rules core_rules n), tt)

    -- ---- a monitor's

    raising_tame : (immediate : Transition → Bool) (left : ℕ) (f : Option ℕ) (m : ℕ) (ts : List Transition) → Each (SoundTest k.variables) ts →
        Each (Good n) (raising immediate left f (suc m) ts)
    raising_tame immediate left None m ts sound = tt
    raising_tame immediate left (Some y) m [] sound = tt
    raising_tame immediate left (Some y) m (t ∷ ts) sound = (
      record {
        mild = record { effects = (raise_effect c rules core_rules n y m, tt); no_strong = refl; no_weak = refl };
        trigger = declared_trigger c rules core_rules n t sound.0;
      },
      raising_tame immediate left (Some y) (suc m) ts sound.1,
    )

    pub raises_strong : (s : ℕ) → Each (Good n) (raising (λ t. false) 1 (i.flags_of s).strong 1 (strong_aborts (own k s)))
    raises_strong s =
        raising_tame (λ t. false) 1 (i.flags_of s).strong 0 (strong_aborts (own k s))
        (each_filter (SoundTest k.variables) (λ t. is_strong t.kind) (own k s) (own_sound s))

    pub raises_weak : (s : ℕ) → Each (Good n) (raising (λ t. t.immediate) 1 (i.flags_of s).weak 1 (weak_aborts (own k s)))
    raises_weak s =
        raising_tame (λ t. t.immediate) 1 (i.flags_of s).weak 0 (weak_aborts (own k s))
        (each_filter (SoundTest k.variables) (λ t. is_weak t.kind) (own k s) (own_sound s))

    pub ended_tame : (s : ℕ) → Each (Good n) (all_ended (i.flags_of s).counter)
    ended_tame s = by (i.flags_of s).counter refl
      where
        by : (o : Option ℕ) → (i.flags_of s).counter ≡ o → Each (Good n) (all_ended o)
        by None is = tt
        by (Some y) is = (bare true (Some (is_number y 0)) 1 (counter_number c rules core_rules n s y 0 is), tt)

    -- ---- a preparation's

    pub resets_tame : (s many place : ℕ) → AtHome c rules core_rules n s → Each (Good n) (go true None (resets (i.flags_of s) many) place ∷ [])
    resets_tame s many place home =
        (record { mild = record { effects = all; no_strong = refl; no_weak = refl }; trigger = no_trigger c rules core_rules n }, tt)
      where
        one : (o : Option ℕ) (m : ℕ) → ((y : ℕ) → o ≡ Some y → rows.of_flag y ≡ s) → Each (Gentle n) (on o (λ y. put y m))
        one None m owner = tt
        one (Some y) m owner = (own_effect c rules core_rules n s y m (owner y refl) home, tt)

        all : Each (Gentle n) (resets (i.flags_of s) many)
        all =
            each_append (Gentle n) (on (i.flags_of s).strong (λ y. put y 0) ++ on (i.flags_of s).weak (λ y. put y 0))
            (on (i.flags_of s).counter (λ y. put y many))
            (each_append (Gentle n) (on (i.flags_of s).strong (λ y. put y 0)) (on (i.flags_of s).weak (λ y. put y 0))
            (one (i.flags_of s).strong 0 (λ y is. ((opening_rows c rules core_rules).flag_of s y (inl is)).0))
            (one (i.flags_of s).weak 0 (λ y is. ((opening_rows c rules core_rules).flag_of s y (inr (inl is))).0)))
            (one (i.flags_of s).counter many (λ y is. ((opening_rows c rules core_rules).flag_of s y (inr (inr is))).0))

    -- ---- looks set nothing

    pub looks_mild : (immediate : Bool) (left : ℕ) (fs : List Flags) → Each (Mild c rules core_rules n) (weak_checks immediate left fs)
    looks_mild immediate left [] = tt
    looks_mild immediate left (f ∷ fs) =
        each_append (Mild c rules core_rules n) (check immediate left f.weak) (weak_checks immediate left fs) (by f.weak) (looks_mild immediate left fs)
      where
        by : (o : Option ℕ) → Each (Mild c rules core_rules n) (check immediate left o)
        by None = tt
        by (Some y) = (record { effects = tt; no_strong = refl; no_weak = refl }, tt)
