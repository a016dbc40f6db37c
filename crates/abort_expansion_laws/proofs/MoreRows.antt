-- What more the table of each expanded chart has: the map of states, flags and counters, and what nothing lies inside of.
use Rattle.std.proofs.Common.{◌≡◌, ◌≢◌, ℕ, ◌+◌, ◌<◌, ◌≤◌, ◌⊎◌, inl, inr, ⊎_elim, Bool, true, false, ◌||◌, ◌&&◌, Option, Some, None, List, []}
use Rattle.std.proofs.Common.{◌∷◌, ◌++◌, map, length, Contains, refl, sym, ap, subst, ◌∙◌, arith, if◌then◌else◌}
use Rattle.std.specs.Prelude.{option_map}
use Rattle.std.proofs.lemmas.Option.{slice_get_within}
use Rattle.sc_values.specs.declared.value.Kind.TheVariants as kind_is
use Rattle.sc_graph.specs.Steps.{takes_kind}
use Rattle.core_charts.specs.declared.features.Features.TheVariants as features
use Rattle.core_charts.specs.Chart.{Chart}
use Rattle.core_charts.specs.Rules.{IsChart}
use Rattle.chart_machine.specs.declared.table.StateRow.{StateRow}
use Rattle.chart_machine.specs.declared.table.Table.{Table}
use Rattle.chart_machine.specs.Table.{table, state_at}
use Rattle.chart_machine.specs.Turns.{inside}
use Rattle.chart_machine.proofs.Outside.{within_or_past}
use Rattle.chart_machine_laws.specs.Tree.{around, holder}
use Rattle.chart_machine_laws.proofs.LyingIn.{head_in, head_or_tail}
use Rattle.chart_machine_laws.proofs.ChartTables.{around_there, no_regions_past}
use Rattle.abort_expansion.specs.declared.flags.Flags.{Flags}
use Rattle.abort_expansion.specs.Flags.{has_join, counts, given, one, weak_around, local}
use Rattle.core_charts.specs.Aborts.{has_strong, has_weak, has_aborts}
use Rattle.abort_expansion.specs.Superstates.{stays, is_prepared}
use Rattle.abort_expansion.specs.Expansion.{expanded}
use Rattle.abort_expansion_laws.specs.CoreRows.{own, IsState, IsSuper, IsSimple, Images, flags_around, CoreRows}
use Rattle.abort_expansion_laws.proofs.InsideAround.{inside_around}
use Rattle.abort_expansion_laws.proofs.SeenAlike.{IsMap}
use Rattle.abort_expansion_laws.proofs.Resets.{Apart}
use Rattle.abort_expansion_laws.proofs.OpensFork.{OpeningRows}
use Rattle.abort_expansion_laws.proofs.StartingRegions.{Once, CounterRows}
use Rattle.abort_expansion_laws.proofs.Walked.{World, IsFlag, FlagsFit, Origin, thread, watcher}
use Rattle.abort_expansion_laws.proofs.WalkedWhole.{world, image_past}
use Rattle.abort_expansion_laws.proofs.RowsOfCharts as whole
use Rattle.abort_expansion_laws.proofs.TableEnds.{prepared_apart}
use Rattle.abort_expansion_laws.proofs.FlagNumbers.{no_one, numbers_once, strong_weak, strong_counter, weak_counter, is_it}
use Rattle.abort_expansion_laws.proofs.FlagNumbers.{is_it_self, is_it_other}
use Rattle.tick_laws.proofs.Lists.{contains_map}

module _ (c : Chart) (rules : IsChart features.Extended c) (core_rules : IsChart features.Core (expanded c)) where
  abbrev k : Table
  k = table c

  abbrev core : Table
  core = table (expanded c)

  abbrev w : World
  w = world c rules

  abbrev i : Images
  i = whole.i c rules core_rules

  abbrev rows : CoreRows k core i
  rows = whole.rows_of_chart c rules core_rules

  abbrev around_flags : ℕ → List Flags
  around_flags r = flags_around k core i r

  -- ---- what nothing lies inside of

  -- only forks have something inside
  only_forks : (t n : ℕ) → Contains (around core t) n → (s : ℕ) × IsSuper k s × (n ≡ i.main_of s)
  only_forks t n h = by_origin (whole.origin c rules core_rules t (around_there core t n h))
    where
      of_region : (r : ℕ) → Contains (map i.main_of (around k r)) n → (s : ℕ) × IsSuper k s × (n ≡ i.main_of s)
      of_region r inner =
          let u = contains_map i.main_of (around k r) n inner in
          (u.0, whole.super_around c rules core_rules r u.0 u.1, sym u.2)

      by_origin : Origin w t → (s : ℕ) × IsSuper k s × (n ≡ i.main_of s)
      by_origin (thread r there is) = of_region r (subst (λ zs. Contains zs n) (ap (around core) is ∙ rows.encloses r) h)
      by_origin (watcher o here has is) =
          let super : IsSuper k o = whole.super_of c rules core_rules o here has in
          let around_it : around core t ≡ i.main_of o ∷ around core (i.thread_of (holder k o)) =
          ap (around core) is ∙ (whole.state_fits c rules core_rules o here).watches super in
          ⊎_elim (λ same. (o, super, sym same))
          (λ tail. of_region (holder k o) (subst (λ zs. Contains zs n) (rows.encloses (holder k o)) tail))
          (head_or_tail (i.main_of o) n (around core (i.thread_of (holder k o))) (subst (λ zs. Contains zs n) around_it h))

  -- a fork has regions
  fork_has : (s : ℕ) → IsSuper k s → (state_at core (i.main_of s)).regions ≢ []
  fork_has s super none = by_stay (stays (around_flags (holder k s)) (own k s)) refl
    where
      here : IsState k s
      here = whole.is_state_super c rules core_rules s super

      no_more : (xs ys : List ℕ) → map i.thread_of xs ++ ys ≡ [] → xs ≡ []
      no_more [] ys e = refl
      no_more (x ∷ xs) ys e = absurd cc

      none_of : (xs : List ℕ) → map i.thread_of xs ≡ [] → xs ≡ []
      none_of [] e = refl
      none_of (x ∷ xs) e = absurd cc

      by_stay : (b : Bool) → stays (around_flags (holder k s)) (own k s) ≡ b → ⊥
      by_stay true e = super (none_of (state_at k s).regions (sym (ap (λ z. z.regions) (rows.staying s here super e).row) ∙ none))
      by_stay false e = super (no_more (state_at k s).regions _ (sym (ap (λ z. z.regions) (rows.split s here super e).row) ∙ none))

  pub alone : (n : ℕ) → (state_at core n).regions ≡ [] → inside core n ≡ []
  alone n none = no_one (inside core n) (λ t h.
      let o = only_forks t n (inside_around core n t h) in fork_has o.0 o.1 (sym (ap (λ z. (state_at core z).regions) o.2) ∙ none))

  pub simple_alone : (s : ℕ) → IsSimple k s → inside core (i.main_of s) ≡ []
  simple_alone s simple = alone (i.main_of s) ((whole.state_fits c rules core_rules s simple.there).bare simple.no_regions).0

  pub behind_alone : (s : ℕ) → inside core (i.behind_of s) ≡ []
  behind_alone s = ⊎_elim (λ lt. of_state lt) (λ past. alone (i.behind_of s) (of_past past)) (within_or_past s (length k.states))
    where
      of_past : length k.states ≤ s → (state_at core (i.behind_of s)).regions ≡ []
      of_past past =
          ap (λ z. (state_at core (Rattle.abort_expansion_laws.proofs.Walked.behind_by w z s)).regions) (image_past c rules s past) ∙
          no_regions_past core (length core.states + s) (omega arith)

      of_super : (here : IsState k s) → IsSuper k s → (b : Bool) → stays (around_flags (holder k s)) (own k s) ≡ b →
          (state_at core (i.behind_of s)).regions ≡ []
      of_super here super true e =
          ap (λ n. (state_at core n).regions) ((whole.state_fits c rules core_rules s here).behind_past super e) ∙
          no_regions_past core (length core.states + s) (omega arith)
      of_super here super false e = ap (λ z. z.regions) (rows.split s here super e).behind

      by_regions : (here : IsState k s) (rs : List ℕ) → (state_at k s).regions ≡ rs → (state_at core (i.behind_of s)).regions ≡ []
      by_regions here [] e =
          let bare = (whole.state_fits c rules core_rules s here).bare e in ap (λ n. (state_at core n).regions) bare.1 ∙ bare.0
      by_regions here (r ∷ rs) e =
          of_super here (λ none. let wrong : r ∷ rs ≡ [] = sym e ∙ none in absurd cc) (stays (around_flags (holder k s)) (own k s)) refl

      of_state : IsState k s → inside core (i.behind_of s) ≡ []
      of_state here = alone (i.behind_of s) (by_regions here (state_at k s).regions refl)

  pub no_strong : (s : ℕ) → has_strong (own k s) ≡ false → (i.flags_of s).strong ≡ None
  no_strong s none = by_flag (i.flags_of s).strong refl
    where
      not_given : (b : Bool) (x : ℕ) → b ≡ false → given b x ≡ None
      not_given true x e = absurd cc
      not_given false x e = refl

      by_flag : (o : Option ℕ) → (i.flags_of s).strong ≡ o → (i.flags_of s).strong ≡ None
      by_flag None e = e
      by_flag (Some x) e =
          let fits : FlagsFit w s = whole.flag_from c rules core_rules s x (inl e) in
          ap (λ z. z.strong) fits.are ∙ not_given (has_strong (own k s)) fits.first none

  -- ---- the map of states

  pub map_of_chart : IsMap k core i w.m
  map_of_chart =
      record {
        main_is = λ s here. (whole.state_fits c rules core_rules s here).mapped;
        behind_is = λ s here apart. behind_is s here (state_at k s).regions refl apart;
        watching_is = λ o here has. ((whole.state_fits c rules core_rules o here).watcher (whole.super_of c rules core_rules o here has) has).unmapped;
        behind_held = λ s here apart. behind_held s here (state_at k s).regions refl apart;
      }
    where
      has_some : (s r : ℕ) (rs : List ℕ) → (state_at k s).regions ≡ r ∷ rs → IsSuper k s
      has_some s r rs e none = let wrong : r ∷ rs ≡ [] = sym e ∙ none in absurd cc

      behind_is : (s : ℕ) (here : IsState k s) (rs : List ℕ) → (state_at k s).regions ≡ rs → stays (around_flags (holder k s)) (own k s) ≡ false →
          w.m (i.behind_of s) ≡ Some s
      behind_is s here [] e apart =
          let fits = whole.state_fits c rules core_rules s here in ap w.m (fits.bare e).1 ∙ fits.mapped
      behind_is s here (r ∷ rs) e apart = (whole.state_fits c rules core_rules s here).split_mapped (has_some s r rs e) apart

      behind_held : (s : ℕ) (here : IsState k s) (rs : List ℕ) → (state_at k s).regions ≡ rs → stays (around_flags (holder k s)) (own k s) ≡ false →
          holder core (i.behind_of s) ≡ i.thread_of (holder k s)
      behind_held s here [] e apart =
          let fits = whole.state_fits c rules core_rules s here in ap (holder core) (fits.bare e).1 ∙ fits.held
      behind_held s here (r ∷ rs) e apart = ap (λ z. z.holder) (rows.split s here (has_some s r rs e) apart).behind

  -- ---- flags

  abbrev Goal : Flags → Type 0
  Goal f = Apart f.strong f.weak × (Apart f.strong f.counter × Apart f.weak f.counter)

  flags_apart : (s : ℕ) → Apart (i.flags_of s).strong (i.flags_of s).weak ×
      (Apart (i.flags_of s).strong (i.flags_of s).counter × Apart (i.flags_of s).weak (i.flags_of s).counter)
  flags_apart s = by_first (i.flags_of s).strong (i.flags_of s).weak refl refl
    where
      from : FlagsFit w s → Goal (i.flags_of s)
      from fits =
          subst Goal (sym fits.are) (
            strong_weak (weak_around (around_flags (holder k s))) (own k s) fits.first,
            (
              strong_counter (weak_around (around_flags (holder k s))) (own k s) fits.first,
              weak_counter (weak_around (around_flags (holder k s))) (own k s) fits.first,
            ),
          )

      apart_none : (o : Option ℕ) → Apart None o
      apart_none o = tt

      by_first : (a b : Option ℕ) → (i.flags_of s).strong ≡ a → (i.flags_of s).weak ≡ b → Goal (i.flags_of s)
      by_first (Some x) b e f = from (whole.flag_from c rules core_rules s x (inl e))
      by_first None (Some x) e f = from (whole.flag_from c rules core_rules s x (inr (inl f)))
      by_first None None e f = (
        subst (λ z. Apart z (i.flags_of s).weak) (sym e) tt,
        (subst (λ z. Apart z (i.flags_of s).counter) (sym e) tt, subst (λ z. Apart z (i.flags_of s).counter) (sym f) tt),
      )

  some_flag : (s : ℕ) → is_prepared (around_flags (holder k s)) (own k s) ≡ true → (x : ℕ) × IsFlag (i.flags_of s) x
  some_flag s certain = of_size (within_or_past s (length k.states))
    where
      none_past : length k.states ≤ s → own k s ≡ []
      none_past past =
          ap (λ (o : Option StateRow). (Rattle.std.proofs.Common.unwrap_or {T = StateRow} o (record {
            holder = 0;
            regions = [];
            transitions = [];
            entered = [];
            opened = [];
          })).transitions) (Rattle.std.proofs.lemmas.Option.slice_get_past k.states s past)

      of_fits : (fits : FlagsFit w s) (a b d : Bool) → has_strong (own k s) ≡ a → has_weak (own k s) ≡ b →
          counts (weak_around (around_flags (holder k s))) (own k s) ≡ d → ((a || b) || d) ≡ true → (x : ℕ) × IsFlag (i.flags_of s) x
      of_fits fits true b d e f g some = (fits.first, inl (ap (λ z. z.strong) fits.are ∙ ap (λ z. given z fits.first) e))
      of_fits fits false true d e f g some = (
        fits.first + one (has_strong (own k s)),
        inr (inl (ap (λ z. z.weak) fits.are ∙ ap (λ z. given z (fits.first + one (has_strong (own k s)))) f)),
      )
      of_fits fits false false true e f g some = (
        fits.first + one (has_strong (own k s)) + one (has_weak (own k s)),
        inr (inr (ap (λ z. z.counter) fits.are ∙ ap (λ z. given z (fits.first + one (has_strong (own k s)) + one (has_weak (own k s)))) g)),
      )
      of_fits fits false false false e f g some = absurd cc

      of_regions : IsState k s → (rs : List ℕ) → (state_at k s).regions ≡ rs → (x : ℕ) × IsFlag (i.flags_of s) x
      of_regions here [] e =
          let none = (whole.state_fits c rules core_rules s here).flagless e in
          let denied : is_prepared (around_flags (holder k s)) (own k s) ≡ false = rw (none.1, none.2) refl in
          let wrong : true ≡ false = sym certain ∙ denied in absurd cc
      of_regions here (r ∷ rs) e =
          of_fits ((whole.state_fits c rules core_rules s here).flags (λ none. let wrong : r ∷ rs ≡ [] = sym e ∙ none in absurd cc)) (has_strong (own k s))
          (has_weak (own k s)) (counts (weak_around (around_flags (holder k s))) (own k s)) refl refl refl certain

      of_size : (s < length k.states) ⊎ (length k.states ≤ s) → (x : ℕ) × IsFlag (i.flags_of s) x
      of_size (inl here) = of_regions here (state_at k s).regions refl
      of_size (inr past) =
          let denied : is_prepared (around_flags (holder k s)) (own k s) ≡ false = ap (is_prepared (around_flags (holder k s))) (none_past past) in
          let wrong : true ≡ false = sym certain ∙ denied in absurd cc

  -- a termination is counted where there are aborts, or weak ones around
  pub counter_given : (s : ℕ) → has_join (own k s) ≡ true → (has_aborts (own k s) || weak_around (around_flags (holder k s))) ≡ true →
      (x : ℕ) × ((i.flags_of s).counter ≡ Some x)
  counter_given s join some =
      let counted : counts (weak_around (around_flags (holder k s))) (own k s) ≡ true = rw (join, some) refl in
      let prepared : is_prepared (around_flags (holder k s)) (own k s) ≡ true = rw (counted) (either (has_aborts (own k s))) in
      let flag = some_flag s prepared in
      let fits : FlagsFit w s = whole.flag_from c rules core_rules s flag.0 flag.1 in
      let n : ℕ = fits.first + one (has_strong (own k s)) + one (has_weak (own k s)) in
      (n, ap (λ z. z.counter) fits.are ∙ ap (λ b. given b n) counted)
    where
      either : (a : Bool) → (a || true) ≡ true
      either true = refl
      either false = refl

  entry_alone : (s : ℕ) → is_prepared (around_flags (holder k s)) (own k s) ≡ true → inside core (i.entry_of s) ≡ []
  entry_alone s certain =
      let some = some_flag s certain in
      let super : IsSuper k s = whole.flagged_super c rules core_rules s some.0 some.1 in
      let here : IsState k s = whole.is_state_super c rules core_rules s super in
      alone (i.entry_of s)
      (ap (λ z. z.regions) ((rows.split s here super (prepared_apart (around_flags (holder k s)) (own k s) certain)).prepared certain).2)

  pub opening_rows : OpeningRows k core i rows
  opening_rows =
      record {
        flag_of = λ s x is.
            let fits : FlagsFit w s = whole.flag_from c rules core_rules s x is in
            let there = fits.declared x is in (
              whole.owner_is c rules core_rules x ∙ fits.owned x is,
              (ap (λ o. takes_kind (option_map (λ z. z.kind) o) kind_is.Int) there.1, slice_get_within core.variables x (local there.0) there.1),
            );
        flags_apart = flags_apart;
        some_flag = some_flag;
        entry_alone = entry_alone;
      }

  -- ---- counters

  -- whether a variable is a counter, and at which stage it is written
  abbrev pub is_counter : ℕ → Bool
  is_counter x = is_it (i.flags_of (w.of_flag x)).counter x

  abbrev pub stage_of_write : ℕ → ℕ
  stage_of_write x = if is_counter x then 1 else (if is_it (i.flags_of (w.of_flag x)).strong x then 0 else 2)

  pub writes_low : (x : ℕ) → stage_of_write x < 3
  writes_low x = below (is_counter x) (is_it (i.flags_of (w.of_flag x)).strong x)
    where
      below : (a b : Bool) → (if a then 1 else (if b then 0 else 2)) < 3
      below true b = omega arith
      below false true = omega arith
      below false false = omega arith

  owned : (s x : ℕ) → IsFlag (i.flags_of s) x → w.of_flag x ≡ s
  owned s x is = (whole.flag_from c rules core_rules s x is).owned x is

  apart_back : (a b : Option ℕ) → Apart a b → Apart b a
  apart_back (Some x) (Some y) h = λ e. h (sym e)
  apart_back (Some x) None h = tt
  apart_back None (Some y) h = tt
  apart_back None None h = tt

  strong_counts : (s x : ℕ) → (i.flags_of s).strong ≡ Some x → is_counter x ≡ false
  strong_counts s x e =
      ap (λ z. is_it (i.flags_of z).counter x) (owned s x (inl e)) ∙
      is_it_other (i.flags_of s).strong (i.flags_of s).counter x (flags_apart s).1.0 e

  pub strong_of : (s x : ℕ) → (i.flags_of s).strong ≡ Some x → rows.of_flag x ≡ s
  strong_of s x e = whole.owner_is c rules core_rules x ∙ owned s x (inl e)

  pub strong_at : (s x : ℕ) → (i.flags_of s).strong ≡ Some x → stage_of_write x ≡ 0
  strong_at s x e =
      let is_strong : is_it (i.flags_of (w.of_flag x)).strong x ≡ true =
      ap (λ z. is_it (i.flags_of z).strong x) (owned s x (inl e)) ∙ is_it_self (i.flags_of s).strong x e in
      rw (strong_counts s x e, is_strong) refl

  weak_no_counter : (s x : ℕ) → (i.flags_of s).weak ≡ Some x → is_counter x ≡ false
  weak_no_counter s x e =
      ap (λ z. is_it (i.flags_of z).counter x) (owned s x (inr (inl e))) ∙
      is_it_other (i.flags_of s).weak (i.flags_of s).counter x (flags_apart s).1.1 e

  pub weak_at : (s x : ℕ) → (i.flags_of s).weak ≡ Some x → stage_of_write x ≡ 2
  weak_at s x e =
      let not_strong : is_it (i.flags_of (w.of_flag x)).strong x ≡ false =
      ap (λ z. is_it (i.flags_of z).strong x) (owned s x (inr (inl e))) ∙
      is_it_other (i.flags_of s).weak (i.flags_of s).strong x (apart_back (i.flags_of s).strong (i.flags_of s).weak (flags_apart s).0) e in
      rw (weak_no_counter s x e, not_strong) refl

  pub counter_rows : CounterRows k core i rows is_counter stage_of_write
  counter_rows =
      record {
        counter_counts = counter_counts;
        strong_not = strong_counts;
        weak_not = weak_no_counter;
        counter_of = λ s x e. whole.owner_is c rules core_rules x ∙ owned s x (inr (inr e));
        counter_at = λ s x e. let certain : is_counter x ≡ true = counter_counts s x e in rw (certain) refl;
        counter_kind = λ s x e. (opening_rows.flag_of s x (inr (inr e))).1.0;
        counter_there = λ s x e. (opening_rows.flag_of s x (inr (inr e))).1.1;
        counter_joins = λ s x e.
            let fits = whole.flag_from c rules core_rules s x (inr (inr e)) in
            joins (has_join (own k s)) _ _ (sym (ap (λ z. z.counter) fits.are) ∙ e);
        few = λ s.
            ⊎_elim (λ here. (whole.state_fits c rules core_rules s here).few)
            (λ past. subst (λ zs. length zs < 2147483648) (sym (no_regions_past k s past)) (omega arith)) (within_or_past s (length k.states));
        once = λ r s ss there e.
            let h : Contains (around k r) s = subst (λ zs. Contains zs s) (sym e) (head_in s ss) in
            let here : IsState k s = whole.super_there c rules core_rules r s h in
            let numbered = (whole.state_fits c rules core_rules s here).numbered in
            subst (Once r) (sym numbered.1.1)
            (numbers_once numbered.0 numbered.1.0 r
            (subst (λ zs. Contains zs r) numbered.1.1 ((whole.tree c rules core_rules).innermost r s ss e)));
      }
    where
      counter_counts : (s x : ℕ) → (i.flags_of s).counter ≡ Some x → is_counter x ≡ true
      counter_counts s x e =
          ap (λ z. is_it (i.flags_of z).counter x) (owned s x (inr (inr e))) ∙ is_it_self (i.flags_of s).counter x e

      joins : (a b : Bool) (y : ℕ) {x : ℕ} → given (a && b) y ≡ Some x → a ≡ true
      joins true b y e = refl
      joins false b y e = absurd cc
