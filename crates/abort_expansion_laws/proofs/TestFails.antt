-- A test of a simple state: where it fails, its thread makes the same one and goes on to the next.
use Rattle.std.proofs.Common.{◌≡◌, ◌≢◌, ℕ, Bool, true, false, Some, None, List, [], ◌∷◌, ◌++◌, map, slice_set, refl, sym, ap, subst, ◌∙◌, arith, if◌then◌else◌}
use Rattle.std.specs.Prelude.{option_map}
use Rattle.std.proofs.lemmas.Option.{same_Some}
use Rattle.sc_values.specs.Runs.{act_of}
use Rattle.core_charts.specs.declared.region.Transition.{Transition}
use Rattle.chart_machine.specs.declared.standing.Standing.{Standing}
use Rattle.chart_machine.specs.declared.standing.Standing.TheVariants as at
use Rattle.chart_machine.specs.declared.standing.Move.{Move}
use Rattle.chart_machine.specs.declared.standing.Configuration.{Configuration}
use Rattle.chart_machine.specs.declared.table.Table.{Table}
use Rattle.chart_machine.specs.Turns.{standing_of, has_work, is_guarded, is_enabled}
use Rattle.chart_machine.specs.Steps.{to, after, verdict, tested, taken, change_of, step, access_of, access_of_trigger}
use Rattle.chart_machine.specs.Machine.{machine}
use Rattle.abort_expansion.specs.Transitions.{led}
use Rattle.abort_expansion_laws.specs.Stages.{Entry, Image}
use Rattle.abort_expansion_laws.proofs.Segments.{Segment}
use Rattle.chart_machine_laws.proofs.LyingIn.{IsNested, around, holder}
use Rattle.abort_expansion_laws.proofs.TablesCorrespond.{IsThere}
use Rattle.abort_expansion_laws.proofs.MoreValues.{verdict_over_more}
use Rattle.abort_expansion_laws.specs.CoreRows.{IsSimple, Images, CoreRows}
use Rattle.abort_expansion_laws.specs.Related.{held_back, tests_of, Stands, outside, ended, left, trying, acting, entering, guarding, staying, within, behind}
use Rattle.abort_expansion_laws.specs.Related.{Watches, guards as watch_guards, waits, looks_strong, looks, elsewhere, IsInside, guarded, open_inside, Related}
use Rattle.abort_expansion_laws.proofs.Fronts.{front_free}
use Rattle.abort_expansion_laws.proofs.Unchanged.{never_guarded}
use Rattle.abort_expansion_laws.proofs.StageReached.{Stage}
use Rattle.abort_expansion_laws.proofs.ImageSteps.{pair, ImageStep, image_segment}
use Rattle.abort_expansion_laws.proofs.KnownVariables.{Stepped, stepped, present_there, trigger_known}

-- ---- a simple state of any chart: the step of its first test

module _ (k : Table) where
  -- what a test does, by how it comes out
  pub tested_is : (c : Configuration) (r s : ℕ) (t : Transition) (otherwise : List Move) (b : Bool) → verdict c.variables t.trigger ≡ Some b →
      tested k c r s t otherwise ≡ Some (record { write = None; moves = if b then taken k r s t else otherwise })
  tested_is c r s t otherwise b e = ap (option_map (λ holds. record { write = None; moves = if holds then taken k r s t else otherwise })) e

  pub fails : (d : Configuration) (g v : ℕ) (w : Transition) (rest : List Transition) → is_guarded k d (around k g) ≡ false →
      standing_of d g ≡ at.Trying v (w ∷ rest) →
      verdict d.variables w.trigger ≡ Some false → step k g d ≡ Some (record { variables = d.variables; regions = slice_set d.regions g (at.Trying v rest) })
  fails d g v w rest free stands false_there =
      let on : is_enabled k d g ≡ true = rw (stands, free) refl in
      let does : change_of k d g (standing_of d g) ≡ Some (record { write = None; moves = to g (at.Trying v rest) ∷ [] }) =
      ap (change_of k d g) stands ∙ tested_is d g v w (to g (at.Trying v rest) ∷ []) false false_there in
      rw (on, does) refl

-- ---- where a thread stands, taken apart

pub record IsTrying (k core : Table) (i : Images) (c : Configuration) (r s : ℕ) (tests : List Transition) (y : Standing) : Type 0 where
  pub simple : IsSimple k s
  pub held : holder k s ≡ r
  pub is : y ≡ at.Trying (i.main_of s) (tests_of k core i c r tests)

module _ (k core : Table) (i : Images) (c : Configuration) (r : ℕ) where
  pub trying_back : (x y : Standing) → Stands k core i c r x y → (s : ℕ) (tests : List Transition) → x ≡ at.Trying s tests → IsTrying k core i c r s tests y
  trying_back _ _ outside s tests e = absurd cc
  trying_back _ _ (ended inner) s tests e = absurd cc
  trying_back _ _ (left u ss f over) s tests e = absurd cc
  trying_back _ _ (trying u others simple held) s tests e =
      let state : u ≡ s = cc in
      let same : others ≡ tests = cc in
      record {
        simple = subst (IsSimple k) state simple;
        held = ap (holder k) (sym state) ∙ held;
        is = ap (λ v. at.Trying (i.main_of v) (tests_of k core i c r others)) state ∙ ap (λ v. at.Trying (i.main_of s) (tests_of k core i c r v)) same;
      }
  trying_back _ _ (acting u v p f effects lt) s tests e = absurd cc
  trying_back _ _ (entering u fork t others super held leads) s tests e = absurd cc
  trying_back _ _ (guarding u join t others has held leads) s tests e = absurd cc
  trying_back _ _ (staying u others super held stays) s tests e = absurd cc
  trying_back _ _ (within u join others super held stays open_still leads) s tests e = absurd cc
  trying_back _ _ (behind u others super held over) s tests e = absurd cc

  -- as long as nobody guards it, no strong checks stand in front
  pub no_front : (tests : List Transition) → is_guarded k c (around k r) ≡ false →
      tests_of k core i c r tests ≡ map (led (i.places_of r)) tests ++ held_back k core i r
  no_front tests free = ap (λ zs. zs ++ map (led (i.places_of r)) tests ++ held_back k core i r) (front_free k core i c r free false)

-- ---- where the thread of a region stands that tries this test

module _ (k core : Table) (i : Images) (c d : Configuration) (related : Related k core i c d) (q s : ℕ) (t : Transition) (tests : List Transition)
    (stands : standing_of c q ≡ at.Trying s (t ∷ tests)) where
  pub trying_there : IsThere k q
  trying_there = present_there k core i c d related q (λ e. let wrong : at.Trying s (t ∷ tests) ≡ at.Outside = sym stands ∙ e in absurd cc)

  pub trying_thread : IsTrying k core i c q s (t ∷ tests) (standing_of d (i.thread_of q))
  trying_thread = trying_back k core i c q (standing_of c q) (standing_of d (i.thread_of q)) (related.regions q trying_there) s (t ∷ tests) stands

  pub trying_stands : is_guarded k c (around k q) ≡ false →
      standing_of d (i.thread_of q) ≡ at.Trying (i.main_of s) (led (i.places_of q) t ∷ (map (led (i.places_of q)) tests ++ held_back k core i q))
  trying_stands free = trying_thread.is ∙ ap (at.Trying (i.main_of s)) (no_front k core i c q (t ∷ tests) free)

-- ---- no monitor watches a simple state

module _ (k core : Table) (i : Images) where
  pub watch_other : (o : ℕ) (x y x' : Standing) → Watches k core i o x y →
      ((tests : List Transition) → x ≢ at.Guarding o tests) → ((tests : List Transition) → x ≢ at.Within o tests) →
      ((tests : List Transition) → x' ≢ at.Guarding o tests) → ((tests : List Transition) → x' ≢ at.Within o tests) → Watches k core i o x' y
  watch_other o _ _ x' (watch_guards some among) not_g not_w g w = absurd (not_g (map (λ x. x.1) some) refl)
  watch_other o _ _ x' (looks_strong yet seen parted some among) not_g not_w g w = absurd (not_g (map (λ x. x.1) some) refl)
  watch_other o _ _ x' (waits some joins among ends) not_g not_w g w = absurd (not_w (map (λ x. x.1) some ++ joins) refl)
  watch_other o _ _ x' (looks yet seen parted first some joins among ends) not_g not_w g w = absurd (not_w (map (λ x. x.1) (first ∷ some) ++ joins) refl)
  watch_other o x _ x' (elsewhere z a b) not_g not_w g w = elsewhere x' g w

  pub trying_no_inside : (s u : ℕ) (tests : List Transition) (x : Standing) → x ≡ at.Trying u tests → IsInside k core i s x → ⊥
  trying_no_inside s u tests _ e (guarded others) = absurd cc
  trying_no_inside s u tests _ e (open_inside others) = absurd cc

module _ (k core : Table) (i : Images) (rows : CoreRows k core i) (tree : IsNested k) (counts : ℕ → Bool) (written_at : ℕ → ℕ)
    (c d : Configuration) (related : Related k core i c d) (q s : ℕ) (t : Transition) (tests : List Transition)
    (stands : standing_of c q ≡ at.Trying s (t ∷ tests)) where
  thread : IsTrying k core i c q s (t ∷ tests) (standing_of d (i.thread_of q))
  thread = trying_thread k core i c d related q s t tests stands

  module _ (free : is_guarded k c (around k q) ≡ false) where
    abbrev rest : List Transition
    rest = map (led (i.places_of q)) tests ++ held_back k core i q

    core_stands : standing_of d (i.thread_of q) ≡ at.Trying (i.main_of s) (led (i.places_of q) t ∷ (map (led (i.places_of q)) tests ++ held_back k core i q))
    core_stands = trying_stands k core i c d related q s t tests stands free

    -- a test that fails
    pub failing : verdict c.variables t.trigger ≡ Some false → has_work k c (standing_of c q) ≡ true →
        ImageStep k core i rows tree counts written_at c d q (at.Trying s tests) (at.Trying (i.main_of s) (tests_of k core i c q tests))
        (record { variables = c.variables; regions = slice_set c.regions q (at.Trying s tests) })
        (record { variables = d.variables; regions = slice_set d.regions (i.thread_of q) (at.Trying (i.main_of s) (tests_of k core i c q tests)) })
        (access_of_trigger t.trigger)
    failing false_there works =
        record {
          goes =
              record {
                there = trying_there k core i c d related q s t tests stands;
                chart = refl;
                core_too = refl;
                ends = rw (stands) refl;
                guards_alike = rw (stands) refl;
                was_there = λ e. let wrong : at.Trying s (t ∷ tests) ≡ at.Outside = sym stands ∙ e in absurd cc;
                is_there = λ e. absurd cc;
                stands = trying s tests thread.simple thread.held;
                watches = λ o in_chart has held.
                    watch_other k core i o (standing_of c q) (standing_of d (i.watcher_of o)) (at.Trying s tests)
                    (subst (λ p. Watches k core i o (standing_of c p) (standing_of d (i.watcher_of o))) held (related.watchers o in_chart has))
                    (λ others e. let wrong : at.Trying s (t ∷ tests) ≡ at.Guarding o others = sym stands ∙ e in absurd cc)
                    (λ others e. let wrong : at.Trying s (t ∷ tests) ≡ at.Within o others = sym stands ∙ e in absurd cc)
                    (λ others e. absurd cc) (λ others e. absurd cc);
                inside = λ u held inner. absurd (trying_no_inside k core i u s (t ∷ tests) (standing_of c q) stands inner);
                inside_back = λ u held inner. absurd (trying_no_inside k core i u s tests (at.Trying s tests) refl inner);
                free = free;
                closes = λ v others its w. absurd cc;
                more = related.more;
                variables = related.variables;
                flag_count = related.flag_count;
                values = related.values;
                flags = λ x le. refl;
              };
          works = works;
          free = free;
          steps =
              fails core d (i.thread_of q) (i.main_of s) (led (i.places_of q) t) rest (never_guarded k core i rows c d related (around core (i.thread_of q)))
              core_stands
              (subst (λ vs. verdict vs t.trigger ≡ Some false) (sym related.variables) (verdict_over_more related.more c.variables t.trigger false false_there))
              ∙ ap (λ zs. Some (record { variables = d.variables; regions = slice_set d.regions (i.thread_of q) (at.Trying (i.main_of s) zs) }))
              (sym (no_front k core i c q tests free));
          chart_access = ap access_of stands;
          core_access = ap access_of core_stands;
          declared = λ x touches. let lt = trigger_known c.variables t.trigger false false_there x touches in omega (lt, related.values, arith);
        }

  -- the whole of it: a step of the chart by which a test fails is followed
  pub failing_followed : (Told : Configuration → Entry → Type 0) → Told d (Image q (access_of_trigger t.trigger)) → (next : Configuration) →
      step k q c ≡ Some next → verdict c.variables t.trigger ≡ Some false →
      Segment (machine core) (pair k core i rows tree counts written_at) Told d (Stage k i.thread_of c d) (Stage k i.thread_of next)
      (act_of (machine k) c q ∷ []) (Related k core i next)
  failing_followed Told told next steps false_there =
      let parts : Stepped k q c next = stepped k q c next steps in
      let change : record { write = None; moves = to q (at.Trying s tests) ∷ [] } ≡ parts.change =
      same_Some _ parts.change (sym (ap (change_of k c q) stands ∙ tested_is k c q s t (to q (at.Trying s tests) ∷ []) false false_there) ∙ parts.does) in
      let is : record { variables = c.variables; regions = slice_set c.regions q (at.Trying s tests) } ≡ next = ap (λ e. after e c) change ∙ parts.is in
      subst (λ c'. Segment (machine core) (pair k core i rows tree counts written_at) Told d (Stage k i.thread_of c d) (Stage k i.thread_of c')
      (act_of (machine k) c q ∷ []) (Related k core i c')) is
      (image_segment k core i rows tree counts written_at c d related q (at.Trying s tests) (at.Trying (i.main_of s) (tests_of k core i c q tests))
      (record { variables = c.variables; regions = slice_set c.regions q (at.Trying s tests) })
      (record { variables = d.variables; regions = slice_set d.regions (i.thread_of q) (at.Trying (i.main_of s) (tests_of k core i c q tests)) })
      (access_of_trigger t.trigger) (failing parts.free false_there parts.works) Told told)
