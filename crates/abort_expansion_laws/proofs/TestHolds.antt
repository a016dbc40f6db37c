-- A test of a simple state that holds, with effects: region and thread go on with these.
use Rattle.std.proofs.Common.{◌≡◌, ℕ, ◌<◌, Bool, true, false, Some, None, List, [], ◌∷◌, ◌++◌, map, length, slice_get, slice_set, unwrap_or, refl, sym, ap}
use Rattle.std.proofs.Common.{subst, ◌∙◌, arith, if◌then◌else◌}
use Rattle.std.proofs.lemmas.Option.{same_Some}
use Rattle.sc_values.specs.Runs.{act_of}
use Rattle.core_charts.specs.declared.region.Effect.{Effect}
use Rattle.core_charts.specs.declared.region.Transition.{Transition}
use Rattle.chart_machine.specs.declared.standing.Standing.{Standing}
use Rattle.chart_machine.specs.declared.standing.Standing.TheVariants as at
use Rattle.chart_machine.specs.declared.standing.Configuration.{Configuration}
use Rattle.chart_machine.specs.declared.table.Table.{Table}
use Rattle.chart_machine.specs.Table.{region_at}
use Rattle.chart_machine.specs.Turns.{standing_of, has_work, is_guarded}
use Rattle.chart_machine.specs.Steps.{to, after, verdict, taken, change_of, step, access_of, access_of_trigger}
use Rattle.chart_machine.specs.Machine.{machine}
use Rattle.abort_expansion.specs.Transitions.{led}
use Rattle.abort_expansion_laws.specs.Stages.{Entry, Image}
use Rattle.abort_expansion_laws.proofs.Segments.{Segment}
use Rattle.chart_machine_laws.proofs.LyingIn.{IsNested, around}
use Rattle.abort_expansion_laws.proofs.MoreValues.{verdict_over_more}
use Rattle.abort_expansion_laws.specs.CoreRows.{Images, CoreRows}
use Rattle.abort_expansion_laws.specs.Related.{held_back, acting, Watches, IsInside, guarded, open_inside, Related}
use Rattle.abort_expansion_laws.proofs.Unchanged.{never_guarded}
use Rattle.abort_expansion_laws.proofs.StageReached.{Stage}
use Rattle.abort_expansion_laws.proofs.RegionGoesOn.{GoesOn}
use Rattle.abort_expansion_laws.proofs.ImageSteps.{pair, ImageStep, image_segment}
use Rattle.abort_expansion_laws.proofs.KnownVariables.{Stepped, stepped, trigger_known}
use Rattle.chart_machine.specs.Turns.{inside}
use Rattle.abort_expansion.specs.declared.places.RegionPlaces.{RegionPlaces}
use Rattle.abort_expansion.specs.Transitions.{on, count_down, counting, place_of}
use Rattle.abort_expansion_laws.proofs.TestFails.{tested_is, trying_there, trying_stands, watch_other, trying_no_inside}
use Rattle.abort_expansion_laws.proofs.CoreSteps.{takes}

pub counting_first : (places : RegionPlaces) (target : ℕ) (e : Effect) (es : List Effect) → counting places target (e ∷ es) ≡ e ∷ counting places target es
counting_first places target e es = by_case (unwrap_or (slice_get places.finals target) false) (on places.counter count_down)
  where
    by_case : (b : Bool) (more : List Effect) → (if b then (e ∷ es) ++ more else e ∷ es) ≡ e ∷ (if b then es ++ more else es)
    by_case true more = refl
    by_case false more = refl

pub acting_no_inside : (k core : Table) (i : Images) (s u p : ℕ) (effects : List Effect) (x : Standing) → x ≡ at.Acting u effects p → IsInside k core i s x → ⊥
acting_no_inside k core i s u p effects _ e (guarded others) = absurd cc
acting_no_inside k core i s u p effects _ e (open_inside others) = absurd cc

-- ---- from the test the region comes to do effects, and so does its thread

module _ (k core : Table) (i : Images) (rows : CoreRows k core i) (c d : Configuration) (related : Related k core i c d) (q s : ℕ) (t : Transition)
    (tests : List Transition) (stands : standing_of c q ≡ at.Trying s (t ∷ tests)) (free : is_guarded k c (around k q) ≡ false)
    (e : Effect) (es : List Effect) (target_there : t.target < length (region_at k q).states) where
  abbrev acts : Standing
  acts = at.Acting s (e ∷ es) t.target

  abbrev thread_acts : Standing
  thread_acts = at.Acting (i.main_of s) (counting (i.places_of q) t.target (e ∷ es)) (place_of (i.places_of q) t.target)

  pub acting_goes_on : GoesOn k core i rows c d q acts thread_acts (record { variables = c.variables; regions = slice_set c.regions q acts })
      (record { variables = d.variables; regions = slice_set d.regions (i.thread_of q) thread_acts })
  acting_goes_on =
      record {
        there = trying_there k core i c d related q s t tests stands;
        chart = refl;
        core_too = refl;
        ends = rw (stands) refl;
        guards_alike = rw (stands) refl;
        was_there = λ w. let wrong : at.Trying s (t ∷ tests) ≡ at.Outside = sym stands ∙ w in absurd cc;
        is_there = λ w. absurd cc;
        stands = acting s (i.main_of s) t.target e es target_there;
        watches = λ o in_chart has held.
            watch_other k core i o (standing_of c q) (standing_of d (i.watcher_of o)) acts
            (subst (λ p. Watches k core i o (standing_of c p) (standing_of d (i.watcher_of o))) held (related.watchers o in_chart has))
            (λ others w. let wrong : at.Trying s (t ∷ tests) ≡ at.Guarding o others = sym stands ∙ w in absurd cc)
            (λ others w. let wrong : at.Trying s (t ∷ tests) ≡ at.Within o others = sym stands ∙ w in absurd cc)
            (λ others w. absurd cc) (λ others w. absurd cc);
        inside = λ u held inner. absurd (trying_no_inside k core i u s (t ∷ tests) (standing_of c q) stands inner);
        inside_back = λ u held inner. absurd (acting_no_inside k core i u s t.target (e ∷ es) acts refl inner);
        closes = λ v others its w. absurd cc;
        free = free;
        more = related.more;
        variables = related.variables;
        flag_count = related.flag_count;
        values = related.values;
        flags = λ x le. refl;
      }

-- ---- the step

module _ (k core : Table) (i : Images) (rows : CoreRows k core i) (tree : IsNested k) (counts : ℕ → Bool) (written_at : ℕ → ℕ)
    (c d : Configuration) (related : Related k core i c d) (q s : ℕ) (t : Transition) (tests : List Transition)
    (stands : standing_of c q ≡ at.Trying s (t ∷ tests))
    (e : Effect) (es : List Effect) (has_effects : t.effects ≡ e ∷ es) (target_there : t.target < length (region_at k q).states)
    (alone : inside k s ≡ []) (core_alone : inside core (i.main_of s) ≡ []) where
  module _ (free : is_guarded k c (around k q) ≡ false) where
    abbrev rest : List Transition
    rest = map (led (i.places_of q)) tests ++ held_back k core i q

    core_stands : standing_of d (i.thread_of q) ≡ at.Trying (i.main_of s) (led (i.places_of q) t ∷ (map (led (i.places_of q)) tests ++ held_back k core i q))
    core_stands = trying_stands k core i c d related q s t tests stands free

    abbrev pub core_acts : Standing
    core_acts = at.Acting (i.main_of s) (e ∷ counting (i.places_of q) t.target es) (place_of (i.places_of q) t.target)

    counted : counting (i.places_of q) t.target t.effects ≡ e ∷ counting (i.places_of q) t.target es
    counted = ap (counting (i.places_of q) t.target) has_effects ∙ counting_first (i.places_of q) t.target e es

    pub holding : verdict c.variables t.trigger ≡ Some true → has_work k c (standing_of c q) ≡ true →
        ImageStep k core i rows tree counts written_at c d q (at.Acting s (e ∷ es) t.target) core_acts
        (record { variables = c.variables; regions = slice_set c.regions q (at.Acting s (e ∷ es) t.target) })
        (record { variables = d.variables; regions = slice_set d.regions (i.thread_of q) core_acts })
        (access_of_trigger t.trigger)
    holding true_there works =
        record {
          goes =
              subst (λ fs. GoesOn k core i rows c d q (at.Acting s (e ∷ es) t.target) (at.Acting (i.main_of s) fs (place_of (i.places_of q) t.target))
              (record { variables = c.variables; regions = slice_set c.regions q (at.Acting s (e ∷ es) t.target) })
              (record {
                variables = d.variables;
                regions = slice_set d.regions (i.thread_of q) (at.Acting (i.main_of s) fs (place_of (i.places_of q) t.target));
              }))
              (counting_first (i.places_of q) t.target e es) (acting_goes_on k core i rows c d related q s t tests stands free e es target_there);
          works = works;
          free = free;
          steps =
              takes core d (i.thread_of q) (i.main_of s) (led (i.places_of q) t) rest e (counting (i.places_of q) t.target es)
              (never_guarded k core i rows c d related (around core (i.thread_of q))) core_stands
              (subst (λ vs. verdict vs t.trigger ≡ Some true) (sym related.variables) (verdict_over_more related.more c.variables t.trigger true true_there))
              core_alone counted;
          chart_access = ap access_of stands;
          core_access = ap access_of core_stands;
          declared = λ x touches. let lt = trigger_known c.variables t.trigger true true_there x touches in omega (lt, related.values, arith);
        }

  -- the whole of it
  pub holding_followed : (Told : Configuration → Entry → Type 0) → Told d (Image q (access_of_trigger t.trigger)) → (next : Configuration) →
      step k q c ≡ Some next → verdict c.variables t.trigger ≡ Some true →
      Segment (machine core) (pair k core i rows tree counts written_at) Told d (Stage k i.thread_of c d) (Stage k i.thread_of next)
      (act_of (machine k) c q ∷ []) (Related k core i next)
  holding_followed Told told next steps true_there =
      let parts : Stepped k q c next = stepped k q c next steps in
      let moves : taken k q s t ≡ to q (at.Acting s (e ∷ es) t.target) ∷ [] = rw (alone, has_effects) refl in
      let change : record { write = None; moves = to q (at.Acting s (e ∷ es) t.target) ∷ [] } ≡ parts.change =
      same_Some _ parts.change (sym (ap (change_of k c q) stands ∙ (tested_is k c q s t (to q (at.Trying s tests) ∷ []) true true_there ∙
      ap (λ ms. Some (record { write = None; moves = ms })) moves)) ∙ parts.does) in
      let is : record { variables = c.variables; regions = slice_set c.regions q (at.Acting s (e ∷ es) t.target) } ≡ next = ap (λ w. after w c) change ∙
      parts.is in
      subst (λ c'. Segment (machine core) (pair k core i rows tree counts written_at) Told d (Stage k i.thread_of c d) (Stage k i.thread_of c')
      (act_of (machine k) c q ∷ []) (Related k core i c')) is
      (image_segment k core i rows tree counts written_at c d related q (at.Acting s (e ∷ es) t.target) (core_acts parts.free)
      (record { variables = c.variables; regions = slice_set c.regions q (at.Acting s (e ∷ es) t.target) })
      (record { variables = d.variables; regions = slice_set d.regions (i.thread_of q) (core_acts parts.free) })
      (access_of_trigger t.trigger) (holding parts.free true_there parts.works) Told told)
