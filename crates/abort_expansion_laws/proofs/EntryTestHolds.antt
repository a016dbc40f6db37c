-- A strong abort of a superstate on entry that is taken: nobody is inside, so region and thread go on with its effects.
use Rattle.std.proofs.Common.{◌≡◌, ℕ, zero, suc, ◌<◌, Bool, true, false, Option, Some, None, List, [], ◌∷◌, ◌++◌, map, length, slice_set}
use Rattle.std.proofs.Common.{Contains, refl, sym, ap, subst, ◌∙◌, arith}
use Rattle.std.proofs.lemmas.Option.{same_Some}
use Rattle.sc_values.specs.Runs.{act_of}
use Rattle.core_charts.specs.declared.region.Effect.{Effect}
use Rattle.core_charts.specs.declared.region.Transition.{Transition}
use Rattle.chart_machine.specs.declared.standing.Standing.{Standing}
use Rattle.chart_machine.specs.declared.standing.Standing.TheVariants as at
use Rattle.chart_machine.specs.declared.standing.Configuration.{Configuration}
use Rattle.chart_machine.specs.declared.standing.Move.{Move}
use Rattle.chart_machine.specs.declared.table.Table.{Table}
use Rattle.chart_machine.specs.Table.{state_at, region_at}
use Rattle.chart_machine.specs.Turns.{standing_of, has_ended, is_guarded, inside}
use Rattle.chart_machine.specs.Steps.{state_in, to, moved, after, verdict, taken, entering_on, change_of, step, access_of, access_of_trigger}
use Rattle.chart_machine.specs.Machine.{machine}
use Rattle.abort_expansion.specs.Transitions.{go, put, led_by, counting, place_of}
use Rattle.abort_expansion.specs.Superstates.{resets}
use Rattle.chart_machine_laws.proofs.LyingIn.{IsNested, around, head_in, tail_in}
use Rattle.abort_expansion_laws.specs.CoreRows.{IsState, Images, CoreRows}
use Rattle.abort_expansion_laws.specs.Related.{acting, Watches, IsInside, Related}
use Rattle.abort_expansion_laws.specs.Stages.{Entry, Image, Silent}
use Rattle.abort_expansion_laws.proofs.TablesCorrespond.{IsThere}
use Rattle.abort_expansion_laws.proofs.Segments.{Segment}
use Rattle.abort_expansion_laws.proofs.MoreValues.{verdict_over_more}
use Rattle.abort_expansion_laws.proofs.Unchanged.{stands_same, never_guarded, nobody_lies}
use Rattle.abort_expansion_laws.proofs.StageReached.{Stage}
use Rattle.abort_expansion_laws.proofs.RegionGoesOn.{BareGoesOn, bare_free, bare_goes_on}
use Rattle.abort_expansion_laws.proofs.ImageSteps.{pair, RegionStep, region_to, region_related}
use Rattle.abort_expansion_laws.proofs.KnownVariables.{Stepped, stepped, present_there, trigger_known}
use Rattle.abort_expansion_laws.proofs.Leaving.{drops, at_number, moved_append}
use Rattle.abort_expansion_laws.proofs.InsideAround.{inside_around}
use Rattle.abort_expansion_laws.proofs.TestFails.{tested_is, watch_other}
use Rattle.abort_expansion_laws.proofs.TestHolds.{acting_no_inside}
use Rattle.abort_expansion_laws.proofs.EntryTestFails.{IsEntering, entering_back, entering_no_inside}
use Rattle.abort_expansion_laws.proofs.CoreSteps.{takes}
use Rattle.abort_expansion_laws.proofs.TestHolds.{counting_first}
use Rattle.abort_expansion_laws.proofs.StartingRegions.{CounterRows}
use Rattle.abort_expansion_laws.proofs.EffectAhead.{BeginsAt, overwritten}
use Rattle.abort_expansion_laws.proofs.TakesTarget.{GoesIn, goes_in, entered_after, test_enters, test_counts}
use Rattle.abort_expansion_laws.proofs.Owed.{Enters, chart_enters}
use Rattle.sc_values.specs.Access.{Access}
use Rattle.chart_machine_laws.proofs.ChartTables.{around_there}

-- ---- nobody is dropped where nobody is

pub set_out_again : (zs : List Standing) (r : ℕ) → at_number zs r ≡ at.Outside → slice_set zs r at.Outside ≡ zs
set_out_again [] r e = refl
set_out_again (z ∷ zs) zero e = ap (λ x. x ∷ zs) (sym e)
set_out_again (z ∷ zs) (suc r) e = ap (λ xs. z ∷ xs) (set_out_again zs r e)

pub drops_nobody : (rs : List ℕ) (zs : List Standing) → ((r : ℕ) → Contains rs r → at_number zs r ≡ at.Outside) → moved (drops rs) zs ≡ zs
drops_nobody [] zs none = refl
drops_nobody (r ∷ rs) zs none =
    let first = set_out_again zs r (none r (head_in r rs)) in
    ap (moved (drops rs)) first ∙ drops_nobody rs zs (λ q h. none q (tail_in r q rs h))

module _ (k core : Table) (i : Images) (rows : CoreRows k core i) (tree : IsNested k) (counts : ℕ → Bool) (written_at : ℕ → ℕ)
    (c d : Configuration) (related : Related k core i c d) (q s : ℕ) (t : Transition) (tests : List Transition)
    (stands : standing_of c q ≡ at.Entering s (t ∷ tests)) where
  pub there : IsThere k q
  there = present_there k core i c d related q (λ w. let wrong : at.Entering s (t ∷ tests) ≡ at.Outside = sym stands ∙ w in absurd cc)

  pub thread : IsEntering k core i q s (t ∷ tests) (standing_of d (i.thread_of q))
  thread = entering_back k core i c q (standing_of c q) (standing_of d (i.thread_of q)) (related.regions q there) s (t ∷ tests) stands

  abbrev pub rest : List Transition
  rest = map (λ z. led_by (i.places_of q) z.trigger z) tests ++ go true None (resets (i.flags_of s) (length (state_at k s).regions)) thread.fork ∷ []

  pub core_stands : standing_of d (i.thread_of q) ≡ at.Trying (i.entry_of s) (led_by (i.places_of q) t.trigger t ∷ rest)
  core_stands = thread.is

  pub bare : (u : ℕ) → IsInside k core i u (standing_of c q) → ⊥
  bare u inner = entering_no_inside k core i c q u s (t ∷ tests) (standing_of c q) stands inner

  -- whatever lies in the superstate is outside already
  pub nobody_inside : (r : ℕ) → Contains (inside k s) r → at_number c.regions r ≡ at.Outside
  nobody_inside r h =
      let inner = inside_around k s r h in
      nobody_lies k core i c d related q (λ u its within_it. bare u within_it) r s (around_there k r s inner) inner thread.held

  -- where the region goes on with these effects to this place, and its thread
  abbrev pub chart_next : List Effect → ℕ → Configuration
  chart_next effects p = record { variables = c.variables; regions = slice_set c.regions q (at.Acting s effects p) }

  abbrev pub core_next : List Effect → ℕ → Configuration
  core_next effects p =
      record {
        variables = d.variables;
        regions =
            slice_set d.regions (i.thread_of q)
            (at.Acting (i.entry_of s) (counting (i.places_of q) p effects) (place_of (i.places_of q) p));
      }

  pub acts_then : (e : Effect) (es : List Effect) (p : ℕ) → p < length (region_at k q).states → is_guarded k c (around k q) ≡ false →
      BareGoesOn k core i rows c d q (at.Acting s (e ∷ es) p)
      (at.Acting (i.entry_of s) (counting (i.places_of q) p (e ∷ es)) (place_of (i.places_of q) p)) (chart_next (e ∷ es) p) (core_next (e ∷ es) p)
  acts_then e es p target_there free =
      record {
        there = there;
        chart = refl;
        core_too = refl;
        ends = rw (stands) refl;
        was_there = λ w. let wrong : at.Entering s (t ∷ tests) ≡ at.Outside = sym stands ∙ w in absurd cc;
        is_there = λ w. absurd cc;
        stands = acting s (i.entry_of s) p e es target_there;
        watches = λ o in_chart has held.
            watch_other k core i o (standing_of c q) (standing_of d (i.watcher_of o)) (at.Acting s (e ∷ es) p)
            (subst (λ r. Watches k core i o (standing_of c r) (standing_of d (i.watcher_of o))) held (related.watchers o in_chart has))
            (λ others w. let wrong : at.Entering s (t ∷ tests) ≡ at.Guarding o others = sym stands ∙ w in absurd cc)
            (λ others w. let wrong : at.Entering s (t ∷ tests) ≡ at.Within o others = sym stands ∙ w in absurd cc)
            (λ others w. absurd cc) (λ others w. absurd cc);
        bare = bare;
        bare_then = λ u inner. acting_no_inside k core i u s p (e ∷ es) (at.Acting s (e ∷ es) p) refl inner;
        free = free;
        more = related.more;
        variables = related.variables;
        flag_count = related.flag_count;
        values = related.values;
        flags = λ x le. refl;
      }

  pub region_step : (b : Bool) (y : Standing) (c' : Configuration) → c'.regions ≡ slice_set c.regions q y → has_ended y ≡ false →
      is_guarded k c (around k q) ≡ false → verdict c.variables t.trigger ≡ Some b →
      RegionStep k core i rows tree counts written_at c d q y c' (access_of_trigger t.trigger)
  region_step b y c' chart goes_on free comes =
      record {
        there = there;
        chart = chart;
        ends = goes_on ∙ sym (ap has_ended stands);
        was_there = λ w. let wrong : at.Entering s (t ∷ tests) ≡ at.Outside = sym stands ∙ w in absurd cc;
        works = rw (stands) refl;
        free = free;
        chart_access = ap access_of stands;
        core_access = ap access_of core_stands;
        declared = λ x touches. let lt = trigger_known c.variables t.trigger b comes x touches in omega (lt, related.values, arith);
      }

  -- the chart's step, where these are the moves behind the dropping of its inside
  chart_goes : (next : Configuration) (moves : List Move) → step k q c ≡ Some next → verdict c.variables t.trigger ≡ Some true →
      taken k q s t ≡ drops (inside k s) ++ moves → record { variables = c.variables; regions = moved moves c.regions } ≡ next
  chart_goes next moves steps true_there are =
      let parts : Stepped k q c next = stepped k q c next steps in
      let change : record { write = None; moves = drops (inside k s) ++ moves } ≡ parts.change =
      same_Some _ parts.change
      (sym (ap (change_of k c q) stands ∙ (tested_is k c q s t (entering_on k q s tests) true true_there ∙
      ap (λ ms. Some (record { write = None; moves = ms })) are)) ∙ parts.does) in
      let all : moved (drops (inside k s) ++ moves) c.regions ≡ moved moves c.regions =
      moved_append (drops (inside k s)) moves c.regions ∙ ap (moved moves) (drops_nobody (inside k s) c.regions nobody_inside) in
      ap (λ zs. record { variables = c.variables; regions = zs }) (sym all) ∙ (ap (λ w. after w c) change ∙ parts.is)

  core_holds : verdict c.variables t.trigger ≡ Some true → verdict d.variables t.trigger ≡ Some true
  core_holds true_there =
      subst (λ vs. verdict vs t.trigger ≡ Some true) (sym related.variables) (verdict_over_more related.more c.variables t.trigger true true_there)

  nobody_guards : is_guarded core d (around core (i.thread_of q)) ≡ false
  nobody_guards = never_guarded k core i rows c d related (around core (i.thread_of q))

  -- with effects
  pub entry_followed : (e : Effect) (es : List Effect) → t.effects ≡ e ∷ es → t.target < length (region_at k q).states →
      inside core (i.entry_of s) ≡ [] → (Told : Configuration → Entry → Type 0) → Told d (Image q (access_of_trigger t.trigger)) →
      (next : Configuration) → step k q c ≡ Some next → verdict c.variables t.trigger ≡ Some true →
      Segment (machine core) (pair k core i rows tree counts written_at) Told d (Stage k i.thread_of c d) (Stage k i.thread_of next)
      (act_of (machine k) c q ∷ []) (Related k core i next)
  entry_followed e es has_effects target_there core_alone Told told next steps true_there =
      let parts : Stepped k q c next = stepped k q c next steps in
      let moves : taken k q s t ≡ drops (inside k s) ++ to q (at.Acting s (e ∷ es) t.target) ∷ [] = rw (has_effects) refl in
      let counted : counting (i.places_of q) t.target t.effects ≡ e ∷ counting (i.places_of q) t.target es =
      ap (counting (i.places_of q) t.target) has_effects ∙ counting_first (i.places_of q) t.target e es in
      let core_steps : step core (i.thread_of q) d ≡ Some (core_next (e ∷ es) t.target) =
      takes core d (i.thread_of q) (i.entry_of s) (led_by (i.places_of q) t.trigger t) rest e (counting (i.places_of q) t.target es)
      nobody_guards core_stands (core_holds true_there) core_alone counted ∙
      ap (λ fs. Some (record {
        variables = d.variables;
        regions = slice_set d.regions (i.thread_of q) (at.Acting (i.entry_of s) fs (place_of (i.places_of q) t.target));
      })) (sym (counting_first (i.places_of q) t.target e es)) in
      subst (λ c'. Segment (machine core) (pair k core i rows tree counts written_at) Told d (Stage k i.thread_of c d) (Stage k i.thread_of c')
      (act_of (machine k) c q ∷ []) (Related k core i c')) (chart_goes next (to q (at.Acting s (e ∷ es) t.target) ∷ []) steps true_there moves)
      (region_related k core i rows tree counts written_at c d related q (at.Acting s (e ∷ es) t.target)
      (chart_next (e ∷ es) t.target) (access_of_trigger t.trigger)
      (region_step true (at.Acting s (e ∷ es) t.target) (chart_next (e ∷ es) t.target) refl refl parts.free true_there)
      (core_next (e ∷ es) t.target) core_steps
      (bare_goes_on k core i rows c d related q (at.Acting s (e ∷ es) t.target)
      (at.Acting (i.entry_of s) (counting (i.places_of q) t.target (e ∷ es)) (place_of (i.places_of q) t.target))
      (chart_next (e ∷ es) t.target) (core_next (e ∷ es) t.target) (acts_then e es t.target target_there parts.free))
      Told told)

  -- without: its target is entered
  module _ (Told : Configuration → Entry → Type 0)
      (told_silent : (d : Configuration) (t : ℕ) (stage : Option (ℕ × ℕ)) (a : Access) → Told d (Silent t stage a))
      (counters : CounterRows k core i rows counts written_at) (super_there : (q u : ℕ) → IsThere k q → Contains (around k q) u → IsState k u)
      (enters : Enters k core i rows tree counts written_at Told) (no_effects : t.effects ≡ []) (target_there : t.target < length (region_at k q).states)
      (core_alone : inside core (i.entry_of s) ≡ []) (chart_first : BeginsAt q (state_at k (state_in k q t.target)).entered)
      (core_first : BeginsAt (i.thread_of q) (state_at core (i.entry_of (state_in k q t.target))).entered)
      (free : is_guarded k c (around k q) ≡ false) (true_there : verdict c.variables t.trigger ≡ Some true) where
    abbrev one : Effect
    one = put 0 0

    abbrev y : Standing
    y = at.Acting s (one ∷ []) t.target

    abbrev z : Standing
    z = at.Acting (i.entry_of s) (counting (i.places_of q) t.target (one ∷ [])) (place_of (i.places_of q) t.target)

    abbrev c1 : Configuration
    c1 = chart_next (one ∷ []) t.target

    abbrev d1 : Configuration
    d1 = core_next (one ∷ []) t.target

    goes : BareGoesOn k core i rows c d q y z c1 d1
    goes = acts_then one [] t.target target_there free

    related1 : Related k core i c1 d1
    related1 = bare_goes_on k core i rows c d related q y z c1 d1 goes

    here1 : standing_of c1 q ≡ y
    here1 = let lt = there.1 in stands_same c c1 q y refl (omega (lt, related.chart_regions, arith))

    into : Told d (Image q (access_of_trigger t.trigger)) →
        GoesIn k core i rows tree counts written_at Told c d c1 d1 q t.target (act_of (machine k) c q)
    into told =
        let does : counting (i.places_of q) t.target t.effects ≡ counting (i.places_of q) t.target [] =
        ap (counting (i.places_of q) t.target) no_effects in
        goes_in k core i rows tree counts written_at Told told_silent counters super_there c d q s t.target one there target_there (i.entry_of s) d.variables
        (test_enters k core i rows tree counts written_at Told d q t.target (i.entry_of s) (led_by (i.places_of q) t.trigger t) rest there target_there
        nobody_guards core_stands (core_holds true_there) does refl core_alone)
        (test_counts k core i rows tree counts written_at Told d q t.target (i.entry_of s) (led_by (i.places_of q) t.trigger t) rest there target_there
        nobody_guards core_stands (core_holds true_there) does refl core_alone)
        core_first c1 z related1 here1 (bare_free k core i rows c d related q y z c1 d1 goes) (act_of (machine k) c q)
        (λ f steps. region_to k core i rows tree counts written_at c d related q y c1 (access_of_trigger t.trigger)
        (region_step true y c1 refl refl free true_there) f steps Told told)

    chart_same : chart_enters k core i c1 q t.target ≡ record {
      variables = c.variables;
      regions = moved (state_at k (state_in k q t.target)).entered c.regions;
    }
    chart_same =
        ap (λ zs. record { variables = c.variables; regions = zs })
        (overwritten q (state_at k (state_in k q t.target)).entered chart_first c.regions y)

    pub entry_taken : Told d (Image q (access_of_trigger t.trigger)) → (next : Configuration) → step k q c ≡ Some next →
        Segment (machine core) (pair k core i rows tree counts written_at) Told d (Stage k i.thread_of c d) (Stage k i.thread_of next)
        (act_of (machine k) c q ∷ []) (Related k core i next)
    entry_taken told next steps =
        let moves : taken k q s t ≡ drops (inside k s) ++ (state_at k (state_in k q t.target)).entered = rw (no_effects) refl in
        let g = into told in
        subst (λ w. Segment (machine core) (pair k core i rows tree counts written_at) Told d (Stage k i.thread_of c d) (Stage k i.thread_of w)
        (act_of (machine k) c q ∷ []) (Related k core i w))
        (chart_same ∙ chart_goes next (state_at k (state_in k q t.target)).entered steps true_there moves)
        (entered_after k core i rows tree counts written_at Told enters c d c1 d1 related1 q s t.target one here1
        (bare_free k core i rows c d related q y z c1 d1 goes) g.values g.counted (act_of (machine k) c q) g.part)
