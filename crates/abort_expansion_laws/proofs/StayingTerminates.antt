-- The termination of a superstate that stays as it is: its thread takes the same one.
use Rattle.std.proofs.Common.{◌≡◌, ◌≢◌, ℕ, ◌<◌, inl, inr, ⊎_elim, Bool, true, false, not, ◌||◌, Option, Some, None, List, [], ◌∷◌, ◌++◌, map, length}
use Rattle.std.proofs.Common.{slice_set, Contains, refl, sym, ap, subst, ◌∙◌, arith}
use Rattle.std.proofs.lemmas.Bool.{or_parts, not-true}
use Rattle.std.proofs.lemmas.List.{length-set}
use Rattle.sc_values.specs.Access.{Access, no_access}
use Rattle.sc_values.specs.Runs.{act_of}
use Rattle.core_charts.specs.declared.region.Effect.{Effect}
use Rattle.core_charts.specs.declared.region.Transition.{Transition}
use Rattle.core_charts.specs.Tests.{is_join}
use Rattle.core_charts.specs.Aborts.{has_aborts}
use Rattle.chart_machine.specs.declared.standing.Standing.{Standing}
use Rattle.chart_machine.specs.declared.standing.Standing.TheVariants as at
use Rattle.chart_machine.specs.declared.standing.Configuration.{Configuration}
use Rattle.chart_machine.specs.declared.table.Table.{Table}
use Rattle.chart_machine.specs.Table.{state_at, region_at}
use Rattle.chart_machine.specs.Turns.{standing_of, has_ended, has_work, is_guarded, inside}
use Rattle.chart_machine.specs.Steps.{to, state_in, moved, acts, verdict, change_of, access_of, access_of_trigger, step}
use Rattle.chart_machine.specs.Machine.{machine}
use Rattle.abort_expansion.specs.Flags.{aborts_around}
use Rattle.abort_expansion.specs.Transitions.{put, counting, place_of, led}
use Rattle.abort_expansion.specs.Superstates.{stays}
use Rattle.chart_lowering_laws.proofs.Finished.{each_all}
use Rattle.abort_expansion_laws.specs.Stages.{Entry, Image, Silent, Correspondence}
use Rattle.abort_expansion_laws.proofs.Supplying.{climbs_fewer}
use Rattle.abort_expansion_laws.proofs.Segments.{Segment}
use Rattle.abort_expansion_laws.proofs.SilentSteps.{AtHome}
use Rattle.chart_machine_laws.proofs.LyingIn.{IsNested, around, holder}
use Rattle.abort_expansion_laws.proofs.TablesCorrespond.{IsThere}
use Rattle.chart_machine_laws.proofs.ChartTables.{around_there}
use Rattle.abort_expansion_laws.specs.CoreRows.{own, IsState, IsSuper, Images, CoreRows, StayingImage, flags_around, pair}
use Rattle.abort_expansion_laws.specs.Related.{acting, IsInside, open_inside, Related}
use Rattle.abort_expansion_laws.proofs.Unchanged.{never_guarded}
use Rattle.abort_expansion_laws.proofs.StageReached.{Stage, holds_other, inside_in}
use Rattle.abort_expansion_laws.proofs.StartingRegions.{CounterRows}
use Rattle.abort_expansion_laws.proofs.EffectAhead.{BeginsAt}
use Rattle.abort_expansion_laws.proofs.Owed.{Enters}
use Rattle.abort_expansion_laws.proofs.InsideAround.{inside_around}
use Rattle.abort_expansion_laws.proofs.Leaving.{drops, set_here, set_other, drops_in, drops_out, drops_length, terminated}
use Rattle.abort_expansion_laws.proofs.StandsInside.{only_inside, inside_not_acting}
use Rattle.abort_expansion_laws.proofs.DropsOut.{DropsOut, dropped_out}
use Rattle.abort_expansion_laws.proofs.SuperstateLeft as left_for
use Rattle.abort_expansion_laws.proofs.TerminationNext as next
use Rattle.abort_expansion_laws.proofs.TerminationImage as taken
use Rattle.tick_laws.proofs.Lists.{contains_map}

module _ (k core : Table) (i : Images) (rows : CoreRows k core i) (tree : IsNested k) (core_tree : IsNested core) (counts : ℕ → Bool) (written_at : ℕ → ℕ)
    (counters : CounterRows k core i rows counts written_at)
    (children : (s r : ℕ) → Contains (state_at k s).regions r → around k r ≡ s ∷ around k (holder k s))
    (c d : Configuration) (related : Related k core i c d) (r s : ℕ) (held : holder k s ≡ r) (t : Transition) (rest : List Transition)
    (stands : standing_of c r ≡ at.Within s (t ∷ rest)) (join : is_join t.kind ≡ true) (works : has_work k c (standing_of c r) ≡ true)
    (free : is_guarded k c (around k r) ≡ false) (no_trigger : t.trigger ≡ None) (s_there : IsState k s) (super : IsSuper k s)
    (stay : stays (flags_around k core i r) (own k s) ≡ true)
    (core_stands : standing_of d (i.thread_of r) ≡ at.Within (i.main_of s) (map (led (i.places_of r)) (t ∷ rest)))
    (target_there : t.target < length (region_at k r).states) where
  abbrev corr : Correspondence
  corr = pair k core i rows tree counts written_at

  image : StayingImage k core i s
  image = rows.staying s s_there super (subst (λ q. stays (flags_around k core i q) (own k s) ≡ true) (sym held) stay)

  no_aborts : has_aborts (own k s) ≡ false
  no_aborts =
      (or_parts (has_aborts (own k s)) (aborts_around (flags_around k core i r))
      (not-true (has_aborts (own k s) || aborts_around (flags_around k core i r)) stay)).0

  main_held : holder core (i.main_of s) ≡ i.thread_of r
  main_held = rows.held s ∙ ap i.thread_of held

  over : (g : ℕ) → Contains (around core g) (i.main_of s) → next.IsOver (standing_of d g)
  over g h =
      ⊎_elim (λ it. it) (λ monitor. let wrong : true ≡ false = sym monitor.1 ∙ no_aborts in absurd cc)
      (next.core_over k core i rows tree counts written_at counters children c d related r s held t rest stands join works g h)

  child_over : (g : ℕ) → Contains (state_at core (i.main_of s)).regions g → has_ended (standing_of d g) ≡ true
  child_over g h =
      let q = contains_map i.thread_of (state_at k s).regions g (subst (λ zs. Contains zs g) (ap (λ z. z.regions) image.row) h) in
      ap (λ v. has_ended (standing_of d v)) (sym q.2)
      ∙ ap has_ended (next.child_thread_ended k core i rows tree counts written_at counters children c d related r s held t rest stands join works q.0 q.1)

  idle : (g : ℕ) → Contains (inside core (i.main_of s)) g → not (has_work core d (standing_of d g)) ≡ true
  idle g h = by_over (over g (inside_around core (i.main_of s) g h))
    where
      by_over : next.IsOver (standing_of d g) → not (has_work core d (standing_of d g)) ≡ true
      by_over (inl e) = ap (λ w. not (has_work core d w)) e
      by_over (inr e) = ap (λ w. not (has_work core d w)) e

  steps : step core (i.thread_of r) d ≡ Some (record {
    variables = d.variables;
    regions = moved (acts core (i.thread_of r) (i.main_of s) (counting (i.places_of r) t.target t.effects) (place_of (i.places_of r) t.target))
        (moved (drops (inside core (i.main_of s))) d.regions);
  })
  steps =
      terminated core d (i.thread_of r) (i.main_of s) (led (i.places_of r) t) (map (led (i.places_of r)) rest)
      (never_guarded k core i rows c d related (around core (i.thread_of r))) core_stands join no_trigger
      (each_all (λ g. has_ended (standing_of d g)) (state_at core (i.main_of s)).regions child_over)
      (each_all (λ g. not (has_work core d (standing_of d g))) (inside core (i.main_of s)) idle)

  -- what is left when all inside is dropped
  abbrev from : List Standing
  from = moved (drops (inside core (i.main_of s))) d.regions

  -- ---- what is reached corresponds

  module _ (e : Effect) (es : List Effect) where
    abbrev y : Standing
    y = at.Acting s (e ∷ es) t.target

    abbrev z : Standing
    z = at.Acting (i.main_of s) (counting (i.places_of r) t.target (e ∷ es)) (place_of (i.places_of r) t.target)

    abbrev c1 : Configuration
    c1 = record { variables = c.variables; regions = slice_set (moved (drops (inside k s)) c.regions) r (at.Acting s (e ∷ es) t.target) }

    abbrev d1 : Configuration
    d1 = record {
      variables = d.variables;
      regions = slice_set (moved (drops (inside core (i.main_of s))) d.regions) (i.thread_of r)
          (at.Acting (i.main_of s) (counting (i.places_of r) t.target (e ∷ es)) (place_of (i.places_of r) t.target));
    }

    there : IsThere k r
    there = taken.there k core i rows tree counts written_at counters children c d related r s held t rest stands join works free no_trigger e es

    home_there : i.thread_of r < length (moved (drops (inside core (i.main_of s))) d.regions)
    home_there =
        let lt = (rows.region r there).there.1 in
        let size = drops_length (inside core (i.main_of s)) d.regions in omega (lt, size, related.core_regions, arith)

    not_home : (g : ℕ) → Contains (around core g) (i.main_of s) → g ≢ i.thread_of r
    not_home g h is = holds_other core core_tree (i.thread_of r) (i.main_of s) (subst (λ p. Contains (around core p) (i.main_of s)) is h) main_held

    no_inside : (u : ℕ) → IsInside k core i u y → ⊥
    no_inside u inner = inside_not_acting k core i u y inner s (e ∷ es) t.target refl

    drops_all : DropsOut k core i rows tree children c d r s y z c1 d1
    drops_all =
        record {
          there = there;
          held = held;
          was_there = λ w. let wrong : at.Within s (t ∷ rest) ≡ at.Outside = sym stands ∙ w in absurd cc;
          was_not_over = ap has_ended stands;
          only = λ u inner. only_inside k core i s u (at.Within s (t ∷ rest)) (open_inside (t ∷ rest)) (subst (IsInside k core i u) stands inner);
          chart = refl;
          size = length-set from (i.thread_of r) z ∙ drops_length (inside core (i.main_of s)) d.regions;
          dropped = λ g h.
              set_other from (i.thread_of r) g z (not_home g h) ∙ drops_in (inside core (i.main_of s)) d.regions g
              (inside_in core (i.main_of s) g (around_there core g (i.main_of s) h) h);
          here_too = set_here from (i.thread_of r) z home_there;
          others = λ g ne out_g.
              set_other from (i.thread_of r) g z ne ∙
              drops_out (inside core (i.main_of s)) d.regions g (λ h. out_g (inside_around core (i.main_of s) g h));
          stands = acting s (i.main_of s) t.target e es target_there;
          not_over = refl;
          is_there = λ w. absurd cc;
          not_inside = no_inside;
          no_guard = refl;
          free = free;
          more = related.more;
          variables = related.variables;
          flag_count = related.flag_count;
          values = related.values;
          strong = λ u n differ stores. stores;
          weak = λ u n differ stores. stores;
          counter = λ u n differ stores. stores;
        }

    related1 : Related k core i c1 d1
    related1 = dropped_out k core i rows tree children c d related r s y z c1 d1 drops_all

    followed : (Told : Configuration → Entry → Type 0) → Told d (Image r no_access) →
        Segment (machine core) corr Told d (Stage k i.thread_of c d) (Stage k i.thread_of c1) (act_of (machine k) c r ∷ []) (λ w. w ≡ record {
          variables = d.variables;
          regions = moved (acts core (i.thread_of r) (i.main_of s) (counting (i.places_of r) t.target t.effects) (place_of (i.places_of r) t.target))
              (moved (drops (inside core (i.main_of s))) d.regions);
        })
    followed Told told =
        let step_of = taken.image_step k core i rows tree counts written_at counters children c d related r s held t rest stands join works free no_trigger e es
        Told d (record {
          variables = d.variables;
          regions = moved (acts core (i.thread_of r) (i.main_of s) (counting (i.places_of r) t.target t.effects) (place_of (i.places_of r) t.target))
              (moved (drops (inside core (i.main_of s))) d.regions);
        }) told steps (ap access_of core_stands ∙ ap access_of_trigger no_trigger) in
        record {
          log = step_of.log;
          last = step_of.last;
          follows = step_of.follows;
          charted = step_of.charted;
          fits = step_of.fits;
          climbs = λ more climbs.
              climbs_fewer corr (AtHome (Stage k i.thread_of c d) (i.thread_of r) 3) (Stage k i.thread_of c d) (step_of.log ++ more)
              (taken.at_home k core i rows tree counts written_at counters children c d related r s held t rest stands join works free no_trigger e es)
              (step_of.climbs more
              (climbs_fewer corr (Stage k i.thread_of c1 step_of.last) (AtHome (Stage k i.thread_of c1 d) (i.thread_of r) 0) more
              (taken.stage_now k core i rows tree counts written_at counters children c d related r s held t rest stands join works free no_trigger e es
              step_of.last) climbs));
          reaches = step_of.reaches;
        }

  -- ---- the step

  module _ (Told : Configuration → Entry → Type 0) (told_step : Told d (Image r no_access)) (last : Configuration) (steps_to : step k r c ≡ Some last) where
    abbrev Follows : Type 0
    Follows = left_for.Followed k core i rows tree counts written_at Told c d r s t last (Related k core i last)

    leads : last ≡ record { variables = c.variables; regions = moved (acts k r s t.effects t.target) (moved (drops (inside k s)) c.regions) }
    leads = left_for.chart_takes k c r s t (to r (at.Within s rest) ∷ []) (ap (verdict c.variables) no_trigger) (ap (change_of k c r) stands) last steps_to

    -- with effects
    pub staying_terminates : (e : Effect) (es : List Effect) → t.effects ≡ e ∷ es → Follows
    staying_terminates e es some =
        left_for.with_effects k core i rows tree counts written_at Told c d r s t (i.main_of s) d.variables from last leads e es (related1 e es)
        (followed e es Told told_step) some

    -- without
    pub staying_enters : (told : (e : Configuration) (g : ℕ) (at_stage : Option (ℕ × ℕ)) (a : Access) → Told e (Silent g at_stage a)) →
        Enters k core i rows tree counts written_at Told → ((q u : ℕ) → Contains (around k q) u → IsState k u) →
        BeginsAt r (state_at k (state_in k r t.target)).entered → BeginsAt (i.thread_of r) (state_at core (i.entry_of (state_in k r t.target))).entered →
        t.effects ≡ [] → Follows
    staying_enters told enters super_there chart_first core_first none =
        left_for.without_effects k core i rows tree counts written_at Told c d r s t (i.main_of s) d.variables from last leads told enters counters super_there
        target_there chart_first core_first
        (taken.here k core i rows tree counts written_at counters children c d related r s held t rest stands join works free no_trigger (put 0 0) [])
        (taken.free1 k core i rows tree counts written_at counters children c d related r s held t rest stands join works free no_trigger (put 0 0) [])
        (related1 (put 0 0) []) (followed (put 0 0) [] Told told_step) none
