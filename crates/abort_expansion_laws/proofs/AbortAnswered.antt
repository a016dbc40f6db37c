-- An abort was taken: what is reached corresponds, and the continuation answers the flag.
use Rattle.std.proofs.Common.{◌≡◌, ◌≢◌, ℕ, suc, ◌<◌, ◌≤◌, ◌⊎◌, inl, inr, Bool, true, false, not, ◌&&◌, Option, Some, None, List, [], ◌∷◌, ◌++◌}
use Rattle.std.proofs.Common.{length, slice_get, slice_set, Contains, refl}
use Rattle.std.proofs.Common.{sym, ap, subst, ◌∙◌, arith}
use Rattle.std.proofs.lemmas.List.{length-set}
use Rattle.sc_values.specs.declared.value.Value.{Value}
use Rattle.sc_values.specs.Access.{Access}
use Rattle.sc_values.specs.Runs.{act_of}
use Rattle.core_charts.specs.declared.region.Effect.{Effect}
use Rattle.core_charts.specs.declared.region.Transition.{Transition}
use Rattle.core_charts.specs.Aborts.{has_aborts}
use Rattle.chart_machine.specs.declared.standing.Standing.{Standing}
use Rattle.chart_machine.specs.declared.standing.Standing.TheVariants as at
use Rattle.chart_machine.specs.declared.standing.Configuration.{Configuration}
use Rattle.chart_machine.specs.declared.table.Table.{Table}
use Rattle.chart_machine.specs.Table.{state_at, region_at}
use Rattle.chart_machine.specs.Turns.{standing_of, has_work, is_guarded, inside}
use Rattle.chart_machine.specs.Steps.{moved, acts, access_of, access_of_trigger, step}
use Rattle.chart_machine.specs.Machine.{machine}
use Rattle.abort_expansion.specs.Transitions.{counting, place_of}
use Rattle.abort_expansion_laws.specs.Stages.{Entry, Watched, Silent, Correspondence}
use Rattle.abort_expansion_laws.proofs.Supplying.{climbs_fewer, tests}
use Rattle.abort_expansion_laws.proofs.Segments.{Segment, segment_on}
use Rattle.abort_expansion_laws.proofs.SilentSteps.{AtHome, climbs_home, silent_step}
use Rattle.chart_machine_laws.proofs.LyingIn.{IsNested, LiesUnder, around, holder}
use Rattle.abort_expansion_laws.proofs.TablesCorrespond.{IsThere}
use Rattle.abort_expansion_laws.proofs.MoreValues.{same_verdict}
use Rattle.abort_expansion_laws.proofs.FlagAccess.{number_access}
use Rattle.abort_expansion.specs.Superstates.{stays}
use Rattle.tick_laws.proofs.Lists.{contains_map}
use Rattle.chart_machine_laws.proofs.ChartTables.{around_there}
use Rattle.abort_expansion_laws.specs.CoreRows.{own, IsState, Images, CoreRows, flags_around, pair}
use Rattle.abort_expansion_laws.specs.Related.{Stands, outside, ended, left, trying, acting, entering, guarding, staying, within, behind, IsInside}
use Rattle.abort_expansion_laws.specs.Related.{Stores, Related, Watches, waits, looks_strong, looks, elsewhere}
use Rattle.abort_expansion_laws.specs.Related.{guards as watch_guards}
use Rattle.abort_expansion_laws.proofs.MayLeave.{is_forked, AreOuterOne}
use Rattle.abort_expansion_laws.proofs.TerminationImage.{at_most_three}
use Rattle.abort_expansion_laws.proofs.Unchanged.{get_other, get_same, unguarded}
use Rattle.abort_expansion_laws.proofs.StageReached.{Stage, stage_of, holds_other}
use Rattle.abort_expansion_laws.proofs.StartingRegions.{set_behind}
use Rattle.abort_expansion_laws.proofs.EffectFollowed.{value_size}
use Rattle.abort_expansion_laws.proofs.CoreSteps.{takes_any}
use Rattle.abort_expansion_laws.proofs.InsideLeaves.{AloneRows}
use Rattle.abort_expansion_laws.proofs.Leaving.{drops, set_here, set_other}
use Rattle.abort_expansion_laws.proofs.StandsInside.{only_inside, inside_not_over, inside_present, inside_not_acting}
use Rattle.abort_expansion_laws.proofs.DropsOut.{DropsOut, dropped_out}
use Rattle.abort_expansion_laws.proofs.DroppedInside as now
use Rattle.abort_expansion_laws.proofs.StagesAfterDrop.{outer_stage, outer_low, others_stay, reached_now}
use Rattle.abort_expansion_laws.proofs.AbortNext.{AbortNext}
use Rattle.abort_expansion_laws.proofs.AbortTaken as taken
use Rattle.abort_expansion_laws.proofs.ThreadsAround.{thread_within}

module _ (k core : Table) (i : Images) (rows : CoreRows k core i) (more : AloneRows k core i) (tree : IsNested k) (core_tree : IsNested core)
    (deep : (q s : ℕ) → Contains (around core q) s → holder core s < q)
    (core_children : (s r : ℕ) → Contains (state_at core s).regions r → around core r ≡ s ∷ around core (holder core s))
    (children : (s r : ℕ) → Contains (state_at k s).regions r → around k r ≡ s ∷ around k (holder k s))
    (counts : ℕ → Bool) (written_at : ℕ → ℕ) (Told : Configuration → Entry → Type 0)
    (told : (e : Configuration) (t : ℕ) (at_stage : Option (ℕ × ℕ)) (a : Access) → Told e (Silent t at_stage a))
    (c d : Configuration) (related : Related k core i c d) (r o stage x : ℕ) (t : Transition)
    (next : AbortNext k core i rows tree counts written_at c d r o stage x t)
    (told_test : Told d (Watched r (i.watcher_of o) stage (access_of_trigger t.trigger)))
    (e : Effect) (es : List Effect) (target_there : t.target < length (region_at k r).states) where
  abbrev corr : Correspondence
  corr = pair k core i rows tree counts written_at

  abbrev y : Standing
  y = at.Acting o (e ∷ es) t.target

  -- the chart has dropped what was inside, and goes on with these effects
  abbrev pub c1 : Configuration
  c1 = record { variables = c.variables; regions = slice_set (moved (drops (inside k o)) c.regions) r (at.Acting o (e ∷ es) t.target) }

  pub here : standing_of c1 r ≡ at.Acting o (e ∷ es) t.target
  here = now.here k tree c r o next.held next.there related.chart_regions (at.Acting o (e ∷ es) t.target)

  gone : (q : ℕ) → IsThere k q → Contains (around k q) o → standing_of c1 q ≡ at.Outside
  gone = now.gone k tree c r o next.held next.there related.chart_regions (at.Acting o (e ∷ es) t.target)

  same : (q : ℕ) → q ≢ r → ¬ Contains (around k q) o → standing_of c1 q ≡ standing_of c q
  same = now.same k tree c r o next.held next.there related.chart_regions (at.Acting o (e ∷ es) t.target)

  pub free1 : is_guarded k c1 (around k r) ≡ false
  free1 = now.still_free k tree c r o next.held next.there related.chart_regions (at.Acting o (e ∷ es) t.target) next.free

  -- ---- stages

  behind_plain : (a b z : Bool) → (not a && (not b && z)) ≡ true → b ≡ false
  behind_plain true b z e = absurd cc
  behind_plain false true z e = absurd cc
  behind_plain false false z e = refl

  -- a region inside whose thread stands in no fork
  abbrev Spared : ℕ → Type 0
  Spared q = is_forked (standing_of d (i.thread_of q)) ≡ true → ⊥

  low_by : (q : ℕ) → (w v : Standing) → Stands k core i c q w v → (is_forked v ≡ true → ⊥) → stage_of k c w ≤ 1
  low_by q _ _ outside spared = omega arith
  low_by q _ _ (ended inner) spared = omega arith
  low_by q _ _ (left s ss f over) spared = omega arith
  low_by q _ _ (trying s others simple its) spared = omega arith
  low_by q _ _ (acting s u p f effects lt) spared = omega arith
  low_by q _ _ (entering s fork u others super its leads) spared = omega arith
  low_by q _ _ (guarding s join u others some its leads) spared = omega arith
  low_by q _ _ (staying s others super its stays) spared = absurd (spared refl)
  low_by q _ _ (within s join others super its stays still leads) spared = absurd (spared refl)
  low_by q _ _ (behind s others super its over) spared =
      let plain : has_aborts (own k s) ≡ false = behind_plain (stays (flags_around k core i (holder k s)) (own k s)) (has_aborts (own k s)) _ over in
      rw (plain) (omega arith)

  inside_low : (q : ℕ) → IsThere k q → Contains (around k q) o → Spared q → stage_of k c (standing_of c q) ≤ 1
  inside_low q q_there in_o spared = low_by q (standing_of c q) (standing_of d (i.thread_of q)) (related.regions q q_there) spared

  watch_plain : (u : ℕ) (w v : Standing) → Watches k core i u w v → is_forked v ≡ false
  watch_plain u _ _ (watch_guards some among) = refl
  watch_plain u _ _ (looks_strong yet seen parted some among) = refl
  watch_plain u _ _ (waits some ends among only) = refl
  watch_plain u _ _ (looks yet seen parted first some ends among only) = refl
  watch_plain u _ _ (elsewhere w a b) = refl

  -- of whichever thread, no stage above 3 is reached
  pub forks_low : (h s : ℕ) → Contains (around core h) (i.main_of o) → is_forked (standing_of d h) ≡ true → Stage k i.thread_of c d h s → s ≤ 3
  forks_low h s in_h forked before = by_sort (rows.each h (around_there core h (i.main_of o) in_h))
    where
      by_sort : ((q : ℕ) × IsThere k q × (h ≡ i.thread_of q)) ⊎ ((u : ℕ) × IsState k u × (has_aborts (own k u) ≡ true) × (h ≡ i.watcher_of u)) → s ≤ 3
      by_sort (inl q) =
          let le = before.regions q.0 q.1 q.2 in let most = at_most_three k c (standing_of c q.0) in omega (le, most, arith)
      by_sort (inr u) =
          let plain = watch_plain u.0 (standing_of c (holder k u.0)) (standing_of d (i.watcher_of u.0)) (related.watchers u.0 u.1 u.2) in
          let wrong : true ≡ false = sym forked ∙ (ap (λ g. is_forked (standing_of d g)) u.3 ∙ plain) in absurd cc

  present : standing_of c r ≢ at.Outside
  present = inside_present k core i o (standing_of c r) next.was_inside

  pub outer : (b : ℕ) → LiesUnder k r b → (i.thread_of b ≢ i.thread_of r) × (((u : ℕ) → Stage k i.thread_of c d (i.thread_of b) u → u ≤ 1) × Stage k i.thread_of
      c1 d (i.thread_of b) 1)
  outer =
      outer_stage k core i rows tree children c d related r o next.there next.held present next.works next.free Spared inside_low c1
      (ap (stage_of k c1) here) gone
      same

  in_fork : (q : ℕ) → Contains (around k q) o → Contains (around core (i.thread_of q)) (i.main_of o)
  in_fork q in_o = thread_within k core i rows q o in_o

  pub stay : (h s : ℕ) → h ≢ i.thread_of r → (Contains (around core h) (i.main_of o) → is_forked (standing_of d h) ≡ true → ⊥) →
      Stage k i.thread_of c d h s → Stage k i.thread_of c1 d h s
  stay h s ne never =
      others_stay k core i rows tree children c d related r o next.there next.held present next.works next.free Spared inside_low c1
      (ap (stage_of k c1) here) gone same h s ne
      (λ q q_there is in_o forked. never (subst (λ g. Contains (around core g) (i.main_of o)) (sym is) (in_fork q in_o))
      (subst (λ g. is_forked (standing_of d g) ≡ true) (sym is) forked))

  -- of who holds a superstate around r no stage but 1 is reached, since r goes on
  pub outer_one : AreOuterOne core (Stage k i.thread_of c1 d) (i.thread_of r)
  outer_one v around_home =
      let u = contains_map i.main_of (around k r) v (subst (λ zs. Contains zs v) (rows.encloses r) around_home) in
      let home_is : i.thread_of (holder k u.0) ≡ holder core v = sym (rows.held u.0) ∙ ap (holder core) u.2 in
      let under : LiesUnder k r (holder k u.0) = inl (u.0, u.1, refl) in (
        λ n before.
            outer_low k core i rows tree children c d related r o next.there next.held present next.works next.free Spared inside_low c1
            (ap (stage_of k c1) here) gone same (ap (has_work k c1) here) (holder k u.0) under n
            (subst (λ h. Stage k i.thread_of c1 d h n) (sym home_is) before),
        subst (λ h. Stage k i.thread_of c1 d h 1) home_is (outer (holder k u.0) under).1.1,
      )

  stage_now : (last : Configuration) (h s : ℕ) → AtHome (Stage k i.thread_of c1 d) (i.thread_of r) 0 h s → Stage k i.thread_of c1 last h s
  stage_now = reached_now k core i rows tree children c d related r o next.there next.held present next.works next.free Spared inside_low c1
      (ap (stage_of k c1) here) gone same

  -- ---- up to the answer

  abbrev IsAnswering : Configuration → Type 0
  IsAnswering = taken.IsAnswering k core i rows more tree core_tree deep core_children children counts written_at Told told c d related r o stage x t next
      (Stage k i.thread_of c1 d) told_test outer stay forks_low outer_one

  abbrev pub first : Segment (machine core) corr Told d (Stage k i.thread_of c d) (λ last. AtHome (Stage k i.thread_of c1 d) (i.thread_of r) 0)
      (act_of (machine k) c r ∷ []) IsAnswering
  first = taken.answering_on k core i rows more tree core_tree deep core_children children counts written_at Told told c d related r o stage x t next
      (Stage k i.thread_of c1 d) told_test outer stay forks_low outer_one

  abbrev raised_to : Value
  raised_to = taken.raised_to k core i rows more tree core_tree deep core_children children counts written_at Told told c d related r o stage x t next
      (Stage k i.thread_of c1 d)

  empty : taken.Emptied k core i rows more tree core_tree deep core_children children counts written_at Told told c d related r o stage x t next
      (Stage k i.thread_of c1 d) told_test outer stay forks_low outer_one first.last
  empty = taken.emptied k core i rows more tree core_tree deep core_children children counts written_at Told told c d related r o stage x t next
      (Stage k i.thread_of c1 d) told_test outer stay forks_low outer_one

  -- ---- what is reached corresponds

  abbrev z : Standing
  z = at.Acting (i.behind_of o) (counting (i.places_of r) t.target (e ∷ es)) (place_of (i.places_of r) t.target)

  -- as if these were the effects
  abbrev pub d1 : Configuration
  d1 = record {
    variables = first.last.variables;
    regions = slice_set first.last.regions (i.thread_of r)
        (at.Acting (i.behind_of o) (counting (i.places_of r) t.target (e ∷ es)) (place_of (i.places_of r) t.target));
  }

  home_there : i.thread_of r < length first.last.regions
  home_there = let lt = (rows.region r next.there).there.1 in let size = empty.size in omega (lt, size, related.core_regions, arith)

  no_inside : (s : ℕ) → IsInside k core i s y → ⊥
  no_inside s inner = inside_not_acting k core i s y inner o (e ∷ es) t.target refl

  flags_behind : (zs : List Value) × (slice_set (c.variables ++ related.more) x raised_to ≡ c.variables ++ zs)
  flags_behind = let le = next.added in set_behind c.variables related.more x raised_to (omega (le, related.values, arith))

  kept_value : (f : Option ℕ) (n : ℕ) → f ≢ Some x → Stores k core i d.variables f n → Stores k core i d1.variables f n
  kept_value None n differ stores = tt
  kept_value (Some v) n differ stores =
      ap (λ vs. slice_get vs v) empty.variables ∙ (get_other d.variables x v raised_to (λ same_x. differ (ap Some same_x)) ∙ stores)

  drops_all : DropsOut k core i rows tree children c d r o y z c1 d1
  drops_all =
      record {
        there = next.there;
        held = next.held;
        was_there = present;
        was_not_over = inside_not_over k core i o (standing_of c r) next.was_inside;
        only = λ s inner. only_inside k core i o s (standing_of c r) next.was_inside inner;
        chart = refl;
        size = length-set first.last.regions (i.thread_of r) z ∙ empty.size;
        dropped = λ q h. set_other first.last.regions (i.thread_of r) q z (not_home q h) ∙ empty.inside q h;
        here_too = set_here first.last.regions (i.thread_of r) z home_there;
        others = λ q ne out_q. set_other first.last.regions (i.thread_of r) q z ne ∙ empty.outside q ne out_q;
        stands = acting o (i.behind_of o) t.target e es target_there;
        not_over = refl;
        is_there = λ w. absurd cc;
        not_inside = no_inside;
        no_guard = refl;
        free = next.free;
        more = flags_behind.0;
        variables = empty.variables ∙ (ap (λ vs. slice_set vs x raised_to) related.variables ∙ flags_behind.1);
        flag_count = ap length empty.variables ∙ (value_size d.variables x raised_to ∙ related.flag_count);
        values = related.values;
        strong = λ s n differ stores. kept_value (i.flags_of s).strong n (next.flags_differ s differ).0 stores;
        weak = λ s n differ stores. kept_value (i.flags_of s).weak n (next.flags_differ s differ).1 stores;
        counter = λ s n differ stores. kept_value (i.flags_of s).counter n (next.flags_differ s differ).2 stores;
      }
    where
      main_held : holder core (i.main_of o) ≡ i.thread_of r
      main_held = rows.held o ∙ ap i.thread_of next.held

      not_home : (q : ℕ) → Contains (around core q) (i.main_of o) → q ≢ i.thread_of r
      not_home q h is = holds_other core core_tree (i.thread_of r) (i.main_of o) (subst (λ p. Contains (around core p) (i.main_of o)) is h) main_held

  pub related1 : Related k core i c1 d1
  related1 = dropped_out k core i rows tree children c d related r o y z c1 d1 drops_all

  -- ---- the answer

  -- where it leads
  abbrev pub answered_at : Configuration
  answered_at = record {
    variables = first.last.variables;
    regions = moved (acts core (i.thread_of r) (i.behind_of o) (counting (i.places_of r) t.target t.effects) (place_of (i.places_of r) t.target))
        first.last.regions;
  }

  flag_there : slice_get first.last.variables x ≡ Some raised_to
  flag_there = let lt = next.in_range in ap (λ vs. slice_get vs x) empty.variables ∙ get_same d.variables x raised_to (omega (lt, related.flag_count, arith))

  answers : step core (i.thread_of r) first.last ≡ Some answered_at
  answers =
      takes_any core first.last (i.thread_of r) (i.behind_of o) _ empty.here.0
      (unguarded core first.last empty.quiet (around core (i.thread_of r))) empty.here.1
      (same_verdict x (suc next.number) first.last.variables flag_there) (more.behind_alone o)

  pub abort_followed : Segment (machine core) corr Told d (Stage k i.thread_of c d) (Stage k i.thread_of c1) (act_of (machine k) c r ∷ [])
      (λ w. w ≡ answered_at)
  abort_followed =
      segment_on (machine core) corr Told d (Stage k i.thread_of c d) (λ last. AtHome (Stage k i.thread_of c1 d) (i.thread_of r) 0)
      (Stage k i.thread_of c1) (act_of (machine k) c r ∷ []) [] IsAnswering (λ w. w ≡ answered_at) first
      (later (silent_step (machine core) corr Told told first.last answered_at (i.thread_of r) None (tests x)
      (AtHome (Stage k i.thread_of c1 d) (i.thread_of r) 0) (AtHome (Stage k i.thread_of c1 d) (i.thread_of r) 0) (λ w. w ≡ answered_at) answers
      (ap access_of empty.here.1 ∙ number_access x (suc next.number))
      (taken.sees_own k core i rows more tree core_tree deep core_children children counts written_at Told told c d related r o stage x t next
      (Stage k i.thread_of c1 d))
      (λ rest climbs. climbs_home corr (Stage k i.thread_of c1 d) (i.thread_of r) 0 (tests x) rest climbs) refl))
    where
      later : Segment (machine core) corr Told first.last (AtHome (Stage k i.thread_of c1 d) (i.thread_of r) 0)
          (λ last. AtHome (Stage k i.thread_of c1 d) (i.thread_of r) 0) [] (λ w. w ≡ answered_at) →
          Segment (machine core) corr Told first.last (AtHome (Stage k i.thread_of c1 d) (i.thread_of r) 0) (Stage k i.thread_of c1) [] (λ w. w ≡ answered_at)
      later s =
          record {
            log = s.log;
            last = s.last;
            follows = s.follows;
            charted = s.charted;
            fits = s.fits;
            climbs = λ rest climbs.
                s.climbs rest (climbs_fewer corr (Stage k i.thread_of c1 s.last) (AtHome (Stage k i.thread_of c1 d) (i.thread_of r) 0) rest
                (stage_now s.last) climbs);
            reaches = s.reaches;
          }
