-- A strong abort is taken: the whole step is followed.
use Rattle.std.proofs.Common.{◌≡◌, ◌≢◌, ℕ, ◌<◌, inl, inr, Bool, true, false, pos, Option, Some, List, [], ◌∷◌, ◌++◌, map, length, slice_get, Contains}
use Rattle.std.proofs.Common.{refl, sym, ap, subst, ◌∙◌, arith}
use Rattle.std.specs.Prelude.{option_map}
use Rattle.std.proofs.lemmas.List.{append_assoc}
use Rattle.sc_values.specs.declared.value.Value.TheVariants as value_is
use Rattle.sc_values.specs.Operator.{kind_of}
use Rattle.sc_values.specs.Access.{Access}
use Rattle.sc_values.specs.Runs.{act_of}
use Rattle.sc_graph.specs.Steps.{takes_kind}
use Rattle.core_charts.specs.declared.region.Effect.{Effect}
use Rattle.core_charts.specs.declared.region.Transition.{Transition}
use Rattle.core_charts.specs.Tests.{at_once, strong_aborts, weak_aborts, terminations}
use Rattle.chart_machine.specs.declared.standing.Standing.TheVariants as at
use Rattle.chart_machine.specs.declared.standing.Configuration.{Configuration}
use Rattle.chart_machine.specs.declared.table.Table.{Table}
use Rattle.chart_machine.specs.Table.{state_at, region_at}
use Rattle.chart_machine.specs.Turns.{standing_of, has_work, guards, is_guarded, inside}
use Rattle.chart_machine.specs.Steps.{state_in, change_of, guarding_on, verdict, access_of, access_of_trigger, step}
use Rattle.chart_machine.specs.Machine.{machine}
use Rattle.abort_expansion.specs.Transitions.{is_raised, raising, answers, strong_checks}
use Rattle.abort_expansion.specs.Superstates.{closing}
use Rattle.abort_expansion_laws.specs.Stages.{Entry, Watched, Silent, Correspondence, IsSilent}
use Rattle.abort_expansion_laws.proofs.Supplying.{silent_test}
use Rattle.abort_expansion_laws.proofs.Segments.{Segment}
use Rattle.chart_machine_laws.proofs.LyingIn.{IsNested, around, holder}
use Rattle.abort_expansion_laws.proofs.TablesCorrespond.{IsThere}
use Rattle.abort_expansion_laws.proofs.FlagAccess.{raised_access}
use Rattle.abort_expansion_laws.specs.CoreRows.{own, IsState, IsSuper, Images, CoreRows, flags_around, behind_transitions}
use Rattle.abort_expansion_laws.specs.Related.{monitor_last}
use Rattle.abort_expansion_laws.specs.Related.{raises, raise_each, IsCalm, IsInside, guarded, Stores, Related}
use Rattle.abort_expansion_laws.proofs.StageReached.{Stage, stage_of, holds_other}
use Rattle.abort_expansion_laws.proofs.ImageSteps.{pair}
use Rattle.abort_expansion_laws.proofs.KnownVariables.{present_there}
use Rattle.abort_expansion_laws.proofs.StrongNotTaken.{IsGuarding, guarding_back, MonitorGuards}
use Rattle.abort_expansion_laws.proofs.InsideLeaves.{AloneRows}
use Rattle.abort_expansion_laws.proofs.MayLeave.{MayLeave}
use Rattle.abort_expansion_laws.proofs.StrongLeaves.{may_leave}
use Rattle.abort_expansion_laws.proofs.AbortNext.{AbortNext, IsDownAround}
use Rattle.abort_expansion_laws.proofs.SuperstateLeft.{chart_takes}
use Rattle.abort_expansion_laws.proofs.AbortFollowed.{with_effects, without_effects}
use Rattle.abort_expansion_laws.proofs.StartingRegions.{CounterRows}
use Rattle.abort_expansion_laws.proofs.OpensFork.{OpeningRows}
use Rattle.abort_expansion_laws.proofs.EnteringSimple.{once_append}
use Rattle.abort_expansion_laws.proofs.JoinsFork.{strong_once}
use Rattle.core_charts.specs.Aborts.{has_aborts}
use Rattle.abort_expansion_laws.proofs.EffectAhead.{BeginsAt}
use Rattle.abort_expansion_laws.proofs.Owed.{Enters}
use Rattle.abort_expansion_laws.proofs.ThreadsAround.{thread_within}

module _ (k core : Table) (i : Images) (rows : CoreRows k core i) (more : AloneRows k core i) (tree : IsNested k) (core_tree : IsNested core)
    (deep : (q s : ℕ) → Contains (around core q) s → holder core s < q)
    (core_children : (s r : ℕ) → Contains (state_at core s).regions r → around core r ≡ s ∷ around core (holder core s))
    (children : (s r : ℕ) → Contains (state_at k s).regions r → around k r ≡ s ∷ around k (holder k s))
    (counts : ℕ → Bool) (written_at : ℕ → ℕ) (counters : CounterRows k core i rows counts written_at) (opening : OpeningRows k core i rows)
    (strong_at : (s x : ℕ) → (i.flags_of s).strong ≡ Some x → written_at x ≡ 0) (super_there : (q s : ℕ) → Contains (around k q) s → IsState k s)
    (super_of : (s : ℕ) → IsState k s → has_aborts (own k s) ≡ true → IsSuper k s) (Told : Configuration → Entry → Type 0)
    (told : (e : Configuration) (t : ℕ) (at_stage : Option (ℕ × ℕ)) (a : Access) → Told e (Silent t at_stage a))
    (c d : Configuration) (related : Related k core i c d) (r o : ℕ) (o_there : IsState k o) (t : Transition) (others : List Transition)
    (stands : standing_of c r ≡ at.Guarding o (t ∷ others)) (monitor : MonitorGuards k core i o t others (standing_of d (i.watcher_of o)))
    (true_there : verdict c.variables t.trigger ≡ Some true) (calm : (q : ℕ) → Contains (around k q) o → IsCalm (standing_of c q))
    (x : ℕ) (flag : (i.flags_of o).strong ≡ Some x) (of_flag : rows.of_flag x ≡ o) (no_counter : counts x ≡ false) (at_none : written_at x ≡ 0)
    (is_int : takes_kind (option_map (λ z. z.kind) (slice_get core.variables x)) (kind_of (value_is.Int (pos 0))) ≡ true) (in_range : x < length core.variables)
    (alone : inside core (i.watching_of o) ≡ []) where
  abbrev corr : Correspondence
  corr = pair k core i rows tree counts written_at

  there : IsThere k r
  there = present_there k core i c d related r (λ w. let wrong : at.Guarding o (t ∷ others) ≡ at.Outside = sym stands ∙ w in absurd cc)

  region : IsGuarding k core i r o (standing_of d (i.thread_of r))
  region = guarding_back k core i c r (standing_of c r) (standing_of d (i.thread_of r)) (related.regions r there) o (t ∷ others) stands

  abbrev behind_it : List Transition
  behind_it = map (raises (λ z. false) x) monitor.others ++ (raising (λ z. z.immediate) 1 (i.flags_of o).weak 1
      (weak_aborts (own k o)) ++ monitor_last k core i o)

  core_stands : standing_of d (i.watcher_of o) ≡ at.Trying (i.watching_of o) (raises (λ z. false) x (monitor.number, t) ∷ behind_it)
  core_stands =
      monitor.is
      ∙ ap (λ f. at.Trying (i.watching_of o) (raise_each (λ z. false) f ((monitor.number, t) ∷ monitor.others)
      ++ (raising (λ z. z.immediate) 1 (i.flags_of o).weak 1 (weak_aborts (own k o)) ++ monitor_last k core i o))) flag

  home_of : holder core (i.main_of (rows.of_flag x)) ≡ i.thread_of r
  home_of = ap (λ s. holder core (i.main_of s)) of_flag ∙ (rows.held o ∙ ap i.thread_of region.held)

  sees_flag : (t : ℕ) → Contains (around core t) (i.main_of o) →
      IsSilent corr t (Some (i.thread_of (holder k o), 1)) (access_of_trigger (Some (is_raised x)))
  sees_flag t in_o =
      subst (IsSilent corr t (Some (i.thread_of (holder k o), 1))) (sym (raised_access x))
      (silent_test corr t (Some (i.thread_of (holder k o), 1)) x (rows.strong_added o x flag)
      (inr (inr (no_counter, subst (λ s. Contains (around core t) (i.main_of s)) (sym of_flag) in_o), (1, stage_is, omega (at_none, arith)))))
    where
      stage_is : ◌≡◌ {A = Option (ℕ × ℕ)} (Some (i.thread_of (holder k o), 1)) (Some (holder core (i.main_of (rows.of_flag x)), 1))
      stage_is = ap (λ (h : ℕ). Some (h, 1)) (sym (home_of ∙ ap i.thread_of (sym region.held)))

  guards_now : guards (standing_of c (holder k o)) ≡ true
  guards_now = ap (λ q. guards (standing_of c q)) region.held ∙ ap guards stands

  abbrev weak_answers : List Transition
  weak_answers = answers (i.places_of r) (i.flags_of o).weak 1 (weak_aborts (own k o))

  abbrev closing_ones : List Transition
  closing_ones = closing (flags_around k core i r) (i.flags_of o) (i.places_of r) (terminations (own k o))

  abbrev checks_around : List Transition
  checks_around = strong_checks true (i.places_of r).left (flags_around k core i r)

  continues : at_once (behind_transitions k core i r o) ≡
      checks_around ++ ([] ++ at_once (answers (i.places_of r) (Some x) 1 (strong_aborts (own k o)) ++ (weak_answers ++ closing_ones)))
  continues =
      ap at_once
      (append_assoc (checks_around ++ answers (i.places_of r) (i.flags_of o).strong 1 (strong_aborts (own k o))) weak_answers closing_ones
      ∙ append_assoc checks_around (answers (i.places_of r) (i.flags_of o).strong 1 (strong_aborts (own k o))) (weak_answers ++ closing_ones))
      ∙ (once_append checks_around (answers (i.places_of r) (i.flags_of o).strong 1 (strong_aborts (own k o)) ++ (weak_answers ++ closing_ones))
      ∙ (ap (λ zs. zs ++ at_once (answers (i.places_of r) (i.flags_of o).strong 1 (strong_aborts (own k o)) ++ (weak_answers ++ closing_ones)))
      (strong_once (i.places_of r).left (flags_around k core i r))
      ∙ ap (λ f. checks_around ++ at_once (answers (i.places_of r) f 1 (strong_aborts (own k o)) ++ (weak_answers ++ closing_ones))) flag))

  present : standing_of c r ≢ at.Outside
  present e = let wrong : at.Guarding o (t ∷ others) ≡ at.Outside = sym stands ∙ e in absurd cc

  -- the strong flags around are down
  around_down : (s y : ℕ) → Contains (around k r) s → (i.flags_of s).strong ≡ Some y → IsDownAround k core i rows tree counts written_at d r x s y
  around_down s y around_it strong =
      record {
        added = rows.strong_added s y strong;
        differs = λ e.
            let is : s ≡ o = sym owner ∙ (ap rows.of_flag e ∙ of_flag) in
            holds_other k tree r o (subst (Contains (around k r)) is around_it) region.held;
        low =
            subst (λ f. Stores k core i d.variables f 0) strong
            (related.flags s (super_there r s around_it) (related.enclosed r s there present around_it)).strong;
        home_is = ap (λ v. holder core (i.main_of v)) owner ∙ rows.held s;
        reads = inr (
          inr (
            counters.strong_not s y strong,
            subst (λ v. Contains (around core (i.thread_of r)) (i.main_of v)) (sym owner)
                (thread_within k core i rows r s around_it),
          ),
          (1, refl, (let zero_is = strong_at s y strong in omega (zero_is, arith))),
        );
      }
    where
      owner : rows.of_flag y ≡ s
      owner = (opening.flag_of s y (inl strong)).0

  strong_next : IsSuper k o → ((s : ℕ) → s ≢ o → ((i.flags_of s).strong ≢ Some x) × ((i.flags_of s).weak ≢ Some x) × ((i.flags_of s).counter ≢ Some x)) →
      is_guarded k c (around k r) ≡ false → AbortNext k core i rows tree counts written_at c d r o 0 x t
  strong_next super flags_differ free =
      record {
        there = there;
        o_there = o_there;
        has = region.has;
        held = region.held;
        super = super;
        was_inside = subst (IsInside k core i o) (sym stands) (guarded (t ∷ others));
        works = ap (has_work k c) stands;
        free = free;
        chart_access = ap access_of stands;
        true_there = true_there;
        staged = inl refl;
        stage_now = ap (stage_of k c) stands;
        join = region.join;
        leads = region.leads;
        forked = region.is;
        number = monitor.number;
        immediate = false;
        other_tests = behind_it;
        watching = core_stands;
        watching_alone = alone;
        added = rows.strong_added o x flag;
        in_range = in_range;
        is_int = is_int;
        of_flag = of_flag;
        no_counter = no_counter;
        written = at_none;
        flags_differ = flags_differ;
        leaves = λ first raised values same over g in_o.
            subst (λ h. MayLeave core corr (i.thread_of h) 1 (i.main_of o) first g (standing_of first g)) region.held
            (may_leave k core i rows more tree core_children children counts written_at counters opening strong_at super_there super_of o x region.has flag
            o_there c d related guards_now (subst (λ q. is_guarded k c (around k q) ≡ false) (sym region.held) free) calm first raised values same sees_flag
            over g in_o);
        around_down = around_down;
        earlier = [];
        aborts = strong_aborts (own k o);
        behind_them = weak_answers ++ closing_ones;
        numbered = monitor.first;
        continues = continues;
        earlier_fail = λ values same. tt;
      }

  -- with effects, it is followed
  module _ (e : Effect) (es : List Effect) (has_effects : t.effects ≡ e ∷ es) (target_there : t.target < length (region_at k r).states) (super : IsSuper k o)
      (flags_differ : (s : ℕ) → s ≢ o → ((i.flags_of s).strong ≢ Some x) × ((i.flags_of s).weak ≢ Some x) × ((i.flags_of s).counter ≢ Some x))
      (told_test : Told d (Watched r (i.watcher_of o) 0 (access_of_trigger t.trigger))) (free : is_guarded k c (around k r) ≡ false) where
    pub strong_followed : (last : Configuration) → step k r c ≡ Some last →
        Segment (machine core) corr Told d (Stage k i.thread_of c d) (Stage k i.thread_of last) (act_of (machine k) c r ∷ []) (Related k core i last)
    strong_followed last steps =
        with_effects k core i rows more tree core_tree deep core_children children counts written_at Told told c d related r o 0 x t
        (strong_next super flags_differ free) told_test target_there last
        (chart_takes k c r o t (guarding_on k r o others) true_there (ap (change_of k c r) stands) last steps) e es has_effects

  -- without effects, from the law of entering
  module _ (no_effects : t.effects ≡ []) (target_there : t.target < length (region_at k r).states) (super : IsSuper k o)
      (flags_differ : (s : ℕ) → s ≢ o → ((i.flags_of s).strong ≢ Some x) × ((i.flags_of s).weak ≢ Some x) × ((i.flags_of s).counter ≢ Some x))
      (told_test : Told d (Watched r (i.watcher_of o) 0 (access_of_trigger t.trigger))) (free : is_guarded k c (around k r) ≡ false)
      (enters : Enters k core i rows tree counts written_at Told)
      (chart_first : BeginsAt r (state_at k (state_in k r t.target)).entered)
      (core_first : BeginsAt (i.thread_of r) (state_at core (i.entry_of (state_in k r t.target))).entered) where
    pub strong_entered : (last : Configuration) → step k r c ≡ Some last →
        Segment (machine core) corr Told d (Stage k i.thread_of c d) (Stage k i.thread_of last) (act_of (machine k) c r ∷ []) (Related k core i last)
    strong_entered last steps =
        without_effects k core i rows more tree core_tree deep core_children children counts written_at Told told c d related r o 0 x t
        (strong_next super flags_differ free) told_test target_there last
        (chart_takes k c r o t (guarding_on k r o others) true_there
        (ap (change_of k c r) stands) last steps) enters counters super_there chart_first core_first
        no_effects
