-- A weak abort is taken: the whole step is followed.
use Rattle.std.proofs.Common.{◌≡◌, ◌≢◌, ℕ, ◌<◌, inl, inr, Bool, true, false, not, pos, Option, Some, None, List, [], ◌∷◌, ◌++◌, map, length}
use Rattle.std.proofs.Common.{slice_get, Contains, ⊎_elim, refl, sym, ap, subst, ◌∙◌, arith}
use Rattle.std.proofs.lemmas.List.{append_assoc}
use Rattle.std.specs.List.{list_all, list_any}
use Rattle.std.proofs.lemmas.Bool.{and_parts, not-true}
use Rattle.sc_values.specs.declared.value.Value.{Value}
use Rattle.sc_values.specs.declared.value.Value.TheVariants as value_is
use Rattle.sc_values.specs.Access.{Access}
use Rattle.sc_values.specs.Runs.{act_of}
use Rattle.core_charts.specs.declared.region.Effect.{Effect}
use Rattle.core_charts.specs.declared.region.Transition.{Transition}
use Rattle.core_charts.specs.Tests.{at_once, strong_aborts, weak_aborts, terminations, is_weak, is_join}
use Rattle.core_charts.specs.Aborts.{has_aborts}
use Rattle.chart_machine.specs.declared.standing.Standing.TheVariants as at
use Rattle.chart_machine.specs.declared.standing.Configuration.{Configuration}
use Rattle.chart_machine.specs.declared.table.Table.{Table}
use Rattle.chart_machine.specs.Table.{state_at, region_at}
use Rattle.chart_machine.specs.Turns.{standing_of, has_work, is_guarded, inside, inside_is_done}
use Rattle.chart_machine.specs.Steps.{to, state_in, change_of, verdict, access_of, access_of_trigger, step}
use Rattle.chart_machine.specs.Machine.{machine}
use Rattle.abort_expansion.specs.Transitions.{answers, strong_checks}
use Rattle.abort_expansion.specs.Superstates.{closing}
use Rattle.abort_expansion_laws.specs.Stages.{Entry, Watched, Silent, Correspondence}
use Rattle.abort_expansion_laws.proofs.Supplying.{silent_test}
use Rattle.abort_expansion_laws.proofs.Segments.{Segment}
use Rattle.chart_machine_laws.proofs.LyingIn.{IsNested, around, holder, head_or_tail}
use Rattle.abort_expansion_laws.proofs.TablesCorrespond.{IsThere}
use Rattle.abort_expansion_laws.specs.CoreRows.{own, IsState, Images, CoreRows, flags_around, behind_transitions, pair}
use Rattle.abort_expansion_laws.specs.Related.{monitor_last}
use Rattle.abort_expansion_laws.specs.Related.{raises, raise_each, IsInside, open_inside, Stores, Related}
use Rattle.abort_expansion_laws.specs.StageReached.{some_work}
use Rattle.abort_expansion_laws.proofs.StageReached.{Stage, stage_of, inside_in, holds_other}
use Rattle.abort_expansion_laws.proofs.KnownVariables.{present_there}
use Rattle.abort_expansion_laws.proofs.StartingRegions.{CounterRows}
use Rattle.abort_expansion_laws.proofs.Resets.{Apart}
use Rattle.abort_expansion_laws.proofs.OpensFork.{OpeningRows}
use Rattle.abort_expansion_laws.proofs.TickStarts.{StartRows}
use Rattle.abort_expansion_laws.proofs.LaterTicks.{weak_no_join}
use Rattle.abort_expansion_laws.proofs.WeakNotTaken.{IsWithin, within_back, MonitorWaits}
use Rattle.abort_expansion_laws.proofs.InsideLeaves.{AloneRows}
use Rattle.abort_expansion_laws.proofs.SplitTests.{continuation_tests}
use Rattle.abort_expansion_laws.proofs.WeakLeaves.{idle_may_leave}
use Rattle.abort_expansion_laws.proofs.Answering.{AllFail, none_answered, answers_first}
use Rattle.abort_expansion_laws.proofs.AbortNext.{AbortNext, IsDownAround}
use Rattle.abort_expansion_laws.proofs.SuperstateLeft.{chart_takes}
use Rattle.abort_expansion_laws.proofs.AbortFollowed.{with_effects, without_effects}
use Rattle.abort_expansion_laws.proofs.EffectAhead.{BeginsAt}
use Rattle.abort_expansion_laws.proofs.Owed.{Enters}
use Rattle.abort_expansion_laws.proofs.ThreadsAround.{thread_within}

-- none of these has the property
none_has : (p : ℕ → Bool) (xs : List ℕ) → list_all (λ q. not (p q)) xs ≡ true → (y : ℕ) → Contains xs y → p y ≡ false
none_has p [] e y h = absurd (let lt = h.1 in omega (lt, arith))
none_has p (x ∷ xs) e y h =
    let both = and_parts (not (p x)) (list_all (λ q. not (p q)) xs) e in
    ⊎_elim (λ same. ap p (sym same) ∙ not-true (p x) both.0) (λ tail. none_has p xs both.1 y tail) (head_or_tail x y xs h)

none_any : (p : ℕ → Bool) (xs : List ℕ) → list_all (λ q. not (p q)) xs ≡ true → list_any p xs ≡ false
none_any p [] e = refl
none_any p (x ∷ xs) e =
    let both = and_parts (not (p x)) (list_all (λ q. not (p q)) xs) e in
    let own_none : p x ≡ false = not-true (p x) both.0 in rw (own_none, none_any p xs both.1) refl

module _ (k core : Table) (i : Images) (rows : CoreRows k core i) (more : AloneRows k core i) (tree : IsNested k) (core_tree : IsNested core)
    (deep : (q s : ℕ) → Contains (around core q) s → holder core s < q)
    (core_children : (s r : ℕ) → Contains (state_at core s).regions r → around core r ≡ s ∷ around core (holder core s))
    (children : (s r : ℕ) → Contains (state_at k s).regions r → around k r ≡ s ∷ around k (holder k s))
    (counts : ℕ → Bool) (written_at : ℕ → ℕ) (counters : CounterRows k core i rows counts written_at) (opening : OpeningRows k core i rows)
    (start_rows : StartRows k core i rows) (written_low : (x : ℕ) → written_at x < 3)
    (strong_at : (s x : ℕ) → (i.flags_of s).strong ≡ Some x → written_at x ≡ 0)
    (alone : (v : ℕ) → (state_at core v).regions ≡ [] → inside core v ≡ [])
    (c d : Configuration) (related : Related k core i c d) (r o : ℕ) (o_there : IsState k o) (has : has_aborts (own k o) ≡ true) (t : Transition)
    (weak : is_weak t.kind ≡ true) (others : List Transition) (stands : standing_of c r ≡ at.Within o (t ∷ others))
    (monitor : MonitorWaits k core i o t others (standing_of d (i.watcher_of o)))
    (true_there : verdict c.variables t.trigger ≡ Some true)
    (free : is_guarded k c (around k r) ≡ false) (done : inside_is_done k c (standing_of c r) ≡ true)
    (weak_at : (x : ℕ) → (i.flags_of o).weak ≡ Some x → written_at x ≡ 2)
    (early : (s y : ℕ) → Contains (around k r) s → (i.flags_of s).weak ≡ Some y → written_at y ≡ 0) where
  abbrev corr : Correspondence
  corr = pair k core i rows tree counts written_at

  there : IsThere k r
  there = present_there k core i c d related r (λ e. let wrong : at.Within o (t ∷ others) ≡ at.Outside = sym stands ∙ e in absurd cc)

  region : IsWithin k core i c r o (standing_of d (i.thread_of r))
  region = within_back k core i c r o has (standing_of c r) (standing_of d (i.thread_of r)) (related.regions r there) (t ∷ others) stands

  pub flag : (x : ℕ) × ((i.flags_of o).weak ≡ Some x)
  flag = rows.weak_there o monitor.number t o_there monitor.first

  core_stands : standing_of d (i.watcher_of o) ≡ at.Trying (i.watching_of o) (raises (λ z. z.immediate) flag.0 (monitor.number, t) ∷
      (map (raises (λ z. z.immediate) flag.0) monitor.others ++ monitor_last k core i o))
  core_stands = monitor.is ∙ ap (λ f. at.Trying (i.watching_of o)
      (raise_each (λ z. z.immediate) f ((monitor.number, t) ∷ monitor.others) ++ monitor_last k core i o)) flag.1

  -- nobody inside has work left
  all_idle : list_all (λ q. not (has_work k c (standing_of c q))) (inside k o) ≡ true
  all_idle = sym (ap (inside_is_done k c) stands) ∙ done

  idle : (q : ℕ) → IsThere k q → Contains (around k q) o → has_work k c (standing_of c q) ≡ false
  idle q q_there in_o = none_has (λ p. has_work k c (standing_of c p)) (inside k o) all_idle q (inside_in k o q q_there in_o)

  stage_now : stage_of k c (standing_of c r) ≡ 2
  stage_now =
      let quiet : some_work k c o ≡ false = none_any (λ p. has_work k c (standing_of c p)) (inside k o) all_idle in
      ap (stage_of k c) stands ∙ rw (has, quiet, weak) refl

  inside_o : IsInside k core i o (standing_of c (holder k o))
  inside_o = subst (λ q. IsInside k core i o (standing_of c q)) (sym region.held) (subst (IsInside k core i o) (sym stands) (open_inside (t ∷ others)))

  -- ---- the continuation

  abbrev strong_answers : List Transition
  strong_answers = answers (i.places_of r) (i.flags_of o).strong 1 (strong_aborts (own k o))

  abbrev closing_ones : List Transition
  closing_ones = closing (flags_around k core i r) (i.flags_of o) (i.places_of r) (terminations (own k o))

  abbrev checks_around : List Transition
  checks_around = strong_checks true (i.places_of r).left (flags_around k core i r)

  continues : at_once (behind_transitions k core i r o) ≡
      checks_around ++ (strong_answers ++ at_once (answers (i.places_of r) (Some flag.0) 1 (weak_aborts (own k o)) ++ closing_ones))
  continues =
      continuation_tests k core i r o
      ∙ ap (λ zs. checks_around ++ zs)
      (append_assoc strong_answers (answers (i.places_of r) (i.flags_of o).weak 1 (weak_aborts (own k o))) (at_once closing_ones)
      ∙ (ap (λ zs. strong_answers ++ zs) (sym (answers_first (i.places_of r) (i.flags_of o).weak (weak_aborts (own k o)) closing_ones 1))
      ∙ ap (λ f. strong_answers ++ at_once (answers (i.places_of r) f 1 (weak_aborts (own k o)) ++ closing_ones)) flag.1))

  -- the strong flags around are down
  around_down : (s y : ℕ) → Contains (around k r) s → (i.flags_of s).strong ≡ Some y → IsDownAround k core i rows tree counts written_at d r flag.0 s y
  around_down s y around_it strong =
      record {
        added = rows.strong_added s y strong;
        differs = λ e.
            let same : s ≡ o = sym owner ∙ (ap rows.of_flag e ∙ (opening.flag_of o flag.0 (inr (inl flag.1))).0) in
            holds_other k tree r o (subst (Contains (around k r)) same around_it) region.held;
        low =
            subst (λ f. Stores k core i d.variables f 0) strong
            (related.flags s (start_rows.super_there r s around_it) (related.enclosed r s there present around_it)).strong;
        home_is = ap (λ v. holder core (i.main_of v)) owner ∙ rows.held s;
        reads = inr (
          inr (
            counters.strong_not s y strong,
            subst (λ v. Contains (around core (i.thread_of r)) (i.main_of v)) (sym owner)
                (thread_within k core i rows r s around_it),
          ),
          (1, refl, (let zero_is = strong_at s y strong in omega (zero_is, arith))),
        );
      }
    where
      owner : rows.of_flag y ≡ s
      owner = (opening.flag_of s y (inl strong)).0

      present : standing_of c r ≢ at.Outside
      present e = let wrong : at.Within o (t ∷ others) ≡ at.Outside = sym stands ∙ e in absurd cc

  home_of : (y : ℕ) → rows.of_flag y ≡ o → corr.home y ≡ i.thread_of r
  home_of y owner = ap (λ s. holder core (i.main_of s)) owner ∙ (rows.held o ∙ ap i.thread_of region.held)

  strong_fail : (values : List Value) → ((y : ℕ) → y ≢ flag.0 → slice_get values y ≡ slice_get d.variables y) →
      AllFail corr (i.thread_of r) values strong_answers
  strong_fail values same = by_flag (i.flags_of o).strong refl
    where
      no_answers : (aborts : List Transition) (m : ℕ) → AllFail corr (i.thread_of r) values (answers (i.places_of r) None m aborts)
      no_answers [] m = tt
      no_answers (u ∷ aborts) m = tt

      by_flag : (f : Option ℕ) → (i.flags_of o).strong ≡ f → AllFail corr (i.thread_of r) values (answers (i.places_of r) f 1 (strong_aborts (own k o)))
      by_flag None e = no_answers (strong_aborts (own k o)) 1
      by_flag (Some y) e =
          let both : Apart (Some y) (Some flag.0) = subst (Apart (Some y)) flag.1 (subst (λ f. Apart f (i.flags_of o).weak) e (opening.flags_apart o).0) in
          let low : slice_get d.variables y ≡ Some (value_is.Int (pos 0)) =
          subst (λ f. Stores k core i d.variables f 0) e (related.flags o o_there inside_o).strong in
          none_answered corr (i.thread_of r) (i.places_of r) values y
          (silent_test corr (i.thread_of r) None y (rows.strong_added o y e) (inl (sym (home_of y (opening.flag_of o y (inl e)).0))))
          (same y both ∙ low) (strong_aborts (own k o)) 1 (omega arith)

  -- the flag is of no other superstate
  others_differ : (s : ℕ) → s ≢ o → ((i.flags_of s).strong ≢ Some flag.0) × ((i.flags_of s).weak ≢ Some flag.0) × ((i.flags_of s).counter ≢ Some flag.0)
  others_differ s ne = (
    (λ e. ne (sym (opening.flag_of s flag.0 (inl e)).0 ∙ owner)),
    (λ e. ne (sym (opening.flag_of s flag.0 (inr (inl e))).0 ∙ owner)),
    λ e. ne (sym (opening.flag_of s flag.0 (inr (inr e))).0 ∙ owner),
  )
    where
      owner : rows.of_flag flag.0 ≡ o
      owner = (opening.flag_of o flag.0 (inr (inl flag.1))).0

  pub weak_next : AbortNext k core i rows tree counts written_at c d r o 2 flag.0 t
  weak_next =
      record {
        there = there;
        o_there = o_there;
        has = has;
        held = region.held;
        super = region.super;
        was_inside = subst (IsInside k core i o) (sym stands) (open_inside (t ∷ others));
        works = let no_join : is_join t.kind ≡ false = weak_no_join t.kind weak in ap (has_work k c) stands ∙ rw (no_join) refl;
        free = free;
        chart_access = ap access_of stands;
        true_there = true_there;
        staged = inr refl;
        stage_now = stage_now;
        join = region.join;
        leads = region.leads;
        forked = region.is;
        number = monitor.number;
        immediate = t.immediate;
        other_tests = map (raises (λ z. z.immediate) flag.0) monitor.others ++ monitor_last k core i o;
        watching = core_stands;
        watching_alone = alone (i.watching_of o) (ap (λ z. z.regions) (rows.watcher o o_there has).row);
        added = rows.weak_added o flag.0 flag.1;
        in_range = (opening.flag_of o flag.0 (inr (inl flag.1))).1.1;
        is_int = (opening.flag_of o flag.0 (inr (inl flag.1))).1.0;
        of_flag = (opening.flag_of o flag.0 (inr (inl flag.1))).0;
        no_counter = counters.weak_not o flag.0 flag.1;
        written = weak_at flag.0 flag.1;
        flags_differ = others_differ;
        leaves = λ first raised values same over.
            idle_may_leave k core i rows more tree deep alone core_children children counts written_at counters opening start_rows written_low strong_at c d
            related r o flag.0
            flag.1 region.held early o_there (t ∷ others) stands idle first raised values same free over;
        around_down = around_down;
        earlier = answers (i.places_of r) (i.flags_of o).strong 1 (strong_aborts (own k o));
        aborts = weak_aborts (own k o);
        behind_them = closing_ones;
        numbered = monitor.first;
        continues = continues;
        earlier_fail = strong_fail;
      }

  -- with effects, it is followed
  pub weak_followed : (Told : Configuration → Entry → Type 0)
      (told : (e : Configuration) (u : ℕ) (at_stage : Option (ℕ × ℕ)) (a : Access) → Told e (Silent u at_stage a)) →
      Told d (Watched r (i.watcher_of o) 2 (access_of_trigger t.trigger)) → (e : Effect) (es : List Effect) → t.effects ≡ e ∷ es →
      t.target < length (region_at k r).states → (last : Configuration) → step k r c ≡ Some last →
      Segment (machine core) corr Told d (Stage k i.thread_of c d) (Stage k i.thread_of last) (act_of (machine k) c r ∷ []) (Related k core i last)
  weak_followed Told told told_test e es some target_there last steps =
      with_effects k core i rows more tree core_tree deep core_children children counts written_at Told told c d related r o 2 flag.0 t weak_next told_test
      target_there last (chart_takes k c r o t (to r (at.Within o others) ∷ []) true_there (ap (change_of k c r) stands) last steps) e es some

  -- without effects, from the law of entering
  pub weak_entered : (Told : Configuration → Entry → Type 0)
      (told : (e : Configuration) (u : ℕ) (at_stage : Option (ℕ × ℕ)) (a : Access) → Told e (Silent u at_stage a)) →
      Told d (Watched r (i.watcher_of o) 2 (access_of_trigger t.trigger)) → t.effects ≡ [] → t.target < length (region_at k r).states →
      (last : Configuration) → step k r c ≡ Some last → Enters k core i rows tree counts written_at Told →
      BeginsAt r (state_at k (state_in k r t.target)).entered → BeginsAt (i.thread_of r) (state_at core (i.entry_of (state_in k r t.target))).entered →
      Segment (machine core) corr Told d (Stage k i.thread_of c d) (Stage k i.thread_of last) (act_of (machine k) c r ∷ []) (Related k core i last)
  weak_entered Told told told_test none target_there last steps enters chart_first core_first =
      without_effects k core i rows more tree core_tree deep core_children children counts written_at Told told c d related r o 2 flag.0 t weak_next told_test
      target_there last (chart_takes k c r o t (to r (at.Within o others) ∷ []) true_there (ap (change_of k c r) stands) last steps) enters counters
      start_rows.super_there chart_first core_first none
