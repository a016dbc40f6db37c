-- The last strong test of a superstate that fails is followed: by the monitor's test, and the strong check of each thread inside.
use Rattle.std.proofs.Common.{◌≡◌, ◌≢◌, ℕ, suc, ◌≤◌, inl, inr, ⊎_elim, Bool, true, false, Option, Some, None}
use Rattle.std.proofs.Common.{List, [], ◌∷◌, length, slice_set, Contains, refl, sym, ap, subst, ◌∙◌, arith}
use Rattle.std.specs.List.{list_any}
use Rattle.std.proofs.lemmas.Option.{same_Some}
use Rattle.std.proofs.lemmas.Bool.{or_parts}
use Rattle.std.proofs.lemmas.List.{length-set}
use Rattle.sc_values.specs.Access.{Access}
use Rattle.sc_values.specs.Runs.{act_of}
use Rattle.core_charts.specs.declared.region.Transition.{Transition}
use Rattle.core_charts.specs.Tests.{is_weak, closing_tests}
use Rattle.chart_machine.specs.declared.standing.Standing.{Standing}
use Rattle.chart_machine.specs.declared.standing.Standing.TheVariants as at
use Rattle.chart_machine.specs.declared.standing.Configuration.{Configuration}
use Rattle.chart_machine.specs.declared.table.Table.{Table}
use Rattle.chart_machine.specs.Table.{state_at}
use Rattle.chart_machine.specs.Turns.{standing_of, has_ended, is_guarded, has_work, may_close, inside}
use Rattle.chart_machine.specs.Steps.{to, after, change_of, step, verdict, access_of, access_of_trigger}
use Rattle.chart_machine.specs.Machine.{machine}
use Rattle.core_charts.specs.Aborts.{has_aborts}
use Rattle.chart_machine_laws.specs.Tree.{IsNested, IsThere, around, holder}
use Rattle.tick_laws.proofs.Lists.{same_or_not}
use Rattle.compiled_charts_laws.proofs.Stands.{trigger_writes}
use Rattle.abort_expansion_laws.specs.Stages.{Entry, Watched, Silent, Correspondence, HasStage}
use Rattle.abort_expansion_laws.specs.CoreRows.{own, IsState, IsSuper, Images, CoreRows, pair}
use Rattle.abort_expansion_laws.specs.Related.{Related}
use Rattle.abort_expansion_laws.specs.StageReached.{some_work, stage_of, Stage}
use Rattle.abort_expansion_laws.proofs.StageReached.{holds_other, one_at_least, either_rises}
use Rattle.abort_expansion_laws.proofs.Supplying.{climbs_step, climbs_fewer}
use Rattle.abort_expansion_laws.proofs.Segments.{Segment, segment_on}
use Rattle.abort_expansion_laws.proofs.SilentSteps.{AtHome}
use Rattle.abort_expansion_laws.proofs.KnownVariables.{trigger_known, Stepped, stepped}
use Rattle.abort_expansion_laws.proofs.TestFails.{tested_is}
use Rattle.abort_expansion_laws.proofs.StrongNotTaken.{MonitorGuards}
use Rattle.abort_expansion_laws.proofs.InsideLeaves.{AloneRows}
use Rattle.abort_expansion_laws.proofs.WokenConfigurations.{all_ended_too}
use Rattle.abort_expansion_laws.proofs.FrontsChanged.{tail_of, HasFirst, one_first, none_first}
use Rattle.abort_expansion_laws.proofs.ChecksInside.{Passes, nothing_checked, checked, Done, checks_pass}
use Rattle.abort_expansion_laws.proofs.LastStrongFails as last
use Rattle.abort_expansion_laws.proofs.OuterStages.{under_stages}

module _ (k core : Table) (i : Images) (rows : CoreRows k core i) (lone : AloneRows k core i) (tree : IsNested k)
    (core_children : (s r : ℕ) → Contains (state_at core s).regions r → around core r ≡ s ∷ around core (holder core s))
    (children : (s r : ℕ) → Contains (state_at k s).regions r → around k r ≡ s ∷ around k (holder k s))
    (c d : Configuration) (related : Related k core i c d) (r o x : ℕ) (o_there : IsState k o) (super : IsSuper k o) (t : Transition)
    (stands : standing_of c r ≡ at.Guarding o (t ∷ [])) (monitor : MonitorGuards k core i o t [] (standing_of d (i.watcher_of o)))
    (has : has_aborts (own k o) ≡ true) (flag : (i.flags_of o).strong ≡ Some x)
    (counts : ℕ → Bool) (written_at : ℕ → ℕ) (flag_of : rows.of_flag x ≡ o) (not_counter : counts x ≡ false) (written_first : written_at x ≡ 0)
    (Told : Configuration → Entry → Type 0) (told : (e : Configuration) (g : ℕ) (stage : Option (ℕ × ℕ)) (a : Access) → Told e (Silent g stage a))
    (works : has_work k c (standing_of c r) ≡ true) (free : is_guarded k c (around k r) ≡ false) where
  abbrev c' : Configuration
  c' = last.c' k core i rows lone tree core_children children c d related r o x o_there super t stands monitor has flag

  abbrev d1 : Configuration
  d1 = last.d1 k core i rows lone tree core_children children c d related r o x o_there super t stands monitor has flag

  abbrev corr : Correspondence
  corr = pair k core i rows tree counts written_at

  there : IsThere k r
  there = last.there k core i rows lone tree core_children children c d related r o x o_there super t stands monitor has flag

  here : standing_of c' r ≡ at.Within o (closing_tests (own k o))
  here = last.here k core i rows lone tree core_children children c d related r o x o_there super t stands monitor has flag

  elsewhere : (q : ℕ) → q ≢ r → standing_of c' q ≡ standing_of c q
  elsewhere q ne = last.elsewhere_in_chart k core i rows lone tree core_children children c d related r o x o_there super t stands monitor has flag q ne

  held : holder k o ≡ r
  held = (last.region k core i rows lone tree core_children children c d related r o x o_there super t stands monitor has flag).held

  home_is : corr.home x ≡ i.thread_of r
  home_is = ap (λ s. holder core (i.main_of s)) flag_of ∙ (rows.held o ∙ ap i.thread_of held)

  abbrev Others : ℕ → ℕ → Type 0
  Others h n = Stage k i.thread_of c' d1 h n

  abbrev Home : ℕ → ℕ → Type 0
  Home = AtHome Others (corr.home x) 1

  -- ---- stages

  ends_alike : (q : ℕ) → has_ended (standing_of c' q) ≡ has_ended (standing_of c q)
  ends_alike = last.same_ends k core i rows lone tree core_children children c d related r o x o_there super t stands monitor has flag free

  closes_alike : (s : ℕ) (tests : List Transition) → may_close k c' s tests ≡ may_close k c s tests
  closes_alike s [] = refl
  closes_alike s (u ∷ tests) = rw (all_ended_too k core i c c' ends_alike (state_at k s).regions) refl

  work_alike : (w : Standing) → has_work k c' w ≡ has_work k c w
  work_alike at.Outside = refl
  work_alike at.Ended = refl
  work_alike (at.Trying s []) = refl
  work_alike (at.Trying s (u ∷ tests)) = refl
  work_alike (at.Entering s tests) = refl
  work_alike (at.Guarding s tests) = refl
  work_alike (at.Acting s effects target) = refl
  work_alike (at.Within s tests) = closes_alike s tests

  quiet : (qs : List ℕ) → list_any (λ q. has_work k c (standing_of c q)) qs ≡ false → list_any (λ q. has_work k c' (standing_of c' q)) qs ≡ false
  quiet [] e = refl
  quiet (q ∷ qs) e =
      let both = or_parts (has_work k c (standing_of c q)) (list_any (λ p. has_work k c (standing_of c p)) qs) e in
      ⊎_elim (λ same. let wrong : true ≡ false = sym works ∙ (ap (λ p. has_work k c (standing_of c p)) (sym same) ∙ both.0) in absurd cc)
      (λ ne. rw (work_alike (standing_of c' q) ∙ (ap (has_work k c) (elsewhere q ne) ∙ both.0), quiet qs both.1) refl) (same_or_not q r)

  stage_up : (w : Standing) → stage_of k c w ≤ stage_of k c' w
  stage_up at.Outside = omega arith
  stage_up at.Ended = omega arith
  stage_up (at.Trying s tests) = omega arith
  stage_up (at.Entering s tests) = omega arith
  stage_up (at.Guarding s tests) = omega arith
  stage_up (at.Acting s effects target) = omega arith
  stage_up (at.Within s tests) =
      either_rises (has_aborts (own k s)) (some_work k c s) (some_work k c' s) (list_any (λ u. is_weak u.kind) tests) (quiet (inside k s))

  own_stage : 1 ≤ stage_of k c' (standing_of c' r)
  own_stage =
      subst (λ w. 1 ≤ stage_of k c' w) (sym here)
      (one_at_least (has_aborts (own k o)) (some_work k c' o) (list_any (λ u. is_weak u.kind) (closing_tests (own k o))))

  low_before : stage_of k c (standing_of c r) ≡ 0
  low_before = ap (stage_of k c) stands

  present : standing_of c r ≢ at.Outside
  present e = let wrong : at.Guarding o (t ∷ []) ≡ at.Outside = sym stands ∙ e in absurd cc

  holders_same : (s : ℕ) → Contains (around k r) s → standing_of c' (holder k s) ≡ standing_of c (holder k s)
  holders_same s inner = elsewhere (holder k s) (holds_other k tree r s inner)

  not_root : r ≡ 0 → ⊥
  not_root e = let lt = there.0 in omega (lt, e, arith)

  abbrev Access_here : Access
  Access_here = access_of_trigger t.trigger

  own_stages : (h n : ℕ) → HasStage corr (Watched r (i.watcher_of o) 0 Access_here) h n → ((u : ℕ) → Stage k i.thread_of c d h u → u ≤ n) × Home h n
  own_stages h n (inl is) = (
    λ u before. let le = before.regions r there is.0 in omega (le, low_before, arith),
    (λ ne. absurd (ne (is.0 ∙ sym home_is)), λ e. let zero_is = is.1 in omega (zero_is, arith)),
  )
  own_stages h n (inr inner) =
      let its = under_stages k core i rows c d related r there present works free c' holders_same d1 h n inner in
      let one = inner.3 in (its.0, (λ ne. its.1, λ e. omega (one, arith)))

  stages_stay : (h n : ℕ) → i.watcher_of o ≢ h → Stage k i.thread_of c d h n → Home h n
  stages_stay h n other before = (
    λ ne. record {
      regions = λ q q_there e.
          let le = before.regions q q_there e in
          let not_own : q ≢ r = λ same. ne (e ∙ (ap i.thread_of same ∙ sym home_is)) in
          let up : stage_of k c (standing_of c q) ≤ stage_of k c' (standing_of c' q) =
          subst (λ w. stage_of k c (standing_of c q) ≤ stage_of k c' w) (sym (elsewhere q not_own)) (stage_up (standing_of c q)) in omega (le, up, arith);
      chart = before.chart;
    },
    λ e. let le = before.regions r there (e ∙ home_is) in omega (le, low_before, arith),
  )

  stages_then : (last_one : Configuration) (h n : ℕ) → Home h n → Stage k i.thread_of c' last_one h n
  stages_then last_one h n reached = ⊎_elim at_home other (same_or_not h (corr.home x))
    where
      at_home : h ≡ corr.home x → Stage k i.thread_of c' last_one h n
      at_home e =
          let le = reached.1 e in
          record {
            regions = λ q q_there f.
                let same : r ≡ q = rows.region_once r q (sym home_is ∙ (sym e ∙ f)) in
                let least : 1 ≤ stage_of k c' (standing_of c' q) = subst (λ p. 1 ≤ stage_of k c' (standing_of c' p)) same own_stage in omega (le, least, arith);
            chart = λ f. absurd (not_root (rows.region_once r 0 (sym home_is ∙ (sym e ∙ f))));
          }

      other : h ≢ corr.home x → Stage k i.thread_of c' last_one h n
      other ne = let before = reached.0 ne in record { regions = before.regions; chart = before.chart }

  -- ---- the steps

  high_flag : length k.variables ≤ x
  high_flag = rows.strong_added o x flag

  pub followed : verdict c.variables t.trigger ≡ Some false → Told d (Watched r (i.watcher_of o) 0 Access_here) →
      Segment (machine core) corr Told d (Stage k i.thread_of c d) (Stage k i.thread_of c') (act_of (machine k) c r ∷ []) (Related k core i c')
  followed false_there told_it =
      record {
        log = whole.log;
        last = whole.last;
        follows = whole.follows;
        charted = whole.charted;
        fits = whole.fits;
        climbs = λ rest climbs. whole.climbs rest (climbs_fewer corr (Stage k i.thread_of c' whole.last) Home rest (stages_then whole.last) climbs);
        reaches =
            last.related_then k core i rows lone tree core_children children c d related r o x o_there super t stands monitor has flag free whole.last
            whole.reaches.variables whole.reaches.size
            (λ q is inner. whole.reaches.passed q is inner (let lt = is.1 in lt)) whole.reaches.others;
      }
    where
      first : Segment (machine core) corr Told d (Stage k i.thread_of c d) (λ z. Home) (act_of (machine k) c r ∷ []) (λ z. z ≡ d1)
      first =
          record {
            log = Watched r (i.watcher_of o) 0 Access_here ∷ [];
            last = d1;
            follows = (
              ap (λ a. record { thread = i.watcher_of o; access = a })
                  (sym (ap access_of (last.core_stands k core i rows lone tree core_children children c d related r o x o_there super t stands monitor
                  has flag))),
              told_it,
              (
                d1,
                last.monitor_steps k core i rows lone tree core_children children c d related r o x o_there super t stands monitor has flag
                    false_there,
                refl,
              ),
            );
            charted = ap (λ a. record { thread = r; access = a } ∷ []) (sym (ap access_of stands));
            fits = (
              record {
                watches = (o, (o_there, has), refl, held);
                staged = inl refl;
                writes_nothing = trigger_writes t.trigger;
                no_flags = λ y touches. let lt = trigger_known c.variables t.trigger false false_there y touches in omega (lt, related.values, arith);
              },
              tt,
            );
            climbs = λ more climbs. climbs_step corr (Stage k i.thread_of c d) Home (Watched r
                (i.watcher_of o) 0 Access_here) more own_stages stages_stay climbs;
            reaches = refl;
          }

      passes_of : (q : ℕ) (y : Standing) →
          HasFirst (λ b. last.check_of k core i rows lone tree core_children children c d related r o x o_there super t stands monitor has flag b q) y →
          Passes k core i rows tree counts written_at Told told o x flag_of high_flag not_counter written_first Others q y (tail_of y)
      passes_of q _ (one_first b u rest) = checked b u rest
      passes_of q y (none_first z same) =
          subst (Passes k core i rows tree counts written_at Told told o x flag_of high_flag not_counter written_first Others q y)
          (sym same) (nothing_checked y)

      second : Segment (machine core) corr Told d1 Home (λ z. Home) []
          (Done k core i rows tree counts written_at Told told o x flag_of high_flag not_counter written_first Others
          (λ q. tail_of (standing_of d1 (i.thread_of q))) d1 (suc (length k.regions)))
      second =
          checks_pass k core i rows tree counts written_at Told told o x flag_of high_flag not_counter written_first Others
          (λ q. tail_of (standing_of d1 (i.thread_of q))) d1
          (length-set d.regions (i.watcher_of o) _ ∙ related.core_regions)
          (last.flag_down k core i rows lone tree core_children children c d related r o x o_there super t stands monitor has flag)
          (λ q is inner. passes_of q (standing_of d1 (i.thread_of q))
          (last.first_inside k core i rows lone tree core_children children c d related r o x o_there super t stands monitor has flag free q is inner))
          (last.nobody_guards k core i rows lone tree core_children children c d related r o x o_there super t stands monitor has flag)

      whole : Segment (machine core) corr Told d (Stage k i.thread_of c d) (λ z. Home) (act_of (machine k) c r ∷ [])
          (Done k core i rows tree counts written_at Told told o x flag_of high_flag not_counter written_first Others
          (λ q. tail_of (standing_of d1 (i.thread_of q))) d1 (suc (length k.regions)))
      whole =
          segment_on (machine core) corr Told d (Stage k i.thread_of c d) (λ z. Home) (λ z. Home) (act_of (machine k) c r ∷ []) [] (λ z. z ≡ d1)
          (Done k core i rows tree counts written_at Told told o x flag_of high_flag not_counter written_first Others
          (λ q. tail_of (standing_of d1 (i.thread_of q))) d1 (suc (length k.regions))) first
          (subst (λ z. Segment (machine core) corr Told z Home (λ y. Home) []
          (Done k core i rows tree counts written_at Told told o x flag_of high_flag not_counter written_first Others
          (λ q. tail_of (standing_of d1 (i.thread_of q))) d1 (suc (length k.regions)))) (sym first.reaches) second)

-- the step of the chart
module _ (k core : Table) (i : Images) (rows : CoreRows k core i) (lone : AloneRows k core i) (tree : IsNested k)
    (core_children : (s r : ℕ) → Contains (state_at core s).regions r → around core r ≡ s ∷ around core (holder core s))
    (children : (s r : ℕ) → Contains (state_at k s).regions r → around k r ≡ s ∷ around k (holder k s))
    (c d : Configuration) (related : Related k core i c d) (r o x : ℕ) (o_there : IsState k o) (super : IsSuper k o) (t : Transition)
    (stands : standing_of c r ≡ at.Guarding o (t ∷ [])) (monitor : MonitorGuards k core i o t [] (standing_of d (i.watcher_of o)))
    (has : has_aborts (own k o) ≡ true) (flag : (i.flags_of o).strong ≡ Some x)
    (counts : ℕ → Bool) (written_at : ℕ → ℕ) (flag_of : rows.of_flag x ≡ o) (not_counter : counts x ≡ false) (written_first : written_at x ≡ 0)
    (Told : Configuration → Entry → Type 0) (told : (e : Configuration) (g : ℕ) (stage : Option (ℕ × ℕ)) (a : Access) → Told e (Silent g stage a)) where
  pub last_strong_followed : Told d (Watched r (i.watcher_of o) 0 (access_of_trigger t.trigger)) → (next : Configuration) → step k r c ≡ Some next →
      verdict c.variables t.trigger ≡ Some false →
      Segment (machine core) (pair k core i rows tree counts written_at) Told d (Stage k i.thread_of c d) (Stage k i.thread_of next)
      (act_of (machine k) c r ∷ []) (Related k core i next)
  last_strong_followed told_it next steps false_there =
      let parts : Stepped k r c next = stepped k r c next steps in
      let change : record { write = None; moves = to r (at.Within o (closing_tests (own k o))) ∷ [] } ≡ parts.change =
      same_Some _ parts.change
      (sym (ap (change_of k c r) stands ∙ tested_is k c r o t (to r (at.Within o (closing_tests (own k o))) ∷ []) false false_there) ∙ parts.does) in
      let is : record { variables = c.variables; regions = slice_set c.regions r (at.Within o (closing_tests (own k o))) } ≡ next =
      ap (λ e. after e c) change ∙ parts.is in
      subst (λ z. Segment (machine core) (pair k core i rows tree counts written_at) Told d (Stage k i.thread_of c d) (Stage k i.thread_of z)
      (act_of (machine k) c r ∷ []) (Related k core i z)) is
      (followed k core i rows lone tree core_children children c d related r o x o_there super t stands monitor has flag counts written_at flag_of
      not_counter
      written_first Told told parts.works parts.free false_there told_it)
