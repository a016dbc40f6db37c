-- A strong abort that is not taken, with another one behind it: the monitor makes the same test.
use Rattle.std.proofs.Common.{◌≡◌, ℕ, inl, Bool, true, false, Some, None, List, [], ◌∷◌, ◌++◌, map, slice_get, slice_set, refl, sym, ap, subst, ◌∙◌}
use Rattle.std.proofs.Common.{arith}
use Rattle.std.proofs.lemmas.Option.{same_Some}
use Rattle.sc_values.specs.Runs.{act_of}
use Rattle.core_charts.specs.declared.region.Transition.{Transition}
use Rattle.core_charts.specs.Tests.{strong_aborts, weak_aborts}
use Rattle.core_charts.specs.Aborts.{has_aborts}
use Rattle.chart_machine.specs.declared.standing.Standing.{Standing}
use Rattle.chart_machine.specs.declared.standing.Standing.TheVariants as at
use Rattle.chart_machine.specs.declared.standing.Configuration.{Configuration}
use Rattle.chart_machine.specs.declared.table.Table.{Table}
use Rattle.chart_machine.specs.Turns.{standing_of, has_work, is_guarded}
use Rattle.chart_machine.specs.Steps.{to, after, verdict, change_of, step, access_of, access_of_trigger, state_in}
use Rattle.chart_machine.specs.Machine.{machine}
use Rattle.abort_expansion.specs.Transitions.{raising}
use Rattle.compiled_charts_laws.proofs.Stands.{trigger_writes}
use Rattle.abort_expansion_laws.specs.Stages.{Entry, Watched}
use Rattle.abort_expansion_laws.proofs.Segments.{Segment}
use Rattle.chart_machine_laws.proofs.LyingIn.{IsNested, around, holder}
use Rattle.abort_expansion_laws.proofs.TablesCorrespond.{IsThere}
use Rattle.abort_expansion_laws.proofs.MoreValues.{verdict_over_more}
use Rattle.abort_expansion_laws.specs.CoreRows.{own, IsState, joins, Images, CoreRows}
use Rattle.abort_expansion_laws.specs.Related.{monitor_last}
use Rattle.abort_expansion_laws.specs.Related.{AreAmong, raises, raise_each, Stands, outside, ended, left, trying, acting, entering, guarding, staying}
use Rattle.abort_expansion_laws.specs.Related.{within, behind, Watches, guards as watch_guards, IsInside, guarded, open_inside}
use Rattle.abort_expansion_laws.specs.Related.{Related}
use Rattle.abort_expansion_laws.proofs.Unchanged.{never_guarded}
use Rattle.abort_expansion_laws.proofs.StageReached.{Stage}
use Rattle.abort_expansion_laws.proofs.ImageSteps.{pair}
use Rattle.abort_expansion_laws.proofs.MonitorSteps.{WatchedStep, watched_segment}
use Rattle.abort_expansion_laws.proofs.KnownVariables.{Stepped, stepped, present_there, trigger_known}
use Rattle.abort_expansion_laws.proofs.TestFails.{tested_is, fails, watch_other}

-- ---- where a region guards, taken apart

pub record IsGuarding (k core : Table) (i : Images) (r o : ℕ) (y : Standing) : Type 0 where
  pub has : has_aborts (own k o) ≡ true
  pub held : holder k o ≡ r
  pub join : ℕ
  pub leads : state_in core (i.thread_of r) join ≡ i.behind_of o
  pub is : y ≡ at.Within (i.main_of o) (joins join ∷ [])

module _ (k core : Table) (i : Images) (c : Configuration) (r : ℕ) where
  pub guarding_back : (x y : Standing) → Stands k core i c r x y → (o : ℕ) (tests : List Transition) → x ≡ at.Guarding o tests → IsGuarding k core i r o y
  guarding_back _ _ outside o tests e = absurd cc
  guarding_back _ _ (ended inner) o tests e = absurd cc
  guarding_back _ _ (left u ss f over) o tests e = absurd cc
  guarding_back _ _ (trying u others simple held) o tests e = absurd cc
  guarding_back _ _ (acting u v p f effects lt) o tests e = absurd cc
  guarding_back _ _ (entering u fork t others super held leads) o tests e = absurd cc
  guarding_back _ _ (guarding u join t others has held leads) o tests e =
      let state : u ≡ o = cc in
      record {
        has = ap (λ v. has_aborts (own k v)) (sym state) ∙ has;
        held = ap (holder k) (sym state) ∙ held;
        join = join;
        leads = leads ∙ ap i.behind_of state;
        is = ap (λ v. at.Within (i.main_of v) (joins join ∷ [])) state;
      }
  guarding_back _ _ (staying u others super held stays) o tests e = absurd cc
  guarding_back _ _ (within u join others super held stays open_still leads) o tests e = absurd cc
  guarding_back _ _ (behind u others super held over) o tests e = absurd cc

-- where the monitor of a superstate stands whose region guards it
pub record MonitorGuards (k core : Table) (i : Images) (o : ℕ) (t : Transition) (tests : List Transition) (y : Standing) : Type 0 where
  pub number : ℕ
  pub others : List (ℕ × Transition)
  pub first : slice_get (strong_aborts (own k o)) number ≡ Some t
  pub among : AreAmong (strong_aborts (own k o)) others
  pub tests_are : map (λ x. x.1) others ≡ tests
  pub is : y ≡ at.Trying (i.watching_of o) (raise_each (λ z. false) (i.flags_of o).strong ((number, t) ∷ others)
      ++ (raising (λ z. z.immediate) 1 (i.flags_of o).weak 1 (weak_aborts (own k o)) ++ monitor_last k core i o))

module _ (k core : Table) (i : Images) (o : ℕ) where
  pub from_some : (some : List (ℕ × Transition)) → AreAmong (strong_aborts (own k o)) some → (t : Transition) (tests : List Transition) →
      map (λ (x : ℕ × Transition). x.1) some ≡ t ∷ tests →
      MonitorGuards k core i o t tests (at.Trying (i.watching_of o) (raise_each (λ z. false) (i.flags_of o).strong some
      ++ (raising (λ z. z.immediate) 1 (i.flags_of o).weak 1 (weak_aborts (own k o)) ++ monitor_last k core i o)))
  from_some [] among t tests e = absurd cc
  from_some ((n, u) ∷ some) among t tests e =
      let same : u ≡ t = cc in
      let rest : map (λ (x : ℕ × Transition). x.1) some ≡ tests = cc in
      record {
        number = n;
        others = some;
        first = among.0 ∙ ap Some same;
        among = among.1;
        tests_are = rest;
        is = ap (λ z. at.Trying (i.watching_of o) (raise_each (λ w. false) (i.flags_of o).strong ((n, z) ∷ some)
            ++ (raising (λ w. w.immediate) 1 (i.flags_of o).weak 1 (weak_aborts (own k o)) ++ monitor_last k core i o))) same;
      }

  pub inside_guarding : (s : ℕ) (x : Standing) → IsInside k core i s x → (tests : List Transition) → x ≡ at.Guarding o tests → s ≡ o
  inside_guarding s _ (guarded others) tests e = cc
  inside_guarding s _ (open_inside others) tests e = absurd cc

module _ (k core : Table) (i : Images) (rows : CoreRows k core i) (tree : IsNested k) (counts : ℕ → Bool) (written_at : ℕ → ℕ)
    (c d : Configuration) (related : Related k core i c d) (r o : ℕ) (o_there : IsState k o) (t u : Transition) (tests : List Transition)
    (stands : standing_of c r ≡ at.Guarding o (t ∷ u ∷ tests)) (monitor : MonitorGuards k core i o t (u ∷ tests) (standing_of d (i.watcher_of o))) where
  pub there : IsThere k r
  there = present_there k core i c d related r (λ e. let wrong : at.Guarding o (t ∷ u ∷ tests) ≡ at.Outside = sym stands ∙ e in absurd cc)

  pub region : IsGuarding k core i r o (standing_of d (i.thread_of r))
  region = guarding_back k core i c r (standing_of c r) (standing_of d (i.thread_of r)) (related.regions r there) o (t ∷ u ∷ tests) stands

  flag : (x : ℕ) × ((i.flags_of o).strong ≡ Some x)
  flag = rows.strong_there o monitor.number t o_there monitor.first

  abbrev pub behind_them : List Transition
  behind_them = raising (λ z. z.immediate) 1 (i.flags_of o).weak 1 (weak_aborts (own k o)) ++ monitor_last k core i o

  core_stands : standing_of d (i.watcher_of o) ≡
      at.Trying (i.watching_of o) (raises (λ z. false) flag.0 (monitor.number, t) ∷ (map (raises (λ z. false) flag.0) monitor.others
      ++ (raising (λ z. z.immediate) 1 (i.flags_of o).weak 1 (weak_aborts (own k o)) ++ monitor_last k core i o)))
  core_stands =
      monitor.is
      ∙ ap (λ f. at.Trying (i.watching_of o) (raise_each (λ z. false) f ((monitor.number, t) ∷ monitor.others)
      ++ (raising (λ z. z.immediate) 1 (i.flags_of o).weak 1 (weak_aborts (own k o)) ++ monitor_last k core i o))) flag.1

  next_stands : at.Trying (i.watching_of o) (map (raises (λ z. false) flag.0) monitor.others
      ++ (raising (λ z. z.immediate) 1 (i.flags_of o).weak 1 (weak_aborts (own k o)) ++ monitor_last k core i o))
      ≡ at.Trying (i.watching_of o) (raise_each (λ z. false) (i.flags_of o).strong monitor.others
      ++ (raising (λ z. z.immediate) 1 (i.flags_of o).weak 1 (weak_aborts (own k o)) ++ monitor_last k core i o))
  next_stands =
      ap (λ f. at.Trying (i.watching_of o) (raise_each (λ z. false) f monitor.others
      ++ (raising (λ z. z.immediate) 1 (i.flags_of o).weak 1 (weak_aborts (own k o)) ++ monitor_last k core i o))) (sym flag.1)

  pub not_taken : verdict c.variables t.trigger ≡ Some false → has_work k c (standing_of c r) ≡ true → is_guarded k c (around k r) ≡ false →
      WatchedStep k core i rows tree counts written_at c d r o 0 (at.Guarding o (u ∷ tests))
      (at.Trying (i.watching_of o) (raise_each (λ z. false) (i.flags_of o).strong monitor.others ++ behind_them))
      (record { variables = c.variables; regions = slice_set c.regions r (at.Guarding o (u ∷ tests)) })
      (record {
        variables = d.variables;
        regions = slice_set d.regions (i.watcher_of o)
            (at.Trying (i.watching_of o) (raise_each (λ z. false) (i.flags_of o).strong monitor.others ++ behind_them));
      })
      (access_of_trigger t.trigger)
  not_taken false_there works free =
      record {
        goes =
            record {
              there = there;
              chart = refl;
              core_too = refl;
              state_there = o_there;
              has = region.has;
              held = region.held;
              ends = rw (stands) refl;
              guards_alike = rw (stands) refl;
              was_there = λ e. let wrong : at.Guarding o (t ∷ u ∷ tests) ≡ at.Outside = sym stands ∙ e in absurd cc;
              is_there = λ e. absurd cc;
              stands = subst (Stands k core i c r (at.Guarding o (u ∷ tests))) (sym region.is)
                  (guarding o region.join u tests region.has region.held region.leads);
              watches =
                  subst (λ ts. Watches k core i o (at.Guarding o ts) (at.Trying (i.watching_of o)
                  (raise_each (λ z. false) (i.flags_of o).strong monitor.others ++ behind_them)))
                  monitor.tests_are (watch_guards monitor.others monitor.among);
              watches_others = λ v v_there has held differ.
                  watch_other k core i v (standing_of c r) (standing_of d (i.watcher_of v)) (at.Guarding o (u ∷ tests))
                  (subst (λ p. Watches k core i v (standing_of c p) (standing_of d (i.watcher_of v))) held (related.watchers v v_there has))
                  (λ others e. let same : at.Guarding o (t ∷ u ∷ tests) ≡ at.Guarding v others = sym stands ∙ e in let state : o ≡ v = cc in differ (sym state))
                  (λ others e. let wrong : at.Guarding o (t ∷ u ∷ tests) ≡ at.Within v others = sym stands ∙ e in absurd cc)
                  (λ others e. let state : o ≡ v = cc in differ (sym state)) (λ others e. absurd cc);
              inside = λ s held inner. subst (λ v. IsInside k core i v (at.Guarding o (u ∷ tests)))
                  (sym (inside_guarding k core i o s (standing_of c r) inner (t ∷ u ∷ tests) stands)) (guarded (u ∷ tests));
              inside_back = λ s held inner.
                  subst (λ v. IsInside k core i v (standing_of c r)) (sym (inside_guarding k core i o s (at.Guarding o (u ∷ tests)) inner (u ∷ tests) refl))
                  (subst (IsInside k core i o) (sym stands) (guarded (t ∷ u ∷ tests)));
              free = free;
              closes = λ v others its w. absurd cc;
              more = related.more;
              variables = related.variables;
              flag_count = related.flag_count;
              values = related.values;
              flags = λ x le. refl;
            };
        staged = inl refl;
        not_above = rw (stands) (omega arith);
        not_below = omega arith;
        plain = trigger_writes t.trigger;
        works = works;
        free = free;
        steps =
            fails core d (i.watcher_of o) (i.watching_of o) (raises (λ z. false) flag.0 (monitor.number, t))
            (map (raises (λ z. false) flag.0) monitor.others ++
            (raising (λ z. z.immediate) 1 (i.flags_of o).weak 1 (weak_aborts (own k o)) ++ monitor_last k core i o))
            (never_guarded k core i rows c d related (around core (i.watcher_of o))) core_stands
            (subst (λ vs. verdict vs t.trigger ≡ Some false) (sym related.variables) (verdict_over_more related.more c.variables t.trigger false false_there))
            ∙ ap (λ z. Some (record { variables = d.variables; regions = slice_set d.regions (i.watcher_of o) z })) next_stands;
        chart_access = ap access_of stands;
        core_access = ap access_of core_stands;
        declared = λ x touches. let lt = trigger_known c.variables t.trigger false false_there x touches in omega (lt, related.values, arith);
      }

  pub not_taken_followed : (Told : Configuration → Entry → Type 0) → Told d (Watched r (i.watcher_of o) 0 (access_of_trigger t.trigger)) →
      (next : Configuration) → step k r c ≡ Some next →
      verdict c.variables t.trigger ≡ Some false →
      Segment (machine core) (pair k core i rows tree counts written_at) Told d (Stage k i.thread_of c d) (Stage k i.thread_of next)
      (act_of (machine k) c r ∷ []) (Related k core i next)
  not_taken_followed Told told next steps false_there =
      let parts : Stepped k r c next = stepped k r c next steps in
      let change : record { write = None; moves = to r (at.Guarding o (u ∷ tests)) ∷ [] } ≡ parts.change =
      same_Some _ parts.change (sym (ap (change_of k c r) stands ∙ tested_is k c r o t (to r (at.Guarding o (u ∷ tests)) ∷ []) false false_there) ∙
      parts.does) in
      let is : record { variables = c.variables; regions = slice_set c.regions r (at.Guarding o (u ∷ tests)) } ≡ next = ap (λ e. after e c) change ∙ parts.is in
      subst (λ c'. Segment (machine core) (pair k core i rows tree counts written_at) Told d (Stage k i.thread_of c d) (Stage k i.thread_of c')
      (act_of (machine k) c r ∷ []) (Related k core i c')) is
      (watched_segment k core i rows tree counts written_at c d related r o 0 (at.Guarding o (u ∷ tests))
      (at.Trying (i.watching_of o) (raise_each (λ z. false) (i.flags_of o).strong monitor.others ++ behind_them))
      (record { variables = c.variables; regions = slice_set c.regions r (at.Guarding o (u ∷ tests)) })
      (record {
        variables = d.variables;
        regions = slice_set d.regions (i.watcher_of o)
            (at.Trying (i.watching_of o) (raise_each (λ z. false) (i.flags_of o).strong monitor.others ++ behind_them));
      })
      (access_of_trigger t.trigger) (not_taken false_there parts.works parts.free) Told told)
