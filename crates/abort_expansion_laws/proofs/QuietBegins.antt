-- As long as a monitor has a delayed test to make, what is inside of its superstate stays below the nodes that raise the
-- strong flag. So from when a strong test was made on, it is quiet.
use Rattle.std.proofs.Common.{◌≡◌, ◌≢◌, ℕ, suc, ◌⊎◌, inl, inr, ⊎_elim, true, false, not, Option, Some, None, List, [], ◌∷◌, ◌++◌, map}
use Rattle.std.proofs.Common.{length, unwrap_or, pos, ◌≤◌, Contains, refl, sym, ap, subst, ◌∙◌}
use Rattle.std.proofs.lemmas.Option.{slice_get_past}
use Rattle.std.proofs.lemmas.Bool.{not-true}
use Rattle.sc_values.specs.declared.value.Value.TheVariants as value_is
use Rattle.sc_values.specs.declared.expression.Expr.{Expr}
use Rattle.sc_values.specs.Access.{Access, no_access, Inits, Precedes}
use Rattle.sc_graph.specs.declared.tables.Tables.{Tables}
use Rattle.sc_graph.specs.declared.control.Control.{Control}
use Rattle.sc_graph.specs.declared.control.Status.TheVariants as status
use Rattle.sc_graph.specs.Program.{Program, owner_of}
use Rattle.sc_graph.specs.Accesses.{accesses}
use Rattle.sc_graph.specs.Control.{status_of}
use Rattle.sc_graph.specs.Tables.{priority}
use Rattle.sc_graph.specs.Valid.{IsValid}
use Rattle.tick_laws.proofs.Lists.{list_all_at}
use Rattle.core_charts.specs.declared.region.Effect.{Effect}
use Rattle.core_charts.specs.declared.region.Transition.{Transition}
use Rattle.core_charts.specs.Tests.{weak_aborts}
use Rattle.core_charts.specs.Aborts.{has_aborts}
use Rattle.chart_machine.specs.declared.standing.Standing.{Standing}
use Rattle.chart_machine.specs.declared.standing.Standing.TheVariants as at
use Rattle.chart_machine.specs.declared.standing.Configuration.{Configuration}
use Rattle.chart_machine.specs.declared.table.StateRow.{StateRow}
use Rattle.chart_machine.specs.declared.table.Table.{Table}
use Rattle.chart_machine.specs.Turns.{standing_of, has_work, inside_is_done, inside}
use Rattle.chart_machine.specs.Steps.{step, access_of_trigger}
use Rattle.chart_machine.proofs.Outside.{within_or_past}
use Rattle.abort_expansion.specs.Transitions.{put, raising}
use Rattle.chart_lowering_laws.specs.Stands.{Followed, Lowered}
use Rattle.chart_lowering_laws.proofs.Ordering.{nothing_second}
use Rattle.compiled_charts_laws.proofs.LateTests.{is_late}
use Rattle.compiled_charts_laws.proofs.TestNodes.{TestNode}
use Rattle.chart_machine_laws.proofs.LyingIn.{IsNested, around, holder, head_in}
use Rattle.chart_machine_laws.specs.Tree.{IsThere}
use Rattle.abort_expansion_laws.specs.CoreRows.{own, IsState, Images, CoreRows, WatcherImage}
use Rattle.abort_expansion_laws.specs.Related.{raises, raise_each, Related, monitor_last}
use Rattle.abort_expansion_laws.proofs.ChecksUpTo.{strong_around}
use Rattle.abort_expansion_laws.proofs.FlagAccess.{put_access}
use Rattle.abort_expansion_laws.proofs.KnownVariables.{present_there, stepped}
use Rattle.abort_expansion_laws.proofs.StageReached.{inside_in}
use Rattle.abort_expansion_laws.proofs.StrongNotTaken.{IsGuarding, guarding_back, MonitorGuards}
use Rattle.abort_expansion_laws.proofs.StrongTestsQuiet.{Excused, StillLow, Inner, IsQuiet, quiet_kept, along}
use Rattle.abort_expansion_laws.proofs.LowPriorities.{Under, LowUnder}

-- what more is taken of the lowering, of delayed tests
pub record LoweredTests (core : Table) (p : Program) (Stands : Configuration → Control → Type 0) (lowered : Lowered core p Stands) : Type 0 where
  -- where one comes next that has effects, its thread has nodes for the test and the first of them
  pub test_node : (d : Configuration) (m : Control) → Stands d m → (t s : ℕ) (test : Transition) (tests : List Transition) (e : Expr) (f : Effect)
      (fs : List Effect) → standing_of d t ≡ at.Trying s (test ∷ tests) → is_late (at.Trying s (test ∷ tests)) ≡ true → test.trigger ≡ Some e →
      test.effects ≡ f ∷ fs → TestNode p t e f
  -- while one is still to be made, the holder of the superstate around waits
  pub waits_there : (d : Configuration) (m : Control) (g s : ℕ) (ss : List ℕ) → Stands d m → around core g ≡ s ∷ ss → is_late (standing_of d g) ≡ true →
      status_of m (holder core s) ≡ status.Waiting (lowered.join_of s)

-- what is told of a strong test when it is made
pub record GuardTold (k core : Table) (i : Images) (d : Configuration) (r g : ℕ) (a : Access) : Type 0 where
  pub now : Configuration
  pub related : Related k core i now d
  pub superstate : ℕ
  pub test : Transition
  pub others : List Transition
  pub stands : standing_of now r ≡ at.Guarding superstate (test ∷ others)
  pub monitor : g ≡ i.watcher_of superstate
  pub ready : MonitorGuards k core i superstate test others (standing_of d (i.watcher_of superstate))
  pub acts : a ≡ access_of_trigger test.trigger

pub late_works : (k : Table) (c : Configuration) (x : Standing) → is_late x ≡ true → has_work k c x ≡ true
late_works k c (at.Trying s (t ∷ tests)) late = refl
late_works k c (at.Trying s []) late = absurd cc
late_works k c at.Outside late = absurd cc
late_works k c at.Ended late = absurd cc
late_works k c (at.Acting s effects p) late = absurd cc
late_works k c (at.Entering s tests) late = absurd cc
late_works k c (at.Guarding s tests) late = absurd cc
late_works k c (at.Within s tests) late = absurd cc

pub no_tests_past : (k : Table) (s : ℕ) → length k.states ≤ s → own k s ≡ []
no_tests_past k s past =
    ap (λ (o : Option StateRow). (unwrap_or {T = StateRow} o (record { holder = 0; regions = []; transitions = []; entered = []; opened = [] })).transitions)
    (slice_get_past k.states s past)

-- who has aborts is a state
pub state_with_aborts : (k : Table) (s : ℕ) → has_aborts (own k s) ≡ true → IsState k s
state_with_aborts k s has =
    ⊎_elim (λ lt. lt) (λ past. let wrong : true ≡ false = sym has ∙ ap has_aborts (no_tests_past k s past) in absurd cc)
    (within_or_past s (length k.states))

module _ (k core : Table) (i : Images) (rows : CoreRows k core i) (tree : IsNested core) (p : Program) (q : Tables) (valid : IsValid p q)
    (Stands : Configuration → Control → Type 0) (lowered : Lowered core p Stands) (tests : LoweredTests core p Stands lowered)
    (late_before : (d next : Configuration) (t g : ℕ) → step core t d ≡ Some next → is_late (standing_of next g) ≡ true →
    is_late (standing_of d g) ≡ true) where
  abbrev home : ℕ → ℕ
  home o = i.thread_of (holder k o)

  -- a node of the monitor that raises the strong flag of the superstate
  pub record IsRaising (o n : ℕ) : Type 0 where
    pub owned : owner_of p n ≡ Some (i.watcher_of o)
    pub flag : ℕ
    pub is_flag : (i.flags_of o).strong ≡ Some flag
    pub inits : Inits (accesses p n) flag

  abbrev pub Beside : ℕ → ℕ → Type 0
  Beside o = Inner k core i rows tree p q valid Stands lowered (i.thread_of (holder k o)) (i.watcher_of o)

  -- the holder waits, and what lies beside the monitor is below the node
  abbrev pub StaysLow : (o n : ℕ) → Control → Type 0
  StaysLow o n m = StillLow p q valid (Beside o) (i.thread_of (holder k o)) (lowered.join_of (i.main_of o)) (priority q n) (strong_around k o) m

  -- so it is of each monitor that has a delayed test to make
  pub record MonitorsLow (d : Configuration) : Type 0 where
    pub control : Control
    pub stands : Stands d control
    pub low : (o : ℕ) → IsState k o → has_aborts (own k o) ≡ true → is_late (standing_of d (i.watcher_of o)) ≡ true → (n : ℕ) → IsRaising o n →
        StaysLow o n control

  -- the holder takes no step then, since its monitor has not ended
  holder_idle : (d next : Configuration) (m : Control) (o : ℕ) → Stands d m → IsState k o → has_aborts (own k o) ≡ true →
      is_late (standing_of d (i.watcher_of o)) ≡ true → status_of m (home o) ≡ status.Waiting (lowered.join_of (i.main_of o)) →
      step core (home o) d ≡ Some next → ⊥
  holder_idle d next m o stands there has late waits steps =
      let within = lowered.waits_back d m (home o) (i.main_of o) stands waits in
      let parts = stepped core (home o) d next steps in
      let done : inside_is_done core d (at.Within (i.main_of o) within.0) ≡ true = ap (inside_is_done core d) (sym within.1) ∙ parts.done in
      let image = rows.watcher o there has in
      let inner : Contains (inside core (i.main_of o)) (i.watcher_of o) =
      inside_in core (i.main_of o) (i.watcher_of o) image.there
      (subst (λ zs. Contains zs (i.main_of o)) (sym image.encloses) (head_in (i.main_of o) (around core (home o)))) in
      let idle : has_work core d (standing_of d (i.watcher_of o)) ≡ false =
      not-true (has_work core d (standing_of d (i.watcher_of o)))
      (list_all_at (λ r. not (has_work core d (standing_of d r))) (inside core (i.main_of o)) (i.watcher_of o) done inner) in
      let wrong : true ≡ false = sym (late_works core d (standing_of d (i.watcher_of o)) late) ∙ idle in absurd cc

  pub monitors_stay_low : (d next : Configuration) (t : ℕ) → MonitorsLow d → step core t d ≡ Some next → MonitorsLow next
  monitors_stay_low d next t keeps steps = record { control = f.last; stands = f.stands; low = low }
    where
      f : Followed core p Stands next keeps.control t
      f = lowered.follow d next keeps.control t keeps.stands steps

      low : (o : ℕ) → IsState k o → has_aborts (own k o) ≡ true → is_late (standing_of next (i.watcher_of o)) ≡ true → (n : ℕ) → IsRaising o n →
          StaysLow o n f.last
      low o there has late n raises_it =
          along p q valid (Beside o) (home o) (lowered.join_of (i.main_of o)) (priority q n) (strong_around k o) (λ u child. child.0) f.run keeps.control
          f.last nobody f.leads
          before
        where
          was_late : is_late (standing_of d (i.watcher_of o)) ≡ true
          was_late = late_before d next t (i.watcher_of o) steps late

          before : StaysLow o n keeps.control
          before = keeps.low o there has was_late n raises_it

          nobody : (u : ℕ) → Contains f.run u → u ≢ home o
          nobody u h e =
              ⊎_elim
              (λ is. holder_idle d next keeps.control o keeps.stands there has was_late before.waits
              (subst (λ v. step core v d ≡ Some next) (sym is ∙ e) steps))
              (λ awake. awake (lowered.join_of (i.main_of o)) (ap (status_of keeps.control) e ∙ before.waits)) (f.by u h)

  -- ---- a strong test is made

  -- it neither reads nor writes, or it is quiet from then on
  abbrev pub StaysQuiet : ℕ → Access → Configuration → Type 0
  StaysQuiet r a d = (a ≡ no_access) ⊎ IsQuiet k core i rows tree p q valid Stands lowered r a d

  pub stays_quiet : (r : ℕ) (a : Access) (d next : Configuration) (t : ℕ) → StaysQuiet r a d → step core t d ≡ Some next → t ≢ i.thread_of r →
      StaysQuiet r a next
  stays_quiet r a d next t (inl none) steps ne = inl none
  stays_quiet r a d next t (inr quiet) steps ne = inr (quiet_kept k core i rows tree p q valid Stands lowered r a d next t quiet steps ne)

  module _ (r g : ℕ) (a : Access) (d next : Configuration) (keeps : MonitorsLow d) (told : GuardTold k core i d r g a) (steps : step core g d ≡ Some next) where
    there : IsThere k r
    there =
        present_there k core i told.now d told.related r
        (λ e. let wrong : at.Guarding told.superstate (told.test ∷ told.others) ≡ at.Outside = sym told.stands ∙ e in absurd cc)

    region : IsGuarding k core i r told.superstate (standing_of d (i.thread_of r))
    region =
        guarding_back k core i told.now r (standing_of told.now r) (standing_of d (i.thread_of r)) (told.related.regions r there) told.superstate
        (told.test ∷ told.others) told.stands

    o_there : IsState k told.superstate
    o_there = state_with_aborts k told.superstate region.has

    monitor : MonitorGuards k core i told.superstate told.test told.others (standing_of d (i.watcher_of told.superstate))
    monitor = told.ready

    flag : (x : ℕ) × ((i.flags_of told.superstate).strong ≡ Some x)
    flag = rows.strong_there told.superstate monitor.number told.test o_there monitor.first

    abbrev first_test : Transition
    first_test = raises (λ z. false) flag.0 (monitor.number, told.test)

    abbrev other_tests : List Transition
    other_tests =
        map (raises (λ z. false) flag.0) monitor.others
        ++ (raising (λ z. z.immediate) 1 (i.flags_of told.superstate).weak 1 (weak_aborts (own k told.superstate))
        ++ monitor_last k core i told.superstate)

    core_stands : standing_of d (i.watcher_of told.superstate) ≡ at.Trying (i.watching_of told.superstate) (first_test ∷ other_tests)
    core_stands =
        monitor.is
        ∙ ap (λ f. at.Trying (i.watching_of told.superstate) (raise_each (λ z. false) f ((monitor.number, told.test) ∷ monitor.others)
        ++ (raising (λ z. z.immediate) 1 (i.flags_of told.superstate).weak 1 (weak_aborts (own k told.superstate))
        ++ monitor_last k core i told.superstate))) flag.1

    late : is_late (standing_of d (i.watcher_of told.superstate)) ≡ true
    late = ap is_late core_stands

    image : WatcherImage k core i told.superstate
    image = rows.watcher told.superstate o_there region.has

    watcher_steps : step core (i.watcher_of told.superstate) d ≡ Some next
    watcher_steps = subst (λ v. step core v d ≡ Some next) told.monitor steps

    quiet_from : (e : Expr) → told.test.trigger ≡ Some e → IsQuiet k core i rows tree p q valid Stands lowered r a next
    quiet_from e triggered =
        quiet_kept k core i rows tree p q valid Stands lowered r a d next (i.watcher_of told.superstate) quiet watcher_steps
        (λ same. image.no_thread r (sym same))
      where
        n : TestNode p (i.watcher_of told.superstate) e (put flag.0 (suc monitor.number))
        n =
            tests.test_node d keeps.control keeps.stands (i.watcher_of told.superstate) (i.watching_of told.superstate) first_test other_tests e
            (put flag.0 (suc monitor.number)) [] core_stands refl triggered refl

        raises_it : IsRaising told.superstate n.taken
        raises_it =
            record {
              owned = n.owned_too;
              flag = flag.0;
              is_flag = flag.1;
              inits = (
                Some (value_is.Int (pos (suc monitor.number))),
                ap (λ z. z.writes) (n.does_too ∙ put_access flag.0 (suc monitor.number)),
              );
            }

        low : StaysLow told.superstate n.taken keeps.control
        low = keeps.low told.superstate o_there region.has late n.taken raises_it

        quiet : IsQuiet k core i rows tree p q valid Stands lowered r a d
        quiet =
            record {
              there = there;
              superstate = told.superstate;
              monitor = i.watcher_of told.superstate;
              tested = n.tested;
              raising = n.taken;
              around_monitor = image.encloses ∙ ap (λ h. i.main_of told.superstate ∷ around core (i.thread_of h)) region.held;
              monitor_there = image.there;
              no_thread = image.no_thread;
              held = region.held;
              owned = n.owned;
              does = n.does ∙ (ap access_of_trigger (sym triggered) ∙ sym told.acts);
              leads = n.leads;
              control = keeps.control;
              stands = keeps.stands;
              waits = subst (λ h. status_of keeps.control (i.thread_of h) ≡ status.Waiting (lowered.join_of (i.main_of told.superstate))) region.held low.waits;
              many = strong_around k told.superstate;
              low = subst (λ h. LowUnder p q
                  (Under p (Inner k core i rows tree p q valid Stands lowered (i.thread_of h) (i.watcher_of told.superstate)))
                  (Excused p q (priority q n.taken) (strong_around k told.superstate)) (priority q n.taken) keeps.control) region.held low.low;
            }

    pub quiet_begins : StaysQuiet r a next
    quiet_begins = by told.test.trigger refl
      where
        by : (trigger : Option Expr) → told.test.trigger ≡ trigger → StaysQuiet r a next
        by None none = inl (told.acts ∙ ap access_of_trigger none)
        by (Some e) triggered = inr (quiet_from e triggered)

  -- what is quiet is not to be preceded
  pub spared_quietly : (r : ℕ) (a b : Access) (d : Configuration) → StaysQuiet r a d →
      (IsQuiet k core i rows tree p q valid Stands lowered r a d → ¬ Precedes b a) → ¬ Precedes b a
  spared_quietly r a b d (inl none) by_quiet first = nothing_second b (subst (Precedes b) none first)
  spared_quietly r a b d (inr quiet) by_quiet first = by_quiet quiet first
