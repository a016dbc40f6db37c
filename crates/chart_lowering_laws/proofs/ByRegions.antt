-- The program follows the chart: to each step of a region its thread has one that shows the same, or none.
use Rattle.std.proofs.Common.{◌≡◌, ◌≢◌, ℕ, inl, inr, Bool, true, false, not, ◌&&◌, ◌||◌, if◌then◌else◌, Option, Some, None, List, [], ◌∷◌, filter, option_map}
use Rattle.std.proofs.Common.{Contains, refl, sym, ap, subst, ◌∙◌}
use Rattle.std.specs.List.{list_all}
use Rattle.std.proofs.lemmas.Option.{none-some, same_Some}
use Rattle.sc_values.specs.declared.expression.Expr.{Expr}
use Rattle.sc_values.specs.Runs.{Machine, Act, act_of}
use Rattle.sc_graph.specs.Steps.{only_if}
use Rattle.core_charts.specs.declared.region.Effect.{Effect}
use Rattle.core_charts.specs.declared.region.Transition.{Transition}
use Rattle.core_charts.specs.Tests.{terminations, is_join}
use Rattle.chart_machine.specs.declared.standing.Standing.{Standing}
use Rattle.chart_machine.specs.declared.standing.Standing.TheVariants as stand
use Rattle.chart_machine.specs.declared.standing.Configuration.{Configuration}
use Rattle.chart_machine.specs.declared.table.Table.{Table}
use Rattle.chart_machine.specs.Table.{state_at, region_at}
use Rattle.chart_machine.specs.Turns.{standing_of, has_work, has_ended, is_enabled, is_guarded, inside_is_done}
use Rattle.chart_machine.specs.Steps.{step as chart_step, change_of as region_change, access_of as access_of_region}
use Rattle.chart_machine.specs.Steps.{after as chart_after}
use Rattle.chart_machine.specs.Machine.{machine as chart_machine}
use Rattle.scl.specs.Block.{End, Assign, Label, Goto, Pause, If, Fork}
use Rattle.scl.specs.Places.{threads_of}
use Rattle.scl.specs.Numbering.{Numbered}
use Rattle.scl.specs.Meaning.{State, Doing, Away, Todo, Forked, Resting, Resuming, Finished, doing, step, machine, all_finished}
use Rattle.scl_graph_laws.specs.Alike.{Both}
use Rattle.scl_graph_laws.proofs.Alike.{from_both}
use Rattle.chart_lowering_laws.specs.Layout.{Layout, LiesIn, IsRegionOf, Lowers, Behind}
use Rattle.chart_lowering_laws.specs.Corresponds.{Live, HeldBy, Turn, given, Fits, Corresponds}
use Rattle.chart_lowering_laws.specs.Shown.{move, shown_acts}
use Rattle.chart_lowering_laws.specs.Follows.{Answers, AnswersBy}
use Rattle.chart_lowering_laws.specs.Keeps.{LeavesJoins}
use Rattle.chart_lowering_laws.specs.WhichShow.{region_shows, thread_shows, shows_doing, shows_standing, has_trigger}
use Rattle.chart_lowering_laws.proofs.Following.{both_by}
use Rattle.chart_lowering_laws.proofs.Updating.{After}
use Rattle.chart_lowering_laws.proofs.Steps.{tests_alike, tests_silently, effects_alike}
use Rattle.chart_lowering_laws.proofs.Joins.{InFork, in_fork, given_forked, termination_alike}
use Rattle.chart_lowering_laws.proofs.Finished.{finished_all, all_each}
use Rattle.chart_lowering_laws.proofs.Catching.{no_answer_by, shown_answer_by, more_by, caught, Caught, CaughtUp, NoJoin, catch_up, has_turn}
use Rattle.chart_lowering_laws.proofs.Showing.{ShowsAlike, test_shows, effect_shows, act, region_of}

-- a chosen test is of the sort that was chosen
pub chosen_first : (f : Transition → Bool) (xs : List Transition) (t : Transition) (ts : List Transition) → filter f xs ≡ t ∷ ts → f t ≡ true
chosen_first f [] t ts h = absurd (cc)
chosen_first f (x ∷ xs) t ts h = by (f x) refl h (chosen_first f xs t ts)
  where
    first_of : List Transition → Transition
    first_of [] = t
    first_of (y ∷ ys) = y

    by : (b : Bool) → f x ≡ b → (if b then x ∷ filter f xs else filter f xs) ≡ t ∷ ts → (filter f xs ≡ t ∷ ts → f t ≡ true) → f t ≡ true
    by true is h more = subst (λ y. f y ≡ true) (heads x t (filter f xs) ts h) is
      where
        heads : (x t : Transition) (xs ts : List Transition) → x ∷ xs ≡ t ∷ ts → x ≡ t
        heads x t xs ts h = cc
    by false is h more = more h

pub only_true : {A : Type 0} (b : Bool) (o : Option A) (x : A) → only_if b o ≡ Some x → b ≡ true
only_true true o x h = refl
only_true false o x h = absurd (none-some x h)

pub and_first : (a b : Bool) → (a && b) ≡ true → a ≡ true
and_first true b h = refl
and_first false b h = absurd (cc)

module _ (k : Table) (p : Numbered) (l : Layout) (low : Lowers k p l) (c : Configuration) where
  abbrev text : Machine
  text = machine p

  abbrev chart : Machine
  chart = chart_machine k

  -- what shows of the step of region t
  abbrev pub shown_of : ℕ → List Act
  shown_of t = shown_acts (move (region_shows c t) (act_of chart c t) ∷ [])

  shown_silent : (t : ℕ) → region_shows c t ≡ false → shown_of t ≡ []
  shown_silent t is = ap (λ b. shown_acts (move b (act_of chart c t) ∷ [])) is

  shown_is : (t : ℕ) → region_shows c t ≡ true → shown_of t ≡ act_of chart c t ∷ []
  shown_is t is = ap (λ b. shown_acts (move b (act_of chart c t) ∷ [])) is

  module _ (s : State) (corr : Corresponds k p l c s) (up : Caught c s) (t : ℕ) (d : Configuration) (steps : chart_step k t c ≡ Some d) where
    abbrev Goal : Type 0
    Goal = AnswersBy text thread_shows s (LeavesJoins t) (After k p l c t d) (shown_of t)

    works : has_work k c (standing_of c t) ≡ true
    works =
        and_first (has_work k c (standing_of c t)) (not (is_guarded k c (region_at k t).around) && inside_is_done k c (standing_of c t))
        (only_true (is_enabled k c t) (option_map (λ e. chart_after e c) (region_change k c t (standing_of c t))) d steps)

    -- the thread's step shows the same
    shown_step : (x : Standing) (y : Doing) (f : State) → standing_of c t ≡ x → doing s t ≡ y → ShowsAlike x y → step p t s ≡ Some f → After k p l c t d f →
        Goal
    shown_step x y f stands is alike goes good =
        subst (AnswersBy text thread_shows s (LeavesJoins t) (After k p l c t d))
        (ap (λ z. act t (Rattle.scl.specs.Meaning.access_of z) ∷ []) is ∙ ap (λ a. act t a ∷ []) alike.access ∙ ap (λ z. act t (access_of_region z) ∷ [])
        (sym stands) ∙ sym (shown_is t (ap shows_standing stands ∙ alike.shows_too)))
        (shown_answer_by text thread_shows s f t (LeavesJoins t) (After k p l c t d) goes (ap shows_doing is ∙ alike.shows) (inl refl) good)

    by_both : (x : Standing) (y : Doing) → standing_of c t ≡ x → doing s t ≡ y → ShowsAlike x y → Both (After k p l c t) (chart_step k t c) (step p t s) → Goal
    by_both x y stands is alike both =
        let f : (f : State) × (step p t s ≡ Some f) × After k p l c t d f = from_both (After k p l c t) (chart_step k t c) (step p t s) d both steps in
        shown_step x y f.0 stands is alike f.1 f.2

    module _ (there : IsRegionOf k t) (turn : given k c s (region_at k t).around ≡ Turn) where
      trying : (u : ℕ) (x : Transition) (tests : List Transition) → standing_of c t ≡ stand.Trying u (x ∷ tests) → (y : Doing) → doing s t ≡ y →
          caught (stand.Trying u (x ∷ tests)) y ≡ true → Live k p.root l t (stand.Trying u (x ∷ tests)) y → Goal
      trying u x tests stands (Todo todo) is h live = by x.trigger refl
        where
          by : (o : Option Expr) → x.trigger ≡ o → Goal
          by None trigger =
              let e : (e : Configuration) × (chart_step k t c ≡ Some e) × After k p l c t e s =
              tests_silently k p l low c s corr t there turn u x tests todo stands trigger is in
              subst (AnswersBy text thread_shows s (LeavesJoins t) (After k p l c t d))
              (sym (shown_silent t (ap shows_standing stands ∙ ap has_trigger trigger)))
              (no_answer_by text thread_shows s (LeavesJoins t) (After k p l c t d) (subst (λ e. After k p l c t e s) (same_Some e.0 d (sym e.1 ∙ steps)) e.2))
          by (Some e) trigger =
              by_both (stand.Trying u (x ∷ tests)) (Todo todo) stands is (test_shows k p.root l t u x tests e todo trigger live)
              (tests_alike k p l low c s corr t there turn u x tests e todo stands trigger is)
      trying u x tests stands (Resting n rest) is h live = let none : x ∷ tests ≡ [] = live.0 in absurd (cc)
      trying u x tests stands (Resuming n rest) is h live = absurd (cc)
      trying u x tests stands Away is h live = absurd live
      trying u x tests stands (Forked n branches rest) is h live = absurd live
      trying u x tests stands Finished is h live = absurd live

      acting : (u place : ℕ) (e : Effect) (effects : List Effect) → standing_of c t ≡ stand.Acting u (e ∷ effects) place → (y : Doing) → doing s t ≡ y →
          Live k p.root l t (stand.Acting u (e ∷ effects) place) y → Goal
      acting u place e effects stands (Todo todo) is live =
          by_both (stand.Acting u (e ∷ effects) place) (Todo todo) stands is (effect_shows k p.root l t u place e effects todo live)
          (effects_alike k p l low c s corr t there turn u place e effects todo stands is)
      acting u place e effects stands (Resting n rest) is live = absurd live
      acting u place e effects stands (Resuming n rest) is live = absurd live
      acting u place e effects stands Away is live = absurd live
      acting u place e effects stands (Forked n branches rest) is live = absurd live
      acting u place e effects stands Finished is live = absurd live

      closing : (u : ℕ) (x : Transition) (tests : List Transition) → standing_of c t ≡ stand.Within u (x ∷ tests) → (y : Doing) → doing s t ≡ y →
          caught (stand.Within u (x ∷ tests)) y ≡ true →
          has_work k c (stand.Within u (x ∷ tests)) ≡ true → Live k p.root l t (stand.Within u (x ∷ tests)) y → Goal
      closing u x tests stands (Todo (Fork n branches rest)) is h work live = absurd (cc)
      closing u x tests stands (Todo (Pause n rest)) is h work live = let none : x ∷ tests ≡ [] = live.1.0 in absurd (cc)
      closing u x tests stands (Todo (End n)) is h work live = absurd live.1
      closing u x tests stands (Todo (Assign n y e rest)) is h work live = absurd live.1
      closing u x tests stands (Todo (Label name rest)) is h work live = absurd live.1
      closing u x tests stands (Todo (Goto g name rest)) is h work live = absurd live.1
      closing u x tests stands (Todo (If n e a b rest)) is h work live = absurd live.1
      closing u x tests stands (Resting n rest) is h work live = let none : x ∷ tests ≡ [] = live.0 in absurd (cc)
      closing u x tests stands (Resuming n rest) is h work live = absurd (cc)
      closing u x tests stands Away is h work live = absurd live
      closing u x tests stands Finished is h work live = absurd live
      closing u x tests stands (Forked n branches rest) is h work live =
          let all : terminations (state_at k u).transitions ≡ x ∷ tests = sym live.0 in
          let fork : InFork k p l low c s corr t u n branches rest = in_fork k p l low c s corr t u n branches rest there turn
          (stands ∙ ap (stand.Within u) (sym all)) is in
          let join : is_join x.kind ≡ true = chosen_first (λ y. is_join y.kind) (state_at k u).transitions x tests all in
          let ended : (q : ℕ) → Contains (state_at k u).regions q → standing_of c q ≡ stand.Ended = λ q held. has_ended_is (standing_of c q)
          (all_each (λ r. has_ended (standing_of c r)) (state_at k u).regions
          (either (is_join x.kind) (list_all (λ r. has_ended (standing_of c r)) (state_at k u).regions) join work) q held) in
          let finished : all_finished s (threads_of branches) ≡ true = finished_all s (threads_of branches) (λ q in_threads.
          let held : Contains (state_at k u).regions q = subst (λ ts. Contains ts q) fork.threads in_threads in
          let lies : IsRegionOf k q × LiesIn k q u = low.tree.regions u q fork.within.there held in
          let q_turn : given k c s (region_at k q).around ≡ Turn = given_forked k p l low c s corr q t u n
          (x ∷ tests) branches rest lies.1 fork.within stands is in
          let q_live : Live k p.root l q (standing_of c q) (doing s q) × HeldBy k p.root l q (standing_of c q) =
          subst (λ g. Fits k p.root l q g (standing_of c q) (doing s q)) q_turn (corr.each q lies.0) in
          finished_by q (doing s q) (subst (λ z. caught z (doing s q) ≡ true) (ended q held) (up q))
          (subst (λ z. Live k p.root l q z (doing s q)) (ended q held) q_live.0)) in
          let both : (e : Configuration) × (f : State) × (chart_step k t c ≡ Some e) × (step p t s ≡ Some f) × After k p l c t e f =
          termination_alike k p l low c s corr t u n branches rest x tests there turn stands all is ended finished in
          let leaves : Behind k p.root l u (x ∷ tests) rest = subst (λ ts. Behind k p.root l u ts rest) all fork.behind in
          shown_step (stand.Within u (x ∷ tests)) (Forked n branches rest) both.1 stands is
          (record { shows = leaves.3; shows_too = refl; access = sym (ap Rattle.chart_machine.specs.Steps.access_of_trigger leaves.2) })
          both.3 (subst (λ e. After k p l c t e both.1) (same_Some both.0 d (sym both.2 ∙ steps)) both.4)
        where
          either : (a b : Bool) → a ≡ true → (not a || b) ≡ true → b ≡ true
          either true b h i = i
          either false b h i = absurd (cc)

          has_ended_is : (z : Standing) → has_ended z ≡ true → z ≡ stand.Ended
          has_ended_is stand.Ended h = refl
          has_ended_is stand.Outside h = absurd (cc)
          has_ended_is (stand.Trying w ts) h = absurd (cc)
          has_ended_is (stand.Entering w ts) h = absurd (cc)
          has_ended_is (stand.Guarding w ts) h = absurd (cc)
          has_ended_is (stand.Within w ts) h = absurd (cc)
          has_ended_is (stand.Acting w effects target) h = absurd (cc)

          finished_by : (q : ℕ) (y : Doing) → caught stand.Ended y ≡ true → Live k p.root l q stand.Ended y → y ≡ Finished
          finished_by q Finished h live = refl
          finished_by q (Todo todo) h live = absurd (cc)
          finished_by q Away h live = absurd live
          finished_by q (Forked m bs r) h live = absurd live
          finished_by q (Resting m r) h live = absurd live
          finished_by q (Resuming m r) h live = absurd live

      -- a superstate whose region takes a step has regions that have all ended
      closed_regions : (u : ℕ) (tests : List Transition) → standing_of c t ≡ stand.Within u tests → (y : Doing) → caught (stand.Within u tests) y ≡ true →
          Live k p.root l t (stand.Within u tests) y → (q : ℕ) → Contains (state_at k u).regions q → standing_of c q ≡ stand.Ended
      closed_regions u tests stands y h live q held = by tests (subst (λ z. has_work k c z ≡ true) stands works) (closes tests y h live)
        where
          closes : (tests : List Transition) (y : Doing) → caught (stand.Within u tests) y ≡ true → Live k p.root l t (stand.Within u tests) y →
              tests ≡ terminations (state_at k u).transitions
          closes tests (Todo todo) h live = live.0
          closes tests (Forked n branches rest) h live = live.0
          closes tests (Resting n rest) h live = live.1
          closes tests (Resuming n rest) h live = live.1
          closes tests Away h live = absurd live
          closes tests Finished h live = absurd live

          either : (a b : Bool) → a ≡ true → (not a || b) ≡ true → b ≡ true
          either true b h i = i
          either false b h i = absurd (cc)

          has_ended_is : (z : Standing) → has_ended z ≡ true → z ≡ stand.Ended
          has_ended_is stand.Ended h = refl
          has_ended_is stand.Outside h = absurd (cc)
          has_ended_is (stand.Trying w ts) h = absurd (cc)
          has_ended_is (stand.Entering w ts) h = absurd (cc)
          has_ended_is (stand.Guarding w ts) h = absurd (cc)
          has_ended_is (stand.Within w ts) h = absurd (cc)
          has_ended_is (stand.Acting w effects target) h = absurd (cc)

          by : (tests : List Transition) → has_work k c (stand.Within u tests) ≡ true → tests ≡ terminations (state_at k u).transitions →
              standing_of c q ≡ stand.Ended
          by [] work all = absurd (cc)
          by (x ∷ tests) work all =
              has_ended_is (standing_of c q)
              (all_each (λ r. has_ended (standing_of c r)) (state_at k u).regions
              (either (is_join x.kind) (list_all (λ r. has_ended (standing_of c r)) (state_at k u).regions)
              (chosen_first (λ y. is_join y.kind) (state_at k u).transitions x tests (sym all)) work) q held)

      stepping : (x : Standing) → standing_of c t ≡ x → has_work k c x ≡ true → caught x (doing s t) ≡ true → Live k p.root l t x (doing s t) → Goal
      stepping (stand.Trying u (x ∷ tests)) stands work h live = trying u x tests stands (doing s t) refl h live
      stepping (stand.Acting u (e ∷ effects) place) stands work h live = acting u place e effects stands (doing s t) refl live
      stepping (stand.Within u (x ∷ tests)) stands work h live = closing u x tests stands (doing s t) refl h work live
      stepping (stand.Trying u []) stands work h live = absurd (cc)
      stepping (stand.Within u []) stands work h live = absurd (cc)
      stepping (stand.Acting u [] place) stands work h live = absurd (none (doing s t) live)
        where
          none : (y : Doing) → Live k p.root l t (stand.Acting u [] place) y → ⊥
          none Away live = live
          none (Todo todo) live = live
          none (Forked n branches rest) live = live
          none (Resting n rest) live = live
          none (Resuming n rest) live = live
          none Finished live = live
      stepping stand.Outside stands work h live = absurd (cc)
      stepping stand.Ended stands work h live = absurd (cc)
      stepping (stand.Entering u tests) stands work h live = absurd live
      stepping (stand.Guarding u tests) stands work h live = absurd live

    caught_follows : Goal
    caught_follows =
        let entered : standing_of c t ≢ stand.Outside = λ is. let h : has_work k c stand.Outside ≡ true = subst (λ x. has_work k c x ≡ true) is works in
        absurd (cc) in
        let going : standing_of c t ≢ stand.Ended = λ is. let h : has_work k c stand.Ended ≡ true = subst (λ x. has_work k c x ≡ true) is works in
        absurd (cc) in
        let there : IsRegionOf k t = region_of k p l c s corr t entered in
        let turn : given k c s (region_at k t).around ≡ Turn = has_turn k p l low c s corr up t there entered going in
        let fits : Live k p.root l t (standing_of c t) (doing s t) × HeldBy k p.root l t (standing_of c t) =
        subst (λ g. Fits k p.root l t g (standing_of c t) (doing s t)) turn (corr.each t there) in
        stepping there turn (standing_of c t) refl works (up t) fits.0

  -- a region that takes a step in a superstate: all regions of that have ended
  pub ended_inside : (s : State) → Corresponds k p l c s → (t : ℕ) (d : Configuration) → chart_step k t c ≡ Some d → (u : ℕ) (tests : List Transition) →
      standing_of c t ≡ stand.Within u tests → (q : ℕ) → Contains (state_at k u).regions q → standing_of c q ≡ stand.Ended
  ended_inside s corr t d steps u tests stands =
      let up : Answers text thread_shows s (CaughtUp k p l low c) [] = (catch_up k p l low c s corr).answers in
      let f : State = up.end in
      let again : Corresponds k p l c f = up.good.corresponds in
      let there : IsRegionOf k t = region_of k p l c f again t (λ out. let h : stand.Within u tests ≡ stand.Outside = sym stands ∙ out in absurd (cc)) in
      let turn : given k c f (region_at k t).around ≡ Turn = has_turn k p l low c f again up.good.all t there
      (λ out. let h : stand.Within u tests ≡ stand.Outside = sym stands ∙ out in absurd (cc)) (λ ended. let h : stand.Within u tests ≡ stand.Ended =
      sym stands ∙ ended in absurd (cc)) in
      let fits : Live k p.root l t (standing_of c t) (doing f t) × HeldBy k p.root l t (standing_of c t) =
      subst (λ g. Fits k p.root l t g (standing_of c t) (doing f t)) turn (again.each t there) in
      closed_regions f again up.good.all t d steps there turn u tests stands (doing f t) (subst (λ z. caught z (doing f t) ≡ true) stands (up.good.all t))
      (subst (λ z. Live k p.root l t z (doing f t)) stands fits.0)

  -- who takes a step stands somewhere
  pub works_at : (t : ℕ) (d : Configuration) → chart_step k t c ≡ Some d → standing_of c t ≢ stand.Outside
  works_at t d steps is =
      let work : has_work k c (standing_of c t) ≡ true = and_first (has_work k c (standing_of c t))
      (not (is_guarded k c (region_at k t).around) && inside_is_done k c (standing_of c t))
      (only_true (is_enabled k c t) (option_map (λ e. chart_after e c) (region_change k c t (standing_of c t))) d steps) in
      let h : has_work k c stand.Outside ≡ true = subst (λ x. has_work k c x ≡ true) is work in
      absurd (cc)

  -- the program follows a step of a region, and besides its thread nobody leaves a join
  pub step_followed_by : (s : State) → Corresponds k p l c s → (t : ℕ) (d : Configuration) → chart_step k t c ≡ Some d →
      AnswersBy text thread_shows s (LeavesJoins t) (After k p l c t d) (shown_of t)
  step_followed_by s corr t d steps =
      let up : AnswersBy text thread_shows s (LeavesJoins t) (CaughtUp k p l low c) [] =
      more_by text thread_shows s (NoJoin k p l low c) (LeavesJoins t) (CaughtUp k p l low c) [] (λ u e free. inr free) (catch_up k p l low c s corr) in
      both_by text thread_shows s (LeavesJoins t) (CaughtUp k p l low c) (After k p l c t d) [] (shown_of t) up
      (caught_follows up.answers.end up.answers.good.corresponds up.answers.good.all t d steps)

  pub step_followed : (s : State) → Corresponds k p l c s → (t : ℕ) (d : Configuration) → chart_step k t c ≡ Some d →
      Answers text thread_shows s (After k p l c t d) (shown_of t)
  step_followed s corr t d steps = (step_followed_by s corr t d steps).answers
