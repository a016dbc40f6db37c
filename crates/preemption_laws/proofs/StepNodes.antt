-- When the threads of a core chart's graph have caught up, each step that reads or writes has its node there, and priorities order
-- concurrent ones.
use Rattle.std.proofs.Common.{◌≡◌, ◌≢◌, ℕ, ◌<◌, ◌≤◌, true, false, not, ◌&&◌, Option, Some, None, List, [], ◌∷◌, slice_get, unwrap_or}
use Rattle.std.proofs.Common.{Contains, refl, sym, ap}
use Rattle.std.proofs.Common.{subst, subst₂, ◌∙◌, arith}
use Rattle.std.proofs.lemmas.Bool.{and_parts}
use Rattle.sc_values.specs.declared.expression.Expr.{Expr}
use Rattle.sc_values.specs.Access.{Access, Nothing, no_access, MayPrecede, Precedes, Clash}
use Rattle.sc_values.specs.Assignment.{assignment_of}
use Rattle.sc_values.specs.Runs.{replay}
use Rattle.sc_graph.specs.declared.control.Control.{Control}
use Rattle.sc_graph.specs.declared.control.Status.TheVariants as status
use Rattle.sc_graph.specs.declared.program.Step.{Step}
use Rattle.sc_graph.specs.declared.program.Step.TheVariants as node_step
use Rattle.sc_graph.specs.declared.tables.Tables.{Tables}
use Rattle.sc_graph.specs.Accesses.{accesses}
use Rattle.sc_graph.specs.Control.{status_of}
use Rattle.sc_graph.specs.Machine as graph
use Rattle.sc_graph.specs.Program.{Program}
use Rattle.sc_graph.specs.Tables.{priority, priority_of}
use Rattle.sc_graph.specs.Threads as threads
use Rattle.sc_graph.specs.Valid.{IsValid}
use Rattle.sc_values.specs.Expr.{postorder}
use Rattle.tick_laws.proofs.EnabledPairs.{edge_falls}
use Rattle.tick_laws.proofs.EnabledPairs.{no_clash as nodes_never_clash}
use Rattle.tick_laws.proofs.Formed.{valid_formed}
use Rattle.tick_laws.proofs.Kin.{apart_turned}
use Rattle.tick_laws.proofs.WithinTick.{laws_within_tick}
use Rattle.core_charts.specs.declared.region.Effect.{Effect}
use Rattle.core_charts.specs.declared.region.Transition.{Transition}
use Rattle.core_charts.specs.Chart.{Chart}
use Rattle.core_charts.specs.Tests.{terminations}
use Rattle.chart_machine.specs.declared.standing.Standing.{Standing}
use Rattle.chart_machine.specs.declared.standing.Standing.TheVariants as at
use Rattle.chart_machine.specs.declared.standing.Configuration.{Configuration}
use Rattle.chart_machine.specs.declared.table.Table.{Table}
use Rattle.chart_machine.specs.Table.{table, state_at, region_at}
use Rattle.chart_machine.specs.Turns.{standing_of, has_work, is_enabled, is_guarded, inside_is_done, ForkedApart}
use Rattle.chart_machine.specs.Steps.{access_of, access_of_trigger, state_in}
use Rattle.scl.specs.declared.program.Scl.{Scl}
use Rattle.scl.specs.Block.{Assign, If}
use Rattle.scl.specs.Labels.{before}
use Rattle.scl.specs.Numbering.{Numbered, numbered}
use Rattle.scl.specs.Meaning.{State, Doing, Away, Todo, Forked, Resting, Resuming, Finished, doing}
use Rattle.scl.specs.Meaning as text
use Rattle.scl_graph.specs.Graph.{program_of, assigns, number}
use Rattle.scl_graph_laws.specs.Keeps.{Keeps}
use Rattle.scl_graph_laws.specs.Keeps.{Corresponds as StandsInGraph}
use Rattle.scl_graph_laws.specs.Mirrors.{Mirrors, HasNode, leads}
use Rattle.scl_graph_laws.specs.Standing.{standing, IsOfText}
use Rattle.scl_graph_laws.proofs.Alike.{from_both}
use Rattle.scl_graph_laws.proofs.RunsKept.{program_keeps_runs}
use Rattle.scl_graph_laws.proofs.Texts.{program_mirrors}
use Rattle.chart_lowering_laws.specs.Corresponds.{Live, HeldBy, Fits, Corresponds}
use Rattle.chart_lowering_laws.specs.Follows.{AnswersBy}
use Rattle.chart_lowering_laws.specs.Laws.{IsLowering}
use Rattle.chart_lowering_laws.specs.Layout.{Layout, IsRegionOf, Lowers, Acts, Behind, Takes, Tests, Tries}
use Rattle.chart_lowering_laws.specs.Marks.{layout}
use Rattle.chart_lowering_laws.specs.WhichShow.{thread_shows}
use Rattle.chart_lowering_laws.proofs.Catching.{caught, Caught, CaughtUp, NoJoin, catch_up, has_turn}
use Rattle.chart_lowering_laws.proofs.LeadAlike.{is_there}
use Rattle.chart_lowering_laws.proofs.Lowered.{chart_is_lowered}
use Rattle.chart_lowering_laws.proofs.Showing.{region_of}
use Rattle.chart_lowering_laws.proofs.Ordering.{nothing_second}
use Rattle.compiled_charts_laws.proofs.Mirrored.{owned, node_access, access_of_assigns}
use Rattle.compiled_charts_laws.proofs.Stands.{stand_alike}
use Rattle.compiled_charts_laws.proofs.StepsFollowed.{standing_in}
use Rattle.abort_expansion_laws.proofs.StrongTestsQuiet.{precedes_writes}
use Rattle.preemption_laws.proofs.CappedRanks.{both_write}
use Rattle.preemption_laws.proofs.StillAtJoins.{none_waiting}
use Rattle.preemption_laws.proofs.NoResumes.{NoneResumes, no_resumes}
use Rattle.preemption_laws.proofs.CaughtThreads.{GoOn, WaitsAtJoins, AtFirstEffects, goes_at, waits_at, first_effects}
use Rattle.preemption_laws.specs.StepNodes.{AtOwnNode, AtTheirNodes, Alike, ComesToNodes, StepsComeToNodes, PrioritiesOrderSteps}

-- ---- who neither reads nor writes stands in no order

pub does_some : (a : Access) → a.writes ≢ Nothing → a ≢ no_access
does_some a writes e = writes (ap (λ z. z.writes) e)

module _ (c : Chart) (p : Scl) (low : IsLowering c p) where
  abbrev K : Table
  K = table c

  abbrev P : Numbered
  P = numbered p

  abbrev G : Program
  G = program_of P

  abbrev L : Layout
  L = layout c P.root

  lowers : Lowers K P L
  lowers = chart_is_lowered c p low

  mirrors : Mirrors P G
  mirrors = program_mirrors p

  -- ---- threads that have caught up

  module _ (d : Configuration) (s : State) (m : Control) (corr : Corresponds K P L d s) (in_graph : StandsInGraph P s m) (up : Caught d s) (t : ℕ)
      (on : is_enabled K d t ≡ true) where
    stands_at : status_of m t ≡ standing (doing s t)
    stands_at = ap (λ z. unwrap_or (slice_get z t) status.Absent) in_graph.statuses ∙ standing_in s.threads t

    work : has_work K d (standing_of d t) ≡ true
    work = (and_parts (has_work K d (standing_of d t)) (not (is_guarded K d (region_at K t).around) && inside_is_done K d (standing_of d t)) on).0

    entered : standing_of d t ≢ at.Outside
    entered out = let wrong : true ≡ false = sym work ∙ ap (has_work K d) out in absurd cc

    going : standing_of d t ≢ at.Ended
    going end = let wrong : true ≡ false = sym work ∙ ap (has_work K d) end in absurd cc

    there : IsRegionOf K t
    there = region_of K P L d s corr t entered

    fits : Live K P.root L t (standing_of d t) (doing s t) × HeldBy K P.root L t (standing_of d t)
    fits =
        subst (λ g. Fits K P.root L t g (standing_of d t) (doing s t)) (has_turn K P L lowers d s corr up t there entered going)
        (corr.each t there)

    tests_at : (u : ℕ) (y : Transition) (tests : List Transition) (e : Expr) → y.trigger ≡ Some e → (z : Doing) → doing s t ≡ z →
        caught (at.Trying u (y ∷ tests)) z ≡ true → Live K P.root L t (at.Trying u (y ∷ tests)) z → AtOwnNode G m t (access_of_trigger y.trigger)
    tests_at u y tests e triggered (Todo todo) is up_to live =
        let h : Tests P.root (Some e) (Takes K P.root L (state_at K u).holder y)
        (Tries P.root (Takes K P.root L (state_at K u).holder) (L.pause u) tests) todo =
        subst (λ o. Tests P.root o (Takes K P.root L (state_at K u).holder y) (Tries P.root (Takes K P.root L (state_at K u).holder) (L.pause u) tests) todo)
        triggered live.1 in
        let same : todo ≡ If h.0 e h.1 h.2 h.3 = is_there P.root todo (If h.0 e h.1 h.2 h.3) live.0 h.4 in
        let own_place : IsOfText P.root t (Todo (If h.0 e h.1 h.2 h.3)) = subst (IsOfText P.root t) (is ∙ ap Todo same) (in_graph.places t) in
        let step : Step = node_step.Cond (postorder e) (leads P.root (before h.1 h.3)) (leads P.root (before h.2 h.3)) in
        let has : HasNode G h.0 t step = mirrors.nodes t (If h.0 e h.1 h.2 h.3) own_place.0 in
        let does_it : accesses G h.0 ≡ access_of_trigger (Some e) = node_access P G mirrors h.0 t step has in
        record {
          node = h.0;
          owned = owned P G mirrors h.0 t step has;
          does = does_it ∙ ap access_of_trigger (sym triggered);
          at = stands_at ∙ (ap standing is ∙ ap (λ b. status.At (number (Some b))) same);
        }
    tests_at u y tests e triggered (Resting n rest) is h live = let none : y ∷ tests ≡ [] = live.0 in absurd cc
    tests_at u y tests e triggered (Resuming n rest) is h live = absurd cc
    tests_at u y tests e triggered Away is h live = absurd live
    tests_at u y tests e triggered (Forked n branches rest) is h live = absurd live
    tests_at u y tests e triggered Finished is h live = absurd live

    acts_at : (u place : ℕ) (e : Effect) (effects : List Effect) (z : Doing) → doing s t ≡ z → Live K P.root L t (at.Acting u (e ∷ effects) place) z →
        AtOwnNode G m t (access_of (at.Acting u (e ∷ effects) place))
    acts_at u place e effects (Todo todo) is live =
        let h : Acts P.root (L.begin (state_in K t place)) (e ∷ effects) todo = live.2 in
        let same : todo ≡ Assign h.0 e.variable e.value h.1 = is_there P.root todo (Assign h.0 e.variable e.value h.1) live.0 h.2 in
        let own_place : IsOfText P.root t (Todo (Assign h.0 e.variable e.value h.1)) = subst (IsOfText P.root t) (is ∙ ap Todo same) (in_graph.places t) in
        let step : Step = assigns e.variable (assignment_of e.variable e.value) (leads P.root h.1) in
        let has : HasNode G h.0 t step = mirrors.nodes t (Assign h.0 e.variable e.value h.1) own_place.0 in
        record {
          node = h.0;
          owned = owned P G mirrors h.0 t step has;
          does = node_access P G mirrors h.0 t step has ∙ access_of_assigns e.variable (assignment_of e.variable e.value) (leads P.root h.1);
          at = stands_at ∙ (ap standing is ∙ ap (λ b. status.At (number (Some b))) same);
        }
    acts_at u place e effects Away is live = absurd live
    acts_at u place e effects (Forked n branches rest) is live = absurd live
    acts_at u place e effects (Resting n rest) is live = absurd live
    acts_at u place e effects (Resuming n rest) is live = absurd live
    acts_at u place e effects Finished is live = absurd live

    -- a termination has no trigger
    closes_plainly : (u : ℕ) (y : Transition) (tests : List Transition) (z : Doing) → Live K P.root L t (at.Within u (y ∷ tests)) z →
        HeldBy K P.root L t (at.Within u (y ∷ tests)) → y.trigger ≡ None
    closes_plainly u y tests z live held = by (tests_are z live)
      where
        tests_are : (z : Doing) → Live K P.root L t (at.Within u (y ∷ tests)) z → y ∷ tests ≡ terminations (state_at K u).transitions
        tests_are (Todo todo) live = live.0
        tests_are (Forked n branches rest) live = live.0
        tests_are (Resting n rest) live = live.1
        tests_are (Resuming n rest) live = live.1
        tests_are Away live = absurd live
        tests_are Finished live = absurd live

        by : y ∷ tests ≡ terminations (state_at K u).transitions → y.trigger ≡ None
        by all =
            let those : Behind K P.root L u (y ∷ tests) held.1.rest = subst (λ ts. Behind K P.root L u ts held.1.rest) (sym all) held.1.behind in those.2

    node_by : (z : Standing) → standing_of d t ≡ z → access_of z ≢ no_access → AtOwnNode G m t (access_of z)
    node_by (at.Trying u (y ∷ tests)) is some = by y.trigger refl
      where
        by : (o : Option Expr) → y.trigger ≡ o → AtOwnNode G m t (access_of_trigger y.trigger)
        by None none = absurd (some (ap access_of_trigger none))
        by (Some e) triggered =
            tests_at u y tests e triggered (doing s t) refl (subst (λ z. caught z (doing s t) ≡ true) is (up t))
            (subst (λ z. Live K P.root L t z (doing s t)) is fits.0)
    node_by (at.Acting u (e ∷ effects) place) is some =
        acts_at u place e effects (doing s t) refl (subst (λ z. Live K P.root L t z (doing s t)) is fits.0)
    node_by (at.Within u (y ∷ tests)) is some =
        absurd (some (ap access_of_trigger (closes_plainly u y tests (doing s t) (subst (λ z. Live K P.root L t z (doing s t)) is fits.0)
        (subst (HeldBy K P.root L t) is fits.1))))
    node_by (at.Entering u tests) is some =
        let live : Live K P.root L t (at.Entering u tests) (doing s t) =
        subst (λ z. Live K P.root L t z (doing s t)) is fits.0 in
        absurd live
    node_by (at.Guarding u tests) is some =
        let live : Live K P.root L t (at.Guarding u tests) (doing s t) =
        subst (λ z. Live K P.root L t z (doing s t)) is fits.0 in
        absurd live
    node_by (at.Trying u []) is some = absurd (some refl)
    node_by (at.Within u []) is some = absurd (some refl)
    node_by (at.Acting u [] place) is some = absurd (some refl)
    node_by at.Outside is some = absurd (some refl)
    node_by at.Ended is some = absurd (some refl)

  -- ---- they catch up, and priorities order what they do

  module _ (q : Tables) (valid : IsValid G q) where
    nodes : Keeps P G
    nodes = program_keeps_runs p low.rules low.no_loop

    -- threads that come to their nodes, and go on where they are there
    pub record AllCome (d : Configuration) (m : Control) : Type 0 where
      pub nodes : ComesToNodes c p d m
      pub goes : GoOn d nodes.last
      pub waits : WaitsAtJoins c p low d nodes.last
      pub firsts : AtFirstEffects c p low d nodes.last
      pub resumed : NoneResumes c p low nodes.last
      -- who steps on the way waits at no join before
      pub awake : (u j : ℕ) → Contains nodes.run u → status_of m u ≢ status.Waiting j

    pub comes : (d : Configuration) (m : Control) → Alike c p d m → AllCome d m
    comes d m x =
        let up : AnswersBy (text.machine P) thread_shows x.state (NoJoin K P L lowers d) (CaughtUp K P L lowers d) [] =
        catch_up K P L lowers d x.state x.of_chart in
        let there = from_both (StandsInGraph P) (replay (text.machine P) up.answers.run x.state) (replay (graph.machine G) up.answers.run m) up.answers.end
        (nodes.goes_on.runs up.answers.run x.state m x.of_graph) up.answers.runs in
        record {
          nodes = record {
            run = up.answers.run;
            last = there.0;
            leads = there.1;
            stands = record {
              state = up.answers.end;
              of_chart = up.answers.good.corresponds;
              of_graph = there.2;
              is_configuration = (laws_within_tick G q valid).kept up.answers.run m there.0 x.is_configuration there.1;
            };
            nodes = λ t on some.
                node_by d up.answers.end there.0 up.answers.good.corresponds there.2 up.answers.good.all t on (standing_of d t) refl some;
          };
          goes = λ t entered going.
              goes_at c p low d up.answers.end there.0 up.answers.good.corresponds there.2 up.answers.good.all t entered going;
          waits = waits_at c p low d up.answers.end there.0 up.answers.good.corresponds there.2 up.answers.good.all;
          awake = none_waiting p q valid nodes up.answers.run x.state up.answers.end m x.of_graph x.is_configuration up.answers.runs up.each;
          resumed = no_resumes c p low d up.answers.end there.0 up.answers.good.corresponds there.2 up.answers.good.all;
          firsts = first_effects c p low d up.answers.end there.0 up.answers.good.corresponds there.2 up.answers.good.all;
        }

    module _ (d e : Configuration) (m n : Control) (at_d : AtTheirNodes c G d m) (at_e : AtTheirNodes c G e n) (t u a : ℕ) (on : is_enabled K d t ≡ true)
        (on_too : is_enabled K e u ≡ true) (apart : ForkedApart K t u a) (low_rank : priority_of q (status_of n u) ≤ priority_of q (status_of m t)) where
      abbrev first : Access
      first = access_of (standing_of d t)

      abbrev second : Access
      second = access_of (standing_of e u)

      in_graph_apart : threads.ForkedApart G t u a
      in_graph_apart = (stand_alike c p low (valid_formed G q valid)).apart t u a apart

      not_before : ¬ Precedes second first
      not_before earlier =
          let v : AtOwnNode G m t first = at_d t on (λ none. nothing_second second (subst (Precedes second) none earlier)) in
          let w : AtOwnNode G n u second = at_e u on_too (does_some second (precedes_writes second first earlier)) in
          let less : priority q v.node < priority q w.node =
          edge_falls G q valid w.node v.node u t a w.owned v.owned (apart_turned G t u a in_graph_apart) (subst₂ Precedes (sym w.does) (sym v.does) earlier) in
          let no_more : priority q w.node ≤ priority q v.node = subst₂ (λ x y. priority_of q x ≤ priority_of q y) w.at v.at low_rank in
          absurd (omega (less, no_more, arith))

      not_clashing : ¬ Clash first second
      not_clashing clash =
          let v : AtOwnNode G m t first = at_d t on (does_some first (both_write first second clash).0) in
          let w : AtOwnNode G n u second = at_e u on_too (does_some second (both_write first second clash).1) in
          nodes_never_clash G q valid v.node w.node t u a v.owned w.owned in_graph_apart (subst₂ Clash (sym v.does) (sym w.does) clash)

      pub may_come_first : MayPrecede first second
      may_come_first = record { no_order = not_before; no_clash = not_clashing }

pub steps_come_to_nodes : StepsComeToNodes
steps_come_to_nodes c p q low valid d m alike = (comes c p low q valid d m alike).nodes

pub priorities_order_steps : PrioritiesOrderSteps
priorities_order_steps c p q low valid d e m n at_d at_e t u a on on_too apart low_rank =
    may_come_first c p low q valid d e m n at_d at_e t u a on on_too apart low_rank
