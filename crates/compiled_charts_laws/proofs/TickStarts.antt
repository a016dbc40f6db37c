-- As a tick starts, a core chart and the graph of its lowering stand alike, and each thread that has work resumes before the
-- tests of its region.
use Rattle.std.proofs.Common.{◌≡◌, ◌≢◌, ℕ, zero, suc, ◌<◌, ⊎_elim, true, false, Option, Some, None, List, [], ◌∷◌, map, length, slice_get}
use Rattle.std.proofs.Common.{unwrap_or, Contains, refl, sym, ap, subst, ◌∙◌, arith}
use Rattle.std.proofs.lemmas.Option.{slice_get_within}
use Rattle.sc_values.specs.Runs.{IsOver, Ends}
use Rattle.sc_graph.specs.declared.control.Control.{Control}
use Rattle.sc_graph.specs.declared.control.Status.{Status}
use Rattle.sc_graph.specs.declared.control.Status.TheVariants as status
use Rattle.sc_graph.specs.declared.program.Step.TheVariants as node_step
use Rattle.sc_graph.specs.declared.tables.Tables.{Tables}
use Rattle.sc_graph.specs.Program.{parent_of, step_at, Program}
use Rattle.sc_graph.specs.Control.{status_of, all_ended, status_enabled}
use Rattle.sc_graph.specs.Machine as graph
use Rattle.sc_graph.specs.Tick.{Inputs, AreAccepted}
use Rattle.sc_graph.specs.Tick as graph_tick
use Rattle.sc_graph.specs.Valid.{IsValid}
use Rattle.tick_laws.proofs.Formed.{valid_formed}
use Rattle.tick_laws.proofs.Starting.{Starts, wakes, enters, starts, start_config}
use Rattle.tick_laws.proofs.Views.{Enabled, Completes, stands, completes, all_ended_from}
use Rattle.core_charts.specs.declared.region.Transition.{Transition}
use Rattle.core_charts.specs.Chart.{Chart}
use Rattle.chart_machine.specs.declared.standing.Standing.{Standing}
use Rattle.chart_machine.specs.declared.standing.Standing.TheVariants as stand
use Rattle.chart_machine.specs.declared.standing.Configuration.{Configuration}
use Rattle.chart_machine.specs.declared.table.Table.{Table}
use Rattle.chart_machine.specs.Table.{table, region_at}
use Rattle.chart_machine.specs.Turns.{standing_of}
use Rattle.chart_machine.specs.Machine as chart
use Rattle.scl.specs.declared.program.Scl.{Scl}
use Rattle.scl.specs.Block.{Block, End, Pause}
use Rattle.scl.specs.Places.{Place, whole, after_pause}
use Rattle.scl.specs.Numbering.{Numbered, numbered}
use Rattle.scl.specs.Meaning.{State, Doing, Away, Todo, Forked, Resting, Resuming, Finished, doing}
use Rattle.scl.specs.Meaning as text
use Rattle.scl_graph.specs.Graph.{program_of, number}
use Rattle.scl_graph_laws.specs.Standing.{standing, IsOfText}
use Rattle.scl_graph_laws.specs.Mirrors.{Mirrors, HasNodes, leads}
use Rattle.scl_graph_laws.specs.Keeps.{Keeps}
use Rattle.scl_graph_laws.specs.Keeps.{Corresponds as StandsInGraph}
use Rattle.scl_graph_laws.proofs.RunsKept.{program_keeps_runs}
use Rattle.scl_graph_laws.proofs.Texts.{program_mirrors}
use Rattle.chart_lowering_laws.specs.Layout.{Layout, LiesIn, IsRegionOf, TriesOut, Lowers}
use Rattle.chart_lowering_laws.specs.Corresponds.{Corresponds, Live, HeldBy, Giving, Nothing, Ready, Turn, Past, given, Fits}
use Rattle.chart_lowering_laws.specs.Keeps.{KeepsSteps}
use Rattle.chart_lowering_laws.specs.Laws.{IsLowering}
use Rattle.chart_lowering_laws.specs.Marks.{layout}
use Rattle.chart_lowering_laws.proofs.Lowered.{chart_is_lowered}
use Rattle.chart_lowering_laws.proofs.TicksKept.{keeps_runs}
use Rattle.node_states.specs.Nodes.{state_of_node}
use Rattle.compiled_charts_laws.specs.Stands.{StandAlike}
use Rattle.compiled_charts_laws.proofs.StepsFollowed.{status_is}
use Rattle.compiled_charts_laws.proofs.Mirrored.{stepped}
use Rattle.compiled_charts_laws.proofs.Ticks as ticks
use Rattle.compiled_charts_laws.proofs.Told.{nodes_stand}

-- ---- at the start of a tick of any program nobody completes a join, since nobody did between the ticks

ended_before : (s : Status) → graph_tick.woken s ≡ status.Ended → s ≡ status.Ended
ended_before status.Absent e = absurd (cc)
ended_before (status.At n) e = absurd (cc)
ended_before (status.Waiting j) e = absurd (cc)
ended_before (status.Paused d) e = absurd (cc)
ended_before status.Ended e = e

waiting_before : (s : Status) (j : ℕ) → graph_tick.woken s ≡ status.Waiting j → s ≡ status.Waiting j
waiting_before status.Absent j e = absurd (cc)
waiting_before (status.At n) j e = absurd (cc)
waiting_before (status.Waiting i) j e = e
waiting_before (status.Paused d) j e = absurd (cc)
waiting_before status.Ended j e = absurd (cc)

module _ (p : Program) (inputs : Inputs) (c : Control) where
  was_ended : (t : ℕ) → Starts p c (graph_tick.start p inputs c) t → status_of (graph_tick.start p inputs c) t ≡ status.Ended → status_of c t ≡ status.Ended
  was_ended t (wakes e) ended = ended_before (status_of c t) (sym e ∙ ended)
  was_ended t (enters n root entry absent e) ended = let wrong : status.At n ≡ status.Ended = sym e ∙ ended in absurd (cc)

  was_waiting : (t j : ℕ) → Starts p c (graph_tick.start p inputs c) t → status_of (graph_tick.start p inputs c) t ≡ status.Waiting j →
      status_of c t ≡ status.Waiting j
  was_waiting t j (wakes e) waits = waiting_before (status_of c t) j (sym e ∙ waits)
  was_waiting t j (enters n root entry absent e) waits = let wrong : status.At n ≡ status.Waiting j = sym e ∙ waits in absurd (cc)

  none_completes : IsOver (graph.machine p) c → (t : ℕ) → Completes p (graph_tick.start p inputs c) t → ⊥
  none_completes over t w =
      let at : status_of c t ≡ status.Waiting w.join = was_waiting t w.join (starts p inputs c t) w.at in
      let all : all_ended c (Some w.children) ≡ true =
      all_ended_from c w.children (λ k child. was_ended k (starts p inputs c k) (w.ended k child)) in
      let enabled : status_enabled p c (status_of c t) ≡ true = ap (status_enabled p c) at ∙ (ap (all_ended c) w.joined ∙ all) in
      let wrong : true ≡ false = sym enabled ∙ over t in absurd (cc)

-- ---- a text that wakes

woken_at : (ds : List Doing) (t : ℕ) → unwrap_or (slice_get (map text.woken ds) t) Away ≡ text.woken (unwrap_or (slice_get ds t) Away)
woken_at [] t = refl
woken_at (d ∷ ds) zero = refl
woken_at (d ∷ ds) (suc t) = woken_at ds t

started_at : (root : Block) (ds : List Doing) (t : ℕ) →
    unwrap_or (slice_get (text.threads_at_start root ds) (suc t)) Away ≡ text.woken (unwrap_or (slice_get ds (suc t)) Away)
started_at root [] t = refl
started_at root (d ∷ ds) t = woken_at ds t

module _ (c : Chart) (p : Scl) (q : Tables) (low : IsLowering c p) (valid : IsValid (program_of (numbered p)) q) where
  abbrev K : Table
  K = table c

  abbrev P : Numbered
  P = numbered p

  abbrev G : Program
  G = program_of P

  abbrev L : Layout
  L = layout c P.root

  lowers : Lowers K P L
  lowers = chart_is_lowered c p low

  steps : KeepsSteps K P L
  steps = (keeps_runs K P L (chart_is_lowered c p low)).steps

  mirrors : Mirrors P G
  mirrors = program_mirrors p

  nodes : Keeps P G
  nodes = program_keeps_runs p low.rules low.no_loop

  abbrev pub Between : Configuration → Control → Type 0
  Between = ticks.Between c p q low valid (state_of_node c) (nodes_stand c p low)

  pub begins : Between (chart.initial K) (graph_tick.initial G)
  begins = ticks.begins c p q low valid (state_of_node c) (nodes_stand c p low)

  pub goes_to : (inputs : Inputs) → AreAccepted G inputs → (d : Configuration) (e : Control) → Between d e → (d' : Configuration) →
      Ends (chart.machine K) (chart.start K inputs d) d' → (e' : Control) × Between d' e'
  goes_to inputs accepted d e x d' ends =
      let to = ticks.goes_to c p q low valid (state_of_node c) (nodes_stand c p low) inputs accepted d e x d' ends in (to.end, to.between)

  -- ---- as a tick starts

  module _ (inputs : Inputs) (accepted : AreAccepted G inputs) (d : Configuration) (e : Control) (x : Between d e) where
    abbrev now : Configuration
    now = chart.start K inputs d

    abbrev m : Control
    m = graph_tick.start G inputs e

    abbrev s : State
    s = text.start P inputs x.state

    abbrev of_chart : Corresponds K P L now s
    of_chart = steps.starts inputs d x.state x.alike

    abbrev of_graph : StandsInGraph P s m
    of_graph = nodes.starts inputs x.state e accepted x.corresponds

    pub starts_alike : StandAlike K P L G now m
    starts_alike =
        record {
          state = s;
          of_chart = of_chart;
          of_graph = of_graph;
          is_configuration = start_config G (valid_formed G q valid) inputs accepted e x.rests;
        }

    over : IsOver (graph.machine G) e
    over = (nodes.goes_on.over x.state e x.corresponds).0 x.alike.over_too

    no_node : (t n : ℕ) → standing (doing x.state t) ≡ status.At n → ⊥
    no_node t n is = x.rests.nobody_at t n (status_is P x.state e x.corresponds t ∙ is)

    -- where the region of a thread stands that has work as a tick starts: before tests, which stand behind the pause where the thread resumes; or in a
    -- superstate whose fork is over
    pub data WakesIn (t : ℕ) (y : Standing) : Type 0 where
      at_tests : (u n : ℕ) (tests : List Transition) (rest : Block) → y ≡ stand.Trying u tests → status_of m t ≡ status.At (suc n) →
          step_at G (suc n) ≡ Some (node_step.Depth (leads P.root rest)) → Place P.root t rest → TriesOut K P.root L u tests rest → WakesIn t y
      at_fork : (u : ℕ) → y ≡ stand.Within u [] → WakesIn t y

    module _ (t n : ℕ) (rest : Block) (resumes : doing s t ≡ Resuming n rest) where
      at_pause : Place P.root t (Pause n rest)
      at_pause = subst (IsOfText P.root t) resumes (of_graph.places t)

      has : HasNodes G n t (node_step.Surf (suc n)) (node_step.Depth (leads P.root rest))
      has = mirrors.nodes t (Pause n rest) at_pause

      live : (y : Standing) → Live K P.root L t y (Resuming n rest) → HeldBy K P.root L t y → WakesIn t y
      live (stand.Trying u tests) now_at held =
          at_tests u n tests rest refl (status_is P s m of_graph t ∙ ap standing resumes)
          (stepped P G mirrors (suc n) t (node_step.Depth (leads P.root rest)) has.second) (after_pause t n rest at_pause)
          (subst (λ ts. TriesOut K P.root L u ts rest) (sym now_at.0) (held.1.wakes n rest now_at.1))
      live (stand.Within u tests) now_at held = at_fork u (ap (stand.Within u) now_at.0)
      live stand.Outside now_at held = absurd now_at
      live stand.Ended now_at held = absurd now_at
      live (stand.Entering u tests) now_at held = absurd now_at
      live (stand.Guarding u tests) now_at held = absurd now_at
      live (stand.Acting u [] place) now_at held = absurd now_at
      live (stand.Acting u (f ∷ effects) place) now_at held = absurd now_at

      resumes_in : IsRegionOf K t → WakesIn t (standing_of now t)
      resumes_in there = by (given K now s (region_at K t).around) (subst (λ z. Fits K P.root L t (given K now s (region_at K t).around) (standing_of now t) z)
          resumes (of_chart.each t there))
        where
          by : (g : Giving) → Fits K P.root L t g (standing_of now t) (Resuming n rest) → WakesIn t (standing_of now t)
          by Turn fits = live (standing_of now t) fits.0 fits.1
          by Nothing fits = let wrong : Resuming n rest ≡ Away = fits.1 in absurd (cc)
          by Ready fits = let wrong : Resuming n rest ≡ Away = fits.1 in absurd (cc)
          by Past fits = let wrong : Resuming n rest ≡ Away = fits.1 in absurd (cc)

    -- the thread of a region that has work, as a tick starts
    pub wakes_there : (t : ℕ) → t ≢ 0 → Enabled G m t → WakesIn t (standing_of now t)
    wakes_there t not_root (completes w) = absurd (none_completes G inputs e over t w)
    wakes_there zero not_root (stands n at) = absurd (not_root refl)
    wakes_there (suc t) not_root (stands n at) = by (doing x.state (suc t)) refl
      where
        now_at : (y : Doing) → doing x.state (suc t) ≡ y → doing s (suc t) ≡ text.woken y
        now_at y is = started_at P.root x.state.threads t ∙ ap text.woken is

        stands_at : (y : Doing) → doing x.state (suc t) ≡ y → standing (text.woken y) ≡ status.At n
        stands_at y is = sym (ap standing (now_at y is)) ∙ (sym (status_is P s m of_graph (suc t)) ∙ at)

        there : (y : Doing) → doing s (suc t) ≡ y → y ≢ Away → IsRegionOf K (suc t)
        there y is present = in_list (slice_get s.threads (suc t)) refl
          where
            in_list : (o : Option Doing) → slice_get s.threads (suc t) ≡ o → IsRegionOf K (suc t)
            in_list None none = absurd (present (sym is ∙ ap (λ o. unwrap_or o Away) none))
            in_list (Some z) some =
                let less : suc t < length s.threads = slice_get_within s.threads (suc t) z some in
                let many : length s.threads ≡ suc (length K.regions) = of_chart.threads in
                (omega arith, omega (arith, less, many))

        by : (y : Doing) → doing x.state (suc t) ≡ y → WakesIn (suc t) (standing_of now (suc t))
        by (Resting k rest) is =
            resumes_in (suc t) k rest (now_at (Resting k rest) is) (there (Resuming k rest) (now_at (Resting k rest) is) (λ out. absurd (cc)))
        by Away is = let wrong : status.Absent ≡ status.At n = stands_at Away is in absurd (cc)
        by (Todo todo) is = absurd (no_node (suc t) (number (Some todo)) (ap standing is))
        by (Forked k branches rest) is = let wrong : status.Waiting (suc k) ≡ status.At n = stands_at (Forked k branches rest) is in absurd (cc)
        by (Resuming k rest) is = absurd (no_node (suc t) (suc k) (ap standing is))
        by Finished is = let wrong : status.Ended ≡ status.At n = stands_at Finished is in absurd (cc)

  -- ---- the parent of a region of the chart itself is the root

  pub top_parent : (t : ℕ) → IsRegionOf K t → (region_at K t).around ≡ [] → parent_of G t ≡ Some 0
  top_parent t there none = ⊎_elim top (λ (u : (v : ℕ) × LiesIn K t v). let wrong = sym none ∙ u.1.around in absurd (cc)) (lowers.tree.each t there)
    where
      top : Contains L.top t × ((region_at K t).around ≡ []) → parent_of G t ≡ Some 0
      top (among, bare) =
          mirrors.parents t 0
          (record {
            node = lowers.root.node;
            branches = lowers.root.branches;
            is_fork = record { rest = End lowers.root.end; place = subst (Place P.root 0) lowers.root.is whole };
            branch = subst (λ ts. Contains ts t) (sym lowers.root.opens.threads) among;
          })
