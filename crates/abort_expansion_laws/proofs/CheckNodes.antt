-- The nodes of checks of flags, in the graph of a core chart's lowering: each is followed by the next one, and all are left to the same place. So a
-- thread that makes them is soon below whatever the last of them is below.
use Rattle.std.proofs.Common.{◌≡◌, ◌≢◌, ℕ, suc, ◌<◌, ◌≤◌, Bool, Some, List, [], ◌∷◌, refl, sym, ap, subst, ◌∙◌, arith}
use Rattle.sc_values.specs.Expr.{postorder}
use Rattle.sc_graph.specs.declared.control.Control.{Control}
use Rattle.sc_graph.specs.declared.program.Step.TheVariants as node_step
use Rattle.sc_graph.specs.declared.tables.Tables.{Tables}
use Rattle.sc_graph.specs.Program.{Program, owner_of, step_at}
use Rattle.sc_graph.specs.Accesses.{accesses}
use Rattle.sc_graph.specs.Protocol.{Instant, by_successor}
use Rattle.sc_graph.specs.Tables.{priority}
use Rattle.sc_graph.specs.Tick.{Inputs, AreAccepted}
use Rattle.sc_graph.specs.Tick as graph_tick
use Rattle.sc_graph.specs.Valid.{IsValid}
use Rattle.tick_laws.proofs.Falling.{StandsAt}
use Rattle.tick_laws.proofs.Lists.{contains_head}
use Rattle.tick_laws.proofs.RulesGive.{flow}
use Rattle.tick_laws.proofs.Views.{Enabled}
use Rattle.core_charts.specs.declared.region.Transition.{Transition}
use Rattle.core_charts.specs.Chart.{Chart}
use Rattle.chart_machine.specs.declared.standing.Configuration.{Configuration}
use Rattle.chart_machine.specs.declared.standing.Standing.{Standing}
use Rattle.chart_machine.specs.declared.table.Table.{Table}
use Rattle.chart_machine.specs.Table.{table, state_at}
use Rattle.chart_machine.specs.Turns.{standing_of}
use Rattle.chart_machine.specs.Machine as chart
use Rattle.chart_machine.specs.Steps.{access_of_trigger, state_in}
use Rattle.scl.specs.declared.program.Scl.{Scl}
use Rattle.scl.specs.Block.{Block, If}
use Rattle.scl.specs.Labels.{before}
use Rattle.scl.specs.Places.{Place, in_second}
use Rattle.scl.specs.Numbering.{Numbered, numbered}
use Rattle.scl_graph.specs.Graph.{program_of, number}
use Rattle.scl_graph_laws.specs.Mirrors.{Mirrors, HasNode, leads}
use Rattle.scl_graph_laws.proofs.Texts.{program_mirrors}
use Rattle.chart_lowering_laws.specs.Layout.{Layout, TriesOut}
use Rattle.chart_lowering_laws.specs.Laws.{IsLowering}
use Rattle.chart_lowering_laws.specs.Marks.{layout}
use Rattle.compiled_charts_laws.proofs.Mirrored.{owned, stepped}
use Rattle.compiled_charts_laws.proofs.TestNodes.{tried_node, tried_access, first_place}
use Rattle.compiled_charts_laws.proofs.TickStarts as tick_starts
use Rattle.compiled_charts_laws.proofs.TickStarts.{at_tests, at_fork}
use Rattle.abort_expansion.specs.Transitions.{go, is_raised}
use Rattle.abort_expansion_laws.proofs.ChecksUpTo.{ChecksUpTo, checks_it, checks_other}
use Rattle.abort_expansion_laws.proofs.StrongTestsQuiet.{SoonLow, soon_low, soon_resumed, soon_tested}
use Rattle.abort_expansion_laws.proofs.WakesLow.{WakesLow, wakes_tests, wakes_fork}

module _ (c : Chart) (p : Scl) (low : IsLowering c p) (q : Tables) (valid : IsValid (program_of (numbered p)) q) where
  abbrev K : Table
  K = table c

  abbrev P : Numbered
  P = numbered p

  abbrev G : Program
  G = program_of P

  abbrev L : Layout
  L = layout c P.root

  mirrors : Mirrors P G
  mirrors = program_mirrors p

  -- thread t makes tests of state u; its checks of flag x are below a priority
  module _ (t u x place top : ℕ)
      (below : (n : ℕ) → owner_of G n ≡ Some t → accesses G n ≡ access_of_trigger (Some (is_raised x)) → priority q n < top) where
    -- where a check leads whose flag is raised
    abbrev left_to : ℕ
    left_to = leads P.root (L.begin (state_in K (state_at K u).holder place))

    -- a check of flag y is next
    module _ (y : ℕ) (b : Bool) (rest : List Transition) (todo : Block) (here : Place P.root t todo)
        (tries : TriesOut K P.root L u (go b (Some (is_raised y)) [] place ∷ rest) todo) where
      abbrev on_true : ℕ
      on_true = leads P.root (before tries.1 tries.3)

      abbrev on_false : ℕ
      on_false = leads P.root (before tries.2 tries.3)

      has : HasNode G tries.0 t (node_step.Cond (postorder (is_raised y)) on_true on_false)
      has = tried_node c p low t u (go b (Some (is_raised y)) [] place) rest (is_raised y) refl todo here tries

      step_is : step_at G tries.0 ≡ Some (node_step.Cond (postorder (is_raised y)) on_true on_false)
      step_is = stepped P G mirrors tries.0 t (node_step.Cond (postorder (is_raised y)) on_true on_false) has

      owned_by : owner_of G tries.0 ≡ Some t
      owned_by = owned P G mirrors tries.0 t (node_step.Cond (postorder (is_raised y)) on_true on_false) has

      node_is : leads P.root todo ≡ tries.0
      node_is = ap number tries.4

      taken_is : on_true ≡ left_to
      taken_is = ap number tries.5.1

      further : Place P.root t (before tries.2 tries.3)
      further =
          in_second t tries.0 (is_raised y) tries.1 tries.2 tries.3
          (first_place c p low t todo (If tries.0 (is_raised y) tries.1 tries.2 tries.3) here tries.4)

      taken_low : priority q tries.0 < top → priority q left_to < top
      taken_low lt =
          let edge : Instant G tries.0 on_true = by_successor (node_step.Cond (postorder (is_raised y)) on_true on_false) step_is
          (contains_head on_true (on_false ∷ [])) in
          let falls : priority q on_true ≤ priority q tries.0 = (flow G q valid).falls tries.0 on_true edge in
          subst (λ n. priority q n < top) taken_is (omega (falls, lt, arith))

      -- it is that of the flag
      own_check : (many : ℕ) → y ≡ x → SoonLow G q top many (leads P.root todo) × (priority q left_to < top)
      own_check many same =
          let does : accesses G tries.0 ≡ access_of_trigger (Some (is_raised x)) =
          tried_access c p low t u (go b (Some (is_raised y)) [] place) rest (is_raised y) refl todo here tries
          ∙ ap (λ (z : ℕ). access_of_trigger (Some (is_raised z))) same in
          let lt : priority q tries.0 < top = below tries.0 owned_by does in
          (subst (SoonLow G q top many) (sym node_is) (soon_low many tries.0 lt), taken_low lt)

      -- it is one before
      other_check : (many : ℕ) → SoonLow G q top many on_false × (priority q left_to < top) →
          SoonLow G q top (suc many) (leads P.root todo) × (priority q left_to < top)
      other_check many later = (
        subst (SoonLow G q top (suc many)) (sym node_is)
            (soon_tested many tries.0 on_true on_false (postorder (is_raised y)) step_is
            (soon_low many on_true (subst (λ n. priority q n < top) (sym taken_is) later.1)) later.0),
        later.1,
      )

    pub soon_node : (many : ℕ) (tests : List Transition) → ChecksUpTo x place many tests → (todo : Block) → Place P.root t todo →
        TriesOut K P.root L u tests todo → SoonLow G q top many (leads P.root todo) × (priority q left_to < top)
    soon_node _ _ (checks_it many b rest) todo here tries = own_check x b rest todo here tries many refl
    soon_node _ _ (checks_other many b y rest others) todo here tries =
        other_check y b rest todo here tries many
        (soon_node many rest others (before tries.2 tries.3) (further y b rest todo here tries) tries.6)

  -- ---- as a tick starts

  module _ (inputs : Inputs) (accepted : AreAccepted G inputs) (d : Configuration) (e : Control) (between : tick_starts.Between c p q low valid d e) where
    abbrev m : Control
    m = graph_tick.start G inputs e

    from_text : (t : ℕ) (y : Standing) → tick_starts.WakesIn c p q low valid inputs accepted d e between t y → WakesLow G q m t y
    from_text t y (at_tests u n tests rest is at_depth resumes here tries) =
        wakes_tests u tests is
        (λ x place many top up below. (
          suc n,
          subst (λ s. StandsAt s (suc n)) (sym at_depth) refl,
          soon_resumed many (suc n) (leads P.root rest) resumes (soon_node t u x place top below many tests up rest here tries).0,
        ))
    from_text t y (at_fork u is) = wakes_fork u is

    pub wakes_low : (t : ℕ) → t ≢ 0 → Enabled G m t → WakesLow G q m t (standing_of (chart.start K inputs d) t)
    wakes_low t not_root on =
        from_text t (standing_of (chart.start K inputs d) t) (tick_starts.wakes_there c p q low valid inputs accepted d e between t not_root on)
