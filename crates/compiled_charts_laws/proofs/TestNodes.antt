-- The node of a delayed test in the graph of a core chart's lowering, and that of its first effect.
use Rattle.std.proofs.Common.{◌≡◌, ℕ, true, false, Some, List, [], ◌∷◌, Contains, sym, ap, subst, ◌∙◌}
use Rattle.std.proofs.lemmas.Option.{same_Some}
use Rattle.sc_values.specs.declared.expression.Expr.{Expr}
use Rattle.sc_values.specs.Assignment.{assignment_of, access_of_assignment}
use Rattle.sc_values.specs.Expr.{postorder}
use Rattle.sc_graph.specs.declared.control.Control.{Control}
use Rattle.sc_graph.specs.declared.program.Step.TheVariants as node_step
use Rattle.sc_graph.specs.Program.{Program, owner_of}
use Rattle.sc_graph.specs.Accesses.{accesses}
use Rattle.sc_graph.specs.Protocol.{Instant, by_successor}
use Rattle.tick_laws.proofs.Lists.{contains_head}
use Rattle.core_charts.specs.declared.region.Effect.{Effect}
use Rattle.core_charts.specs.declared.region.Transition.{Transition}
use Rattle.core_charts.specs.Chart.{Chart}
use Rattle.chart_machine.specs.declared.standing.Standing.TheVariants as stand
use Rattle.chart_machine.specs.declared.standing.Configuration.{Configuration}
use Rattle.chart_machine.specs.declared.table.Table.{Table}
use Rattle.chart_machine.specs.Table.{table, state_at}
use Rattle.chart_machine.specs.Turns.{standing_of}
use Rattle.chart_machine.specs.Steps.{access_of_trigger, state_in}
use Rattle.scl.specs.declared.program.Scl.{Scl}
use Rattle.scl.specs.Block.{Block, Assign, If}
use Rattle.scl.specs.Labels.{before, settled}
use Rattle.scl.specs.Places.{Place, after_pause, in_first}
use Rattle.scl.specs.Numbering.{Numbered, numbered}
use Rattle.scl.specs.Meaning.{Doing, Away, Todo, Forked, Resting, Resuming, Finished, doing}
use Rattle.scl_graph.specs.Graph.{program_of, assigns, number}
use Rattle.scl_graph_laws.specs.Standing.{IsOfText}
use Rattle.scl_graph_laws.specs.Settling.{Settled, Settling}
use Rattle.scl_graph_laws.specs.Mirrors.{Mirrors, HasNode, leads}
use Rattle.scl_graph_laws.proofs.Jumping.{places_settle}
use Rattle.scl_graph_laws.proofs.Looping.{no_loop_settles}
use Rattle.scl_graph_laws.proofs.RunsKept.{keeps_scopes}
use Rattle.scl_graph_laws.proofs.Scopes.{stay_within}
use Rattle.scl_graph_laws.proofs.Texts.{program_mirrors}
use Rattle.chart_lowering_laws.specs.Layout.{Layout, Acts, Tests, Tries, Takes, TriesOut, Lowers}
use Rattle.chart_lowering_laws.specs.Corresponds.{Live, HeldBy, Fits}
use Rattle.chart_lowering_laws.specs.Laws.{IsLowering}
use Rattle.chart_lowering_laws.specs.Marks.{layout}
use Rattle.chart_lowering_laws.proofs.Showing.{region_of}
use Rattle.chart_lowering_laws.proofs.Lowered.{chart_is_lowered}
use Rattle.compiled_charts_laws.specs.Stands.{StandAlike}
use Rattle.compiled_charts_laws.proofs.LateTests.{is_late, late_has_turn}
use Rattle.compiled_charts_laws.proofs.Mirrored.{owned, stepped, node_access, access_of_assigns}

-- thread t tests e at a node, behind which it does this effect where the test holds
pub record TestNode (q : Program) (t : ℕ) (e : Expr) (f : Effect) : Type 0 where
  pub tested : ℕ
  pub taken : ℕ
  pub owned : owner_of q tested ≡ Some t
  pub does : accesses q tested ≡ access_of_trigger (Some e)
  pub leads : Instant q tested taken
  pub owned_too : owner_of q taken ≡ Some t
  pub does_too : accesses q taken ≡ access_of_assignment f.variable (assignment_of f.variable f.value)

module _ (c : Chart) (p : Scl) (low : IsLowering c p) where
  abbrev K : Table
  K = table c

  abbrev P : Numbered
  P = numbered p

  abbrev G : Program
  G = program_of P

  abbrev L : Layout
  L = layout c P.root

  lowers : Lowers K P L
  lowers = chart_is_lowered c p low

  mirrors : Mirrors P G
  mirrors = program_mirrors p

  settling : Settling P.root
  settling =
      places_settle P.root (stay_within P.root (keeps_scopes p low.rules)) (no_loop_settles P.root (keeps_scopes p low.rules) low.no_loop)

  pub first_place : (t : ℕ) (todo first : Block) → Place P.root t todo → settled P.root todo ≡ Some first → Place P.root t first
  first_place t todo first place is =
      let s : Settled P.root t todo = settling t todo place in subst (Place P.root t) (same_Some s.first first (sym s.is ∙ is)) s.place

  module _ (t s : ℕ) (test : Transition) (tests : List Transition) (e : Expr) (triggered : test.trigger ≡ Some e) where
    -- the node at which a test is made
    abbrev Tried : Block → Type 0
    Tried todo =
        Tests P.root (Some e) (Takes K P.root L (state_at K s).holder test) (Tries P.root (Takes K P.root L (state_at K s).holder) (L.pause s) tests) todo

    pub tried : (todo : Block) → TriesOut K P.root L s (test ∷ tests) todo → Tried todo
    tried todo h =
        subst (λ o. Tests P.root o (Takes K P.root L (state_at K s).holder test) (Tries P.root (Takes K P.root L (state_at K s).holder) (L.pause s) tests)
        todo) triggered h

    pub tried_node : (todo : Block) → Place P.root t todo → (h : Tried todo) →
        HasNode G h.0 t (node_step.Cond (postorder e) (leads P.root (before h.1 h.3)) (leads P.root (before h.2 h.3)))
    tried_node todo place h = mirrors.nodes t (If h.0 e h.1 h.2 h.3) (first_place t todo (If h.0 e h.1 h.2 h.3) place h.4)

    pub tried_access : (todo : Block) → Place P.root t todo → (h : Tried todo) → accesses G h.0 ≡ access_of_trigger (Some e)
    tried_access todo place h =
        node_access P G mirrors h.0 t (node_step.Cond (postorder e) (leads P.root (before h.1 h.3)) (leads P.root (before h.2 h.3)))
        (tried_node todo place h)

    module _ (f : Effect) (fs : List Effect) (effects : test.effects ≡ f ∷ fs) where
      at_place : (todo : Block) → Place P.root t todo → TriesOut K P.root L s (test ∷ tests) todo → TestNode G t e f
      at_place todo place tries =
          record {
            tested = h.0;
            taken = acts.0;
            owned = owned P G mirrors h.0 t (node_step.Cond (postorder e) (leads P.root (before h.1 h.3)) (leads P.root (before h.2 h.3)))
                (tried_node todo place h);
            does = tried_access todo place h;
            leads = by_successor (node_step.Cond (postorder e) (leads P.root (before h.1 h.3)) (leads P.root (before h.2 h.3)))
                (stepped P G mirrors h.0 t (node_step.Cond (postorder e) (leads P.root (before h.1 h.3)) (leads P.root (before h.2 h.3)))
                (tried_node todo place h))
                (subst (λ n. Contains (n ∷ leads P.root (before h.2 h.3) ∷ []) acts.0) (sym leads_there)
                (contains_head acts.0 (leads P.root (before h.2 h.3) ∷ [])));
            owned_too = owned P G mirrors acts.0 t (assigns f.variable (assignment_of f.variable f.value) (leads P.root acts.1)) has;
            does_too = node_access P G mirrors acts.0 t (assigns f.variable (assignment_of f.variable f.value) (leads P.root acts.1)) has
                ∙ access_of_assigns f.variable (assignment_of f.variable f.value) (leads P.root acts.1);
          }
        where
          h : Tried todo
          h = tried todo tries

          acts : Acts P.root (L.begin (state_in K (state_at K s).holder test.target)) (f ∷ fs) (before h.1 h.3)
          acts = subst (λ es. Acts P.root (L.begin (state_in K (state_at K s).holder test.target)) es (before h.1 h.3)) effects h.5.1

          leads_there : leads P.root (before h.1 h.3) ≡ acts.0
          leads_there = ap number acts.2

          inner : Place P.root t (before h.1 h.3)
          inner = in_first t h.0 e h.1 h.2 h.3 (first_place t todo (If h.0 e h.1 h.2 h.3) place h.4)

          has : HasNode G acts.0 t (assigns f.variable (assignment_of f.variable f.value) (leads P.root acts.1))
          has =
              mirrors.nodes t (Assign acts.0 f.variable f.value acts.1)
              (first_place t (before h.1 h.3) (Assign acts.0 f.variable f.value acts.1) inner acts.2)

      live : (y : Doing) → IsOfText P.root t y → Live K P.root L t (stand.Trying s (test ∷ tests)) y → HeldBy K P.root L t (stand.Trying s (test ∷ tests)) →
          TestNode G t e f
      live (Todo todo) of_text now held = at_place todo of_text.0 now.1
      live (Resuming n rest) of_text now held =
          at_place rest (after_pause t n rest of_text)
          (subst (λ ts. TriesOut K P.root L s ts rest) (sym now.0) (held.1.wakes n rest now.1))
      live (Resting n rest) of_text now held = let wrong : test ∷ tests ≡ [] = now.0 in absurd (cc)
      live Away of_text now held = absurd now
      live (Forked n branches rest) of_text now held = absurd now
      live Finished of_text now held = absurd now

      pub test_node : (d : Configuration) (m : Control) → StandAlike K P L G d m → standing_of d t ≡ stand.Trying s (test ∷ tests) →
          is_late (stand.Trying s (test ∷ tests)) ≡ true → TestNode G t e f
      test_node d m x stands late =
          let late_here : is_late (standing_of d t) ≡ true = ap is_late stands ∙ late in
          let there = region_of K P L d x.state x.of_chart t
          (λ out. let wrong : true ≡ false = sym late_here ∙ ap is_late out in absurd (cc)) in
          let fits : Live K P.root L t (standing_of d t) (doing x.state t) × HeldBy K P.root L t (standing_of d t) =
          subst (λ g. Fits K P.root L t g (standing_of d t) (doing x.state t)) (late_has_turn K P L lowers d x.state x.of_chart t late_here)
          (x.of_chart.each t there) in
          live (doing x.state t) (x.of_graph.places t) (subst (λ z. Live K P.root L t z (doing x.state t)) stands fits.0)
          (subst (HeldBy K P.root L t) stands fits.1)
