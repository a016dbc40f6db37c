-- A thread of a graph at the test of a trigger: the node of the first effect behind it has no greater priority.
use Rattle.std.proofs.Common.{◌≡◌, ℕ, ◌≤◌, Some, List, [], ◌∷◌, Contains, sym, ap, subst, ◌∙◌}
use Rattle.sc_values.specs.declared.expression.Expr.{Expr}
use Rattle.sc_values.specs.Assignment.{assignment_of, access_of_assignment}
use Rattle.sc_values.specs.Expr.{postorder}
use Rattle.sc_graph.specs.declared.control.Control.{Control}
use Rattle.sc_graph.specs.declared.control.Status.TheVariants as status
use Rattle.sc_graph.specs.declared.program.Step.{Step}
use Rattle.sc_graph.specs.declared.program.Step.TheVariants as node_step
use Rattle.sc_graph.specs.declared.tables.Tables.{Tables}
use Rattle.sc_graph.specs.Accesses.{accesses}
use Rattle.sc_graph.specs.Control.{status_of}
use Rattle.sc_graph.specs.Program.{Program, owner_of}
use Rattle.sc_graph.specs.Protocol.{Instant, by_successor}
use Rattle.sc_graph.specs.Tables.{priority, priority_of}
use Rattle.sc_graph.specs.Valid.{IsValid}
use Rattle.tick_laws.proofs.Lists.{contains_head}
use Rattle.tick_laws.proofs.RulesGive.{flow}
use Rattle.core_charts.specs.declared.region.Effect.{Effect}
use Rattle.core_charts.specs.declared.region.Transition.{Transition}
use Rattle.core_charts.specs.Chart.{Chart}
use Rattle.chart_machine.specs.declared.table.Table.{Table}
use Rattle.chart_machine.specs.Table.{table, state_at}
use Rattle.chart_machine.specs.Steps.{state_in}
use Rattle.scl.specs.declared.program.Scl.{Scl}
use Rattle.scl.specs.Block.{Block, Assign, If}
use Rattle.scl.specs.Labels.{before}
use Rattle.scl.specs.Places.{Place, in_first}
use Rattle.scl.specs.Numbering.{Numbered, numbered}
use Rattle.scl_graph.specs.Graph.{program_of, assigns, number}
use Rattle.scl_graph_laws.specs.Mirrors.{Mirrors, HasNode, leads}
use Rattle.scl_graph_laws.specs.Standing.{IsStep}
use Rattle.scl_graph_laws.proofs.Texts.{program_mirrors}
use Rattle.chart_lowering_laws.specs.Laws.{IsLowering}
use Rattle.chart_lowering_laws.specs.Layout.{Layout, Acts, Takes, Tests, Tries, TriesOut}
use Rattle.chart_lowering_laws.specs.Marks.{layout}
use Rattle.chart_lowering_laws.proofs.LeadAlike.{is_there}
use Rattle.compiled_charts_laws.proofs.Mirrored.{owned, stepped, node_access, access_of_assigns}
use Rattle.compiled_charts_laws.proofs.TestNodes as nodes

-- thread t is at a node that leads to one of its own with this effect
pub record LeadsToEffect (g : Program) (m : Control) (t : ℕ) (f : Effect) : Type 0 where
  pub node : ℕ
  pub taken : ℕ
  pub at : status_of m t ≡ status.At node
  pub leads : Instant g node taken
  pub owned : owner_of g taken ≡ Some t
  pub does : accesses g taken ≡ access_of_assignment f.variable (assignment_of f.variable f.value)

-- which is no higher than the thread
pub taken_lower : (g : Program) (q : Tables) → IsValid g q → (m : Control) (t : ℕ) (f : Effect) → (x : LeadsToEffect g m t f) →
    priority q x.taken ≤ priority_of q (status_of m t)
taken_lower g q valid m t f x =
    subst (λ s. priority q x.taken ≤ priority_of q s) (sym x.at) ((flow g q valid).falls x.node x.taken x.leads)

module _ (c : Chart) (p : Scl) (low : IsLowering c p) (t s : ℕ) (test : Transition) (tests : List Transition) (e : Expr)
    (triggered : test.trigger ≡ Some e) (f : Effect) (fs : List Effect) (effects : test.effects ≡ f ∷ fs) where
  abbrev K : Table
  K = table c

  abbrev P : Numbered
  P = numbered p

  abbrev G : Program
  G = program_of P

  abbrev L : Layout
  L = layout c P.root

  mirrors : Mirrors P G
  mirrors = program_mirrors p

  pub leads_to_effect : (todo : Block) → IsStep todo → Place P.root t todo → TriesOut K P.root L s (test ∷ tests) todo → (m : Control) →
      status_of m t ≡ status.At (number (Some todo)) → LeadsToEffect G m t f
  leads_to_effect todo is_step place tries m at =
      record {
        node = h.0;
        taken = acts.0;
        at = at ∙ ap (λ b. status.At (number (Some b))) (is_there P.root todo (If h.0 e h.1 h.2 h.3) is_step h.4);
        leads = by_successor step (stepped P G mirrors h.0 t step (nodes.tried_node c p low t s test tests e triggered todo place h))
            (subst (λ n. Contains (n ∷ leads P.root (before h.2 h.3) ∷ []) acts.0) (sym (ap number acts.2))
            (contains_head acts.0 (leads P.root (before h.2 h.3) ∷ [])));
        owned = owned P G mirrors acts.0 t (assigns f.variable (assignment_of f.variable f.value) (leads P.root acts.1)) has;
        does = node_access P G mirrors acts.0 t (assigns f.variable (assignment_of f.variable f.value) (leads P.root acts.1)) has
            ∙ access_of_assigns f.variable (assignment_of f.variable f.value) (leads P.root acts.1);
      }
    where
      h : Tests P.root (Some e) (Takes K P.root L (state_at K s).holder test) (Tries P.root (Takes K P.root L (state_at K s).holder) (L.pause s) tests) todo
      h = nodes.tried c p low t s test tests e triggered todo tries

      step : Step
      step = node_step.Cond (postorder e) (leads P.root (before h.1 h.3)) (leads P.root (before h.2 h.3))

      acts : Acts P.root (L.begin (state_in K (state_at K s).holder test.target)) (f ∷ fs) (before h.1 h.3)
      acts = subst (λ es. Acts P.root (L.begin (state_in K (state_at K s).holder test.target)) es (before h.1 h.3)) effects h.5.1

      has : HasNode G acts.0 t (assigns f.variable (assignment_of f.variable f.value) (leads P.root acts.1))
      has =
          mirrors.nodes t (Assign acts.0 f.variable f.value acts.1)
          (nodes.first_place c p low t (before h.1 h.3) (Assign acts.0 f.variable f.value acts.1)
          (in_first t h.0 e h.1 h.2 h.3 (nodes.first_place c p low t todo (If h.0 e h.1 h.2 h.3) place h.4)) acts.2)
