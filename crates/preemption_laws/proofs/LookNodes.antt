-- The nodes of looks in the graph of a core chart: the join of the fork around a region is no higher than each of the region's looks.
use Rattle.std.proofs.Common.{◌≡◌, ℕ, suc, ◌<◌, ◌≤◌, ⊎_elim, true, Some, List, [], ◌∷◌, map, length, slice_get, unwrap_or}
use Rattle.std.proofs.Common.{Contains, refl, sym, ap, subst, ◌∙◌, arith}
use Rattle.sc_values.specs.Expr.{postorder}
use Rattle.sc_graph.specs.declared.control.Control.{Control}
use Rattle.sc_graph.specs.declared.control.Status.TheVariants as status
use Rattle.sc_graph.specs.declared.program.Step.{Step}
use Rattle.sc_graph.specs.declared.program.Step.TheVariants as node_step
use Rattle.sc_graph.specs.declared.tables.Tables.{Tables}
use Rattle.sc_graph.specs.Accesses.{accesses}
use Rattle.sc_graph.specs.Control.{status_of}
use Rattle.sc_graph.specs.Program.{Program, owner_of}
use Rattle.sc_graph.specs.Protocol.{by_successor, by_exit}
use Rattle.sc_graph.specs.Tables.{priority, priority_of}
use Rattle.sc_graph.specs.Threads.{IsFork}
use Rattle.sc_graph.specs.Valid.{IsValid}
use Rattle.tick_laws.proofs.Lists.{contains_none, contains_cons, contains_head, slice_get_there}
use Rattle.tick_laws.proofs.RulesGive.{flow}
use Rattle.core_charts.specs.declared.region.Transition.{Transition}
use Rattle.core_charts.specs.Chart.{Chart}
use Rattle.core_charts.specs.Tests.{at_once, terminations}
use Rattle.chart_machine.specs.declared.standing.Standing.TheVariants as at
use Rattle.chart_machine.specs.declared.standing.Configuration.{Configuration}
use Rattle.chart_machine.specs.declared.table.StateRow.{StateRow}
use Rattle.chart_machine.specs.declared.table.Table.{Table}
use Rattle.chart_machine.specs.Table.{table, state_at, region_at}
use Rattle.chart_machine.specs.Turns.{standing_of, is_enabled}
use Rattle.chart_machine.specs.Steps.{to, access_of, access_of_trigger, state_in}
use Rattle.scl.specs.declared.program.Scl.{Scl}
use Rattle.scl.specs.Block.{Block, End, If, Pause, Fork}
use Rattle.scl.specs.Labels.{before, settled}
use Rattle.scl.specs.Places.{Place, after_pause, in_first, in_second, threads_of}
use Rattle.scl.specs.Numbering.{Numbered, numbered}
use Rattle.scl.specs.Meaning.{Doing, Away, Todo, Forked, Resting, Resuming, Finished, doing}
use Rattle.scl_graph.specs.Graph.{program_of, number}
use Rattle.scl_graph_laws.specs.Mirrors.{Mirrors, HasNode, HasNodes, HasFork, leads}
use Rattle.scl_graph_laws.specs.Standing.{standing, IsOfText}
use Rattle.scl_graph_laws.proofs.Texts.{program_mirrors}
use Rattle.abort_expansion.specs.Transitions.{is_raised}
use Rattle.chart_lowering_laws.specs.Corresponds.{Live, HeldBy, Giving, Nothing, Ready, Turn, Past, given, first_standing, Fits}
use Rattle.chart_lowering_laws.specs.Laws.{IsLowering}
use Rattle.chart_lowering_laws.specs.Layout.{Layout, IsRegionOf, IsSimple, IsFinal, IsSuper, LiesIn, Takes, Tests, Tries, TriesOut, Lowers}
use Rattle.chart_lowering_laws.specs.Marks.{layout}
use Rattle.chart_lowering_laws.proofs.LeadAlike.{is_there}
use Rattle.chart_lowering_laws.proofs.Lowered.{chart_is_lowered}
use Rattle.compiled_charts_laws.proofs.AtJoins as at_joins
use Rattle.compiled_charts_laws.proofs.Mirrored.{owned, stepped}
use Rattle.compiled_charts_laws.proofs.TestNodes as nodes
use Rattle.compiled_charts_laws.proofs.Stands.{heads}
use Rattle.compiled_charts_laws.proofs.StepsFollowed.{standing_in}
use Rattle.preemption_laws.specs.StepNodes.{AtOwnNode, AtTheirNodes, Alike}
use Rattle.preemption_laws.proofs.ChecksBeside.{reads_flag}
use Rattle.preemption_laws.specs.Looks.{look}

-- a node of this thread that looks at a flag, and is not below this one
pub record LookNode (g : Program) (q : Tables) (t x join : ℕ) : Type 0 where
  pub node : ℕ
  pub owned : owner_of g node ≡ Some t
  pub does : accesses g node ≡ access_of_trigger (Some (is_raised x))
  pub above : priority q join ≤ priority q node

never_absent : (n : ℕ) → status.At n ≡ status.Absent → ⊥
never_absent n e = absurd cc

no_tests : (t : Transition) (ts : List Transition) → t ∷ ts ≡ [] → ⊥
no_tests t ts e = absurd cc

pub trying_outside : (s : ℕ) (ts : List Transition) → at.Trying s ts ≡ at.Outside → ⊥
trying_outside s ts e = absurd cc

trying_ended : (s : ℕ) (ts : List Transition) → at.Trying s ts ≡ at.Ended → ⊥
trying_ended s ts e = absurd cc

ended_trying : (s : ℕ) (ts : List Transition) → at.Ended ≡ at.Trying s ts → ⊥
ended_trying s ts e = absurd cc

ended_within : (s : ℕ) (ts : List Transition) → at.Ended ≡ at.Within s ts → ⊥
ended_within s ts e = absurd cc

no_items : (v : ℕ) (vs : List ℕ) → v ∷ vs ≡ [] → ⊥
no_items v vs e = absurd cc

module _ (c : Chart) (p : Scl) (q : Tables) (low : IsLowering c p) (valid : IsValid (program_of (numbered p)) q) where
  abbrev K : Table
  K = table c

  abbrev P : Numbered
  P = numbered p

  abbrev G : Program
  G = program_of P

  abbrev L : Layout
  L = layout c P.root

  lowers : Lowers K P L
  lowers = chart_is_lowered c p low

  mirrors : Mirrors P G
  mirrors = program_mirrors p

  abbrev pub join_of : ℕ → ℕ
  join_of v = at_joins.join_of c p low v

  -- ---- the join around a region

  -- what is around a region is a superstate, of which it is a region
  super_around : (t v : ℕ) (ss : List ℕ) → IsRegionOf K t → (region_at K t).around ≡ v ∷ ss → IsSuper K P.root L v × LiesIn K t v
  super_around t v ss there round = ⊎_elim top lies (lowers.tree.each t there)
    where
      top : Contains L.top t × ((region_at K t).around ≡ []) → IsSuper K P.root L v × LiesIn K t v
      top bare = absurd (no_items v ss (sym round ∙ bare.1))

      inner : Contains (region_at K t).around v
      inner = subst (λ zs. Contains zs v) (sym round) (contains_head v ss)

      lies : (w : ℕ) × LiesIn K t w → IsSuper K P.root L v × LiesIn K t v
      lies (w, in_w) =
          let same : w ≡ v = heads w v (region_at K (state_at K w).holder).around ss (sym in_w.around ∙ round) in
          let here : LiesIn K t v = subst (LiesIn K t) same in_w in (
            ⊎_elim (λ simple. absurd (simple.none_inside t inner)) (⊎_elim (λ final. absurd (final.none_inside t inner)) (λ super. super))
                (lowers.states v here.there),
            here,
          )

  -- it is no higher than where the region ends
  exit_falls : (t v : ℕ) (ss : List ℕ) → IsRegionOf K t → (region_at K t).around ≡ v ∷ ss → (end : ℕ) → Place P.root t (End end) →
      priority q (join_of v) ≤ priority q end
  exit_falls t v ss there round end place =
      subst (λ j. priority q j ≤ priority q end) (sym join_is)
      ((flow G q valid).falls end (suc both.0.node)
      (by_exit both.0.node (state_at K v).holder (threads_of both.0.branches) t is_fork child (owned P G mirrors end t node_step.Exit has_end)
      (stepped P G mirrors end t node_step.Exit has_end)))
    where
      both : IsSuper K P.root L v × LiesIn K t v
      both = super_around t v ss there round

      has : HasFork G both.0.node (state_at K v).holder (threads_of both.0.branches) (leads P.root both.0.rest)
      has = mirrors.nodes (state_at K v).holder (Fork both.0.node both.0.branches both.0.rest) both.0.place

      forks : Step
      forks = node_step.Fork (threads_of both.0.branches) (suc both.0.node)

      is_fork : IsFork G both.0.node (state_at K v).holder (threads_of both.0.branches) (suc both.0.node)
      is_fork =
          record {
            owned = owned P G mirrors both.0.node (state_at K v).holder forks has.nodes.first;
            forks = stepped P G mirrors both.0.node (state_at K v).holder forks has.nodes.first;
          }

      child : Contains (threads_of both.0.branches) t
      child = subst (λ ts. Contains ts t) (sym both.0.opens.threads) both.1.held

      has_end : HasNode G end t node_step.Exit
      has_end = mirrors.nodes t (End end) place

      row : (x : StateRow) × (slice_get K.states v ≡ Some x)
      row = slice_get_there K.states v both.1.there

      join_is : join_of v ≡ suc both.0.node
      join_is = ap (λ o. at_joins.join_in c p low o v) row.1 ∙ ap at_joins.join_at both.0.fork

  -- ---- looks, one behind another

  module _ (t v : ℕ) (ss : List ℕ) (there : IsRegionOf K t) (round : (region_at K t).around ≡ v ∷ ss) (s left : ℕ)
      (ends : (state_at K (state_in K (state_at K s).holder left)).entered ≡ to (state_at K s).holder at.Ended ∷ []) where
    -- the state for which they are left is a final one
    final : state_in K (state_at K s).holder left < length K.states → IsFinal K P.root L (state_in K (state_at K s).holder left)
    final less =
        ⊎_elim (λ simple. absurd (no_simple simple)) (⊎_elim (λ h. h) (λ super. absurd (no_super super)))
        (lowers.states (state_in K (state_at K s).holder left) less)
      where
        w : ℕ
        w = state_in K (state_at K s).holder left

        no_simple : IsSimple K P.root L w → ⊥
        no_simple h = ended_trying w (at_once (state_at K w).transitions) (ap first_standing (sym ends ∙ h.entered))

        no_super : IsSuper K P.root L w → ⊥
        no_super h = ended_within w (terminations (state_at K w).transitions) (ap first_standing (sym ends ∙ h.entered))

    abbrev tests : List ℕ → List Transition
    tests xs = map (look left) xs

    module _ (y : ℕ) (ys : List ℕ) (todo : Block) (place : Place P.root t todo) (tries : TriesOut K P.root L s (tests (y ∷ ys)) todo) where
      h : Tests P.root (Some (is_raised y)) (Takes K P.root L (state_at K s).holder (look left y))
          (Tries P.root (Takes K P.root L (state_at K s).holder) (L.pause s) (tests ys)) todo
      h = nodes.tried c p low t s (look left y) (tests ys) (is_raised y) refl todo tries

      place_if : Place P.root t (If h.0 (is_raised y) h.1 h.2 h.3)
      place_if = nodes.first_place c p low t todo (If h.0 (is_raised y) h.1 h.2 h.3) place h.4

      abbrev step : Step
      step = node_step.Cond (postorder (is_raised y)) (leads P.root (before h.1 h.3)) (leads P.root (before h.2 h.3))

      has : HasNode G h.0 t step
      has = nodes.tried_node c p low t s (look left y) (tests ys) (is_raised y) refl todo place h

      last : IsFinal K P.root L (state_in K (state_at K s).holder left)
      last = final h.5.0.there

      leads_to_end : settled P.root (before h.1 h.3) ≡ Some (End last.end)
      leads_to_end = h.5.1 ∙ last.begins

      place_end : Place P.root t (End last.end)
      place_end = nodes.first_place c p low t (before h.1 h.3) (End last.end) (in_first t h.0 (is_raised y) h.1 h.2 h.3 place_if) leads_to_end

      join_low : priority q (join_of v) ≤ priority q h.0
      join_low =
          let one : priority q (join_of v) ≤ priority q last.end = exit_falls t v ss there round last.end place_end in
          let two : priority q last.end ≤ priority q h.0 =
          (flow G q valid).falls h.0 last.end
          (by_successor step (stepped P G mirrors h.0 t step has)
          (subst (λ n. Contains (n ∷ leads P.root (before h.2 h.3) ∷ []) last.end) (sym (ap number leads_to_end))
          (contains_head last.end (leads P.root (before h.2 h.3) ∷ [])))) in
          omega (one, two, arith)

      here : LookNode G q t y (join_of v)
      here =
          record {
            node = h.0;
            owned = owned P G mirrors h.0 t step has;
            does = nodes.tried_access c p low t s (look left y) (tests ys) (is_raised y) refl todo place h;
            above = join_low;
          }

    each_look : (xs : List ℕ) (x : ℕ) (todo : Block) → Place P.root t todo → TriesOut K P.root L s (tests xs) todo → Contains xs x →
        LookNode G q t x (join_of v)
    each_look [] x todo place tries among = absurd (contains_none x among)
    each_look (y ∷ ys) x todo place tries among =
        ⊎_elim (λ same. subst (λ z. LookNode G q t z (join_of v)) same (here y ys todo place tries))
        (λ tail.
        each_look ys x (before (h y ys todo place tries).2 (h y ys todo place tries).3)
        (in_second t (h y ys todo place tries).0 (is_raised y) (h y ys todo place tries).1 (h y ys todo place tries).2 (h y ys todo place tries).3
        (place_if y ys todo place tries)) (h y ys todo place tries).6 tail) (contains_cons y x ys among)

    -- ---- where the thread is at them

    pub record AtLooks (m : Control) (xs : List ℕ) : Type 0 where
      pub now_above : priority q (join_of v) ≤ priority_of q (status_of m t)
      pub each : (x : ℕ) → Contains xs x → LookNode G q t x (join_of v)

    module _ (d : Configuration) (m : Control) (alike : Alike c p d m) (own_nodes : AtTheirNodes c G d m) (y : ℕ) (ys : List ℕ)
        (stands : standing_of d t ≡ at.Trying s (tests (y ∷ ys))) (on : is_enabled K d t ≡ true) where
      pub at_node : AtOwnNode G m t (access_of_trigger (Some (is_raised y)))
      at_node =
          subst (λ z. AtOwnNode G m t (access_of z)) stands
          (own_nodes t on
          (λ none. reads_flag y (sym (ap access_of stands) ∙ none)))

      status_here : (z : Doing) → doing alike.state t ≡ z → status_of m t ≡ standing z
      status_here z is =
          ap (λ zs. unwrap_or (slice_get zs t) status.Absent) alike.of_graph.statuses ∙ (standing_in alike.state.threads t ∙ ap standing is)

      away : (z : Doing) → doing alike.state t ≡ z → standing z ≡ status.Absent → ⊥
      away z is absent = never_absent at_node.node (sym at_node.at ∙ (status_here z is ∙ absent))

      live : (z : Doing) → doing alike.state t ≡ z → IsOfText P.root t z → Live K P.root L t (at.Trying s (tests (y ∷ ys))) z →
          HeldBy K P.root L t (at.Trying s (tests (y ∷ ys))) → AtLooks m (y ∷ ys)
      live (Todo todo) is of_text now held =
          record {
            now_above =
                subst (λ n. priority q (join_of v) ≤ priority_of q n)
                (sym (status_here (Todo todo) is
                ∙ ap (λ b. status.At (number (Some b)))
                (is_there P.root todo (If (h y ys todo of_text.0 now.1).0 (is_raised y) (h y ys todo of_text.0 now.1).1 (h y ys todo of_text.0 now.1).2
                (h y ys todo of_text.0 now.1).3) now.0 (h y ys todo of_text.0 now.1).4))) (join_low y ys todo of_text.0 now.1);
            each = λ x among. each_look (y ∷ ys) x todo of_text.0 now.1 among;
          }
      live (Resuming n rest) is of_text now held =
          let place : Place P.root t rest = after_pause t n rest of_text in
          let tries : TriesOut K P.root L s (tests (y ∷ ys)) rest =
          subst (λ ts. TriesOut K P.root L s ts rest) (sym now.0) (held.1.wakes n rest now.1) in
          let pause : HasNodes G n t (node_step.Surf (suc n)) (node_step.Depth (leads P.root rest)) = mirrors.nodes t (Pause n rest) of_text in
          let one : priority q (join_of v) ≤ priority q (h y ys rest place tries).0 = join_low y ys rest place tries in
          let two : priority q (h y ys rest place tries).0 ≤ priority q (suc n) =
          (flow G q valid).falls (suc n) (h y ys rest place tries).0
          (by_successor (node_step.Depth (leads P.root rest))
          (stepped P G mirrors (suc n) t (node_step.Depth (leads P.root rest)) pause.second)
          (subst (λ z. Contains (z ∷ []) (h y ys rest place tries).0) (sym (ap number (h y ys rest place tries).4))
          (contains_head (h y ys rest place tries).0 []))) in
          record {
            now_above =
                subst (λ z. priority q (join_of v) ≤ priority_of q z) (sym (status_here (Resuming n rest) is))
                (let all : priority q (join_of v) ≤ priority q (suc n) = omega (one, two, arith) in all);
            each = λ x among. each_look (y ∷ ys) x rest place tries among;
          }
      live (Resting n rest) is of_text now held = absurd (no_tests (look left y) (tests ys) now.0)
      live Away is of_text now held = absurd now
      live (Forked n branches rest) is of_text now held = absurd now
      live Finished is of_text now held = absurd now

      pub at_looks : AtLooks m (y ∷ ys)
      at_looks = by (given K d alike.state (region_at K t).around) (subst (λ z. Fits K P.root L t (given K d alike.state (region_at K t).around) z
          (doing alike.state t)) stands (alike.of_chart.each t there))
        where
          by : (g : Giving) → Fits K P.root L t g (at.Trying s (tests (y ∷ ys))) (doing alike.state t) → AtLooks m (y ∷ ys)
          by Turn fits = live (doing alike.state t) refl (alike.of_graph.places t) fits.0 fits.1
          by Nothing fits = absurd (trying_outside s (tests (y ∷ ys)) fits.0)
          by Ready fits = absurd (away Away fits.1 refl)
          by Past fits = absurd (trying_ended s (tests (y ∷ ys)) fits.0)
