-- While a region has its turn with a strong test, whoever is at a test beside its monitor is at the check of the strong flag, which is below the
-- nodes that raise it.
use Rattle.std.proofs.Common.{◌≡◌, ◌≢◌, ℕ, ◌<◌, Bool, true, false, Some, List, [], ◌∷◌, Contains, refl, sym, ap, subst, ◌∙◌}
use Rattle.sc_values.specs.Access.{Inits, no_access}
use Rattle.sc_graph.specs.declared.control.Control.{Control}
use Rattle.sc_graph.specs.declared.control.Status.TheVariants as status
use Rattle.sc_graph.specs.declared.program.Step.{Step}
use Rattle.sc_graph.specs.declared.tables.Tables.{Tables}
use Rattle.sc_graph.specs.Accesses.{accesses}
use Rattle.sc_graph.specs.Control.{status_of}
use Rattle.sc_graph.specs.Program.{Program, parent_of, owner_of, step_at}
use Rattle.sc_graph.specs.Tables.{priority}
use Rattle.sc_graph.specs.Threads.{Below}
use Rattle.sc_graph.specs.Valid.{IsValid}
use Rattle.tick_laws.proofs.Formed.{valid_formed}
use Rattle.core_charts.specs.declared.features.Features.TheVariants as features
use Rattle.core_charts.specs.declared.region.Transition.{Transition}
use Rattle.core_charts.specs.Aborts.{has_aborts}
use Rattle.core_charts.specs.Chart.{Chart}
use Rattle.core_charts.specs.Rules.{IsChart}
use Rattle.chart_machine.specs.declared.standing.Standing.{Standing}
use Rattle.chart_machine.specs.declared.standing.Standing.TheVariants as at
use Rattle.chart_machine.specs.declared.standing.Configuration.{Configuration}
use Rattle.chart_machine.specs.declared.table.Table.{Table}
use Rattle.chart_machine.specs.Table.{table}
use Rattle.chart_machine.specs.Turns.{standing_of, guards, is_guarded, is_enabled, ForkedApart}
use Rattle.chart_machine.specs.Steps.{access_of, access_of_trigger}
use Rattle.scl.specs.declared.program.Scl.{Scl}
use Rattle.scl.specs.Numbering.{numbered}
use Rattle.scl_graph.specs.Graph.{program_of}
use Rattle.abort_expansion.specs.Expansion.{expanded}
use Rattle.abort_expansion.specs.Transitions.{go, is_raised}
use Rattle.chart_lowering_laws.specs.Laws.{IsLowering}
use Rattle.chart_lowering_laws.specs.Stands.{Lowered}
use Rattle.chart_machine_laws.proofs.LyingIn.{IsNested, around, holder}
use Rattle.chart_machine_laws.specs.Tree.{IsThere}
use Rattle.compiled_charts_laws.proofs.AtJoins as at_joins
use Rattle.compiled_charts_laws.proofs.Stands.{stand_alike}
use Rattle.compiled_charts_laws.proofs.TickStarts as tick_starts
use Rattle.abort_expansion_laws.specs.CoreRows.{own, IsState, Images, CoreRows}
use Rattle.abort_expansion_laws.proofs.BesideMonitors.{LiesBeside, a_region, a_monitor, lies_beside, beside_apart, check_below}
use Rattle.abort_expansion_laws.proofs.ChecksNext.{SeesIt, region_next, monitor_next}
use Rattle.abort_expansion_laws.proofs.FlagAccess.{raised_access}
use Rattle.abort_expansion_laws.proofs.InsideLeaves.{AloneRows}
use Rattle.abort_expansion_laws.proofs.TickRows.{alone_rows}
use Rattle.abort_expansion_laws.proofs.MonitorsReady.{AllReady}
use Rattle.abort_expansion_laws.proofs.RowsOfCharts as whole
use Rattle.abort_expansion_laws.proofs.SeesFirst.{out, over, checks, forks}
use Rattle.abort_expansion_laws.proofs.Unchanged.{no_guards, unguarded}
use Rattle.preemption_laws.specs.StepNodes.{AtOwnNode, Alike}
use Rattle.preemption_laws.proofs.ChartOrder.{AllAt}
use Rattle.preemption_laws.proofs.TestsThere.{IsTest, tests_there}

-- it reads the flag
pub reads_flag : (x : ℕ) → access_of_trigger (Some (is_raised x)) ≢ no_access
reads_flag x none = let wrong : x ∷ [] ≡ [] = ap (λ a. a.reads) (sym (raised_access x) ∙ none) in absurd cc

module _ (c : Chart) (rules : IsChart features.Extended c) (core_rules : IsChart features.Core (expanded c)) (p : Scl)
    (q : Tables) (low : IsLowering (expanded c) p) (valid : IsValid (program_of (numbered p)) q) (now d : Configuration) (m : Control)
    (all : AllAt c rules core_rules p q low valid now d m) (alike : Alike (expanded c) p d m) where
  abbrev k : Table
  k = table c

  abbrev core : Table
  core = table (expanded c)

  abbrev i : Images
  i = whole.i c rules core_rules

  abbrev rows : CoreRows k core i
  rows = whole.rows_of_chart c rules core_rules

  abbrev more : AloneRows k core i
  more = alone_rows c rules core_rules

  abbrev tree : IsNested k
  tree = (whole.tree c rules core_rules).nested

  abbrev core_tree : IsNested core
  core_tree = (whole.core_tree c rules core_rules).nested

  abbrev super_there : (r s : ℕ) → Contains (around k r) s → IsState k s
  super_there = whole.super_there c rules core_rules

  holds_there : (s : ℕ) → IsState k s → IsThere k (holder k s)
  holds_there s here = (whole.state_fits c rules core_rules s here).region.here

  abbrev G : Program
  G = program_of (numbered p)

  abbrev lowered : Lowered core G (Alike (expanded c) p)
  lowered = stand_alike (expanded c) p low (valid_formed G q valid)

  top_parent : (t : ℕ) → IsThere core t → around core t ≡ [] → parent_of G t ≡ Some 0
  top_parent t there none = tick_starts.top_parent (expanded c) p q low valid t there none

  ready : AllReady k core i now d
  ready = record { related = all.related; ready = all.ready }

  module _ (o x n : ℕ) (o_there : IsState k o) (has : has_aborts (own k o) ≡ true) (others : List Transition)
      (guarding_now : standing_of now (holder k o) ≡ at.Guarding o others) (free : is_guarded k now (around k (holder k o)) ≡ false)
      (flag : (i.flags_of o).strong ≡ Some x) (raising : owner_of G n ≡ Some (i.watcher_of o)) (inits : Inits (accesses G n) x)
      (u child : ℕ) (up : parent_of G child ≡ Some (i.thread_of (holder k o))) (differs : child ≢ i.watcher_of o) (below : Below G u child)
      (node : ℕ) (here : status_of m u ≡ status.At node) (z : Step) (test : IsTest z) (is : step_at G node ≡ Some z) where
    abbrev Lies : Type 0
    Lies =
        LiesBeside k core i rows tree core_tree super_there holds_there G q valid (Alike (expanded c) p) lowered
        top_parent now d all.related o o_there has others guarding_now u

    there : (standing_of d u ≢ at.Outside) × (standing_of d u ≢ at.Ended)
    there = tests_there (expanded c) p low d m alike u node here z test is

    lies : Lies
    lies =
        lies_beside k core i rows tree core_tree super_there holds_there G q valid (Alike (expanded c) p) lowered
        top_parent now d all.related o o_there has others guarding_now u child up differs below there.0

    apart : ForkedApart core u (i.watcher_of o) (i.thread_of (holder k o))
    apart =
        beside_apart k core i rows tree core_tree super_there holds_there G q valid (Alike (expanded c) p) lowered
        top_parent now d all.related o o_there has others guarding_now u lies

    abbrev Seen : Standing → Type 0
    Seen =
        SeesIt k core i rows more tree (whole.core_tree c rules core_rules).children (whole.tree c rules core_rules).children now d ready o x has flag
        (ap guards guarding_now) free

    sees : Lies → Seen (standing_of d u)
    sees (a_region v v_there same in_o) =
        subst (λ t. Seen (standing_of d t)) (sym same)
        (region_next k core i rows more tree (whole.core_tree c rules core_rules).children (whole.tree c rules core_rules).children now d ready o x has flag
        (ap guards guarding_now) free v v_there in_o)
    sees (a_monitor w w_there some same in_o) =
        subst (λ t. Seen (standing_of d t)) (sym same)
        (monitor_next k core i rows more tree (whole.core_tree c rules core_rules).children (whole.tree c rules core_rules).children now d ready o x has flag
        (ap guards guarding_now) free w w_there some in_o)

    -- it is at its check
    at_check : (v place : ℕ) (b : Bool) (rest : List Transition) → standing_of d u ≡ at.Trying v (go b (Some (is_raised x)) [] place ∷ rest) →
        priority q node < priority q n
    at_check v place b rest stands =
        subst (λ y. priority q y < priority q n) (sym same)
        (check_below k core i rows tree core_tree super_there holds_there G q valid (Alike (expanded c) p) lowered
        top_parent now d all.related o o_there has others guarding_now n x raising inits u apart own_node.node own_node.owned (own_node.does ∙ reads))
      where
        on : is_enabled core d u ≡ true
        on = rw (stands, unguarded core d (no_guards k core i rows now d all.related) (around core u)) refl

        reads : access_of (standing_of d u) ≡ access_of_trigger (Some (is_raised x))
        reads = ap access_of stands

        own_node : AtOwnNode G m u (access_of (standing_of d u))
        own_node = all.nodes u on (λ none. reads_flag x (sym reads ∙ none))

        same : node ≡ own_node.node
        same = let both : status.At node ≡ status.At own_node.node = sym here ∙ own_node.at in cc

    by_place : (y : Standing) → standing_of d u ≡ y → Seen y → priority q node < priority q n
    by_place _ stands out = absurd (there.0 stands)
    by_place _ stands over = absurd (there.1 stands)
    by_place _ stands (checks v place tests first) =
        at_check v place first.0 first.1 (stands ∙ ap (at.Trying v) first.2)
    by_place _ stands (forks v w rest) =
        let wrong : status.At node ≡ status.Waiting (at_joins.join_of (expanded c) p low v) = sym here ∙ all.waits u v w rest stands in absurd cc

    pub test_below : priority q node < priority q n
    test_below = by_place (standing_of d u) refl (sees lies)
