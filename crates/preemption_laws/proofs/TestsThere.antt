-- A thread of a graph that is at a test is there in the core chart, and has not ended.
use Rattle.std.proofs.Common.{◌≡◌, ◌≢◌, ℕ, zero, suc, ◌<◌, Option, Some, None, length, slice_get, unwrap_or, refl, sym, ap, subst, ◌∙◌, arith}
use Rattle.std.proofs.lemmas.Option.{slice_get_within}
use Rattle.sc_values.specs.Assignment.{Assignment, Inits, Combines, assignment_of}
use Rattle.sc_graph.specs.declared.control.Control.{Control}
use Rattle.sc_graph.specs.declared.control.Status.TheVariants as status
use Rattle.sc_graph.specs.declared.program.Step.{Step}
use Rattle.sc_graph.specs.declared.program.Step.TheVariants as node_step
use Rattle.sc_graph.specs.Control.{status_of}
use Rattle.sc_graph.specs.Program.{Program, step_at}
use Rattle.core_charts.specs.Chart.{Chart}
use Rattle.chart_machine.specs.declared.standing.Standing.{Standing}
use Rattle.chart_machine.specs.declared.standing.Standing.TheVariants as at
use Rattle.chart_machine.specs.declared.standing.Configuration.{Configuration}
use Rattle.chart_machine.specs.declared.table.Table.{Table}
use Rattle.chart_machine.specs.Table.{table, region_at}
use Rattle.chart_machine.specs.Turns.{standing_of}
use Rattle.scl.specs.declared.program.Scl.{Scl}
use Rattle.scl.specs.Block.{Block, End, Assign, Label, Goto, Pause, If, Fork}
use Rattle.scl.specs.Places.{Place, threads_of}
use Rattle.scl.specs.Numbering.{Numbered, numbered}
use Rattle.scl.specs.Meaning.{State, Doing, Away, Todo, Forked, Resting, Resuming, Finished, doing}
use Rattle.scl_graph.specs.Graph.{program_of, assigns, number}
use Rattle.scl_graph_laws.specs.Keeps.{Corresponds as StandsInGraph}
use Rattle.scl_graph_laws.specs.Mirrors.{Mirrors, leads}
use Rattle.scl_graph_laws.specs.Standing.{standing, IsStep, IsOfText}
use Rattle.scl_graph_laws.proofs.Texts.{program_mirrors}
use Rattle.chart_lowering_laws.specs.Corresponds.{Live, Fits, Giving, Nothing, Ready, Turn, Past, given, Corresponds, IsAtRoot}
use Rattle.chart_lowering_laws.specs.Laws.{IsLowering}
use Rattle.chart_lowering_laws.specs.Layout.{Layout, IsRegionOf}
use Rattle.chart_lowering_laws.specs.Marks.{layout}
use Rattle.compiled_charts_laws.proofs.Mirrored.{stepped}
use Rattle.compiled_charts_laws.proofs.StepsFollowed.{standing_in}
use Rattle.preemption_laws.specs.StepNodes.{Alike}
use Rattle.preemption_laws.proofs.NoResumes.{one_node}

-- a test
abbrev pub IsTest : Step → Type 0
IsTest (node_step.Cond code on_true on_false) = Unit {0}
IsTest other = ⊥

abbrev IsIf : Block → Type 0
IsIf (If n e a b rest) = Unit {0}
IsIf other = ⊥

pub one_step : (s z : Step) (o : Option Step) → o ≡ Some s → o ≡ Some z → z ≡ s
one_step s z o h k = cc

assigns_nothing : (x next : ℕ) (a : Assignment) → ¬ IsTest (assigns x a next)
assigns_nothing x next (Inits e) h = h
assigns_nothing x next (Combines f e) h = h

module _ (c : Chart) (p : Scl) (low : IsLowering c p) where
  abbrev K : Table
  K = table c

  abbrev P : Numbered
  P = numbered p

  abbrev G : Program
  G = program_of P

  abbrev L : Layout
  L = layout c P.root

  mirrors : Mirrors P G
  mirrors = program_mirrors p

  -- whose node is a test is an if
  is_if : (t : ℕ) (todo : Block) → Place P.root t todo → IsStep todo → (z : Step) → IsTest z → step_at G (number (Some todo)) ≡ Some z → IsIf todo
  is_if t (If k e a b rest) place is_step z test h = tt
  is_if t (End k) place is_step z test h =
      absurd (subst IsTest (one_step node_step.Exit z (step_at G k) (stepped P G mirrors k t node_step.Exit (mirrors.nodes t (End k) place)) h) test)
  is_if t (Assign k x e rest) place is_step z test h =
      absurd (assigns_nothing x (leads P.root rest) (assignment_of x e)
      (subst IsTest (one_step (assigns x (assignment_of x e) (leads P.root rest)) z (step_at G k)
      (stepped P G mirrors k t (assigns x (assignment_of x e) (leads P.root rest)) (mirrors.nodes t (Assign k x e rest) place)) h) test))
  is_if t (Pause k rest) place is_step z test h =
      absurd (subst IsTest (one_step (node_step.Surf (suc k)) z (step_at G k)
      (stepped P G mirrors k t (node_step.Surf (suc k)) (mirrors.nodes t (Pause k rest) place).first) h) test)
  is_if t (Fork k branches rest) place is_step z test h =
      absurd (subst IsTest (one_step (node_step.Fork (threads_of branches) (suc k)) z (step_at G k)
      (stepped P G mirrors k t (node_step.Fork (threads_of branches) (suc k)) (mirrors.nodes t (Fork k branches rest) place).nodes.first) h) test)
  is_if t (Label name rest) place is_step z test h = absurd is_step
  is_if t (Goto g name rest) place is_step z test h = absurd is_step

  module _ (d : Configuration) (m : Control) (alike : Alike c p d m) (t n : ℕ) (here : status_of m t ≡ status.At n) (z : Step) (test : IsTest z)
      (is : step_at G n ≡ Some z) where
    abbrev s : State
    s = alike.state

    abbrev corr : Corresponds K P L d s
    corr = alike.of_chart

    abbrev in_graph : StandsInGraph P s m
    in_graph = alike.of_graph

    stands_at : status_of m t ≡ standing (doing s t)
    stands_at = ap (λ w. unwrap_or (slice_get w t) status.Absent) in_graph.statuses ∙ standing_in s.threads t

    at_it : (w : Doing) → doing s t ≡ w → standing w ≡ status.At n
    at_it w e = sym (stands_at ∙ ap standing e) ∙ here

    -- who is there, and has something else to do than to end
    abbrev IsGoing : Standing → Type 0
    IsGoing x = (x ≢ at.Outside) × (x ≢ at.Ended)

    live_going : (todo : Block) → IsIf todo → (x : Standing) → Live K P.root L t x (Todo todo) → IsGoing x
    live_going todo one x live = (
      (λ out. subst (λ y. Live K P.root L t y (Todo todo)) out live),
      (λ over. ended todo one (subst (λ y. Live K P.root L t y (Todo todo)) over live)),
    )
      where
        ended : (b : Block) → IsIf b → Live K P.root L t at.Ended (Todo b) → ⊥
        ended (If k e a b rest) one over = over
        ended (End k) one over = one
        ended (Assign k x e rest) one over = one
        ended (Pause k rest) one over = one
        ended (Fork k branches rest) one over = one
        ended (Label name rest) one over = one
        ended (Goto g name rest) one over = one

    never_away : (todo : Block) (w : Doing) → w ≡ Away → w ≡ Todo todo → ⊥
    never_away todo w h e = absurd cc

    given_going : (todo : Block) → IsIf todo → (g : Giving) (x : Standing) (w : Doing) → Fits K P.root L t g x w → w ≡ Todo todo → IsGoing x
    given_going todo one Nothing x w fits e = absurd (never_away todo w fits.1 e)
    given_going todo one Ready x w fits e = absurd (never_away todo w fits.1 e)
    given_going todo one Past x w fits e = absurd (never_away todo w fits.1 e)
    given_going todo one Turn x w fits e = live_going todo one x (subst (Live K P.root L t x) e fits.0)

    root_not : (todo : Block) → IsIf todo → IsAtRoot P.root (Todo todo) → ⊥
    root_not (If k e a b rest) one root = root
    root_not (End k) one root = one
    root_not (Assign k x e rest) one root = one
    root_not (Pause k rest) one root = one
    root_not (Fork k branches rest) one root = one
    root_not (Label name rest) one root = one
    root_not (Goto g name rest) one root = one

    by_region : (r : ℕ) → r ≡ t → (todo : Block) → IsIf todo → doing s r ≡ Todo todo → IsGoing (standing_of d r)
    by_region zero same todo one does = absurd (root_not todo one (subst (IsAtRoot P.root) does corr.root))
    by_region (suc r) same todo one does = by (slice_get s.threads (suc r)) refl
      where
        by : (o : Option Doing) → slice_get s.threads (suc r) ≡ o → IsGoing (standing_of d (suc r))
        by None gone = absurd (never_away todo (doing s (suc r)) (ap (λ o. unwrap_or o Away) gone) does)
        by (Some y) found =
            let less : suc r < length s.threads = slice_get_within s.threads (suc r) y found in
            let many : length s.threads ≡ suc (length K.regions) = corr.threads in
            let region : IsRegionOf K (suc r) = (omega arith, omega (arith, less, many)) in
            given_going todo one (given K d s (region_at K (suc r)).around) (standing_of d (suc r)) (doing s (suc r))
            (subst (λ v. Fits K P.root L v (given K d s (region_at K (suc r)).around) (standing_of d (suc r)) (doing s (suc r))) same
            (corr.each (suc r) region)) does

    pub tests_there : IsGoing (standing_of d t)
    tests_there = by (doing s t) refl
      where
        by : (w : Doing) → doing s t ≡ w → IsGoing (standing_of d t)
        by (Todo todo) e =
            let own : IsOfText P.root t (Todo todo) = subst (IsOfText P.root t) e (in_graph.places t) in
            let node : number (Some todo) ≡ n = one_node (number (Some todo)) n (at_it (Todo todo) e) in
            by_region t refl todo (is_if t todo own.0 own.1 z test (ap (step_at G) node ∙ is)) e
        by (Resuming k rest) e =
            let place : IsOfText P.root t (Resuming k rest) = subst (IsOfText P.root t) e (in_graph.places t) in
            let node : suc k ≡ n = one_node (suc k) n (at_it (Resuming k rest) e) in
            absurd (subst IsTest (one_step (node_step.Depth (leads P.root rest)) z (step_at G (suc k))
            (stepped P G mirrors (suc k) t (node_step.Depth (leads P.root rest)) (mirrors.nodes t (Pause k rest) place).second)
            (ap (step_at G) node ∙ is)) test)
        by Away e = let wrong : status.Absent ≡ status.At n = at_it Away e in absurd cc
        by (Forked k branches rest) e = let wrong : status.Waiting (suc k) ≡ status.At n = at_it (Forked k branches rest) e in absurd cc
        by (Resting k rest) e = let wrong : status.Paused (suc k) ≡ status.At n = at_it (Resting k rest) e in absurd cc
        by Finished e = let wrong : status.Ended ≡ status.At n = at_it Finished e in absurd cc
