-- No thread of a graph that has caught up with a core chart is at a resume node.
use Rattle.std.proofs.Common.{◌≡◌, ℕ, zero, suc, ◌<◌, true, Option, Some, None, [], ◌∷◌, length, slice_get, unwrap_or, refl, sym, ap, subst, ◌∙◌, arith}
use Rattle.std.proofs.lemmas.Option.{slice_get_within}
use Rattle.sc_values.specs.Assignment.{Assignment, Inits, Combines, assignment_of}
use Rattle.sc_values.specs.Expr.{postorder}
use Rattle.sc_graph.specs.declared.control.Control.{Control}
use Rattle.sc_graph.specs.declared.control.Status.TheVariants as status
use Rattle.sc_graph.specs.declared.program.Step.{Step}
use Rattle.sc_graph.specs.declared.program.Step.TheVariants as node_step
use Rattle.sc_graph.specs.Control.{status_of}
use Rattle.sc_graph.specs.Program.{Program, step_at}
use Rattle.core_charts.specs.Chart.{Chart}
use Rattle.chart_machine.specs.declared.standing.Standing.{Standing}
use Rattle.chart_machine.specs.declared.standing.Standing.TheVariants as at
use Rattle.chart_machine.specs.declared.standing.Configuration.{Configuration}
use Rattle.chart_machine.specs.declared.table.Table.{Table}
use Rattle.chart_machine.specs.Table.{table, region_at}
use Rattle.chart_machine.specs.Turns.{standing_of}
use Rattle.scl.specs.declared.program.Scl.{Scl}
use Rattle.scl.specs.Block.{Block, End, Assign, Label, Goto, Pause, If, Fork}
use Rattle.scl.specs.Labels.{before}
use Rattle.scl.specs.Places.{Place, threads_of}
use Rattle.scl.specs.Numbering.{Numbered, numbered}
use Rattle.scl.specs.Meaning.{State, Doing, Away, Todo, Forked, Resting, Resuming, Finished, doing}
use Rattle.scl_graph.specs.Graph.{program_of, assigns, number}
use Rattle.scl_graph_laws.specs.Keeps.{Corresponds as StandsInGraph}
use Rattle.scl_graph_laws.specs.Mirrors.{Mirrors, leads}
use Rattle.scl_graph_laws.specs.Standing.{standing, IsStep, IsOfText}
use Rattle.scl_graph_laws.proofs.Texts.{program_mirrors}
use Rattle.chart_lowering_laws.specs.Corresponds.{Live, Fits, Giving, Nothing, Ready, Turn, Past, given, Corresponds, IsAtRoot}
use Rattle.chart_lowering_laws.specs.Laws.{IsLowering}
use Rattle.chart_lowering_laws.specs.Layout.{Layout, IsRegionOf}
use Rattle.chart_lowering_laws.specs.Marks.{layout}
use Rattle.chart_lowering_laws.proofs.Catching.{caught, Caught}
use Rattle.compiled_charts_laws.proofs.Mirrored.{stepped}
use Rattle.compiled_charts_laws.proofs.StepsFollowed.{standing_in}

other_step : (s : Step) (o : Option Step) (n : ℕ) → o ≡ Some s → o ≡ Some (node_step.Depth n) → s ≡ node_step.Depth n
other_step s o n h k = cc

assigns_other : (x next n : ℕ) (a : Assignment) → assigns x a next ≡ node_step.Depth n → ⊥
assigns_other x next n (Inits e) h = absurd cc
assigns_other x next n (Combines f e) h = absurd cc

pub one_node : (m n : ℕ) → status.At m ≡ status.At n → m ≡ n
one_node m n h = cc

module _ (c : Chart) (p : Scl) (low : IsLowering c p) where
  abbrev K : Table
  K = table c

  abbrev P : Numbered
  P = numbered p

  abbrev G : Program
  G = program_of P

  abbrev L : Layout
  L = layout c P.root

  mirrors : Mirrors P G
  mirrors = program_mirrors p

  -- a statement is at no resume node
  never_depth : (t n : ℕ) (todo : Block) → Place P.root t todo → IsStep todo → step_at G (number (Some todo)) ≡ Some (node_step.Depth n) → ⊥
  never_depth t n (End k) place is_step h =
      let wrong : node_step.Exit ≡ node_step.Depth n =
      other_step node_step.Exit (step_at G k) n (stepped P G mirrors k t node_step.Exit (mirrors.nodes t (End k) place)) h in
      absurd cc
  never_depth t n (Assign k x e rest) place is_step h =
      assigns_other x (leads P.root rest) n (assignment_of x e)
      (other_step (assigns x (assignment_of x e) (leads P.root rest)) (step_at G k) n
      (stepped P G mirrors k t (assigns x (assignment_of x e) (leads P.root rest)) (mirrors.nodes t (Assign k x e rest) place)) h)
  never_depth t n (If k e a b rest) place is_step h =
      let wrong : node_step.Cond (postorder e) (leads P.root (before a rest)) (leads P.root (before b rest)) ≡ node_step.Depth n =
      other_step (node_step.Cond (postorder e) (leads P.root (before a rest)) (leads P.root (before b rest))) (step_at G k) n
      (stepped P G mirrors k t (node_step.Cond (postorder e) (leads P.root (before a rest)) (leads P.root (before b rest)))
      (mirrors.nodes t (If k e a b rest) place)) h in
      absurd cc
  never_depth t n (Pause k rest) place is_step h =
      let wrong : node_step.Surf (suc k) ≡ node_step.Depth n =
      other_step (node_step.Surf (suc k)) (step_at G k) n
      (stepped P G mirrors k t (node_step.Surf (suc k)) (mirrors.nodes t (Pause k rest) place).first) h in
      absurd cc
  never_depth t n (Fork k branches rest) place is_step h =
      let wrong : node_step.Fork (threads_of branches) (suc k) ≡ node_step.Depth n =
      other_step (node_step.Fork (threads_of branches) (suc k)) (step_at G k) n
      (stepped P G mirrors k t (node_step.Fork (threads_of branches) (suc k)) (mirrors.nodes t (Fork k branches rest) place).nodes.first) h in
      absurd cc
  never_depth t n (Label name rest) place is_step h = absurd is_step
  never_depth t n (Goto g name rest) place is_step h = absurd is_step

  abbrev pub NoneResumes : Control → Type 0
  NoneResumes m = (t depth n : ℕ) → status_of m t ≡ status.At depth → step_at G depth ≡ Some (node_step.Depth n) → ⊥

  module _ (d : Configuration) (s : State) (m : Control) (corr : Corresponds K P L d s) (in_graph : StandsInGraph P s m) (up : Caught d s) where
    -- nobody is about to resume
    live_caught : (t k : ℕ) (rest : Block) (x : Standing) → Live K P.root L t x (Resuming k rest) → caught x (Resuming k rest) ≡ true → ⊥
    live_caught t k rest (at.Trying u tests) live is = absurd cc
    live_caught t k rest (at.Within u tests) live is = absurd cc
    live_caught t k rest at.Outside live is = live
    live_caught t k rest at.Ended live is = live
    live_caught t k rest (at.Entering u tests) live is = live
    live_caught t k rest (at.Guarding u tests) live is = live
    live_caught t k rest (at.Acting u [] place) live is = live
    live_caught t k rest (at.Acting u (e ∷ effects) place) live is = live

    away_not : (k : ℕ) (rest : Block) (z : Doing) → z ≡ Away → z ≡ Resuming k rest → ⊥
    away_not k rest z h e = absurd cc

    given_not : (t k : ℕ) (rest : Block) (g : Giving) (x : Standing) (z : Doing) → Fits K P.root L t g x z → z ≡ Resuming k rest → caught x z ≡ true → ⊥
    given_not t k rest Nothing x z fits e is = away_not k rest z fits.1 e
    given_not t k rest Ready x z fits e is = away_not k rest z fits.1 e
    given_not t k rest Past x z fits e is = away_not k rest z fits.1 e
    given_not t k rest Turn x z fits e is =
        live_caught t k rest x (subst (Live K P.root L t x) e fits.0) (subst (λ y. caught x y ≡ true) e is)

    none_resuming : (t k : ℕ) (rest : Block) → doing s t ≡ Resuming k rest → ⊥
    none_resuming zero k rest e = subst (IsAtRoot P.root) e corr.root
    none_resuming (suc t) k rest e = by (slice_get s.threads (suc t)) refl
      where
        by : (o : Option Doing) → slice_get s.threads (suc t) ≡ o → ⊥
        by None is = away_not k rest (doing s (suc t)) (ap (λ o. unwrap_or o Away) is) e
        by (Some y) is =
            let less : suc t < length s.threads = slice_get_within s.threads (suc t) y is in
            let many : length s.threads ≡ suc (length K.regions) = corr.threads in
            let region : IsRegionOf K (suc t) = (omega arith, omega (arith, less, many)) in
            given_not (suc t) k rest (given K d s (region_at K (suc t)).around) (standing_of d (suc t)) (doing s (suc t)) (corr.each (suc t) region) e
            (up (suc t))

    pub no_resumes : NoneResumes m
    no_resumes t depth n here is = by (doing s t) refl
      where
        stands_at : status_of m t ≡ standing (doing s t)
        stands_at = ap (λ z. unwrap_or (slice_get z t) status.Absent) in_graph.statuses ∙ standing_in s.threads t

        at_it : (z : Doing) → doing s t ≡ z → standing z ≡ status.At depth
        at_it z e = sym (stands_at ∙ ap standing e) ∙ here

        by : (z : Doing) → doing s t ≡ z → ⊥
        by (Todo todo) e =
            let own : IsOfText P.root t (Todo todo) = subst (IsOfText P.root t) e (in_graph.places t) in
            let node : number (Some todo) ≡ depth = one_node (number (Some todo)) depth (at_it (Todo todo) e) in
            never_depth t n todo own.0 own.1 (ap (step_at G) node ∙ is)
        by (Resuming k rest) e = none_resuming t k rest e
        by Away e = let wrong : status.Absent ≡ status.At depth = at_it Away e in absurd cc
        by (Forked k branches rest) e = let wrong : status.Waiting (suc k) ≡ status.At depth = at_it (Forked k branches rest) e in absurd cc
        by (Resting k rest) e = let wrong : status.Paused (suc k) ≡ status.At depth = at_it (Resting k rest) e in absurd cc
        by Finished e = let wrong : status.Ended ≡ status.At depth = at_it Finished e in absurd cc
