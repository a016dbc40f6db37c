-- A run of a core chart leads its graph along. A thread that waits at a join and takes a step of that run takes one in the graph.
use Rattle.std.proofs.Common.{◌≡◌, ℕ, ⊎_elim, Some, List, [], ◌∷◌, ◌++◌, Contains, refl, ap, subst, ◌∙◌}
use Rattle.std.proofs.lemmas.Option.{same_Some}
use Rattle.sc_values.specs.Runs.{replay}
use Rattle.sc_graph.specs.declared.control.Control.{Control}
use Rattle.sc_graph.specs.declared.control.Status.TheVariants as status
use Rattle.sc_graph.specs.declared.tables.Tables.{Tables}
use Rattle.sc_graph.specs.Control.{status_of}
use Rattle.sc_graph.specs.Machine as graph
use Rattle.sc_graph.specs.Program.{Program}
use Rattle.sc_graph.specs.Valid.{IsValid}
use Rattle.core_charts.specs.Chart.{Chart}
use Rattle.chart_machine.specs.declared.standing.Configuration.{Configuration}
use Rattle.chart_machine.specs.declared.table.Table.{Table}
use Rattle.chart_machine.specs.Machine.{machine}
use Rattle.chart_machine.specs.Steps.{step}
use Rattle.chart_machine.specs.Table.{table}
use Rattle.scl.specs.declared.program.Scl.{Scl}
use Rattle.scl.specs.Numbering.{numbered}
use Rattle.scl_graph.specs.Graph.{program_of}
use Rattle.tick_laws.proofs.Formed.{valid_formed}
use Rattle.tick_laws.proofs.Lists.{contained, contains_none, contains_cons, contains_head, contains_tail}
use Rattle.tick_laws.proofs.RunsOn.{replay_append}
use Rattle.chart_lowering_laws.specs.Laws.{IsLowering}
use Rattle.chart_lowering_laws.specs.Stands.{Followed, Lowered}
use Rattle.compiled_charts_laws.proofs.Stands.{stand_alike}
use Rattle.preemption_laws.proofs.ByRank.{Begins, begins}
use Rattle.preemption_laws.specs.StepNodes.{Alike}
use Rattle.preemption_laws.proofs.StepNodes.{AllCome, comes}
use Rattle.preemption_laws.proofs.StillAtJoins.{still_waits}

-- ---- lists of threads

in_first : (xs ys : List ℕ) (t : ℕ) → Contains xs t → Contains (xs ++ ys) t
in_first [] ys t has = absurd (contains_none t has)
in_first (x ∷ xs) ys t has =
    ⊎_elim (λ same. subst (Contains (x ∷ (xs ++ ys))) same (contains_head x (xs ++ ys)))
    (λ tail. contains_tail x t (xs ++ ys) (in_first xs ys t tail)) (contains_cons x t xs has)

in_second : (xs ys : List ℕ) (t : ℕ) → Contains ys t → Contains (xs ++ ys) t
in_second [] ys t has = has
in_second (x ∷ xs) ys t has = contains_tail x t (xs ++ ys) (in_second xs ys t has)

-- ---- a run of the core chart

module _ (c : Chart) (p : Scl) (q : Tables) (low : IsLowering c p) (valid : IsValid (program_of (numbered p)) q) where
  abbrev K : Table
  K = table c

  abbrev G : Program
  G = program_of (numbered p)

  abbrev lowered : Lowered K G (Alike c p)
  lowered = stand_alike c p low (valid_formed G q valid)

  -- what each step that is followed keeps
  abbrev pub KeptByFollowing : (Configuration → Control → Type 0) → Type 0
  KeptByFollowing Holds =
      (d next : Configuration) (m : Control) (t : ℕ) (alike : Alike c p d m) (steps : step K t d ≡ Some next) → Holds d m →
      Holds next (lowered.follow d next m t alike steps).last

  module _ (Holds : Configuration → Control → Type 0) (kept : KeptByFollowing Holds) where
    -- a run of the graph leads there too
    pub record GraphGoes (d : Configuration) (m : Control) : Type 0 where
      pub run : List ℕ
      pub last : Control
      pub leads : replay (graph.machine G) run m ≡ Some last
      pub stands : Alike c p d last
      pub holds : Holds d last

    pub graph_goes : (run : List ℕ) (d e : Configuration) (m : Control) → Alike c p d m → Holds d m → replay (machine K) run d ≡ Some e → GraphGoes e m
    graph_goes [] d e m alike holds runs =
        record {
          run = [];
          last = m;
          leads = refl;
          stands = subst (λ z. Alike c p z m) (same_Some d e runs) alike;
          holds = subst (λ z. Holds z m) (same_Some d e runs) holds;
        }
    graph_goes (t ∷ run) d e m alike holds runs =
        let b : Begins (machine K) t run d e = begins (machine K) t run d e runs in
        let one : Followed K G (Alike c p) b.next m t = lowered.follow d b.next m t alike b.steps in
        let rest : GraphGoes e one.last = graph_goes run b.next e one.last one.stands (kept d b.next m t alike b.steps holds) b.rest in
        record {
          run = one.run ++ rest.run;
          last = rest.last;
          leads = replay_append G one.run rest.run m one.last one.leads ∙ rest.leads;
          stands = rest.stands;
          holds = rest.holds;
        }

    -- a thread that waits at a join and is to step leaves it
    goes_own : (t j : ℕ) (run : List ℕ) (d e : Configuration) (m : Control) (alike : Alike c p d m) (holds : Holds d m)
        (runs : replay (machine K) run d ≡ Some e) → status_of m t ≡ status.Waiting j → Contains run t →
        Contains (graph_goes run d e m alike holds runs).run t
    unfolding graph_goes
    goes_own t j [] d e m alike holds runs waits has = absurd (contains_none t has)
    goes_own t j (u ∷ run) d e m alike holds runs waits has =
        ⊎_elim (λ own. in_first one.run rest.run t own)
        (λ out. in_second one.run rest.run t
        (goes_own t j run b.next e one.last one.stands (kept d b.next m u alike b.steps holds) b.rest
        (still_waits G (valid_formed G q valid) t j one.run m one.last alike.is_configuration one.leads out waits) (later out)))
        (contained one.run t)
      where
        b : Begins (machine K) u run d e
        b = begins (machine K) u run d e runs

        one : Followed K G (Alike c p) b.next m u
        one = lowered.follow d b.next m u alike b.steps

        rest : GraphGoes e one.last
        rest = graph_goes run b.next e one.last one.stands (kept d b.next m u alike b.steps holds) b.rest

        later : ¬ Contains one.run t → Contains run t
        later out =
            ⊎_elim (λ same. absurd (out (subst (Contains one.run) same (one.leaves j (ap (status_of m) same ∙ waits))))) (λ tail. tail)
            (contains_cons u t run has)

    -- and one by which the threads have come to their nodes again
    pub record GoesToNodes (d : Configuration) (m : Control) : Type 0 where
      pub between : GraphGoes d m
      pub come : AllCome c p low q valid d between.last

    pub goes_to_nodes : (run : List ℕ) (d e : Configuration) (m : Control) → Alike c p d m → Holds d m → replay (machine K) run d ≡ Some e → GoesToNodes e m
    goes_to_nodes run d e m alike holds runs =
        let first : GraphGoes e m = graph_goes run d e m alike holds runs in
        record { between = first; come = comes c p low q valid e first.last first.stands }

    pub comes_own : (t j : ℕ) (run : List ℕ) (d e : Configuration) (m : Control) (alike : Alike c p d m) (holds : Holds d m)
        (runs : replay (machine K) run d ≡ Some e) → status_of m t ≡ status.Waiting j → Contains run t →
        Contains ((goes_to_nodes run d e m alike holds runs).between.run ++ (goes_to_nodes run d e m alike holds runs).come.nodes.run) t
    unfolding goes_to_nodes
    comes_own t j run d e m alike holds runs waits has =
        in_first (graph_goes run d e m alike holds runs).run (goes_to_nodes run d e m alike holds runs).come.nodes.run t
        (goes_own t j run d e m alike holds runs waits has)
