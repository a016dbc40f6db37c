-- Behind a step by which a region that waits leaves, whoever has its turn or may leave is within the ranks there were before.
use Rattle.std.proofs.Common.{◌≡◌, ◌≢◌, ℕ, ◌<◌, ◌≤◌, ⊎_elim, true, false, Some, List, [], ◌∷◌, map, length, Contains, refl, sym, ap, subst, ◌∙◌}
use Rattle.std.proofs.Common.{arith}
use Rattle.std.specs.List.{list_any}
use Rattle.sc_values.specs.Runs.{replay}
use Rattle.sc_graph.specs.declared.control.Control.{Control}
use Rattle.sc_graph.specs.declared.tables.Tables.{Tables}
use Rattle.sc_graph.specs.Control.{status_of}
use Rattle.sc_graph.specs.Machine as graph
use Rattle.sc_graph.specs.Program.{Program}
use Rattle.sc_graph.specs.Tables.{priority, priority_of}
use Rattle.sc_graph.specs.Valid.{IsValid}
use Rattle.tick_laws.proofs.Lists.{contained, list_all_at}
use Rattle.core_charts.specs.declared.features.Features.TheVariants as features
use Rattle.core_charts.specs.declared.region.Transition.{Transition}
use Rattle.core_charts.specs.Chart.{Chart}
use Rattle.core_charts.specs.Rules.{IsChart}
use Rattle.chart_machine.specs.declared.standing.Configuration.{Configuration}
use Rattle.chart_machine.specs.declared.standing.Standing.{Standing}
use Rattle.chart_machine.specs.declared.standing.Standing.TheVariants as at
use Rattle.chart_machine.specs.declared.table.Table.{Table}
use Rattle.chart_machine.specs.Table.{table, state_at}
use Rattle.chart_machine.specs.Turns.{standing_of, has_ended, has_work, is_enabled}
use Rattle.chart_machine_laws.specs.Tree.{around, holder}
use Rattle.scl.specs.declared.program.Scl.{Scl}
use Rattle.scl.specs.Numbering.{numbered}
use Rattle.scl_graph.specs.Graph.{program_of}
use Rattle.abort_expansion_laws.proofs.Leaving.{set_here, set_other}
use Rattle.chart_lowering_laws.specs.Laws.{IsLowering}
use Rattle.chart_lowering_laws.proofs.Finished.{each_all}
use Rattle.preemption_laws.specs.CappedRanks.{capped}
use Rattle.preemption_laws.proofs.ApartTogether.{turn}
use Rattle.preemption_laws.proofs.CappedSteps.{is_idle}
use Rattle.preemption_laws.proofs.LinesAhead.{LowAhead, ahead_on}
use Rattle.preemption_laws.specs.Looks.{look, Looks}
use Rattle.preemption_laws.specs.Waiting.{holds, is_waiting, sees, gone, may_step, wait_access}
use Rattle.preemption_laws.proofs.GraphMoves as moves
use Rattle.preemption_laws.proofs.Ground.{Ground, enclosed_on}
use Rattle.preemption_laws.proofs.LeaveSteps.{Leaver, leaver}
use Rattle.preemption_laws.proofs.LookRuns.{LeaveRun, leave_run}
use Rattle.preemption_laws.proofs.StaysThere.{is_within, all_ended}
use Rattle.preemption_laws.proofs.StepsOfWaiting.{gone_sound}
use Rattle.preemption_laws.proofs.WaitLow.{Low, Stands, join_at, on_still, on_ended, line_kept, join_kept, leave_kept}
use Rattle.preemption_laws.proofs.WaitStepLow.{none_left}
use Rattle.preemption_laws.proofs.LookNodes.{trying_outside}

-- who has ended waits for nothing, and has no turn
ended_goes : (k : Table) (looks : ℕ → List Transition) (x : Standing) → x ≡ at.Ended → is_waiting k looks x ≡ true → ⊥
ended_goes k looks x e waits = let wrong = sym (ap (is_waiting k looks) e) ∙ waits in absurd cc

ended_idle : (k : Table) (c : Configuration) (x : Standing) → x ≡ at.Ended → has_work k c x ≡ true → ⊥
ended_idle k c x e works = let wrong = sym (ap (has_work k c) e) ∙ works in absurd cc

module _ (e : Chart) (rules : IsChart features.Core e) (p : Scl) (q : Tables) (low : IsLowering e p) (valid : IsValid (program_of (numbered p)) q)
    (looks : ℕ → List Transition) (l : Looks (table e) looks) (g : Ground (table e)) where
  abbrev K : Table
  K = table e

  abbrev G : Program
  G = program_of (numbered p)

  abbrev join : ℕ → ℕ
  join v = join_at e p q low valid looks l g v

  module _ (c : Configuration) (m : Control) (all : Stands e p q low valid looks l g c m) (cap next : ℕ)
      (known : Low e p q low valid looks l g c m cap)
      (ranks : (u : ℕ) → may_step K looks c u ≡ true → capped (is_idle (wait_access K looks c u)) cap (priority_of q (status_of m u)) ≤ next)
      (t : ℕ) (waits : is_waiting K looks (standing_of c t) ≡ true) (up : sees K looks c (standing_of c t) ≡ true) where
    abbrev pub d : Configuration
    d = gone K looks t c

    h : Leaver K looks l c t
    h = leaver K looks l g c t all.sound waits up

    abbrev before : List Transition
    before = map (look (l.left h.state)) (l.seen h.state)

    stands_before : standing_of c t ≡ at.Trying h.state before
    stands_before = h.stands ∙ ap (at.Trying h.state) (l.are_looks h.state)

    -- in the core chart it leaves by a run
    pub leaves : LeaveRun e rules looks l g c t
    leaves =
        leave_run e rules looks l g t h.state (l.seen h.state) (λ x among. among) c all.sound.core all.reached stands_before
        (sym (ap (sees K looks c) stands_before ∙ ap (list_any (holds c)) (l.are_looks h.state)) ∙ up)

    abbrev pub n : Control
    n = moves.there e p q low valid leaves.run c d m all.alike leaves.runs

    abbrev along : List ℕ
    along = moves.along e p q low valid leaves.run c d m all.alike leaves.runs

    leads : replay (graph.machine G) along m ≡ Some n
    leads = moves.leads e p q low valid leaves.run c d m all.alike leaves.runs

    pub stands_gone : Stands e p q low valid looks l g d n
    stands_gone =
        record {
          sound = gone_sound K looks l g c t all.sound h;
          reached = leaves.reached;
          alike = moves.alike_there e p q low valid leaves.run c d m all.alike leaves.runs;
          nodes = moves.nodes_there e p q low valid leaves.run c d m all.alike leaves.runs;
          waits = moves.waits_there e p q low valid leaves.run c d m all.alike leaves.runs;
        }

    -- ---- who stands where

    t_place : t < length c.regions
    t_place =
        let there = (enclosed_on K g c all.sound.core.sits).there t (λ out. trying_outside h.state (looks h.state) (sym h.stands ∙ out)) in
        let size = all.sound.core.sits.size in let lt = there.1 in omega (size, lt, arith)

    ended : standing_of d t ≡ at.Ended
    ended = set_here c.regions t at.Ended t_place

    still : (u : ℕ) → u ≢ t → standing_of d u ≡ standing_of c u
    still u ne = set_other c.regions t u at.Ended ne

    not_it : (u : ℕ) → is_enabled K d u ≡ true → u ≢ t
    not_it u on same =
        ended_idle K d (standing_of d u) (ap (standing_of d) same ∙ ended) (turn K g.tree g.holder_there d u on).works

    -- ---- lines, joins, and who may leave

    lines_gone : (u : ℕ) → is_enabled K d u ≡ true → is_waiting K looks (standing_of d u) ≡ false → is_within (standing_of d u) ≡ false → LowAhead G q next u n
    lines_gone u on goes out =
        let same : standing_of d u ≡ standing_of c u = still u (not_it u on) in
        ahead_on G q next u m along n leads
        (line_kept e p q low valid looks l g c m all cap next known ranks u (on_still K looks l g c all.sound.core d u same out on)
        (ap (is_waiting K looks) (sym same) ∙ goes) (ap is_within (sym same) ∙ out))

    joins_gone : (u v : ℕ) (ws : List Transition) → is_enabled K d u ≡ true → standing_of d u ≡ at.Within v ws → priority q (join v) ≤ next
    joins_gone u v [] on is = absurd (none_left K d u v is (turn K g.tree g.holder_there d u on).works)
    joins_gone u v (w ∷ ws) on is = ⊎_elim own others (contained (state_at K v).regions t)
      where
        own : Contains (state_at K v).regions t → priority q (join v) ≤ next
        own child =
            leave_kept e p q low valid looks l g c m all cap next known ranks t v (around K (holder K v)) waits up (g.tree.children v t child)

        stood : standing_of c u ≡ at.Within v (w ∷ ws)
        stood = sym (still u (not_it u on)) ∙ is

        others : ¬ Contains (state_at K v).regions t → priority q (join v) ≤ next
        others none =
            join_kept e p q low valid looks l g c m all cap next known ranks u v w ws
            (on_ended K looks l g c all.sound.core u v w ws stood
            (each_all (λ r. has_ended (standing_of c r)) (state_at K v).regions
            (λ r child.
            ap has_ended (sym (still r (λ same. none (subst (Contains (state_at K v).regions) same child))))
            ∙ list_all_at (λ z. has_ended (standing_of d z)) (state_at K v).regions r
            (all_ended K looks l g d stands_gone.sound.core u v (w ∷ ws) is (turn K g.tree g.holder_there d u on).works) child))) stood

    leaves_gone : (u v : ℕ) (ss : List ℕ) → is_waiting K looks (standing_of d u) ≡ true → sees K looks d (standing_of d u) ≡ true → around K u ≡ v ∷ ss →
        priority q (join v) ≤ next
    leaves_gone u v ss waits_there up_there round =
        let ne : u ≢ t = λ same. ended_goes K looks (standing_of d u) (ap (standing_of d) same ∙ ended) waits_there in
        let same : standing_of d u ≡ standing_of c u = still u ne in
        leave_kept e p q low valid looks l g c m all cap next known ranks u v ss (ap (is_waiting K looks) (sym same) ∙ waits_there)
        (ap (sees K looks c) (sym same) ∙ (sees_same (standing_of d u) ∙ up_there)) round
      where
        sees_same : (x : Standing) → sees K looks c x ≡ sees K looks d x
        sees_same at.Outside = refl
        sees_same at.Ended = refl
        sees_same (at.Trying s ts) = refl
        sees_same (at.Entering s ts) = refl
        sees_same (at.Guarding s ts) = refl
        sees_same (at.Within s ts) = refl
        sees_same (at.Acting s es p) = refl

    pub low_gone : Low e p q low valid looks l g d n next
    low_gone = record { lines = lines_gone; joins = joins_gone; leaves = leaves_gone }
