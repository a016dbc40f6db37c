-- Behind a step of a region that does not wait, whoever has its turn or may leave is within the ranks there were before.
use Rattle.std.proofs.Common.{◌≡◌, ℕ, ◌≤◌, ◌⊎◌, inl, inr, ⊎_elim, Bool, true, false, Some, option_and_then, List, [], ◌∷◌, map, Contains}
use Rattle.std.proofs.Common.{refl, sym, ap, subst, ◌∙◌, arith}
use Rattle.std.specs.List.{list_all, list_any}
use Rattle.std.proofs.lemmas.Bool.{cases_Bool}
use Rattle.sc_values.specs.Runs.{replay}
use Rattle.sc_graph.specs.declared.control.Control.{Control}
use Rattle.sc_graph.specs.declared.tables.Tables.{Tables}
use Rattle.sc_graph.specs.Control.{status_of, IsEnabled}
use Rattle.sc_graph.specs.Machine as graph
use Rattle.sc_graph.specs.Program.{Program}
use Rattle.sc_graph.specs.Tables.{priority, priority_of}
use Rattle.sc_graph.specs.Threads.{Below}
use Rattle.sc_graph.specs.Valid.{IsValid}
use Rattle.tick_laws.proofs.Kin.{below_self}
use Rattle.tick_laws.proofs.Lists.{contains_head, list_all_at}
use Rattle.tick_laws.proofs.Views.{stands as stands_at, enabled_from}
use Rattle.scl_graph_laws.proofs.Searching.{unlike}
use Rattle.core_charts.specs.declared.features.Features.TheVariants as features
use Rattle.core_charts.specs.declared.region.Transition.{Transition}
use Rattle.core_charts.specs.Chart.{Chart}
use Rattle.core_charts.specs.Rules.{IsChart}
use Rattle.chart_machine.specs.declared.standing.Configuration.{Configuration}
use Rattle.chart_machine.specs.declared.standing.Standing.{Standing}
use Rattle.chart_machine.specs.declared.standing.Standing.TheVariants as at
use Rattle.chart_machine.specs.declared.table.Table.{Table}
use Rattle.chart_machine.specs.Machine.{machine}
use Rattle.chart_machine.specs.Steps.{step}
use Rattle.chart_machine.specs.Table.{table, state_at}
use Rattle.chart_machine.specs.Turns.{standing_of, has_ended, has_work, is_enabled, LiesIn, deeper}
use Rattle.chart_machine_laws.specs.Progress.{stepped as reached_on}
use Rattle.chart_machine_laws.specs.Tree.{IsThere, around, holder}
use Rattle.chart_machine_laws.proofs.ChartTables.{around_there}
use Rattle.chart_machine_laws.proofs.LyingIn.{none_in, head_in}
use Rattle.scl.specs.declared.program.Scl.{Scl}
use Rattle.scl.specs.Numbering.{numbered}
use Rattle.scl_graph.specs.Graph.{program_of}
use Rattle.chart_lowering_laws.specs.Laws.{IsLowering}
use Rattle.chart_lowering_laws.proofs.Finished.{each_all}
use Rattle.preemption_laws.specs.CappedRanks.{capped}
use Rattle.preemption_laws.proofs.ApartTogether.{turn, one_way, lies_or_not}
use Rattle.preemption_laws.proofs.CappedSteps.{is_idle}
use Rattle.preemption_laws.proofs.LinesAhead.{LowAhead, ahead_on, ahead_within, stepped_ahead}
use Rattle.preemption_laws.proofs.RunsComplete.{has_step}
use Rattle.preemption_laws.specs.Looks.{look, Looks}
use Rattle.preemption_laws.specs.Waiting.{holds, is_waiting, sees, may_step, wait_access}
use Rattle.preemption_laws.proofs.GraphMoves as moves
use Rattle.preemption_laws.proofs.Ground.{Ground, MayOn, apart_on}
use Rattle.preemption_laws.proofs.JoinLines.{low_behind_join, low_at_join}
use Rattle.preemption_laws.proofs.LeaveSteps.{Leaver, leaver, any_holds}
use Rattle.preemption_laws.proofs.LookNodes as nodes
use Rattle.preemption_laws.proofs.RaiseLow.{raise_low}
use Rattle.preemption_laws.proofs.SoundCores.{sound_still}
use Rattle.preemption_laws.proofs.StaysThere.{is_within, all_ended, stays_elsewhere}
use Rattle.preemption_laws.proofs.WaitLow.{Low, Stands, join_at, on_trying, on_still, on_ended, line_kept, join_kept, leave_kept}

-- a standing in a superstate, taken apart
pub record InSuperstate (x : Standing) : Type 0 where
  pub state : ℕ
  pub tests : List Transition
  pub is : x ≡ at.Within state tests

pub in_superstate : (x : Standing) → is_within x ≡ true → InSuperstate x
in_superstate (at.Within s ts) h = record { state = s; tests = ts; is = refl }
in_superstate at.Outside h = absurd cc
in_superstate at.Ended h = absurd cc
in_superstate (at.Trying s ts) h = absurd cc
in_superstate (at.Entering s ts) h = absurd cc
in_superstate (at.Guarding s ts) h = absurd cc
in_superstate (at.Acting s es p) h = absurd cc

-- who has its turn in a superstate has a test left
pub none_left : (k : Table) (c : Configuration) (u v : ℕ) → standing_of c u ≡ at.Within v [] → has_work k c (standing_of c u) ≡ true → ⊥
none_left k c u v is works = let wrong = sym (ap (has_work k c) is) ∙ works in absurd cc

module _ (e : Chart) (rules : IsChart features.Core e) (p : Scl) (q : Tables) (low : IsLowering e p) (valid : IsValid (program_of (numbered p)) q)
    (looks : ℕ → List Transition) (l : Looks (table e) looks) (g : Ground (table e)) where
  abbrev K : Table
  K = table e

  abbrev G : Program
  G = program_of (numbered p)

  abbrev join : ℕ → ℕ
  join v = join_at e p q low valid looks l g v

  -- ---- who stands before looks, in the graph

  module _ (c : Configuration) (m : Control) (all : Stands e p q low valid looks l g c m) (u v : ℕ) (ss : List ℕ) (round : around K u ≡ v ∷ ss)
      (s x : ℕ) (stands : standing_of c u ≡ at.Trying s (looks s)) (seen : Contains (l.seen s) x) where
    pub record BeforeLooks : Type 0 where
      pub on : is_enabled K c u ≡ true
      pub now_above : priority q (join v) ≤ priority_of q (status_of m u)
      pub enabled : IsEnabled G m u
      pub node : nodes.LookNode G q u x (join v)

    pub before_looks : BeforeLooks
    before_looks = by (l.seen s) refl
      where
        there : IsThere K u
        there =
            around_there K u v (subst (λ zs. Contains zs v) (sym round) (head_in v ss))

        by : (xs : List ℕ) → l.seen s ≡ xs → BeforeLooks
        by [] is = absurd (none_in x (subst (λ zs. Contains zs x) is seen))
        by (y ∷ ys) is =
            let before : standing_of c u ≡ at.Trying s (map (look (l.left s)) (y ∷ ys)) =
            stands ∙ ap (at.Trying s) (l.are_looks s ∙ ap (map (look (l.left s))) is) in
            let turn_now : is_enabled K c u ≡ true =
            on_trying K looks l g c all.sound.core u s (look (l.left s) y) (map (look (l.left s)) ys) before in
            let those = nodes.at_looks e p q low valid u v ss there round s (l.left s) (l.ends_there s x seen) c m all.alike all.nodes y ys before turn_now in
            let own = nodes.at_node e p q low valid u v ss there round s (l.left s) (l.ends_there s x seen) c m all.alike all.nodes y ys before turn_now in
            record {
              on = turn_now;
              now_above = those.now_above;
              enabled = enabled_from G m u (stands_at own.node own.at);
              node = those.each x (subst (λ zs. Contains zs x) is seen);
            }

  -- ---- a step

  module _ (c d : Configuration) (m : Control) (all : Stands e p q low valid looks l g c m) (cap next : ℕ)
      (known : Low e p q low valid looks l g c m cap)
      (ranks : (u : ℕ) → may_step K looks c u ≡ true → capped (is_idle (wait_access K looks c u)) cap (priority_of q (status_of m u)) ≤ next)
      (t : ℕ) (goes : is_waiting K looks (standing_of c t) ≡ false) (steps : step K t c ≡ Some d) where
    pub runs : replay (machine K) (t ∷ []) c ≡ Some d
    runs = ap (option_and_then (replay (machine K) [])) steps

    on_t : is_enabled K c t ≡ true
    on_t = (apart_on K g).turns c d t steps

    abbrev pub n : Control
    n = moves.there e p q low valid (t ∷ []) c d m all.alike runs

    abbrev along : List ℕ
    along = moves.along e p q low valid (t ∷ []) c d m all.alike runs

    leads : replay (graph.machine G) along m ≡ Some n
    leads = moves.leads e p q low valid (t ∷ []) c d m all.alike runs

    pub stands_next : Stands e p q low valid looks l g d n
    stands_next =
        record {
          sound = sound_still K looks l g c d t all.sound steps goes;
          reached = reached_on c d t all.reached steps;
          alike = moves.alike_there e p q low valid (t ∷ []) c d m all.alike runs;
          nodes = moves.nodes_there e p q low valid (t ∷ []) c d m all.alike runs;
          waits = moves.waits_there e p q low valid (t ∷ []) c d m all.alike runs;
        }

    line : (u : ℕ) → is_enabled K c u ≡ true → is_waiting K looks (standing_of c u) ≡ false → is_within (standing_of c u) ≡ false → LowAhead G q next u m
    line = line_kept e p q low valid looks l g c m all cap next known ranks

    -- what the region that steps comes to is within
    ahead : LowAhead G q next t n
    ahead = by (is_within (standing_of c t)) refl
      where
        through : (v : ℕ) (ts : List Transition) → standing_of c t ≡ at.Within v ts → LowAhead G q next t n
        through v [] is = absurd (none_left K c t v is (turn K g.tree g.holder_there c t on_t).works)
        through v (w ∷ ws) is =
            stepped_ahead G q next t m along n leads
            (moves.own_there e p q low valid (t ∷ []) c d m all.alike runs t (join v) (all.waits t v w ws is) (contains_head t []))
            (low_behind_join G q valid m all.alike.is_configuration t (join v) (all.waits t v w ws is) next
            (join_kept e p q low valid looks l g c m all cap next known ranks t v w ws on_t is))

        by : (b : Bool) → is_within (standing_of c t) ≡ b → LowAhead G q next t n
        by false out = ahead_on G q next t m along n leads (line t on_t goes out)
        by true inside = let x : InSuperstate (standing_of c t) = in_superstate (standing_of c t) inside in through x.state x.tests x.is

    below : (u : ℕ) → LiesIn K u t → LowAhead G q next u n
    below u lies = ahead_within G q next t u n (moves.below_lying e p q low valid g.tree.nested u t lies) ahead

    still : (u : ℕ) → ¬ LiesIn K u t → standing_of d u ≡ standing_of c u
    still u out = stays_elsewhere K looks l g c all.sound.core d t steps u out

    -- ---- lines

    lines_next : (u : ℕ) → is_enabled K d u ≡ true → is_waiting K looks (standing_of d u) ≡ false → is_within (standing_of d u) ≡ false →
        LowAhead G q next u n
    lines_next u on goes_on out =
        ⊎_elim (λ lies. below u lies)
        (λ apart.
        let same : standing_of d u ≡ standing_of c u = still u apart in
        ahead_on G q next u m along n leads
        (line u (on_still K looks l g c all.sound.core d u same out on) (ap (is_waiting K looks) (sym same) ∙ goes_on) (ap is_within (sym same) ∙ out)))
        (lies_or_not K g.tree g.holder_there u t)

    -- ---- joins

    -- whose join comes to have its turn above a line that is within
    by_line : (u v : ℕ) (w : Transition) (ws : List Transition) → is_enabled K d u ≡ true → standing_of d u ≡ at.Within v (w ∷ ws) → (b : ℕ) → Below G b u →
        LowAhead G q next b n → priority q (join v) ≤ next
    by_line u v w ws on is b under within =
        let one : (z : Configuration) × (step K u d ≡ Some z) = has_step features.Core e rules d stands_next.reached u on in
        let goes_there : replay (machine K) (u ∷ []) d ≡ Some one.0 = ap (option_and_then (replay (machine K) [])) one.1 in
        low_at_join G q valid n stands_next.alike.is_configuration u (join v) (stands_next.waits u v w ws is) next b under within
        (moves.along e p q low valid (u ∷ []) d one.0 n stands_next.alike goes_there)
        (moves.there e p q low valid (u ∷ []) d one.0 n stands_next.alike goes_there)
        (moves.leads e p q low valid (u ∷ []) d one.0 n stands_next.alike goes_there)
        (moves.own_there e p q low valid (u ∷ []) d one.0 n stands_next.alike goes_there u (join v) (stands_next.waits u v w ws is) (contains_head u []))

    -- a superstate that neither holds that region nor lies in it had its turn before
    had_turn : (u v : ℕ) (w : Transition) (ws : List Transition) → is_enabled K d u ≡ true → standing_of d u ≡ at.Within v (w ∷ ws) → ¬ LiesIn K u t →
        ¬ LiesIn K t u → is_enabled K c u ≡ true
    had_turn u v w ws on is out out_too = on_ended K looks l g c all.sound.core u v w ws (sym (still u out) ∙ is) ended
      where
        held_by : holder K v ≡ u
        held_by = (subst (MayOn K g u) is (stands_next.sound.core.sits.stands u)).1

        over : list_all (λ r. has_ended (standing_of d r)) (state_at K v).regions ≡ true
        over = all_ended K looks l g d stands_next.sound.core u v (w ∷ ws) is (turn K g.tree g.holder_there d u on).works

        region_out : (r : ℕ) → Contains (state_at K v).regions r → ¬ LiesIn K r t
        region_out r child lies =
            let inner : Contains (around K r) v = subst (λ zs. Contains zs v) (sym (g.tree.children v r child)) (head_in v (around K (holder K v))) in
            ⊎_elim (λ one. out one) (λ one. out_too one) (one_way K g.tree g.holder_there r u t (deeper v inner held_by) lies)

        ended : list_all (λ r. has_ended (standing_of c r)) (state_at K v).regions ≡ true
        ended =
            each_all (λ r. has_ended (standing_of c r)) (state_at K v).regions
            (λ r child.
            ap has_ended (sym (still r (region_out r child)))
            ∙ list_all_at (λ z. has_ended (standing_of d z)) (state_at K v).regions r over child)

    joins_next : (u v : ℕ) (ws : List Transition) → is_enabled K d u ≡ true → standing_of d u ≡ at.Within v ws → priority q (join v) ≤ next
    joins_next u v [] on is = absurd (none_left K d u v is (turn K g.tree g.holder_there d u on).works)
    joins_next u v (w ∷ ws) on is =
        ⊎_elim (λ lies. by_line u v w ws on is u (below_self G u) (below u lies))
        (λ out.
        ⊎_elim (λ outer. by_line u v w ws on is t (moves.below_lying e p q low valid g.tree.nested t u outer) ahead)
        (λ apart.
        join_kept e p q low valid looks l g c m all cap next known ranks u v w ws (had_turn u v w ws on is out apart) (sym (still u out) ∙ is))
        (lies_or_not K g.tree g.holder_there t u)) (lies_or_not K g.tree g.holder_there u t)

    -- ---- who may leave

    leaves_next : (u v : ℕ) (ss : List ℕ) → is_waiting K looks (standing_of d u) ≡ true → sees K looks d (standing_of d u) ≡ true → around K u ≡ v ∷ ss →
        priority q (join v) ≤ next
    leaves_next u v ss waits up round = ⊎_elim (λ lies. within lies) (λ out. elsewhere out) (lies_or_not K g.tree g.holder_there u t)
      where
        h : Leaver K looks l d u
        h = leaver K looks l g d u stands_next.sound waits up

        within : LiesIn K u t → priority q (join v) ≤ next
        within lies =
            let x = before_looks d n stands_next u v ss round h.state h.flag h.stands h.seen in
            let one : priority q (join v) ≤ priority_of q (status_of n u) = x.now_above in
            let two : priority_of q (status_of n u) ≤ next = below u lies [] n refl u (inl (below_self G u)) x.enabled in omega (one, two, arith)

        elsewhere : ¬ LiesIn K u t → priority q (join v) ≤ next
        elsewhere out = by (cases_Bool (sees K looks c (standing_of c u)))
          where
            same : standing_of d u ≡ standing_of c u
            same = still u out

            stood : standing_of c u ≡ at.Trying h.state (looks h.state)
            stood = sym same ∙ h.stands

            was_down : sees K looks c (standing_of c u) ≡ false → holds c (look (l.left h.state) h.flag) ≡ false
            was_down none =
                ⊎_elim
                (λ up_then.
                let any : list_any (holds c) (looks h.state) ≡ true =
                subst (λ ts. list_any (holds c) ts ≡ true) (sym (l.are_looks h.state))
                (any_holds c (l.left h.state) h.flag (l.seen h.state) h.seen up_then) in
                absurd (unlike (sees K looks c (standing_of c u)) (ap (sees K looks c) stood ∙ any) none)) (λ down. down)
                (cases_Bool (holds c (look (l.left h.state) h.flag)))

            by : (sees K looks c (standing_of c u) ≡ true) ⊎ (sees K looks c (standing_of c u) ≡ false) → priority q (join v) ≤ next
            by (inl up_then) =
                leave_kept e p q low valid looks l g c m all cap next known ranks u v ss (ap (is_waiting K looks) (sym same) ∙ waits) up_then round
            by (inr none) =
                raise_low e p q low valid looks l g c d m all t steps on_t next (λ free. line t on_t goes free) u v h.state h.flag (looks h.state) stood
                h.seen out (before_looks c m all u v ss round h.state h.flag stood h.seen).node (was_down none) h.raised

    pub low_next : Low e p q low valid looks l g d n next
    low_next = record { lines = lines_next; joins = joins_next; leaves = leaves_next }
