-- What is known of a configuration of the machine that waits and of a graph that stands alike: whose lines and joins are no higher than a number; and
-- what follows where no rank is greater than another number.
use Rattle.std.proofs.Common.{◌≡◌, ◌≢◌, ℕ, ◌≤◌, ⊎_elim, Bool, true, false, not, ◌||◌, min, List, [], ◌∷◌}
use Rattle.std.proofs.Common.{refl, sym, ap, subst, ◌∙◌, arith}
use Rattle.std.specs.List.{list_all}
use Rattle.std.proofs.lemmas.Bool.{cases_Bool}
use Rattle.sc_values.specs.Access.{no_access}
use Rattle.sc_graph.specs.declared.control.Control.{Control}
use Rattle.sc_graph.specs.declared.control.Status.TheVariants as status
use Rattle.sc_graph.specs.declared.tables.Tables.{Tables}
use Rattle.sc_graph.specs.Control.{status_of, IsEnabled}
use Rattle.sc_graph.specs.Program.{Program}
use Rattle.sc_graph.specs.Tables.{priority, priority_of}
use Rattle.sc_graph.specs.Valid.{IsValid}
use Rattle.tick_laws.proofs.Views.{stands, enabled_from}
use Rattle.core_charts.specs.declared.region.Transition.{Transition}
use Rattle.core_charts.specs.Chart.{Chart}
use Rattle.core_charts.specs.Tests.{is_join}
use Rattle.chart_machine.specs.declared.standing.Configuration.{Configuration}
use Rattle.chart_machine.specs.declared.standing.Standing.{Standing}
use Rattle.chart_machine.specs.declared.standing.Standing.TheVariants as at
use Rattle.chart_machine.specs.declared.table.Table.{Table}
use Rattle.chart_machine.specs.Steps.{access_of}
use Rattle.chart_machine.specs.Table.{table, state_at}
use Rattle.chart_machine.specs.Turns.{standing_of, has_ended, has_work, inside, is_enabled}
use Rattle.chart_machine_laws.specs.Progress.{IsReached}
use Rattle.chart_machine_laws.specs.Tree.{around}
use Rattle.scl.specs.declared.program.Scl.{Scl}
use Rattle.scl.specs.Numbering.{numbered}
use Rattle.scl_graph.specs.Graph.{program_of}
use Rattle.abort_expansion_laws.proofs.InsideAround.{inside_around}
use Rattle.chart_lowering_laws.specs.Laws.{IsLowering}
use Rattle.chart_lowering_laws.proofs.Finished.{each_all}
use Rattle.preemption_laws.specs.CappedRanks.{capped}
use Rattle.preemption_laws.specs.StepNodes.{AtOwnNode, AtTheirNodes, Alike}
use Rattle.preemption_laws.proofs.ApartTogether.{turn}
use Rattle.preemption_laws.proofs.CappedSteps.{is_idle, idle_is, busy_is}
use Rattle.preemption_laws.proofs.CaughtThreads.{WaitsAtJoins}
use Rattle.preemption_laws.proofs.LinesAhead.{LowAhead, ahead_less, ahead_both, enabled_ahead}
use Rattle.preemption_laws.specs.Looks.{Looks}
use Rattle.preemption_laws.specs.Waiting.{is_waiting, sees, may_step, wait_access}
use Rattle.preemption_laws.proofs.Forms.{InForm}
use Rattle.preemption_laws.proofs.Ground.{Ground}
use Rattle.preemption_laws.proofs.LookNodes.{join_of}
use Rattle.preemption_laws.proofs.SoundCores.{IsCore, IsSound, not_guarded}
use Rattle.preemption_laws.proofs.StaysThere.{is_within, none_going}
use Rattle.preemption_laws.proofs.StepsOfWaiting.{may_wait, may_go}

at_or_waiting : (n j : ℕ) → status.At n ≡ status.Waiting j → ⊥
at_or_waiting n j e = absurd cc

-- who has not begun, or has ended, has no work
idle_outside : (k : Table) (c : Configuration) (x : Standing) → (x ≢ at.Outside → x ≢ at.Ended → ⊥) → has_work k c x ≡ false
idle_outside k c at.Outside none = refl
idle_outside k c at.Ended none = refl
idle_outside k c (at.Trying s tests) none = absurd (none (λ e. absurd cc) (λ e. absurd cc))
idle_outside k c (at.Entering s tests) none = absurd (none (λ e. absurd cc) (λ e. absurd cc))
idle_outside k c (at.Guarding s tests) none = absurd (none (λ e. absurd cc) (λ e. absurd cc))
idle_outside k c (at.Within s tests) none = absurd (none (λ e. absurd cc) (λ e. absurd cc))
idle_outside k c (at.Acting s effects p) none = absurd (none (λ e. absurd cc) (λ e. absurd cc))

-- ---- of a core chart's table

module _ (k : Table) (looks : ℕ → List Transition) (l : Looks k looks) (g : Ground k) (c : Configuration) (sound : IsCore k looks l g c) where
  -- who tries or acts has its turn
  pub on_trying : (u s : ℕ) (w : Transition) (ws : List Transition) → standing_of c u ≡ at.Trying s (w ∷ ws) → is_enabled k c u ≡ true
  on_trying u s w ws is = let free = not_guarded k looks l g c sound.forms (around k u) in rw (is, free) refl

  -- who has its turn, and is in no superstate, has it where it stands so
  pub on_still : (d : Configuration) (u : ℕ) → standing_of d u ≡ standing_of c u → is_within (standing_of d u) ≡ false → is_enabled k d u ≡ true →
      is_enabled k c u ≡ true
  on_still d u same out on = by (standing_of d u) refl out (turn k g.tree g.holder_there d u on).works
    where
      by : (x : Standing) → standing_of d u ≡ x → is_within x ≡ false → has_work k d x ≡ true → is_enabled k c u ≡ true
      by at.Outside is free works = absurd cc
      by at.Ended is free works = absurd cc
      by (at.Trying s []) is free works = absurd cc
      by (at.Trying s (w ∷ ws)) is free works = on_trying u s w ws (sym same ∙ is)
      by (at.Within s ts) is free works = absurd cc
      by (at.Entering s ts) is free works = absurd (subst (InForm k looks l u) (sym same ∙ is) (sound.forms u))
      by (at.Guarding s ts) is free works = absurd (subst (InForm k looks l u) (sym same ∙ is) (sound.forms u))
      by (at.Acting s effects p) is free works =
          let none = not_guarded k looks l g c sound.forms (around k u) in let stands_so = sym same ∙ is in rw (stands_so, none) refl

  -- a superstate all of whose regions have ended has its turn, if it has a termination
  pub on_ended : (u v : ℕ) (w : Transition) (ws : List Transition) → standing_of c u ≡ at.Within v (w ∷ ws) →
      list_all (λ r. has_ended (standing_of c r)) (state_at k v).regions ≡ true → is_enabled k c u ≡ true
  on_ended u v w ws is ended =
      let free = not_guarded k looks l g c sound.forms (around k u) in
      let may : (not (is_join w.kind) || list_all (λ r. has_ended (standing_of c r)) (state_at k v).regions) ≡ true = either (is_join w.kind)
      (list_all (λ r. has_ended (standing_of c r)) (state_at k v).regions) ended in
      let idle : list_all (λ r. not (has_work k c (standing_of c r))) (inside k v) ≡ true = each_all (λ r. not (has_work k c (standing_of c r))) (inside k v)
      (λ r h. ap not (idle_outside k c (standing_of c r)
      (λ entered lasts. none_going k looks l g c sound v ended r (record { entered = entered; not_ended = lasts }) (inside_around k v r h)))) in
      rw (is, may, free, idle) refl
    where
      either : (j b : Bool) → b ≡ true → (not j || b) ≡ true
      either true b e = e
      either false b e = refl

-- ---- what is known

module _ (e : Chart) (p : Scl) (q : Tables) (low : IsLowering e p) (valid : IsValid (program_of (numbered p)) q) (looks : ℕ → List Transition)
    (l : Looks (table e) looks) (g : Ground (table e)) where
  abbrev K : Table
  K = table e

  abbrev G : Program
  G = program_of (numbered p)

  abbrev pub join_at : ℕ → ℕ
  join_at v = join_of e p q low valid v

  -- whoever has its turn is no higher than the cap on its line, or at its join; whoever may leave, at the join of the fork around it
  pub record Low (c : Configuration) (m : Control) (cap : ℕ) : Type 0 where
    pub lines : (u : ℕ) → is_enabled K c u ≡ true → is_waiting K looks (standing_of c u) ≡ false → is_within (standing_of c u) ≡ false →
        LowAhead G q cap u m
    pub joins : (u v : ℕ) (ws : List Transition) → is_enabled K c u ≡ true → standing_of c u ≡ at.Within v ws → priority q (join_at v) ≤ cap
    pub leaves : (u v : ℕ) (ss : List ℕ) → is_waiting K looks (standing_of c u) ≡ true → sees K looks c (standing_of c u) ≡ true →
        around K u ≡ v ∷ ss → priority q (join_at v) ≤ cap

  pub record Stands (c : Configuration) (m : Control) : Type 0 where
    pub sound : IsSound K looks l g c
    pub reached : IsReached K c
    pub alike : Alike e p c m
    pub nodes : AtTheirNodes e G c m
    pub waits : WaitsAtJoins e p low c m

  -- the thread of a region that reads or writes is enabled in the graph
  module _ (c : Configuration) (m : Control) (all : Stands c m) where
    pub at_node : (u : ℕ) → is_enabled K c u ≡ true → access_of (standing_of c u) ≢ no_access → IsEnabled G m u
    at_node u on some =
        let n : AtOwnNode G m u (access_of (standing_of c u)) = all.nodes u on some in enabled_from G m u (stands n.node n.at)

    -- who is in a superstate does nothing to the variables
    pub within_idle : (u v : ℕ) (w : Transition) (ws : List Transition) → is_enabled K c u ≡ true → standing_of c u ≡ at.Within v (w ∷ ws) →
        access_of (standing_of c u) ≡ no_access
    within_idle u v w ws on is =
        ⊎_elim (λ idle. idle_is (access_of (standing_of c u)) idle)
        (λ busy.
        let n : AtOwnNode G m u (access_of (standing_of c u)) = all.nodes u on (busy_is (access_of (standing_of c u)) busy) in
        absurd (at_or_waiting n.node (join_at v) (sym n.at ∙ all.waits u v w ws is))) (cases_Bool (is_idle (access_of (standing_of c u))))

    module _ (cap next : ℕ) (known : Low c m cap)
        (ranks : (u : ℕ) → may_step K looks c u ≡ true → capped (is_idle (wait_access K looks c u)) cap (priority_of q (status_of m u)) ≤ next) where
      access_goes : (u : ℕ) → is_waiting K looks (standing_of c u) ≡ false → wait_access K looks c u ≡ access_of (standing_of c u)
      access_goes u goes = rw (goes) refl

      access_waits : (u : ℕ) → is_waiting K looks (standing_of c u) ≡ true → wait_access K looks c u ≡ no_access
      access_waits u waits = rw (waits) refl

      cap_within : (u : ℕ) → may_step K looks c u ≡ true → wait_access K looks c u ≡ no_access → cap ≤ next
      cap_within u on none =
          let is : is_idle (wait_access K looks c u) ≡ true = ap is_idle none in
          subst (λ b. capped b cap (priority_of q (status_of m u)) ≤ next) is (ranks u on)

      -- the line of who has its turn stays within the ranks
      pub line_kept : (u : ℕ) → is_enabled K c u ≡ true → is_waiting K looks (standing_of c u) ≡ false → is_within (standing_of c u) ≡ false →
          LowAhead G q next u m
      line_kept u on goes out =
          by (is_idle (access_of (standing_of c u))) refl
          (subst (λ a. capped (is_idle a) cap (priority_of q (status_of m u)) ≤ next) (access_goes u goes) (ranks u (may_go K looks c u goes on)))
        where
          by : (b : Bool) → is_idle (access_of (standing_of c u)) ≡ b → capped b cap (priority_of q (status_of m u)) ≤ next → LowAhead G q next u m
          by true idle le = ahead_less G q cap next u m le (known.lines u on goes out)
          by false busy le =
              ahead_less G q (min (priority_of q (status_of m u)) cap) next u m le
              (ahead_both G q (priority_of q (status_of m u)) cap u m
              (enabled_ahead G q valid m all.alike.is_configuration u (at_node u on (busy_is (access_of (standing_of c u)) busy)))
              (known.lines u on goes out))

      -- so does a join
      pub join_kept : (u v : ℕ) (w : Transition) (ws : List Transition) → is_enabled K c u ≡ true → standing_of c u ≡ at.Within v (w ∷ ws) →
          priority q (join_at v) ≤ next
      join_kept u v w ws on is =
          let goes : is_waiting K looks (standing_of c u) ≡ false = ap (is_waiting K looks) is in
          let one : priority q (join_at v) ≤ cap = known.joins u v (w ∷ ws) on is in
          let two : cap ≤ next = cap_within u (may_go K looks c u goes on) (access_goes u goes ∙ within_idle u v w ws on is) in
          omega (one, two, arith)

      -- and that around who may leave
      pub leave_kept : (u v : ℕ) (ss : List ℕ) → is_waiting K looks (standing_of c u) ≡ true → sees K looks c (standing_of c u) ≡ true →
          around K u ≡ v ∷ ss → priority q (join_at v) ≤ next
      leave_kept u v ss waits up round =
          let one : priority q (join_at v) ≤ cap = known.leaves u v ss waits up round in
          let two : cap ≤ next = cap_within u (may_wait K looks c u waits up) (access_waits u waits) in omega (one, two, arith)
