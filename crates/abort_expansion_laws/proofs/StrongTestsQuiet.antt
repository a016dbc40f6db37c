-- What validity of the core chart's program gives: no strong test of a monitor reads what a step inside then writes. It is
-- taken from the lowering of the core chart.
use Rattle.std.proofs.Common.{◌≡◌, ◌≢◌, ℕ, suc, ◌<◌, ◌≤◌, ◌⊎◌, inl, inr, ⊎_elim, true, Option, Some, None, List, [], ◌∷◌, Contains, refl, sym, ap, subst, ◌∙◌}
use Rattle.std.proofs.Common.{arith}
use Rattle.std.specs.Prelude.{option_and_then, option_map, unwrap_or}
use Rattle.std.proofs.lemmas.Option.{same_Some}
use Rattle.sc_values.specs.Access.{Access, Nothing, no_access, Precedes, init_update, init_read, update_read}
use Rattle.sc_values.specs.Runs.{replay}
use Rattle.sc_values.specs.declared.operation.Operation.{Operation}
use Rattle.sc_graph.specs.declared.tables.Tables.{Tables}
use Rattle.sc_graph.specs.declared.control.Control.{Control}
use Rattle.sc_graph.specs.declared.control.Status.{Status}
use Rattle.sc_graph.specs.declared.control.Status.TheVariants as status
use Rattle.sc_graph.specs.declared.program.Step.TheVariants as steps
use Rattle.sc_graph.specs.Program.{Program, parent_of, owner_of, step_at}
use Rattle.sc_graph.specs.Threads.{Below}
use Rattle.sc_graph.specs.Accesses.{accesses, access_of as access_of_node}
use Rattle.sc_graph.specs.Control.{status_of}
use Rattle.sc_graph.specs.Steps.{Effect, after, effect}
use Rattle.sc_graph.specs.Steps as of_nodes
use Rattle.sc_graph.specs.Machine as programs
use Rattle.sc_graph.specs.Tick.{IsConfiguration}
use Rattle.sc_graph.specs.Protocol.{Instant, by_successor, by_entry, by_exit, successors}
use Rattle.sc_graph.specs.Tables.{priority, priority_of}
use Rattle.sc_graph.specs.Valid.{IsFormed, IsValid}
use Rattle.tick_laws.proofs.Lists.{map_some, contains_head}
use Rattle.tick_laws.proofs.Formed.{valid_formed}
use Rattle.tick_laws.proofs.RulesGive.{flow}
use Rattle.tick_laws.proofs.Views.{stands, does}
use Rattle.tick_laws.proofs.StepMoves.{StepMoves, step_moves}
use Rattle.tick_laws.proofs.ConfigurationKept.{after_other, configuration_kept}
use Rattle.tick_laws.proofs.Falling.{StandsAt}
use Rattle.tick_laws.proofs.Kin.{below_parent, below_self}
use Rattle.core_charts.specs.declared.region.Transition.{Transition}
use Rattle.chart_machine.specs.declared.standing.Standing.TheVariants as at
use Rattle.chart_machine.specs.declared.standing.Configuration.{Configuration}
use Rattle.chart_machine.specs.declared.table.Table.{Table}
use Rattle.chart_machine.specs.Turns.{LiesIn, itself, deeper, ForkedApart, standing_of, is_enabled}
use Rattle.chart_machine.specs.Steps.{step, access_of}
use Rattle.chart_lowering_laws.specs.Stands.{Followed, AtNode, Lowered}
use Rattle.chart_machine_laws.proofs.LyingIn.{IsNested, LiesUnder, around, holder, none_in, head_or_tail, head_in, outwards}
use Rattle.abort_expansion_laws.proofs.TablesCorrespond.{IsThere}
use Rattle.abort_expansion_laws.specs.CoreRows.{Images, CoreRows}
use Rattle.abort_expansion_laws.proofs.MonitorsApart.{ChildUnder, region_in, differs, monitor_apart}
use Rattle.abort_expansion_laws.proofs.LowPriorities.{Under, LowUnder, low_under_kept, never_before}
use Rattle.abort_expansion_laws.proofs.ThreadsAround.{thread_within}

pub precedes_writes : (b a : Access) → Precedes b a → b.writes ≢ Nothing
precedes_writes b a (init_update x f i u) e = let w = i.1 in absurd cc
precedes_writes b a (init_read x i r) e = let w = i.1 in absurd cc
precedes_writes b a (update_read x f u r) e = absurd cc

-- ---- who waits is moved by nobody else

waits_still : (p : Program) → IsFormed p → (m : Control) → IsConfiguration p m → (u : ℕ) (e : Effect) → effect p m u ≡ Some e → (r j : ℕ) → r ≢ u →
    status_of m r ≡ status.Waiting j →
    status_of (after e m) r ≡ status.Waiting j
waits_still p formed m ok u e h r j ne waits =
    let moves : StepMoves p m u e = step_moves p formed m ok u e (does p m u e h) in
    after_other p formed m u e moves r ne (λ child. moves.was_idle r j child waits) ∙ waits

-- this node is below a priority, or it leads on to such by tests, at most so many, and from where a thread resumes: so it writes nothing
pub data SoonLow (p : Program) (q : Tables) (top : ℕ) : (many n : ℕ) → Type 0 where
  soon_low : (many n : ℕ) → priority q n < top → SoonLow p q top many n
  soon_resumed : (many n m : ℕ) → step_at p n ≡ Some (steps.Depth m) → SoonLow p q top many m → SoonLow p q top many n
  soon_tested : (many n on_true on_false : ℕ) (code : List Operation) → step_at p n ≡ Some (steps.Cond code on_true on_false) → SoonLow p q top many on_true →
      SoonLow p q top many on_false → SoonLow p q top (suc many) n

-- who stands there is excused
abbrev pub Excused : Program → Tables → (top many : ℕ) → Status → Type 0
Excused p q top many s = (n : ℕ) × StandsAt s n × SoonLow p q top many n

stands_once : (s : Status) (a b : ℕ) → StandsAt s a → StandsAt s b → a ≡ b
stands_once status.Absent a b x y = absurd x
stands_once (status.At n) a b x y = sym x ∙ y
stands_once (status.Waiting j) a b x y = sym x ∙ y
stands_once (status.Paused d) a b x y = absurd x
stands_once status.Ended a b x y = absurd x

pub soon_more : (p : Program) (q : Tables) (top many n : ℕ) → SoonLow p q top many n → SoonLow p q top (suc many) n
soon_more p q top _ _ (soon_low many n lt) = soon_low (suc many) n lt
soon_more p q top _ _ (soon_resumed many n m found soon) = soon_resumed (suc many) n m found (soon_more p q top many m soon)
soon_more p q top _ _ (soon_tested many n on_true on_false code found first second) =
    soon_tested (suc many) n on_true on_false code found (soon_more p q top many on_true first) (soon_more p q top many on_false second)

module _ (p : Program) (q : Tables) (valid : IsValid p q) where
  formed : IsFormed p
  formed = valid_formed p q valid

  -- what it leads to is such a node too
  pub soon_goes : (top many m n : ℕ) → SoonLow p q top many m → Instant p m n → SoonLow p q top many n
  soon_goes top _ _ n (soon_low many m lt) edge = let falls = (flow p q valid).falls m n edge in soon_low many n (omega (falls, lt, arith))
  soon_goes top _ _ n (soon_resumed many m to found soon) (by_successor taken is succ) =
      let same : taken ≡ steps.Depth to = same_Some taken (steps.Depth to) (sym is ∙ found) in
      ⊎_elim (λ e. subst (SoonLow p q top many) e soon) (λ none. absurd (none_in n none))
      (head_or_tail to n [] (subst (λ z. Contains (successors z) n) same succ))
  soon_goes top _ _ n (soon_resumed many m to found soon) (by_entry t children j k fork child entry) =
      let wrong : Some (steps.Fork children j) ≡ Some (steps.Depth to) = sym fork.forks ∙ found in absurd cc
  soon_goes top _ _ n (soon_resumed many m to found soon) (by_exit f t children k fork child owned exits) =
      let wrong : Some steps.Exit ≡ Some (steps.Depth to) = sym exits ∙ found in absurd cc
  soon_goes top _ _ n (soon_tested many m on_true on_false code found first second) (by_successor taken is succ) =
      let same : taken ≡ steps.Cond code on_true on_false = same_Some taken (steps.Cond code on_true on_false) (sym is ∙ found) in
      ⊎_elim (λ e. subst (SoonLow p q top (suc many)) e (soon_more p q top many on_true first))
      (λ tail.
      ⊎_elim (λ e. subst (SoonLow p q top (suc many)) e (soon_more p q top many on_false second)) (λ none. absurd (none_in n none))
      (head_or_tail on_false n [] tail))
      (head_or_tail on_true n (on_false ∷ []) (subst (λ z. Contains (successors z) n) same succ))
  soon_goes top _ _ n (soon_tested many m on_true on_false code found first second) (by_entry t children j k fork child entry) =
      let wrong : Some (steps.Fork children j) ≡ Some (steps.Cond code on_true on_false) = sym fork.forks ∙ found in absurd cc
  soon_goes top _ _ n (soon_tested many m on_true on_false code found first second) (by_exit f t children k fork child owned exits) =
      let wrong : Some steps.Exit ≡ Some (steps.Cond code on_true on_false) = sym exits ∙ found in absurd cc

  -- if it writes, it is below the priority itself
  pub soon_writes : (top many n : ℕ) → SoonLow p q top many n → (accesses p n).writes ≢ Nothing → priority q n < top
  soon_writes top _ _ (soon_low many n lt) writes = lt
  soon_writes top _ _ (soon_resumed many n m found soon) writes =
      absurd (writes (ap (λ o. (unwrap_or (option_map access_of_node o) no_access).writes) found))
  soon_writes top _ _ (soon_tested many n on_true on_false code found first second) writes =
      absurd (writes (ap (λ o. (unwrap_or (option_map access_of_node o) no_access).writes) found))

  -- along a run in which r takes no step
  pub record StillLow (Child : ℕ → Type 0) (r j top many : ℕ) (m : Control) : Type 0 where
    pub ok : IsConfiguration p m
    pub waits : status_of m r ≡ status.Waiting j
    pub low : LowUnder p q (Under p Child) (Excused p q top many) top m

  one_step : (Child : ℕ → Type 0) (r j top many : ℕ) → ((k : ℕ) → Child k → parent_of p k ≡ Some r) → (m next : Control) (u : ℕ) → u ≢ r →
      of_nodes.step p u m ≡ Some next →
      StillLow Child r j top many m → StillLow Child r j top many next
  one_step Child r j top many of_r m next u ne h low =
      let e = map_some (λ z. after z m) (effect p m u) next h in
      subst (StillLow Child r j top many) e.2
      (record {
        ok = configuration_kept p formed m u e.0 low.ok e.1;
        waits = waits_still p formed m low.ok u e.0 e.1 r j (λ z. ne (sym z)) low.waits;
        low = low_under_kept p q valid Child (Excused p q top many) r of_r m low.ok u e.0 e.1 ne top
            (λ a b x here edge.
            inr (λ s stands_there. (
              b,
              stands_there,
              soon_goes top many a b (subst (SoonLow p q top many) (stands_once (status_of m u) x.0 a x.1 here) x.2) edge,
            ))) low.low;
      })

  pub along : (Child : ℕ → Type 0) (r j top many : ℕ) → ((k : ℕ) → Child k → parent_of p k ≡ Some r) → (run : List ℕ) (m last : Control) →
      ((u : ℕ) → Contains run u → u ≢ r) →
      replay (programs.machine p) run m ≡ Some last → StillLow Child r j top many m → StillLow Child r j top many last
  along Child r j top many of_r [] m last others leads low = subst (StillLow Child r j top many) (same_Some m last leads) low
  along Child r j top many of_r (u ∷ run) m last others leads low = by_step (of_nodes.step p u m) refl leads
      (λ next h rest. along Child r j top many of_r run next last (λ v h. others v (later u v run h)) rest
      (one_step Child r j top many of_r m next u (others u (head_in u run)) h low))
    where
      later : (a b : ℕ) (zs : List ℕ) → Contains zs b → Contains (a ∷ zs) b
      later a b zs h = let lt = h.1 in (suc h.0, omega (lt, arith), h.2)

      by_step : (o : Option Control) → of_nodes.step p u m ≡ o → option_and_then (replay (programs.machine p) run) o ≡ Some last →
          ((next : Control) → of_nodes.step p u m ≡ Some next → replay (programs.machine p) run next ≡ Some last → StillLow Child r j top many last) →
          StillLow Child r j top many last
      by_step None is rest goes = absurd cc
      by_step (Some next) is rest goes = goes next is rest

-- ---- a strong test that was made, by the monitor of a superstate that a region holds

module _ (k core : Table) (i : Images) (rows : CoreRows k core i) (tree : IsNested core) (p : Program) (q : Tables) (valid : IsValid p q)
    (Stands : Configuration → Control → Type 0) (lowered : Lowered core p Stands) where
  -- the regions of the superstate besides its monitor g, and others that the region holds: these are not there
  abbrev pub Inner : (thread g : ℕ) → ℕ → Type 0
  Inner thread g u = (parent_of p u ≡ Some thread) × (u ≢ g)

  -- a test with this access was made at node `tested`, which leads to `raising`; since then all that is inside stands lower
  pub record IsQuiet (r : ℕ) (a : Access) (d : Configuration) : Type 0 where
    pub there : IsThere k r
    pub superstate : ℕ
    pub monitor : ℕ
    pub tested : ℕ
    pub raising : ℕ
    pub around_monitor : around core monitor ≡ i.main_of superstate ∷ around core (i.thread_of r)
    pub monitor_there : IsThere core monitor
    pub no_thread : (u : ℕ) → i.thread_of u ≢ monitor
    pub held : holder k superstate ≡ r
    pub owned : owner_of p tested ≡ Some monitor
    pub does : accesses p tested ≡ a
    pub leads : Instant p tested raising
    pub control : Control
    pub stands : Stands d control
    pub waits : status_of control (i.thread_of r) ≡ status.Waiting (lowered.join_of (i.main_of superstate))
    pub many : ℕ
    pub low : LowUnder p q (Under p (Inner (i.thread_of r) monitor)) (Excused p q (priority q raising) many) (priority q raising) control

  pub quiet_kept : (r : ℕ) (a : Access) (d next : Configuration) (t : ℕ) → IsQuiet r a d → step core t d ≡ Some next → t ≢ i.thread_of r → IsQuiet r a next
  quiet_kept r a d next t quiet steps ne =
      record {
        there = quiet.there;
        superstate = quiet.superstate;
        monitor = quiet.monitor;
        tested = quiet.tested;
        raising = quiet.raising;
        around_monitor = quiet.around_monitor;
        monitor_there = quiet.monitor_there;
        no_thread = quiet.no_thread;
        held = quiet.held;
        owned = quiet.owned;
        does = quiet.does;
        leads = quiet.leads;
        control = f.last;
        stands = f.stands;
        waits = still.waits;
        many = quiet.many;
        low = still.low;
      }
    where
      f : Followed core p Stands next quiet.control t
      f = lowered.follow d next quiet.control t quiet.stands steps

      nobody : (u : ℕ) → Contains f.run u → u ≢ i.thread_of r
      nobody u h e =
          ⊎_elim (λ is. ne (sym is ∙ e)) (λ awake. awake (lowered.join_of (i.main_of quiet.superstate)) (ap (status_of quiet.control) e ∙ quiet.waits))
          (f.by u h)

      still : StillLow p q valid (Inner (i.thread_of r) quiet.monitor) (i.thread_of r) (lowered.join_of (i.main_of quiet.superstate))
          (priority q quiet.raising) quiet.many f.last
      still =
          along p q valid (Inner (i.thread_of r) quiet.monitor) (i.thread_of r) (lowered.join_of (i.main_of quiet.superstate)) (priority q quiet.raising)
          quiet.many (λ u child. child.0) f.run quiet.control f.last nobody f.leads
          (record { ok = lowered.configuration d quiet.control quiet.stands; waits = quiet.waits; low = quiet.low })

  -- ---- the tree of threads

  below_of : (ss : List ℕ) (t u : ℕ) → around core t ≡ ss → LiesIn core t u → Below p t u
  below_of [] t u e (itself same) = subst (Below p t) same (below_self p t)
  below_of [] t u e (deeper s inner held) = absurd (none_in s (subst (λ zs. Contains zs s) e inner))
  below_of (s ∷ ss) t u e lies =
      ⊎_elim (λ same. subst (Below p t) same (below_self p t))
      (λ up. below_parent p t (holder core s) u (lowered.parent t s ss e) (below_of ss (holder core s) u (sym (tree.upward t s ss e)) up))
      (outwards core tree t u s ss e lies)

  -- what is told of a step that stands for one of a region: its turn has come, and where who holds a superstate around it
  -- stands in one, it is that
  pub record ToldOf (d : Configuration) (u : ℕ) : Type 0 where
    pub enabled : is_enabled core d (i.thread_of u) ≡ true
    pub enclosed : (s f : ℕ) (tests : List Transition) → Contains (around core (i.thread_of u)) s → standing_of d (holder core s) ≡ at.Within f tests → f ≡ s

  pub spares : (r : ℕ) (a : Access) (d : Configuration) (u : ℕ) (b : Access) → IsQuiet r a d → LiesUnder k u r → ToldOf d u →
      b ≡ access_of (standing_of d (i.thread_of u)) → ¬ Precedes b a
  spares r a d u b quiet (inr root) told acts first = let lt = quiet.there.0 in absurd (omega (root, lt, arith))
  spares r a d u b quiet (inl (s, around_it, held)) told acts first =
      never_before p q valid quiet.tested quiet.raising n.node quiet.leads lower
      (record {
        first = t;
        second = quiet.monitor;
        first_owner = n.owned;
        second_owner = quiet.owned;
        concurrent =
            record {
              forking = h;
              apart = lowered.apart t quiet.monitor h
                  (subst (λ w. ForkedApart core (i.thread_of u) quiet.monitor (i.thread_of w)) quiet.held
                  (monitor_apart k core i rows tree quiet.superstate quiet.monitor monitor_around quiet.no_thread u in_f));
            };
      })
      (subst (λ z. Precedes z (accesses p quiet.tested)) (acts ∙ sym n.does) (subst (Precedes b) (sym quiet.does) first))
    where
      t : ℕ
      t = i.thread_of u

      h : ℕ
      h = i.thread_of r

      inner : Contains (around core (i.thread_of u)) (i.main_of s)
      inner = thread_within k core i rows u s around_it

      -- the superstate of r around it is the one in which r stands
      is_f : i.main_of s ≡ i.main_of quiet.superstate
      is_f =
          let waiting = lowered.waits_back d quiet.control (i.thread_of r) (i.main_of quiet.superstate) quiet.stands quiet.waits in
          sym (told.enclosed (i.main_of s) (i.main_of quiet.superstate) waiting.0 inner
          (ap (standing_of d) (rows.held s ∙ ap i.thread_of held) ∙ waiting.1))

      in_f : Contains (around core (i.thread_of u)) (i.main_of quiet.superstate)
      in_f = subst (Contains (around core (i.thread_of u))) is_f inner

      monitor_around : around core quiet.monitor ≡ i.main_of quiet.superstate ∷ around core (i.thread_of (holder k quiet.superstate))
      monitor_around = quiet.around_monitor ∙ ap (λ w. i.main_of quiet.superstate ∷ around core (i.thread_of w)) (sym quiet.held)

      c : ChildUnder core tree (i.thread_of u) (i.main_of quiet.superstate)
      c = region_in k core i rows tree quiet.superstate quiet.monitor monitor_around quiet.no_thread u in_f

      f_held : holder core (i.main_of quiet.superstate) ≡ i.thread_of r
      f_held = rows.held quiet.superstate ∙ ap i.thread_of quiet.held

      c_around : around core c.child ≡ i.main_of quiet.superstate ∷ around core (i.thread_of r)
      c_around = c.around_child ∙ ap (λ z. i.main_of quiet.superstate ∷ around core z) f_held

      own_side : c.child ≢ quiet.monitor
      own_side = differs k core i rows tree quiet.superstate quiet.monitor monitor_around quiet.no_thread u in_f

      writes : (access_of (standing_of d (i.thread_of u))).writes ≢ Nothing
      writes = subst (λ z. z.writes ≢ Nothing) acts (precedes_writes b a first)

      n : AtNode p quiet.control (i.thread_of u) (access_of (standing_of d (i.thread_of u)))
      n = lowered.node d quiet.control (i.thread_of u) quiet.stands told.enabled writes

      under : Under p (Inner (i.thread_of r) quiet.monitor) (i.thread_of u)
      under = (
        c.child,
        (lowered.parent c.child (i.main_of quiet.superstate) (around core (i.thread_of r)) c_around ∙ ap Some f_held, own_side),
        below_of (around core (i.thread_of u)) (i.thread_of u) c.child refl c.lies,
      )

      node_writes : (accesses p n.node).writes ≢ Nothing
      node_writes = subst (λ z. z.writes ≢ Nothing) (sym n.does) writes

      Low : Status → Type 0
      Low s = (priority_of q s < priority q quiet.raising) ⊎ Excused p q (priority q quiet.raising) quiet.many s

      at_own : status_of quiet.control (i.thread_of u) ≡ status.At n.node → priority q n.node < priority q quiet.raising
      at_own e = by_low (subst Low e (quiet.low (i.thread_of u) under (stands n.node e)))
        where
          by_low : Low (status.At n.node) → priority q n.node < priority q quiet.raising
          by_low (inl lt) = lt
          by_low (inr x) =
              soon_writes p q valid (priority q quiet.raising) quiet.many n.node (subst (SoonLow p q (priority q quiet.raising) quiet.many) (sym x.1) x.2)
              node_writes

      at_depth : (depth : ℕ) → status_of quiet.control (i.thread_of u) ≡ status.At depth → step_at p depth ≡ Some (steps.Depth n.node) →
          priority q n.node < priority q quiet.raising
      at_depth depth e is = by_low (subst Low e (quiet.low (i.thread_of u) under (stands depth e)))
        where
          edge : Instant p depth n.node
          edge = by_successor (steps.Depth n.node) is (contains_head n.node [])

          by_low : Low (status.At depth) → priority q n.node < priority q quiet.raising
          by_low (inl lt) = let falls : priority q n.node ≤ priority q depth = (flow p q valid).falls depth n.node edge in omega (lt, falls, arith)
          by_low (inr x) =
              soon_writes p q valid (priority q quiet.raising) quiet.many n.node
              (soon_goes p q valid (priority q quiet.raising) quiet.many depth n.node
              (subst (SoonLow p q (priority q quiet.raising) quiet.many) (sym x.1) x.2) edge) node_writes

      lower : priority q n.node < priority q quiet.raising
      lower = ⊎_elim at_own (λ x. at_depth x.0 x.1 x.2) n.at
