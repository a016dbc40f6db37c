-- The steps of the machine that waits have ranks, from where a graph stands alike: the priorities of its threads, capped.
use Rattle.std.proofs.Common.{◌≡◌, ◌≢◌, ℕ, ◌<◌, ◌≤◌, inl, ⊎_elim, Bool, true, false, Option, Some, None, List, [], ◌∷◌, length, slice_get, unwrap_or}
use Rattle.std.proofs.Common.{refl, sym, ap, subst, ◌∙◌, arith}
use Rattle.std.proofs.lemmas.Bool.{cases_Bool}
use Rattle.std.proofs.lemmas.Option.{same_Some, slice_get_within}
use Rattle.sc_values.specs.Access.{Nothing, no_access, MayPrecede}
use Rattle.sc_values.specs.Runs.{Machine, replay}
use Rattle.sc_graph.specs.declared.control.Control.{Control}
use Rattle.sc_graph.specs.declared.tables.Tables.{Tables}
use Rattle.sc_graph.specs.Control.{status_of}
use Rattle.sc_graph.specs.Program.{Program}
use Rattle.sc_graph.specs.Tables.{priority_of}
use Rattle.sc_graph.specs.Tick.{Inputs}
use Rattle.sc_graph.specs.Valid.{IsValid}
use Rattle.tick_laws.proofs.Kin.{below_self}
use Rattle.core_charts.specs.declared.features.Features.TheVariants as features
use Rattle.core_charts.specs.declared.region.Transition.{Transition}
use Rattle.core_charts.specs.Chart.{Chart}
use Rattle.core_charts.specs.Rules.{IsChart}
use Rattle.chart_machine.specs.declared.standing.Configuration.{Configuration}
use Rattle.chart_machine.specs.declared.standing.Standing.{Standing}
use Rattle.chart_machine.specs.declared.standing.Standing.TheVariants as at
use Rattle.chart_machine.specs.declared.table.Table.{Table}
use Rattle.chart_machine.specs.Steps.{access_of}
use Rattle.chart_machine.specs.Table.{table}
use Rattle.chart_machine.specs.Turns.{standing_of, is_enabled, ForkedApart}
use Rattle.scl.specs.declared.program.Scl.{Scl}
use Rattle.scl.specs.Numbering.{numbered}
use Rattle.scl_graph.specs.Graph.{program_of}
use Rattle.abort_expansion_laws.specs.Ticks.{Reactive, Reaction}
use Rattle.chart_lowering_laws.specs.Laws.{IsLowering}
use Rattle.preemption_laws.specs.Bounded.{last_of}
use Rattle.preemption_laws.specs.CappedRanks.{capped, HasCappedRanks}
use Rattle.preemption_laws.specs.ChartRanks.{HasRanks}
use Rattle.preemption_laws.specs.OneEnd.{RankedSteps}
use Rattle.preemption_laws.proofs.ApartTogether.{turn}
use Rattle.preemption_laws.proofs.ByRank.{Begins, begins}
use Rattle.preemption_laws.proofs.CappedRanks.{idle_first, capped_are_ranks, capped_within}
use Rattle.preemption_laws.proofs.CappedSteps.{is_idle, idle_is}
use Rattle.preemption_laws.proofs.RunsComplete.{enabled_there}
use Rattle.preemption_laws.proofs.StepNodes.{priorities_order_steps, does_some}
use Rattle.preemption_laws.specs.Looks.{Looks}
use Rattle.preemption_laws.specs.Waiting.{is_waiting, sees, may_step, wait_step, wait_access, waiting_machine}
use Rattle.preemption_laws.proofs.Ground.{Ground}
use Rattle.preemption_laws.proofs.StaysThere.{is_within}
use Rattle.preemption_laws.proofs.StepsOfWaiting.{may_by, step_by, turn_of}
use Rattle.preemption_laws.proofs.WaitLeaveLow as leave
use Rattle.preemption_laws.proofs.WaitLow.{Low, Stands, at_node, within_idle}
use Rattle.preemption_laws.proofs.WaitStepLow as go
use Rattle.preemption_laws.proofs.WaitStepLow.{InSuperstate, in_superstate, none_left}

-- ranks of the steps of a machine, and what is known of this configuration
pub record RanksFrom (m : Machine) (c : m.Configuration) : Type 1 where
  pub ranked : RankedSteps m
  pub known : ranked.Known
  pub holds : ranked.Holds c known

-- who waits is there
waits_in_place : (k : Table) (looks : ℕ → List Transition) (c : Configuration) (u : ℕ) → is_waiting k looks (standing_of c u) ≡ true → u < length c.regions
waits_in_place k looks c u waits = by (slice_get c.regions u) refl
  where
    by : (o : Option Standing) → slice_get c.regions u ≡ o → u < length c.regions
    by (Some x) is = slice_get_within c.regions u x is
    by None is =
        let wrong : false ≡ true = sym (ap (λ o. is_waiting k looks (unwrap_or o at.Outside)) is) ∙ waits in absurd cc

module _ (e : Chart) (rules : IsChart features.Core e) (p : Scl) (q : Tables) (low : IsLowering e p) (valid : IsValid (program_of (numbered p)) q)
    (looks : ℕ → List Transition) (l : Looks (table e) looks) (g : Ground (table e)) where
  abbrev K : Table
  K = table e

  abbrev G : Program
  G = program_of (numbered p)

  abbrev M : Machine
  M = waiting_machine K looks

  -- where the machine is, and the graph
  pub record KnownAt : Type 0 where
    pub now : Configuration
    pub control : Control

  pub record HoldsAt (x : Configuration) (k : KnownAt) (cap : ℕ) : Type 0 where
    pub same : x ≡ k.now
    pub stands : Stands e p q low valid looks l g k.now k.control
    pub known : Low e p q low valid looks l g k.now k.control cap

  abbrev priority_at : KnownAt → ℕ → ℕ
  priority_at k u = priority_of q (status_of k.control u)

  abbrev free_at : KnownAt → ℕ → Bool
  free_at k u = is_idle (wait_access K looks k.now u)

  -- ---- steps

  step_at : (d : Configuration) (k : KnownAt) (cap next t : ℕ) → Stands e p q low valid looks l g k.now k.control →
      Low e p q low valid looks l g k.now k.control cap → wait_step K looks t k.now ≡ Some d →
      ((u : ℕ) → may_step K looks k.now u ≡ true → capped (free_at k u) cap (priority_at k u) ≤ next) → (x : KnownAt) × HoldsAt d x next
  step_at d k cap next t stands known steps ranks =
      ⊎_elim
      (λ waits. (
        record { now = d; control = leave.n e rules p q low valid looks l g k.now k.control stands cap next known ranks t waits.0 waits.1 },
        record {
          same = refl;
          stands =
              subst
              (λ z. Stands e p q low valid looks l g z
              (leave.n e rules p q low valid looks l g k.now k.control stands cap next known ranks t waits.0 waits.1)) waits.2
              (leave.stands_gone e rules p q low valid looks l g k.now k.control stands cap next known ranks t waits.0 waits.1);
          known =
              subst
              (λ z. Low e p q low valid looks l g z
              (leave.n e rules p q low valid looks l g k.now k.control stands cap next known ranks t waits.0 waits.1) next) waits.2
              (leave.low_gone e rules p q low valid looks l g k.now k.control stands cap next known ranks t waits.0 waits.1);
        },
      ))
      (λ goes. (
        record { now = d; control = go.n e rules p q low valid looks l g k.now d k.control stands cap next known ranks t goes.0 goes.1 },
        record {
          same = refl;
          stands = go.stands_next e rules p q low valid looks l g k.now d k.control stands cap next known ranks t goes.0 goes.1;
          known = go.low_next e rules p q low valid looks l g k.now d k.control stands cap next known ranks t goes.0 goes.1;
        },
      )) (step_by K looks k.now d t steps)

  goes_at : (c d : Configuration) (k : KnownAt) (cap next t : ℕ) → HoldsAt c k cap → wait_step K looks t c ≡ Some d →
      ((u : ℕ) → may_step K looks c u ≡ true → capped (free_at k u) cap (priority_at k u) ≤ next) → (x : KnownAt) × HoldsAt d x next
  goes_at c d k cap next t holds steps ranks =
      step_at d k cap next t holds.stands holds.known (subst (λ z. wait_step K looks t z ≡ Some d) holds.same steps)
      (λ u on. ranks u (subst (λ z. may_step K looks z u ≡ true) (sym holds.same) on))

  -- along a run, under one cap
  run_at : (run : List ℕ) (c d : Configuration) (k : KnownAt) (cap : ℕ) → HoldsAt c k cap → replay M run c ≡ Some d → (x : KnownAt) × HoldsAt d x cap
  run_at [] c d k cap holds runs = (k, subst (λ z. HoldsAt z k cap) (same_Some c d runs) holds)
  run_at (t ∷ run) c d k cap holds runs =
      let b : Begins M t run c d = begins M t run c d runs in
      let one : (x : KnownAt) × HoldsAt b.next x cap =
      goes_at c b.next k cap cap t holds b.steps (λ u on. capped_within (free_at k u) cap (priority_at k u)) in
      run_at run b.next d one.0 cap one.1 b.rest

  -- ---- who reads and writes

  -- who writes does not wait, and has its turn
  module _ (k : KnownAt) (stands : Stands e p q low valid looks l g k.now k.control) (u : ℕ) (on : may_step K looks k.now u ≡ true) where
    record Goes : Type 0 where
      free : is_waiting K looks (standing_of k.now u) ≡ false
      turn_now : is_enabled K k.now u ≡ true
      access : wait_access K looks k.now u ≡ access_of (standing_of k.now u)

    goes_or_idle : (wait_access K looks k.now u ≢ no_access) → Goes
    goes_or_idle busy =
        ⊎_elim (λ waits. absurd (busy (none waits.0))) (λ goes. record { free = goes.0; turn_now = goes.1; access = same goes.0 })
        (may_by K looks k.now u on)
      where
        none : is_waiting K looks (standing_of k.now u) ≡ true → wait_access K looks k.now u ≡ no_access
        none waits = rw (waits) refl

        same : is_waiting K looks (standing_of k.now u) ≡ false → wait_access K looks k.now u ≡ access_of (standing_of k.now u)
        same goes = rw (goes) refl

    -- nor is it in a superstate
    no_superstate : Goes → wait_access K looks k.now u ≢ no_access → is_within (standing_of k.now u) ≡ false
    no_superstate goes busy =
        ⊎_elim (λ inside. absurd (none (in_superstate (standing_of k.now u) inside))) (λ out. out) (cases_Bool (is_within (standing_of k.now u)))
      where
        by_tests : (v : ℕ) (ts : List Transition) → standing_of k.now u ≡ at.Within v ts → ⊥
        by_tests v [] is = none_left K k.now u v is (turn K g.tree g.holder_there k.now u goes.turn_now).works
        by_tests v (w ∷ ws) is =
            busy (goes.access ∙ within_idle e p q low valid looks l g k.now k.control stands u v w ws goes.turn_now is)

        none : InSuperstate (standing_of k.now u) → ⊥
        none x = by_tests x.state x.tests x.is

    -- so its priority is within the cap
    writes_within : (cap : ℕ) → Low e p q low valid looks l g k.now k.control cap → wait_access K looks k.now u ≢ no_access → priority_at k u ≤ cap
    writes_within cap known busy =
        let goes : Goes = goes_or_idle busy in
        known.lines u goes.turn_now goes.free (no_superstate goes busy) [] k.control refl u (inl (below_self G u))
        (at_node e p q low valid looks l g k.now k.control stands u goes.turn_now (λ none. busy (goes.access ∙ none)))

  -- ---- the order of two
  module _ (j k : KnownAt) (here : Stands e p q low valid looks l g j.now j.control) (there : Stands e p q low valid looks l g k.now k.control) (t u a : ℕ)
      (on : may_step K looks j.now t ≡ true) (on_too : may_step K looks k.now u ≡ true) (apart : ForkedApart K t u a)
      (writes : (wait_access K looks k.now u).writes ≢ Nothing) (lower : priority_at k u ≤ priority_at j t) where
    in_order : MayPrecede (wait_access K looks j.now t) (wait_access K looks k.now u)
    in_order = ⊎_elim waits goes (may_by K looks j.now t on)
      where
        second : Goes k there u on_too
        second = goes_or_idle k there u on_too (does_some (wait_access K looks k.now u) writes)

        waits : (is_waiting K looks (standing_of j.now t) ≡ true) × (sees K looks j.now (standing_of j.now t) ≡ true) →
            MayPrecede (wait_access K looks j.now t) (wait_access K looks k.now u)
        waits w =
            let none : wait_access K looks j.now t ≡ no_access = let is = w.0 in rw (is) refl in
            idle_first (wait_access K looks j.now t) (wait_access K looks k.now u) none

        goes : (is_waiting K looks (standing_of j.now t) ≡ false) × (is_enabled K j.now t ≡ true) →
            MayPrecede (wait_access K looks j.now t) (wait_access K looks k.now u)
        goes x =
            let same : wait_access K looks j.now t ≡ access_of (standing_of j.now t) = let is = x.0 in rw (is) refl in
            subst (λ z. MayPrecede z (wait_access K looks k.now u)) (sym same)
            (subst (MayPrecede (access_of (standing_of j.now t))) (sym second.access)
            (priorities_order_steps e p q low valid j.now k.now j.control k.control here.nodes there.nodes t u a x.1 second.turn_now apart lower))

  -- ---- all together

  module _ (c : Configuration) (k : KnownAt) (cap : ℕ) (holds : HoldsAt c k cap) where
    -- the machine as one that starts here
    abbrev from_here : Reactive
    from_here = record { machine = M; initial = c; start = λ inputs x. x }

    later : (ticks : List Inputs) (ends : List Configuration) (x : Configuration) (j : KnownAt) → HoldsAt x j cap → Reaction from_here ticks x ends →
        (i : KnownAt) × HoldsAt (last_of x ends) i cap
    later [] [] x j known reaction = (j, known)
    later (g_now ∷ ticks) (d ∷ ends) x j known reaction =
        let one : (i : KnownAt) × HoldsAt d i cap = run_at reaction.0.run x d j cap known reaction.0.complete.runs in
        later ticks ends d one.0 one.1 reaction.1
    later [] (d ∷ ends) x j known reaction = absurd reaction
    later (g_now ∷ ticks) [] x j known reaction = absurd reaction

    has_capped : HasCappedRanks from_here (λ inputs. Unit {0})
    has_capped =
        record {
          Known = KnownAt;
          Holds = HoldsAt;
          priority = priority_at;
          free = free_at;
          threads = λ x. length x.regions;
          among = λ x t on.
              ⊎_elim (λ waits. waits_in_place K looks x t waits.0) (λ goes. enabled_there features.Core e rules x t goes.1) (may_by K looks x t on);
          turns = λ x d t steps. turn_of K looks l g x d t steps;
          begins = λ ticks ends inputs accepted takes reaction.
              let there : (i : KnownAt) × HoldsAt (last_of c ends) i cap = later ticks ends c k holds reaction in (there.0, cap, there.1);
          goes = goes_at;
          is_free = λ x j top u known idle.
              subst (λ z. wait_access K looks z u ≡ no_access) (sym known.same) (idle_is (wait_access K looks j.now u) idle);
          uncapped = λ x j top u known on writes.
              writes_within j known.stands u (subst (λ z. may_step K looks z u ≡ true) known.same on) top known.known
              (does_some (wait_access K looks j.now u) (subst (λ z. (wait_access K looks z u).writes ≢ Nothing) known.same writes));
          order = λ x y i j top other t u a known known_too on on_too apart writes lower.
              subst (λ z. MayPrecede (wait_access K looks z t) (wait_access K looks y u)) (sym known.same)
              (subst (λ z. MayPrecede (wait_access K looks i.now t) (wait_access K looks z u)) (sym known_too.same)
              (in_order i j known.stands known_too.stands t u a (subst (λ z. may_step K looks z t ≡ true) known.same on)
              (subst (λ z. may_step K looks z u ≡ true) known_too.same on_too) apart
              (subst (λ z. (wait_access K looks z u).writes ≢ Nothing) known_too.same writes) lower));
        }

    ranks : HasRanks from_here (λ inputs. Unit {0})
    ranks = capped_are_ranks from_here (λ inputs. Unit {0}) has_capped

    pub ranks_from : Inputs → RanksFrom M c
    ranks_from inputs =
        let first = ranks.begins [] [] inputs tt tt tt in
        record {
          ranked =
              record {
                Known = ranks.Known;
                Holds = ranks.Holds;
                rank = ranks.rank;
                threads = λ x. length x.regions;
                among = λ x t on.
                    ⊎_elim (λ waits. waits_in_place K looks x t waits.0) (λ goes. enabled_there features.Core e rules x t goes.1)
                    (may_by K looks x t on);
                falls = ranks.falls;
                order = ranks.order;
              };
          known = first.0;
          holds = first.1;
        }
