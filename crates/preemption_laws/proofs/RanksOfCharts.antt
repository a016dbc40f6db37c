-- The steps of a chart that has a valid image have capped ranks, so it has one list of ends for each list of accepted inputs.
use Rattle.std.proofs.Common.{◌≡◌, ℕ, true, Some, List, length, refl, sym, ap, subst, ◌∙◌}
use Rattle.sc_values.specs.Access.{MayPrecede}
use Rattle.sc_graph.specs.declared.control.Control.{Control}
use Rattle.sc_graph.specs.Program.{Program}
use Rattle.sc_graph.specs.Tick.{Inputs, AreAccepted}
use Rattle.sc_graph.specs.Tick as graph_tick
use Rattle.core_charts.specs.declared.features.Features.TheVariants as features
use Rattle.core_charts.specs.Chart.{Chart}
use Rattle.core_charts.specs.Rules.{IsChart}
use Rattle.chart_machine.specs.declared.standing.Configuration.{Configuration}
use Rattle.chart_machine.specs.declared.table.Table.{Table}
use Rattle.chart_machine.specs.Machine.{initial, start}
use Rattle.chart_machine.specs.Table.{table}
use Rattle.chart_machine.specs.Turns.{standing_of, is_enabled}
use Rattle.chart_machine.specs.Steps.{access_of, step}
use Rattle.scl.specs.Numbering.{numbered}
use Rattle.scl_graph.specs.Graph.{program_of}
use Rattle.abort_expansion.specs.Expansion.{expanded}
use Rattle.chart_lowering_laws.specs.Laws.{IsLowering}
use Rattle.compiled_charts_laws.proofs.TickStarts as tick_starts
use Rattle.abort_expansion_laws.specs.Preemption.{chart_machine, HasImage}
use Rattle.abort_expansion_laws.specs.Ticks.{Reaction, AllOf}
use Rattle.abort_expansion_laws.proofs.OwnTestsKept.{own_tests_kept}
use Rattle.abort_expansion_laws.proofs.BetweenTicks.{started}
use Rattle.abort_expansion_laws.proofs.TestsSpared.{lowered_tests, earlier, starts_quiet, is_valid, takes}
use Rattle.preemption_laws.specs.Bounded.{last_of}
use Rattle.preemption_laws.specs.CappedRanks.{HasCappedRanks}
use Rattle.preemption_laws.specs.ChartRanks.{HasRanks}
use Rattle.preemption_laws.specs.Reacts.{ReactsInOneWay, ChartsReact}
use Rattle.preemption_laws.proofs.CappedRanks.{capped_are_ranks}
use Rattle.preemption_laws.proofs.ChartsSit.{one_list_of_ends}
use Rattle.preemption_laws.proofs.CappedSteps.{IsCapped, idle_is, is_idle, uncapped}
use Rattle.preemption_laws.proofs.ChartOrder.{step_priority, in_order}
use Rattle.preemption_laws.proofs.ChartRuns.{BothRest, resting}
use Rattle.preemption_laws.proofs.GreatestPriority.{greatest_priority}
use Rattle.preemption_laws.proofs.NextCapped.{n, m_first, followed, next_capped, quiet_next, first, first_capped, quiet_first}
use Rattle.preemption_laws.proofs.OthersLow.{RanksWithin}
use Rattle.preemption_laws.proofs.RanksReact.{has_reaction}
use Rattle.preemption_laws.proofs.RunsComplete.{enabled_there, turn_of}
use Rattle.preemption_laws.proofs.MonitorsLow.{MonitorsQuiet}

module _ (c : Chart) (rules : IsChart features.Extended c) (image : HasImage c) (low : IsLowering (expanded c) image.scl) where
  abbrev k : Table
  k = table c

  abbrev G : Program
  G = program_of (numbered image.scl)

  abbrev Calm : Configuration → Control → Type 0
  Calm =
      MonitorsQuiet c rules low.core image.scl image.tables low (is_valid c image)
      (lowered_tests c rules low.core image.scl low image.tables (is_valid c image)) (earlier c rules low.core image.scl low image.tables (is_valid c image))

  abbrev Capped : (now d : Configuration) → Control → ℕ → Type 0
  Capped = IsCapped c rules low.core image.scl image.tables low (is_valid c image)

  -- where the chart is, its core chart, and the graph of that
  pub record KnownAt : Type 0 where
    pub now : Configuration
    pub core : Configuration
    pub control : Control

  pub record HoldsAt (x : Configuration) (at : KnownAt) (cap : ℕ) : Type 0 where
    pub same : x ≡ at.now
    pub is_capped : Capped at.now at.core at.control cap
    pub quiet : Calm at.core at.control

  abbrev priority_at : KnownAt → ℕ → ℕ
  priority_at at = step_priority c rules low.core image.scl image.tables low (is_valid c image) at.now at.control

  goes_at : (next : Configuration) (at : KnownAt) (cap least t : ℕ) → Capped at.now at.core at.control cap → Calm at.core at.control →
      step k t at.now ≡ Some next →
      RanksWithin c rules low.core image.scl image.tables low (is_valid c image) at.now at.control cap least →
      (l : KnownAt) × HoldsAt next l least
  goes_at next at cap least t known quiet steps ranks =
      let v = is_valid c image in
      let tests = lowered_tests c rules low.core image.scl low image.tables v in
      let late = earlier c rules low.core image.scl low image.tables v in (
        record {
          now = next;
          core =
              (followed c rules low.core image.scl image.tables low v tests late at.now next at.core at.control cap least known quiet ranks t
              steps).last;
          control = n c rules low.core image.scl image.tables low v tests late at.now next at.core at.control cap least known quiet ranks t steps;
        },
        record {
          same = refl;
          is_capped = next_capped c rules low.core image.scl image.tables low v tests late at.now next at.core at.control cap least known quiet ranks t
              steps;
          quiet = quiet_next c rules low.core image.scl image.tables low v tests late at.now next at.core at.control cap least known quiet ranks t
              steps;
        },
      )

  begins_at : (inputs : List Inputs) (ends : List Configuration) (next : Inputs) → AllOf (AreAccepted image.program) inputs →
      AreAccepted image.program next → Reaction (chart_machine c) inputs (initial k) ends →
      (at : KnownAt) × (cap : ℕ) × HoldsAt (start k next (last_of (initial k) ends)) at cap
  begins_at inputs ends next accepted takes_next reaction =
      let v = is_valid c image in
      let tests = lowered_tests c rules low.core image.scl low image.tables v in
      let late = earlier c rules low.core image.scl low image.tables v in
      let here : (d : Configuration) × BothRest c rules low.core image low (last_of (initial k) ends) d =
      resting c rules low.core image low inputs ends next accepted takes_next reaction in
      let before : Configuration = last_of (initial k) ends in
      let taken = takes c image next takes_next in
      let d : Configuration = start (table (expanded c)) next here.0 in
      let m : Control = graph_tick.start G next here.1.graph.0 in
      let begun = started c rules low.core next before here.0 here.1.alike in
      let owns = (own_tests_kept c rules low.core).starts next before here.1.owns in
      let alike = tick_starts.starts_alike (expanded c) image.scl image.tables low v next taken here.0 here.1.graph.0 here.1.graph.1 in
      let quiet = starts_quiet c rules low.core image.scl low image.tables v next taken before here.0 here.1.graph.0 here.1.graph.1 here.1.alike in (
        record {
          now = start k next before;
          core = (first c rules low.core image.scl image.tables low v tests late (start k next before) d m begun owns alike quiet).last;
          control = m_first c rules low.core image.scl image.tables low v tests late (start k next before) d m begun owns alike quiet;
        },
        greatest_priority image.tables,
        record {
          same = refl;
          is_capped = first_capped c rules low.core image.scl image.tables low v tests late (start k next before) d m begun owns alike quiet;
          quiet = quiet_first c rules low.core image.scl image.tables low v tests late (start k next before) d m begun owns alike quiet;
        },
      )

  enabled_too : (x : Configuration) (at : KnownAt) (u : ℕ) → x ≡ at.now → is_enabled k x u ≡ true → is_enabled k at.now u ≡ true
  enabled_too x at u same on = subst (λ z. is_enabled k z u ≡ true) same on

  -- so there are capped ranks
  pub has_capped_ranks : HasCappedRanks (chart_machine c) (AreAccepted image.program)
  has_capped_ranks =
      record {
        Known = KnownAt;
        Holds = HoldsAt;
        priority = priority_at;
        free = λ at u. is_idle (access_of (standing_of at.now u));
        threads = λ x. length x.regions;
        among = λ x t on. enabled_there features.Extended c rules x t on;
        turns = λ x d t steps. turn_of k x d t steps;
        begins = begins_at;
        goes = λ x d at cap least t holds steps ranks.
            goes_at d at cap least t holds.is_capped holds.quiet (subst (λ z. step k t z ≡ Some d) holds.same steps)
            (λ u on. ranks u (subst (λ z. is_enabled k z u ≡ true) (sym holds.same) on));
        is_free = λ x at cap u holds free.
            ap (λ z. access_of (standing_of z u)) holds.same ∙ idle_is (access_of (standing_of at.now u)) free;
        uncapped = λ x at cap u holds on writes.
            uncapped c rules low.core image.scl image.tables low (is_valid c image) at.now at.core at.control cap
            holds.is_capped u
            (enabled_too x at u holds.same on) (λ none. writes (ap (λ z. (access_of (standing_of z u)).writes) holds.same ∙ none));
        order = λ x y at to cap other t u a here there on on_too apart writes lower.
            subst (λ z. MayPrecede (access_of (standing_of z t)) (access_of (standing_of y u))) (sym here.same)
            (subst (λ z. MayPrecede (access_of (standing_of at.now t)) (access_of (standing_of z u))) (sym there.same)
            (in_order c rules low.core image.scl image.tables low (is_valid c image) at.now at.core to.now to.core at.control
            to.control here.is_capped.all there.is_capped.all t u a (enabled_too x at t here.same on) (enabled_too y to u there.same on_too) apart lower));
      }

  ranks : HasRanks (chart_machine c) (AreAccepted image.program)
  ranks = capped_are_ranks (chart_machine c) (AreAccepted image.program) has_capped_ranks

  -- and one list of ends for each list of accepted inputs
  pub each_reacts : (inputs : List Inputs) → AllOf (AreAccepted image.program) inputs → ReactsInOneWay c inputs
  each_reacts inputs accepted =
      let some : (ends : List Configuration) × Reaction (chart_machine c) inputs (initial k) ends =
      has_reaction c rules image low ranks inputs accepted in
      record {
        ends = some.0;
        reacts = some.1;
        only = λ others react. one_list_of_ends c rules low.core (AreAccepted image.program) ranks inputs others some.0 accepted react some.1;
      }

pub charts_react : ChartsReact
charts_react c rules image low = each_reacts c rules image low
