-- A chart has one reaction and no other; and what shows the reaction of the core chart shows that of the chart.
use Rattle.std.proofs.Common.{ℕ, ◌≡◌, ◌<◌, true, Some, List, [], ◌∷◌, length, take, sym, ap, subst, ◌∙◌}
use Rattle.sc_graph.specs.declared.control.Control.{Control}
use Rattle.sc_graph.specs.Program.{Program}
use Rattle.sc_graph.specs.Tick.{Inputs, AreAccepted}
use Rattle.core_charts.specs.declared.features.Features.TheVariants as features
use Rattle.core_charts.specs.Chart.{Chart}
use Rattle.core_charts.specs.Rules.{IsChart}
use Rattle.chart_machine.specs.declared.standing.Configuration.{Configuration}
use Rattle.chart_machine.specs.Table.{table}
use Rattle.chart_machine.specs.Machine as chart
use Rattle.abort_expansion.specs.Expansion.{expanded, state_map}
use Rattle.abort_expansion.specs.StateMap.{chart_state}
use Rattle.chart_lowering_laws.specs.Keeps as lists
use Rattle.chart_lowering_laws.specs.Keeps.{EachPair}
use Rattle.node_states.specs.Active.{is_active, numbers_where}
use Rattle.node_states.specs.Nodes.{state_of_node, state_count}
use Rattle.node_states.specs.StandsFor.{stands_for}
use Rattle.compiled_charts_laws.specs.Reactions.{AllAccepted, ChartReacts}
use Rattle.compiled_charts_laws.specs.Reactions.{AreSeenAlike as AreSeenAlikeBy}
use Rattle.abort_expansion_laws.specs.Ticks.{Reactive, Reaction, EachAlike, AllOf, HasAlike, Keeps}
use Rattle.abort_expansion_laws.specs.Preemption.{chart_machine, IsActiveInCore, SeenAlike}
use Rattle.abort_expansion_laws.proofs.StatesMapped.{states_mapped_all}
use Rattle.preemption_laws.specs.Reacts.{ReactsInOneWay}
use Rattle.compiled_charts.specs.Kept.{AreSeenAlike, Reacts}
use Rattle.compiled_charts.proofs.ActiveStates.{same_numbers, same_truth, IsActiveBehind, active_behind, active_past, has_entry}
use Rattle.compiled_charts.proofs.StateTotals.{as_many_states}

-- ---- two spellings of lists of ends, and of inputs that are accepted

there : (r : Reactive) (ticks : List Inputs) (c : r.machine.Configuration) (ends : List r.machine.Configuration) →
    lists.Reaction r.machine r.start c ticks ends → Reaction r ticks c ends
there r [] c [] h = tt
there r (inputs ∷ ticks) c (d ∷ ends) h = (h.0, there r ticks d ends h.1)
there r [] c (d ∷ ends) h = absurd h
there r (inputs ∷ ticks) c [] h = absurd h

back : (r : Reactive) (ticks : List Inputs) (c : r.machine.Configuration) (ends : List r.machine.Configuration) →
    Reaction r ticks c ends → lists.Reaction r.machine r.start c ticks ends
back r [] c [] h = tt
back r (inputs ∷ ticks) c (d ∷ ends) h = (h.0, back r ticks d ends h.1)
back r [] c (d ∷ ends) h = absurd h
back r (inputs ∷ ticks) c [] h = absurd h

all_of : (q : Program) (ticks : List Inputs) → AllAccepted q ticks → AllOf (AreAccepted q) ticks
all_of q [] h = tt
all_of q (inputs ∷ ticks) h = (h.0, all_of q ticks h.1)

module _ (c : Chart) (rules : IsChart features.Extended c) where
  abbrev core : Chart
  core = expanded c

  -- ---- what is seen alike in the core chart is seen alike in the configuration that shows that

  module _ (d e : Configuration) (control : Control) (kept : SeenAlike c d e) (shown : AreSeenAlikeBy (table core) (state_of_node core) e control) where
    core_state_there : (n s : ℕ) → chart_state (state_map c) n ≡ Some s → n < length (table core).states
    core_state_there n s stands = subst (λ m. n < m) (states_mapped_all c rules).0 (has_entry (state_map c) n s stands)

    active_there : (s : ℕ) → is_active (stands_for c) control s ≡ true → chart.is_active (table c) d s ≡ true
    active_there s on =
        let behind : IsActiveBehind (state_of_node core) (state_map c) control s = active_behind (state_of_node core) (state_map c) control s on in
        let inside : behind.core_state < length (table core).states = core_state_there behind.core_state s behind.stands_for in
        (kept.active s).1 (behind.core_state, sym (shown.active behind.core_state inside) ∙ behind.active, behind.stands_for)

    active_back : (s : ℕ) → chart.is_active (table c) d s ≡ true → is_active (stands_for c) control s ≡ true
    active_back s on =
        let in_core : IsActiveInCore c e s = (kept.active s).0 on in
        active_past (state_of_node core) (state_map c) control s (record {
          core_state = in_core.0;
          active = shown.active in_core.0 (core_state_there in_core.0 s in_core.2) ∙ in_core.1;
          stands_for = in_core.2;
        })

    both_seen : AreSeenAlike c (stands_for c) (state_count c) d control
    both_seen = record {
      variables = ap (take (length c.variables)) shown.variables ∙ kept.variables;
      active =
          ap (numbers_where (is_active (stands_for c) control) 0) (as_many_states features.Extended c rules)
          ∙ same_numbers (is_active (stands_for c) control) (chart.is_active (table c) d) 0 (length (table c).states)
          (λ s low high. same_truth (is_active (stands_for c) control s) (chart.is_active (table c) d s) (active_there s) (active_back s));
    }

  all_seen : (ds es : List Configuration) (controls : List Control) → EachAlike (SeenAlike c) ds es →
      EachPair (AreSeenAlikeBy (table core) (state_of_node core)) es controls → EachPair (AreSeenAlike c (stands_for c) (state_count c)) ds controls
  all_seen [] [] [] kept shown = tt
  all_seen (d ∷ ds) (e ∷ es) (x ∷ xs) kept shown = (both_seen d e x kept.0 shown.0, all_seen ds es xs kept.1 shown.1)
  all_seen [] [] (x ∷ xs) kept shown = absurd shown
  all_seen (d ∷ ds) (e ∷ es) [] kept shown = absurd shown
  all_seen [] (e ∷ es) controls kept shown = absurd kept
  all_seen (d ∷ ds) [] controls kept shown = absurd kept

  -- by the law of the expansion
  pub kept_shown : (q : Program) → Keeps (chart_machine c) (chart_machine core) (AreAccepted q) (SeenAlike c) → (ticks : List Inputs)
      (controls : List Control) → AllAccepted q ticks →
      ((es : List Configuration) → ChartReacts core ticks es → EachPair (AreSeenAlikeBy (table core) (state_of_node core)) es controls) →
      (ends : List Configuration) → Reacts c ticks ends → EachPair (AreSeenAlike c (stands_for c) (state_count c)) ends controls
  kept_shown q keeps ticks controls accepted each ends reacts =
      let kept : HasAlike (chart_machine core) Configuration (SeenAlike c) ticks (chart.initial (table core)) ends =
      keeps ticks ends (all_of q ticks accepted) (there (chart_machine c) ticks (chart.initial (table c)) ends reacts)
      in
      all_seen ends kept.others controls kept.alike
      (each kept.others (back (chart_machine core) ticks (chart.initial (table core)) kept.others kept.reaction))

  -- by the law of reactions
  module _ (q : Program) (has : (ticks : List Inputs) → AllOf (AreAccepted q) ticks → ReactsInOneWay c ticks) (ticks : List Inputs)
      (accepted : AllAccepted q ticks) where
    one : ReactsInOneWay c ticks
    one = has ticks (all_of q ticks accepted)

    pub chart_reacts : (ends : List Configuration) × Reacts c ticks ends
    chart_reacts = (one.ends, back (chart_machine c) ticks (chart.initial (table c)) one.ends one.reacts)

    pub chart_only : (ds es : List Configuration) → Reacts c ticks ds → Reacts c ticks es → ds ≡ es
    chart_only ds es first second =
        one.only ds (there (chart_machine c) ticks (chart.initial (table c)) ds first)
        ∙ sym (one.only es (there (chart_machine c) ticks (chart.initial (table c)) es second))
