-- What holds of a chart and its core chart between two ticks, and what gives that no strong test is overwritten within one.
use Rattle.std.proofs.Common.{◌≡◌, ℕ, ◌⊎◌, inl, inr, true, List, map, length, refl, sym, ap, subst}
use Rattle.std.proofs.Common.{◌∙◌}
use Rattle.std.specs.Prelude.{take}
use Rattle.std.proofs.lemmas.List.{length-map, map-append}
use Rattle.sc_values.specs.declared.value.Value.{Value}
use Rattle.sc_values.specs.Operator.{initial_value}
use Rattle.sc_values.specs.Runs.{Ends}
use Rattle.sc_graph.specs.Tick.{Inputs}
use Rattle.sc_graph.specs.declared.program.Variable.{Variable}
use Rattle.core_charts.specs.declared.features.Features.TheVariants as features
use Rattle.core_charts.specs.Chart.{Chart}
use Rattle.core_charts.specs.Rules.{IsChart}
use Rattle.chart_machine.specs.declared.standing.Standing.TheVariants as at
use Rattle.chart_machine.specs.declared.standing.Configuration.{Configuration}
use Rattle.chart_machine.specs.declared.table.Table.{Table}
use Rattle.chart_machine.specs.Table.{table, state_at}
use Rattle.chart_machine.specs.Turns.{standing_of}
use Rattle.chart_machine.specs.Machine.{machine, initial, start, stands_in, is_active}
use Rattle.abort_expansion.specs.Expansion.{expanded}
use Rattle.abort_expansion_laws.specs.Preemption.{SeenAlike}
use Rattle.abort_expansion_laws.specs.Segments.{Follows}
use Rattle.abort_expansion_laws.specs.Stages.{Entry, EachSpared}
use Rattle.abort_expansion_laws.proofs.FreshInside.{nobody_there}
use Rattle.abort_expansion_laws.proofs.Owed.{Started, first_tick, later_tick}
use Rattle.abort_expansion_laws.proofs.SeenAlike.{front_of}
use Rattle.abort_expansion_laws.proofs.RestedCharts.{rested_seen}
use Rattle.abort_expansion_laws.proofs.TicksOfCharts as ticks
use Rattle.abort_expansion_laws.proofs.FlagStages.{FlagStages}

-- ---- before the first tick

initially_inactive : (k : Table) (s : ℕ) → is_active k (initial k) s ≡ true → ⊥
initially_inactive k s active =
    let none : stands_in (standing_of (initial k) (state_at k s).holder) s ≡ stands_in at.Outside s =
    ap (λ x. stands_in x s) (nobody_there k (state_at k s).holder) in
    let wrong : stands_in at.Outside s ≡ true = sym none ∙ active in absurd cc

module _ (c : Chart) (rules : IsChart features.Extended c) (core_rules : IsChart features.Core (expanded c)) where
  abbrev k : Table
  k = table c

  abbrev core : Table
  core = table (expanded c)

  abbrev first_values : List Variable → List Value
  first_values xs = map (λ x. initial_value x.kind) xs

  initial_seen : SeenAlike c (initial k) (initial core)
  initial_seen =
      record {
        variables =
            ap (λ n. take n (first_values core.variables)) (sym (length-map k.variables (λ x. initial_value x.kind)))
            ∙ (ap (λ xs. take (length (first_values k.variables)) (first_values xs)) (ticks.rows c rules core_rules).variables
            ∙ (ap (take (length (first_values k.variables)))
            (map-append (λ x. initial_value x.kind) k.variables (ticks.rows c rules core_rules).added)
            ∙ front_of (first_values k.variables) (first_values (ticks.rows c rules core_rules).added)));
        active = λ s. ((λ active. absurd (initially_inactive k s active)), (λ there. absurd (initially_inactive core there.0 there.1)));
      }

  -- ---- between two ticks

  abbrev pub RestsAlike : Configuration → Configuration → Type 0
  RestsAlike before d = ((before ≡ initial k) × (d ≡ initial core)) ⊎ ticks.HasRested c rules core_rules before d

  pub started : (inputs : Inputs) (before d : Configuration) → RestsAlike before d →
      Started k core (ticks.i c rules core_rules) (start k inputs before) (start core inputs d)
  started inputs before d (inl (first, core_first)) = first_tick inputs (ap (start k inputs) first) (ap (start core inputs) core_first)
  started inputs before d (inr rested) = later_tick inputs before d rested.rests refl refl

  pub seen : (before d : Configuration) → RestsAlike before d → SeenAlike c before d
  seen before d (inl (first, core_first)) = subst (λ z. SeenAlike c z d) (sym first) (subst (SeenAlike c (initial k)) (sym core_first) initial_seen)
  seen before d (inr rested) = rested_seen c rules core_rules before d rested.rests

  -- what is kept of the core chart from tick to tick, and gives that no strong test is overwritten within one
  pub record SparesTests (Accepted : Inputs → Type 0) (Told : Configuration → Entry → Type 0) : Type 1 where
    pub Rests : Configuration → Type 0
    pub begins : Rests (initial core)
    pub goes_on : (inputs : Inputs) (d e : Configuration) → Accepted inputs → Rests d → Ends (machine core) (start core inputs d) e → Rests e
    pub spared : (inputs : Inputs) (before d : Configuration) → Accepted inputs → Rests d → RestsAlike before d → (stages : FlagStages c rules core_rules)
        (log : List Entry) (e : Configuration) →
        Follows (machine core) (ticks.corr_at c rules core_rules stages) Told (start core inputs d) log e →
        EachSpared (ticks.corr_at c rules core_rules stages) log

  module _ (Accepted : Inputs → Type 0) (Told : Configuration → Entry → Type 0) (spares : SparesTests Accepted Told) (Holds : Configuration → Type 0) where
    pub record BothRest (before d : Configuration) : Type 0 where
      pub alike : RestsAlike before d
      pub rests : spares.Rests d
      pub holds : Holds before

    pub begin_resting : ticks.KeptByChart c rules core_rules Holds → BothRest (initial k) (initial core)
    begin_resting kept = record { alike = inl (refl, refl); rests = spares.begins; holds = kept.initially }
