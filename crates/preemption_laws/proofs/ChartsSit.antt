-- Each chart, whatever aborts it has, has a table as its steps need it: so its machine keeps regions apart that have their turn together, and where its
-- steps have ranks it has one list of ends at most for each list of inputs.
use Rattle.std.proofs.Common.{◌≡◌, ℕ, ◌<◌, ⊎_elim, List, [], ◌∷◌, length, Contains, refl, sym, subst}
use Rattle.sc_graph.specs.Tick.{Inputs}
use Rattle.sc_text.proofs.EachItem.{Each}
use Rattle.core_charts.specs.declared.features.Features.TheVariants as features
use Rattle.core_charts.specs.declared.region.Transition.{Transition}
use Rattle.core_charts.specs.Chart.{Chart}
use Rattle.core_charts.specs.Rules.{IsChart}
use Rattle.chart_machine.specs.declared.standing.Configuration.{Configuration}
use Rattle.chart_machine.specs.declared.table.Table.{Table}
use Rattle.chart_machine.specs.Machine.{machine, initial, start}
use Rattle.chart_machine.specs.Steps.{state_in}
use Rattle.chart_machine.specs.Table.{table, state_at, region_at}
use Rattle.chart_machine.proofs.Outside.{within_or_past}
use Rattle.abort_expansion.specs.Expansion.{expanded}
use Rattle.chart_machine_laws.specs.Tree.{IsThere, around, holder}
use Rattle.chart_machine_laws.proofs.LyingIn.{none_in, head_in}
use Rattle.chart_machine_laws.proofs.ChartTables.{around_there, no_regions_past}
use Rattle.abort_expansion_laws.specs.CoreRows.{own, IsState, IsSuper, Images}
use Rattle.abort_expansion_laws.specs.Preemption.{chart_machine}
use Rattle.abort_expansion_laws.specs.Ticks.{Reaction, AllOf}
use Rattle.abort_expansion_laws.proofs.ChartsOpened.{entry_rows}
use Rattle.abort_expansion_laws.proofs.EnteredAlike.{OpensAlike}
use Rattle.abort_expansion_laws.proofs.FlagNumbers.{numbers_once}
use Rattle.abort_expansion_laws.proofs.InitialPairs.{Initials, initials, held_there}
use Rattle.abort_expansion_laws.proofs.JustEntered.{EntryRows}
use Rattle.abort_expansion_laws.proofs.OpenedInside.{Leads, charts_lead}
use Rattle.abort_expansion_laws.proofs.RowsOfCharts as whole
use Rattle.abort_expansion_laws.proofs.StartingRegions.{Once}
use Rattle.abort_expansion_laws.proofs.TopRegions.{tops, top_there}
use Rattle.abort_expansion_laws.proofs.WalkedWhole.{entered}
use Rattle.preemption_laws.specs.ChartRanks.{HasRanks}
use Rattle.preemption_laws.specs.OneEnd.{KeepsApart}
use Rattle.preemption_laws.proofs.EnclosedStill.{Firsts}
use Rattle.preemption_laws.proofs.MovesInside.{LeadIn}
use Rattle.preemption_laws.proofs.NoMoves.{no_moves}
use Rattle.preemption_laws.proofs.OneReaction.{one_reaction}
use Rattle.preemption_laws.proofs.RunsComplete.{enabled_there}
use Rattle.preemption_laws.proofs.SitsAtStart.{Tops, sits_initially, sits_at_start}
use Rattle.preemption_laws.proofs.SitsStill.{Sits, sits_apart}
use Rattle.tick_laws.proofs.Lists.{map_contains}

module _ (c : Chart) (rules : IsChart features.Extended c) (core_rules : IsChart features.Core (expanded c)) where
  abbrev k : Table
  k = table c

  abbrev core : Table
  core = table (expanded c)

  abbrev i : Images
  i = whole.i c rules core_rules

  abbrev rows : EntryRows k core i
  rows = entry_rows c rules core_rules

  -- ---- what its rows say

  holds_there : (s : ℕ) → IsState k s → IsThere k (holder k s)
  holds_there s here = (whole.state_fits c rules core_rules s here).region.here

  holder_there : (q s : ℕ) → Contains (around k q) s → IsThere k q × IsThere k (holder k s)
  holder_there q s inner = (around_there k q s inner, holds_there s (rows.super_around q s inner).0)

  state_there : (r p : ℕ) → IsThere k r → p < length (region_at k r).states → IsState k (state_in k r p) × (holder k (state_in k r p) ≡ r)
  state_there r p there lt =
      let held : holder k (state_in k r p) ≡ r = (rows.rows.region r there).holds p lt in (held_there k (state_in k r p) r held there, held)

  leads_in : (s : ℕ) (tests : List Transition) → Each (Leads k s) tests → LeadIn k rows.tree rows.entries rows.elsewhere state_there (holder k s) tests
  leads_in s [] each = tt
  leads_in s (t ∷ tests) each = (each.0, leads_in s tests each.1)

  leads : (s : ℕ) → IsState k s → LeadIn k rows.tree rows.entries rows.elsewhere state_there (holder k s) (own k s)
  leads s here = leads_in s (own k s) (charts_lead features.Extended c rules s here)

  -- a state without regions opens nothing
  bare : (s : ℕ) → IsState k s → (state_at k s).regions ≡ [] → (state_at k s).opened ≡ []
  bare s here none =
      no_moves (state_at k s).opened (λ q zs. rows.elsewhere s q zs here (λ inner. (rows.super_around q s inner).1 none))

  -- in which states the regions of a superstate begin
  begins_in : (s r : ℕ) → Contains (state_at k s).regions r → Firsts k s
  begins_in s r h = record { firsts = init.firsts; opens = init.chart; holders = init.holders; states = states }
    where
      super : IsSuper k s
      super none = none_in r (subst (λ rs. Contains rs r) none h)

      here : IsState k s
      here = ⊎_elim (λ lt. lt) (λ past. absurd (super (no_regions_past k s past))) (within_or_past s (length k.states))

      alike : OpensAlike k core i s
      alike = rows.alike s here super

      init : Initials k core i rows.rows rows.tree rows.core_tree (state_at k s).regions (state_at k s).opened alike.inner
      init = initials k core i rows.rows rows.tree rows.core_tree (state_at k s).regions (state_at k s).opened alike.inner alike.regions

      states : (x : ℕ) → Contains init.firsts x → IsState k x
      states x among =
          let child : Contains (state_at k s).regions (holder k x) =
          subst (λ zs. Contains zs (holder k x)) init.holders (map_contains (holder k) init.firsts x among) in
          let inner : Contains (around k (holder k x)) s =
          subst (λ zs. Contains zs s) (sym (rows.tree.children s (holder k x) child)) (head_in s (around k (holder k s))) in
          held_there k x (holder k x) refl (around_there k (holder k x) s inner)

  -- and those of the chart
  begin_first : Tops k
  begin_first =
      record {
        firsts = init.firsts;
        opens = init.chart;
        states = λ x h.
            let its = top_there c rules (holder k x) (among x h) in (held_there k x (holder k x) refl its.0, its.1, its.0);
        once = λ x h. subst (Once (holder k x)) (sym init.holders) (numbers_once c.regions 1 (holder k x) (among x h));
      }
    where
      init : Initials k core i rows.rows rows.tree rows.core_tree (tops c rules) k.opened core.opened
      init = initials k core i rows.rows rows.tree rows.core_tree (tops c rules) k.opened core.opened (entered c rules)

      among : (x : ℕ) → Contains init.firsts x → Contains (tops c rules) (holder k x)
      among x h = subst (λ zs. Contains zs (holder k x)) init.holders (map_contains (holder k) init.firsts x h)

  -- ---- so its steps keep how it sits

  abbrev Sitting : Configuration → Type 0
  Sitting d = Sits k rows.tree holder_there rows.entries rows.elsewhere state_there begins_in rows.once leads bare d

  keeps_apart : KeepsApart (machine k) Sitting
  keeps_apart = sits_apart k rows.tree holder_there rows.entries rows.elsewhere state_there begins_in rows.once leads bare

  initially : Sitting (initial k)
  initially = sits_initially k rows.tree holder_there rows.entries rows.elsewhere state_there begins_in rows.once leads bare begin_first

  starts : (inputs : Inputs) (d : Configuration) → Sitting d → Sitting (start k inputs d)
  starts inputs d sits =
      sits_at_start k rows.tree holder_there rows.entries rows.elsewhere state_there begins_in rows.once leads bare begin_first inputs d sits

  -- where its steps have ranks, two lists of ends for the same inputs are one
  pub one_list_of_ends : (Accepted : Inputs → Type 0) → HasRanks (chart_machine c) Accepted → (ticks : List Inputs) (ds es : List Configuration) →
      AllOf Accepted ticks → Reaction (chart_machine c) ticks (initial k) ds → Reaction (chart_machine c) ticks (initial k) es → ds ≡ es
  one_list_of_ends Accepted ranks ticks ds es accepted first second =
      one_reaction (chart_machine c) Sitting keeps_apart initially starts (λ d. length d.regions) (λ d t on. enabled_there features.Extended c rules d t on)
      Accepted ranks ticks ds es accepted first second
