-- What the table of a core chart has so that its steps keep who stands where, and in which states it begins.
use Rattle.std.proofs.Common.{◌≡◌, ℕ, zero, suc, ◌<◌, ⊎_elim, List, [], ◌∷◌, map, length, unwrap_or, Contains, refl, sym, ap, subst, ◌∙◌}
use Rattle.std.proofs.Common.{arith}
use Rattle.std.proofs.lemmas.List.{append-nil}
use Rattle.sc_text.proofs.EachItem.{Each}
use Rattle.core_charts.specs.declared.features.Features.TheVariants as features
use Rattle.core_charts.specs.declared.region.Transition.{Transition}
use Rattle.core_charts.specs.Chart.{Chart}
use Rattle.core_charts.specs.Rules.{IsChart}
use Rattle.chart_machine.specs.declared.table.Table.{Table}
use Rattle.chart_machine.specs.Steps.{state_in}
use Rattle.chart_machine.specs.Table.{table, state_at, region_at}
use Rattle.chart_machine.proofs.Outside.{within_or_past}
use Rattle.abort_expansion.specs.Expansion.{expanded}
use Rattle.chart_machine_laws.specs.Tree.{IsThere, around, holder}
use Rattle.chart_machine_laws.proofs.LyingIn.{none_in}
use Rattle.chart_machine_laws.proofs.ChartTables.{around_there, no_states_past}
use Rattle.tick_laws.proofs.Lists.{contains_get, contains_map, slice_get_there, map_contains}
use Rattle.abort_expansion_laws.specs.CoreRows.{own, IsState, Images}
use Rattle.abort_expansion_laws.proofs.ChartsOpened.{entry_rows}
use Rattle.abort_expansion_laws.proofs.FlagNumbers.{numbers_once}
use Rattle.abort_expansion_laws.proofs.InitialPairs.{Initials, initials, held_there, once_mapped}
use Rattle.abort_expansion_laws.proofs.JustEntered.{EntryRows}
use Rattle.abort_expansion_laws.proofs.OpenedInside.{Leads, charts_lead}
use Rattle.abort_expansion_laws.proofs.RowsOfCharts as whole
use Rattle.abort_expansion_laws.proofs.StartingRegions.{Once}
use Rattle.abort_expansion_laws.proofs.TopRegions.{tops, top_there}
use Rattle.abort_expansion_laws.proofs.WalkedWhole.{entered}
use Rattle.preemption_laws.proofs.EnclosedStill.{Firsts}
use Rattle.preemption_laws.proofs.MovesInside.{LeadIn}
use Rattle.preemption_laws.proofs.NoMoves.{no_moves}
use Rattle.preemption_laws.proofs.SitsAtStart.{Tops}
use Rattle.preemption_laws.proofs.CoreForks.{child_of, super_there, fork_of, firsts_of, once_among}
use Rattle.preemption_laws.proofs.Ground.{Ground}

module _ (c : Chart) (rules : IsChart features.Extended c) (core_rules : IsChart features.Core (expanded c)) where
  abbrev k : Table
  k = table c

  abbrev core : Table
  core = table (expanded c)

  abbrev i : Images
  i = whole.i c rules core_rules

  abbrev rows : EntryRows k core i
  rows = entry_rows c rules core_rules

  holds_there : (s : ℕ) → IsState core s → IsThere core (holder core s)
  holds_there s here = by (holder core s) (rows.core_tree.holds s here)
    where
      by : (h : ℕ) → Contains (region_at core h).states s → IsThere core h
      by zero inner = absurd (none_in s inner)
      by (suc j) inner =
          ⊎_elim (λ lt. (omega arith, omega (lt, arith)))
          (λ past. absurd (none_in s (subst (λ zs. Contains zs s) (no_states_past core j past) inner))) (within_or_past j (length core.regions))

  holder_there : (q s : ℕ) → Contains (around core q) s → IsThere core q × IsThere core (holder core s)
  holder_there q s inner =
      let child = child_of c rules core_rules q s inner in
      (around_there core q s inner, holds_there s (super_there c rules core_rules s child.0 child.1))

  state_there : (r p : ℕ) → IsThere core r → p < length (region_at core r).states → IsState core (state_in core r p) × (holder core (state_in core r p) ≡ r)
  state_there r p there lt =
      let one = slice_get_there (region_at core r).states p lt in
      let is : state_in core r p ≡ one.0 = ap (λ o. unwrap_or o 0) one.1 in
      let held : holder core (state_in core r p) ≡ r =
      ap (holder core) is ∙ rows.core_tree.held r one.0 (contains_get (region_at core r).states p one.0 one.1) in
      (held_there core (state_in core r p) r held there, held)

  leads_in : (s : ℕ) (tests : List Transition) → Each (Leads core s) tests →
      LeadIn core rows.core_tree rows.core_entries rows.core_elsewhere state_there (holder core s) tests
  leads_in s [] each = tt
  leads_in s (t ∷ tests) each = (each.0, leads_in s tests each.1)

  bare : (s : ℕ) → IsState core s → (state_at core s).regions ≡ [] → (state_at core s).opened ≡ []
  bare s here none =
      no_moves (state_at core s).opened
      (λ q zs.
      rows.core_elsewhere s q zs here
      (λ inner. let child = child_of c rules core_rules q s inner in none_in child.0 (subst (λ rs. Contains rs child.0) none child.1)))

  begins_in : (n r : ℕ) → Contains (state_at core n).regions r → Firsts core n
  begins_in n r h =
      let fork = fork_of c rules core_rules n r h in subst (Firsts core) fork.3 (firsts_of c rules core_rules fork.0 fork.1 fork.2)

  once : (r n : ℕ) (ns : List ℕ) → IsThere core r → around core r ≡ n ∷ ns → Once r (state_at core n).regions
  once r n ns there round =
      let h : Contains (state_at core n).regions r = rows.core_tree.innermost r n ns round in
      let fork = fork_of c rules core_rules n r h in
      subst (λ z. Once r (state_at core z).regions) fork.3
      (once_among c rules core_rules r fork.0 fork.1 fork.2 (subst (λ z. Contains (state_at core z).regions r) (sym fork.3) h))

  pub core_ground : Ground core
  core_ground =
      record {
        tree = rows.core_tree;
        holder_there = holder_there;
        entries = rows.core_entries;
        elsewhere = rows.core_elsewhere;
        state_there = state_there;
        firsts = begins_in;
        once = once;
        leads = λ s here. leads_in s (own core s) (charts_lead features.Core (expanded c) core_rules s here);
        bare = bare;
      }

  -- ---- in which states it begins

  init : Initials k core i rows.rows rows.tree rows.core_tree (tops c rules) k.opened core.opened
  init = initials k core i rows.rows rows.tree rows.core_tree (tops c rules) k.opened core.opened (entered c rules)

  -- of one of these states, the region at whose thread it stands
  top_of : (x : ℕ) → Contains init.core_firsts x → (r : ℕ) × Contains (tops c rules) r × (i.thread_of r ≡ holder core x)
  top_of x h =
      contains_map i.thread_of (tops c rules) (holder core x)
      (subst (λ zs. Contains zs (holder core x)) init.threads (map_contains (holder core) init.core_firsts x h))

  pub core_tops : Tops core
  core_tops =
      record {
        firsts = init.core_firsts;
        opens = init.in_core;
        states = states;
        once = λ x h.
            let top = top_of x h in
            subst (Once (holder core x)) (sym init.threads)
            (subst (λ r. Once r (map i.thread_of (tops c rules))) top.2
            (subst (Once (i.thread_of top.0)) (append-nil (map i.thread_of (tops c rules)))
            (once_mapped i.thread_of (λ a b. rows.rows.region_once a b) top.0 (tops c rules) [] (numbers_once c.regions 1 top.0 top.1)
            (λ none. none_in (i.thread_of top.0) none))));
      }
    where
      states : (x : ℕ) → Contains init.core_firsts x → IsState core x × (around core (holder core x) ≡ []) × IsThere core (holder core x)
      states x h =
          let top = top_of x h in
          let its = top_there c rules top.0 top.1 in
          let there : IsThere core (holder core x) = subst (IsThere core) top.2 (rows.rows.region top.0 its.0).there in
          let bare_around : around core (holder core x) ≡ [] =
          ap (around core) (sym top.2) ∙ (rows.rows.encloses top.0 ∙ ap (map i.main_of) its.1) in
          (held_there core x (holder core x) refl there, bare_around, there)
