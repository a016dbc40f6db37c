-- First states of regions, what is past the end of a table, and that who has aborts has flags.
use Rattle.std.proofs.Common.{◌≡◌, ℕ, zero, suc, ◌≤◌}
use Rattle.std.proofs.Common.{Bool, true, false, ◌||◌, ◌&&◌, Option, Some, List, [], ◌∷◌}
use Rattle.std.proofs.Common.{length, slice_get, unwrap_or, refl, ap, subst, ◌∙◌, arith}
use Rattle.std.specs.Prelude.{filter}
use Rattle.std.specs.List.{list_any}
use Rattle.std.proofs.lemmas.Option.{none-some, same_Some, slice_get_past}
use Rattle.sc_text.proofs.EachItem.{each_at}
use Rattle.core_charts.specs.Chart.{Chart}
use Rattle.core_charts.specs.Rules.{IsChart, depth_limit}
use Rattle.core_charts.specs.declared.region.Transition.{Transition}
use Rattle.chart_machine.specs.declared.table.StateRow.{StateRow}
use Rattle.chart_machine.specs.declared.table.RegionRow.{RegionRow}
use Rattle.chart_machine.specs.declared.table.Table.{Table}
use Rattle.chart_machine.specs.Table.{table, whole, region_at}
use Rattle.chart_machine_laws.specs.Tree.{IsThere, around, holder}
use Rattle.chart_machine_laws.proofs.ChartTables.{row_there}
use Rattle.abort_expansion.specs.declared.flags.Flags.{Flags}
use Rattle.abort_expansion.specs.Flags.{has_join, given, weak_around, aborts_around, is_there}
use Rattle.core_charts.specs.Aborts.{has_aborts}
use Rattle.abort_expansion.specs.Superstates.{stays, is_prepared}
use Rattle.abort_expansion_laws.specs.CoreRows.{is_final, CoreRows}
use Rattle.abort_expansion_laws.proofs.ChartWalk.{rows_have, HasState}

-- ---- each region has a first state

pub region_is : (k : Table) (j : ℕ) (row : RegionRow) → slice_get k.regions j ≡ Some row → region_at k (suc j) ≡ row
region_is k j row e = ap (λ o. unwrap_or o (record { around = []; states = [] })) e

pub first_state : (f : Rattle.core_charts.specs.declared.features.Features.Features) (c : Chart) → IsChart f c → (r : ℕ) → IsThere (table c) r →
    (s : ℕ) × ((more : List ℕ) × ((region_at (table c) r).states ≡ s ∷ more))
first_state f c rules zero there = absurd (omega (there.0, arith))
first_state f c rules (suc j) there =
    let row = row_there (table c).regions j (omega (there.1, arith)) in
    let has : HasState row.0 = each_at HasState (table c).regions (rows_have f c.variables depth_limit c.regions rules.regions whole) j row.0 row.1 in
    (has.0, (has.1.0, ap (λ z. z.states) (region_is (table c) j row.0 row.1) ∙ has.1.1))

-- ---- what is past the end of a table

pub no_holder_past : (k : Table) (s : ℕ) → length k.states ≤ s → holder k s ≡ 0
no_holder_past k s past =
    ap (λ (o : Option StateRow). (unwrap_or {T = StateRow} o (record { holder = 0; regions = []; transitions = []; entered = []; opened = [] })).holder)
    (slice_get_past k.states s past)

pub no_entered_past : (k : Table) (s : ℕ) → length k.states ≤ s → is_final k s ≡ false
no_entered_past k s past =
    ap (λ (o : Option StateRow). Rattle.abort_expansion_laws.specs.CoreRows.ends (unwrap_or {T = StateRow} o (record {
      holder = 0;
      regions = [];
      transitions = [];
      entered = [];
      opened = [];
    })).entered) (slice_get_past k.states s past)

-- ---- who has aborts has flags

pub any_first : (P : Transition → Bool) (all : List Transition) (n : ℕ) (t : Transition) → slice_get (filter P all) n ≡ Some t → list_any P all ≡ true
any_first P [] n t e = absurd (none-some t e)
any_first P (x ∷ all) n t e = by_own (P x) refl e (λ rest. any_first P all n t rest)
  where
    by_own : (b : Bool) → P x ≡ b → slice_get (filter P (x ∷ all)) n ≡ Some t → (slice_get (filter P all) n ≡ Some t → list_any P all ≡ true) →
        (P x || list_any P all) ≡ true
    by_own true is e rest = rw (is) refl
    by_own false is e rest = rw (is) (rest (subst (λ zs. slice_get zs n ≡ Some t) (not_kept is) e))
      where
        not_kept : P x ≡ false → filter P (x ∷ all) ≡ filter P all
        not_kept is = rw (is) refl

pub given_some : (b : Bool) (x : ℕ) → b ≡ true → given b x ≡ Some x
given_some true x e = refl
given_some false x e = absurd cc

pub given_is : (b : Bool) (x y : ℕ) → given b x ≡ Some y → x ≡ y
given_is true x y e = same_Some x y e
given_is false x y e = absurd cc

-- what is prepared does not stay as it is
pub prepared_apart : (around : List Flags) (all : List Transition) → is_prepared around all ≡ true → stays around all ≡ false
prepared_apart around all e = by_aborts (has_aborts all) (aborts_around around) (has_join all) (weak_around around) (weak_some around) e
  where
    weak_some : (fs : List Flags) → weak_around fs ≡ true → aborts_around fs ≡ true
    weak_some [] e = absurd cc
    weak_some (f ∷ fs) e = by_weak (is_there f.strong) (is_there f.weak) (weak_some fs) e
      where
        by_weak : (a b : Bool) → (weak_around fs ≡ true → aborts_around fs ≡ true) → (b || weak_around fs) ≡ true → ((a || b) || aborts_around fs) ≡ true
        by_weak true b rest e = refl
        by_weak false true rest e = refl
        by_weak false false rest e = rest e

    by_aborts : (a b j v : Bool) → (v ≡ true → b ≡ true) → (a || (j && (a || v))) ≡ true → Rattle.std.specs.Prelude.not (a || b) ≡ false
    by_aborts true b j v some e = refl
    by_aborts false true j v some e = refl
    by_aborts false false true true some e = let wrong : false ≡ true = some refl in absurd cc
    by_aborts false false true false some e = absurd cc
    by_aborts false false false v some e = absurd cc
