-- A region of the chart that is entered stays so: no step leads outside of it.
use Rattle.std.proofs.Common.{◌≡◌, ◌≢◌, ℕ, ⊎_elim, Bool, true, false, Option, Some, None, List, [], ◌∷◌, map, length}
use Rattle.std.proofs.Common.{slice_get, slice_set, unwrap_or, option_map, option_and_then, if◌then◌else◌, Contains, refl, sym, ap, subst, ◌∙◌}
use Rattle.std.proofs.lemmas.Option.{same_Some}
use Rattle.std.proofs.lemmas.Bool.{cases_lt}
use Rattle.sc_text.proofs.EachItem.{Each, each_append, each_more}
use Rattle.sc_values.specs.declared.value.Value.{Value}
use Rattle.sc_values.specs.Operator.{kind_of}
use Rattle.sc_values.specs.Expr.{value as value_of}
use Rattle.sc_graph.specs.Steps.{only_if, takes_kind}
use Rattle.core_charts.specs.declared.features.Features.{Features}
use Rattle.core_charts.specs.Chart.{Chart}
use Rattle.core_charts.specs.Rules.{IsChart}
use Rattle.core_charts.specs.declared.region.Effect.{Effect}
use Rattle.core_charts.specs.declared.region.Transition.{Transition}
use Rattle.chart_machine.specs.declared.region_change.RegionChange.{RegionChange}
use Rattle.chart_machine.specs.declared.standing.Standing.{Standing}
use Rattle.chart_machine.specs.declared.standing.Standing.TheVariants as at
use Rattle.chart_machine.specs.declared.standing.Move.{Move}
use Rattle.chart_machine.specs.declared.standing.Configuration.{Configuration}
use Rattle.chart_machine.specs.declared.table.Table.{Table}
use Rattle.chart_machine.specs.Table.{table, state_at}
use Rattle.chart_machine.specs.Turns.{standing_of, inside, is_enabled}
use Rattle.chart_machine.specs.Steps.{to, moved, after, verdict, state_in, dropped, acts, taken, entering_on, guarding_on, effected, change_of, step}
use Rattle.chart_machine_laws.specs.Tree.{IsThere, around}
use Rattle.chart_machine_laws.proofs.LyingIn.{none_in, head_in, tail_in}
use Rattle.abort_expansion_laws.proofs.InsideAround.{inside_around}
use Rattle.tick_laws.proofs.Lists.{same_or_not}
use Rattle.abort_expansion_laws.proofs.Unchanged.{get_same, get_other}
use Rattle.abort_expansion_laws.proofs.EnteredMoves.{Comes, Enters, entering_comes}
use Rattle.sc_graph.specs.Tick.{Inputs}
use Rattle.chart_machine.specs.Machine.{start}
use Rattle.abort_expansion_laws.specs.CoreRows.{Images}
use Rattle.abort_expansion_laws.proofs.Owed.{Resting}
use Rattle.abort_expansion_laws.proofs.WokenConfigurations.{woken_at, present_after}
use Rattle.abort_expansion_laws.proofs.LaterTicks.{chart_has_begun}
use Rattle.abort_expansion_laws.proofs.NumberedRegions.{past_number}

module _ (k : Table) (enters : (s : ℕ) → Enters (state_at k s)) (q : ℕ) (root : around k q ≡ []) where
  abbrev Spares : Move → Type 0
  Spares m = m.region ≡ q → m.standing ≢ at.Outside

  abbrev AllSpare : List Move → Type 0
  AllSpare ms = Each Spares ms

  one_moved : (m : Move) (zs : List Standing) → Spares m → unwrap_or (slice_get zs q) at.Outside ≢ at.Outside →
      unwrap_or (slice_get (slice_set zs m.region m.standing) q) at.Outside ≢ at.Outside
  one_moved m zs spares before =
      ⊎_elim
      (λ same.
      ⊎_elim
      (λ lt. λ e.
      spares (sym same)
      (sym (ap (λ o. unwrap_or o at.Outside)
      (ap (λ g. slice_get (slice_set zs g m.standing) q) (sym same) ∙ get_same zs q m.standing lt)) ∙ e))
      (λ past. absurd (before (past_number zs q past))) (cases_lt q (length zs)))
      (λ ne. λ e. before (sym (ap (λ o. unwrap_or o at.Outside) (get_other zs m.region q m.standing ne)) ∙ e)) (same_or_not q m.region)

  all_moved : (ms : List Move) (zs : List Standing) → AllSpare ms → unwrap_or (slice_get zs q) at.Outside ≢ at.Outside →
      unwrap_or (slice_get (moved ms zs) q) at.Outside ≢ at.Outside
  all_moved [] zs spares before = before
  all_moved (m ∷ ms) zs spares before = all_moved ms (slice_set zs m.region m.standing) spares.1 (one_moved m zs spares.0 before)

  -- ---- the moves of a step

  come : (ms : List Move) → Each Comes ms → AllSpare ms
  come ms h = each_more Comes Spares ms (λ m comes same. comes) h

  all_dropped : (rs : List ℕ) → ((r : ℕ) → Contains rs r → r ≢ q) → AllSpare (map (λ r. to r at.Outside) rs)
  all_dropped [] apart = tt
  all_dropped (r ∷ rs) apart = ((λ same. absurd (apart r (head_in r rs) same)), all_dropped rs (λ z h. apart z (tail_in r z rs h)))

  not_inside : (s r : ℕ) → Contains (inside k s) r → r ≢ q
  not_inside s r h same = none_in s (subst (λ zs. Contains zs s) (ap (around k) same ∙ root) (inside_around k s r h))

  acts_spare : (r s : ℕ) (effects : List Effect) (target : ℕ) → AllSpare (acts k r s effects target)
  acts_spare r s [] target = come (state_at k (state_in k r target)).entered (enters (state_in k r target)).entered
  acts_spare r s (e ∷ effects) target = ((λ same out. absurd cc), tt)

  taken_spare : (r s : ℕ) (t : Transition) → AllSpare (taken k r s t)
  taken_spare r s t =
      each_append Spares (dropped k s) (acts k r s t.effects t.target) (all_dropped (inside k s) (not_inside s)) (acts_spare r s t.effects t.target)

  entering_spare : (r s : ℕ) (tests : List Transition) → AllSpare (entering_on k r s tests)
  entering_spare r s [] = ((λ same out. absurd cc), come (state_at k s).opened (enters s).opened)
  entering_spare r s (t ∷ tests) = ((λ same out. absurd cc), tt)

  guarding_spare : (r s : ℕ) (tests : List Transition) → AllSpare (guarding_on k r s tests)
  guarding_spare r s [] = ((λ same out. absurd cc), tt)
  guarding_spare r s (t ∷ tests) = ((λ same out. absurd cc), tt)

  by_verdict : (ins outs : List Move) (d : RegionChange) (v : Option Bool) →
      option_map (λ holds. record { write = None; moves = if holds then ins else outs }) v ≡ Some d → AllSpare ins → AllSpare outs → AllSpare d.moves
  by_verdict ins outs d None e ones others = absurd cc
  by_verdict ins outs d (Some true) e ones others = subst (λ (z : RegionChange). AllSpare z.moves) (same_Some (record { write = None; moves = ins }) d e) ones
  by_verdict ins outs d (Some false) e ones others = subst (λ (z : RegionChange). AllSpare z.moves)
      (same_Some (record { write = None; moves = outs }) d e) others

  by_kind : (b : Bool) (given d : RegionChange) → only_if b (Some given) ≡ Some d → AllSpare given.moves → AllSpare d.moves
  by_kind true given d e spares = subst (λ (z : RegionChange). AllSpare z.moves) (same_Some given d e) spares
  by_kind false given d e spares = absurd cc

  by_value : (r s target : ℕ) (f : Effect) (effects : List Effect) (d : RegionChange) (v : Option Value) →
      option_and_then (effected k r s f effects target) v ≡ Some d → AllSpare d.moves
  by_value r s target f effects d None e = absurd cc
  by_value r s target f effects d (Some v) e =
      by_kind (takes_kind (option_map (λ x. x.kind) (slice_get k.variables f.variable)) (kind_of v))
      (record { write = Some (record { variable = f.variable; value = v }); moves = acts k r s effects target }) d e (acts_spare r s effects target)

  change_spares : (c : Configuration) (r : ℕ) (x : Standing) (d : RegionChange) → change_of k c r x ≡ Some d → AllSpare d.moves
  change_spares c r at.Outside d e = absurd cc
  change_spares c r at.Ended d e = absurd cc
  change_spares c r (at.Trying s []) d e = absurd cc
  change_spares c r (at.Trying s (t ∷ tests)) d e =
      by_verdict (taken k r s t) (to r (at.Trying s tests) ∷ []) d (verdict c.variables t.trigger) e (taken_spare r s t) ((λ same out. absurd cc), tt)
  change_spares c r (at.Entering s []) d e = absurd cc
  change_spares c r (at.Entering s (t ∷ tests)) d e =
      by_verdict (taken k r s t) (entering_on k r s tests) d (verdict c.variables t.trigger) e (taken_spare r s t) (entering_spare r s tests)
  change_spares c r (at.Guarding s []) d e = absurd cc
  change_spares c r (at.Guarding s (t ∷ tests)) d e =
      by_verdict (taken k r s t) (guarding_on k r s tests) d (verdict c.variables t.trigger) e (taken_spare r s t) (guarding_spare r s tests)
  change_spares c r (at.Within s []) d e = absurd cc
  change_spares c r (at.Within s (t ∷ tests)) d e =
      by_verdict (taken k r s t) (to r (at.Within s tests) ∷ []) d (verdict c.variables t.trigger) e (taken_spare r s t) ((λ same out. absurd cc), tt)
  change_spares c r (at.Acting s [] target) d e = absurd cc
  change_spares c r (at.Acting s (f ∷ effects) target) d e = by_value r s target f effects d (value_of f.value c.variables) e

  -- ---- a step

  pub still_begun : (c next : Configuration) (r : ℕ) → step k r c ≡ Some next → standing_of c q ≢ at.Outside → standing_of next q ≢ at.Outside
  still_begun c next r steps before = by_enabled (is_enabled k c r) (change_of k c r (standing_of c r)) refl steps
    where
      by_enabled : (b : Bool) (o : Option RegionChange) → change_of k c r (standing_of c r) ≡ o → only_if b (option_map (λ d. after d c) o) ≡ Some next →
          standing_of next q ≢ at.Outside
      by_enabled true None is e = absurd cc
      by_enabled true (Some d) is e =
          subst (λ z. standing_of z q ≢ at.Outside) (same_Some (after d c) next e)
          (all_moved d.moves c.regions (change_spares c r (standing_of c r) d is) before)
      by_enabled false o is e = absurd cc

-- a region that lies in no superstate is entered
abbrev pub HasBegun : Table → Configuration → Type 0
HasBegun k c = (r : ℕ) × IsThere k r × (around k r ≡ []) × (standing_of c r ≢ at.Outside)

pub charts_stay_begun : (f : Features) (h : Chart) → IsChart f h → (c next : Configuration) (r : ℕ) → step (table h) r c ≡ Some next →
    HasBegun (table h) c → HasBegun (table h) next
charts_stay_begun f h rules c next r steps begun =
    (begun.0, begun.1, begun.2, still_begun (table h) (entering_comes f h rules) begun.0 begun.2 c next r steps begun.3)

-- so it is when a tick begins behind another one
pub starts_begun : (k core : Table) (i : Images) (before core_before : Configuration) → Resting k core i before core_before → (inputs : Inputs) →
    HasBegun k (start k inputs before)
starts_begun k core i before core_before rests inputs =
    rw (chart_has_begun k core i before core_before rests) (
      rests.begun.0,
      rests.begun.1,
      rests.begun.2,
      λ e. present_after k (standing_of before rests.begun.0) rests.begun.3 (sym (woken_at k before.regions rests.begun.0) ∙ e),
    )
