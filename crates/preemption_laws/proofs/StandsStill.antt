-- A step of a chart keeps that each region stands in a state of its own, and that its tests lead to states of its own.
use Rattle.std.proofs.Common.{◌≡◌, ℕ, zero, suc, ◌+◌, ◌<◌, ◌≤◌, ⊎_elim, Bool, true, false, cond, List, [], ◌∷◌, ◌++◌, map, filter}
use Rattle.std.proofs.Common.{length, slice_set, Contains, refl, sym, subst, arith}
use Rattle.std.proofs.lemmas.Bool.{cases_lt}
use Rattle.std.proofs.lemmas.List.{length-set}
use Rattle.sc_text.proofs.EachItem.{Each, each_append}
use Rattle.core_charts.specs.declared.region.Effect.{Effect}
use Rattle.core_charts.specs.declared.region.Transition.{Transition}
use Rattle.core_charts.specs.Tests.{is_strong, is_weak, is_join, at_once, strong_aborts, weak_aborts, terminations, closing_tests, first_closing_tests}
use Rattle.chart_machine.specs.declared.standing.Move.{Move}
use Rattle.chart_machine.specs.declared.standing.Standing.{Standing}
use Rattle.chart_machine.specs.declared.standing.Standing.TheVariants as at
use Rattle.chart_machine.specs.declared.table.Table.{Table}
use Rattle.chart_machine.specs.Steps.{to, moved, state_in, dropped, acts, taken}
use Rattle.chart_machine.specs.Table.{state_at, region_at}
use Rattle.chart_machine.specs.Turns.{inside}
use Rattle.chart_machine_laws.specs.Tree.{IsThere, IsTree, around, holder}
use Rattle.chart_machine_laws.proofs.LyingIn.{head_in, tail_in}
use Rattle.tick_laws.proofs.Lists.{same_or_not, map_contains}
use Rattle.abort_expansion_laws.specs.CoreRows.{own, IsState}
use Rattle.abort_expansion_laws.proofs.ChartSteps.{Makes, takes_trying, takes_entering, takes_guarding, takes_within, tries_on, enters_on, guards_on}
use Rattle.abort_expansion_laws.proofs.ChartSteps.{waits_on, acts_on}
use Rattle.abort_expansion_laws.proofs.FreshInside.{all_entered}
use Rattle.abort_expansion_laws.proofs.Leaving.{at_number, set_here, set_other}
use Rattle.abort_expansion_laws.proofs.StateEntry.{Entry, entry_ends, entry_tries, entry_guards, entry_opens}
use Rattle.abort_expansion_laws.proofs.NumberedRegions.{past_number}
use Rattle.preemption_laws.proofs.EnclosedStill.{Firsts}
use Rattle.preemption_laws.proofs.MovesInside.{LeadIn, MayStand}

module _ (k : Table) (tree : IsTree k) (holder_there : (q s : ℕ) → Contains (around k q) s → IsThere k q × IsThere k (holder k s))
    (entries : (x : ℕ) → IsState k x → Entry k x)
    (elsewhere : (s t : ℕ) (zs : List Standing) → IsState k s → ¬ Contains (around k t) s → at_number (moved (state_at k s).opened zs) t ≡ at_number zs t)
    (state_there : (r p : ℕ) → IsThere k r → p < length (region_at k r).states → IsState k (state_in k r p) × (holder k (state_in k r p) ≡ r))
    (firsts : (s r : ℕ) → Contains (state_at k s).regions r → Firsts k s)
    (leads : (s : ℕ) → IsState k s → LeadIn k tree entries elsewhere state_there (holder k s) (own k s))
    (bare : (s : ℕ) → IsState k s → (state_at k s).regions ≡ [] → (state_at k s).opened ≡ []) where
  abbrev n : ℕ
  n = suc (length k.regions)

  abbrev Lead : ℕ → List Transition → Type 0
  Lead r tests = LeadIn k tree entries elsewhere state_there r tests

  abbrev May : ℕ → Standing → Type 0
  May r x = MayStand k tree entries elsewhere state_there r x

  abbrev Fits : Move → Type 0
  Fits m = May m.region m.standing

  -- ---- tests

  lead_filter : (p : Transition → Bool) (r : ℕ) (ts : List Transition) → Lead r ts → Lead r (filter p ts)
  lead_filter p r [] h = tt
  lead_filter p r (t ∷ ts) h = by (p t) (lead_filter p r ts h.1)
    where
      by : (b : Bool) → Lead r (filter p ts) → Lead r (cond b (t ∷ filter p ts) (filter p ts))
      by true rest = (h.0, rest)
      by false rest = rest

  lead_both : (r : ℕ) (ts us : List Transition) → Lead r ts → Lead r us → Lead r (ts ++ us)
  lead_both r [] us h g = g
  lead_both r (t ∷ ts) us h g = (h.0, lead_both r ts us h.1 g)

  pub lead_strong : (s : ℕ) → IsState k s → Lead (holder k s) (strong_aborts (own k s))
  lead_strong s is = lead_filter (λ t. is_strong t.kind) (holder k s) (own k s) (leads s is)

  pub lead_closing : (s : ℕ) → IsState k s → Lead (holder k s) (closing_tests (own k s))
  lead_closing s is =
      lead_both (holder k s) (weak_aborts (own k s)) (terminations (own k s)) (lead_filter (λ t. is_weak t.kind) (holder k s) (own k s) (leads s is))
      (lead_filter (λ t. is_join t.kind) (holder k s) (own k s) (leads s is))

  lead_first : (s : ℕ) → IsState k s → Lead (holder k s) (first_closing_tests (own k s))
  lead_first s is =
      lead_both (holder k s) (at_once (weak_aborts (own k s))) (terminations (own k s))
      (lead_filter (λ t. t.immediate) (holder k s) (weak_aborts (own k s)) (lead_filter (λ t. is_weak t.kind) (holder k s) (own k s) (leads s is)))
      (lead_filter (λ t. is_join t.kind) (holder k s) (own k s) (leads s is))

  -- ---- what entering makes

  by_entry : (x : ℕ) → IsState k x → Each Fits (state_at k x).opened → Entry k x → Each Fits (state_at k x).entered
  by_entry x is opened (entry_ends e) = subst (Each Fits) (sym e) (tt, tt)
  by_entry x is opened (entry_tries none e) =
      subst (Each Fits) (sym e) ((is, refl, lead_filter (λ t. t.immediate) (holder k x) (own k x) (leads x is)), tt)
  by_entry x is opened (entry_guards t tests some strong e) =
      subst (Each Fits) (sym e) (
        (
          is,
          refl,
          subst (Lead (holder k x)) strong (lead_filter (λ t. t.immediate) (holder k x) (strong_aborts (own k x)) (lead_strong x is)),
        ),
        tt,
      )
  by_entry x is opened (entry_opens some strong e) = subst (Each Fits) (sym e) ((is, refl, lead_first x is), opened)

  pub each_entered : (xs : List ℕ) → ((x : ℕ) → Contains xs x → Each Fits (state_at k x).entered) → Each Fits (all_entered k xs)
  each_entered [] each = tt
  each_entered (x ∷ xs) each =
      each_append Fits (state_at k x).entered (all_entered k xs) (each x (head_in x xs)) (each_entered xs (λ y h. each y (tail_in x y xs h)))

  -- by the states in which its regions begin, which lie deeper
  opened_by : (s : ℕ) → IsState k s → ((x : ℕ) → IsState k x → holder k s < holder k x → holder k x < n → Each Fits (state_at k x).entered) →
      Each Fits (state_at k s).opened
  opened_by s is each = by_regions (state_at k s).regions refl
    where
      by_regions : (rs : List ℕ) → (state_at k s).regions ≡ rs → Each Fits (state_at k s).opened
      by_regions [] none = subst (Each Fits) (sym (bare s is none)) tt
      by_regions (r ∷ rs) some =
          let all : Firsts k s = firsts s r (subst (λ zs. Contains zs r) (sym some) (head_in r rs)) in
          subst (Each Fits) (sym all.opens)
          (each_entered all.firsts
          (λ x h.
          let direct = tree.children s (holder k x) (subst (λ zs. Contains zs (holder k x)) all.holders (map_contains (holder k) all.firsts x h)) in
          let inner : Contains (around k (holder k x)) s = subst (λ zs. Contains zs s) (sym direct) (head_in s (around k (holder k s))) in
          each x (all.states x h) (tree.deeper (holder k x) s inner) (holder_there (holder k x) s inner).0.1))

  opened_fits : (fuel s : ℕ) → IsState k s → n ≤ holder k s + fuel → Each Fits (state_at k s).opened
  opened_fits zero s is few = opened_by s is (λ x here up lt. absurd (omega (few, up, lt, arith)))
  opened_fits (suc fuel) s is few = opened_by s is (λ x here up lt. by_entry x here (opened_fits fuel x here (omega (few, up, arith))) (entries x here))

  pub all_opened_fits : (s : ℕ) → IsState k s → Each Fits (state_at k s).opened
  all_opened_fits s is = opened_fits n s is (omega arith)

  pub entered_fits : (x : ℕ) → IsState k x → Each Fits (state_at k x).entered
  entered_fits x is = by_entry x is (all_opened_fits x is) (entries x is)

  -- ---- the moves of a step

  all_dropped : (rs : List ℕ) → Each Fits (map (λ r. to r at.Outside) rs)
  all_dropped [] = tt
  all_dropped (r ∷ rs) = (tt, all_dropped rs)

  acts_fit : (r s : ℕ) (effects : List Effect) (p : ℕ) → IsThere k r → p < length (region_at k r).states → Each Fits (acts k r s effects p)
  acts_fit r s [] p there lt = entered_fits (state_in k r p) (state_there r p there lt).0
  acts_fit r s (e ∷ effects) p there lt = (lt, tt)

  taken_fit : (r s : ℕ) (t : Transition) → IsThere k r → t.target < length (region_at k r).states → Each Fits (taken k r s t)
  taken_fit r s t there lt =
      each_append Fits (dropped k s) (acts k r s t.effects t.target) (all_dropped (inside k s)) (acts_fit r s t.effects t.target there lt)

  moves_fit : (r : ℕ) → IsThere k r → (x : Standing) (ms : List Move) → Makes k r x ms → May r x → Each Fits ms
  moves_fit r there _ _ (takes_trying s t tests) h = taken_fit r s t there h.2.0
  moves_fit r there _ _ (takes_entering s t tests) h = taken_fit r s t there h.2.0
  moves_fit r there _ _ (takes_guarding s t tests) h = taken_fit r s t there h.2.0
  moves_fit r there _ _ (takes_within s t tests) h = taken_fit r s t there h.2.0
  moves_fit r there _ _ (tries_on s t tests) h = ((h.0, h.1, h.2.1), tt)
  moves_fit r there _ _ (enters_on s t []) h =
      ((h.0, h.1, subst (λ z. Lead z (first_closing_tests (own k s))) h.1 (lead_first s h.0)), all_opened_fits s h.0)
  moves_fit r there _ _ (enters_on s t (u ∷ tests)) h = ((h.0, h.1, h.2.1), tt)
  moves_fit r there _ _ (guards_on s t []) h = ((h.0, h.1, subst (λ z. Lead z (closing_tests (own k s))) h.1 (lead_closing s h.0)), tt)
  moves_fit r there _ _ (guards_on s t (u ∷ tests)) h = ((h.0, h.1, h.2.1), tt)
  moves_fit r there _ _ (waits_on s t tests) h = ((h.0, h.1, h.2.1), tt)
  moves_fit r there _ _ (acts_on s p e effects) h = acts_fit r s effects p there h

  one_moved : (m : Move) (zs : List Standing) → Fits m → (q : ℕ) → May q (at_number zs q) → May q (at_number (slice_set zs m.region m.standing) q)
  one_moved m zs fits q before =
      ⊎_elim here (λ ne. subst (May q) (sym (set_other zs m.region q m.standing ne)) before) (same_or_not q m.region)
    where
      here : q ≡ m.region → May q (at_number (slice_set zs m.region m.standing) q)
      here same =
          ⊎_elim
          (λ lt.
          subst (λ z. May z (at_number (slice_set zs m.region m.standing) z)) (sym same) (subst (May m.region) (sym (set_here zs m.region m.standing lt)) fits))
          (λ past.
          let size = length-set zs m.region m.standing in
          subst (May q) (sym (past_number (slice_set zs m.region m.standing) q (omega (size, past, same, arith)))) tt)
          (cases_lt m.region (length zs))

  pub all_moved : (ms : List Move) (zs : List Standing) → Each Fits ms → ((q : ℕ) → May q (at_number zs q)) → (q : ℕ) → May q (at_number (moved ms zs) q)
  all_moved [] zs fit before q = before q
  all_moved (m ∷ ms) zs fit before q = all_moved ms (slice_set zs m.region m.standing) fit.1 (λ u. one_moved m zs fit.0 u (before u)) q

  -- so each region stands as it may after the step
  pub stands_still : (r : ℕ) → IsThere k r → (x : Standing) (ms : List Move) → Makes k r x ms → May r x → (zs : List Standing) →
      ((q : ℕ) → May q (at_number zs q)) → (q : ℕ) → May q (at_number (moved ms zs) q)
  stands_still r there x ms makes h zs before q = all_moved ms zs (moves_fit r there x ms makes h) before q
