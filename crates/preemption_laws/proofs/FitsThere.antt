-- What holds of each region and where it stands as states are entered holds of all moves of entering: a rule for any such property, over a table without
-- strong aborts.
use Rattle.std.proofs.Common.{◌≡◌, ℕ, zero, suc, ◌+◌, ◌<◌, ◌≤◌, ⊎_elim, List, [], ◌∷◌, map, length, slice_set, Contains, refl, sym}
use Rattle.std.proofs.Common.{ap, subst, ◌∙◌, arith}
use Rattle.std.proofs.lemmas.Bool.{cases_lt}
use Rattle.std.proofs.lemmas.List.{length-set}
use Rattle.sc_text.proofs.EachItem.{Each, each_append}
use Rattle.core_charts.specs.Tests.{at_once, strong_aborts, first_closing_tests}
use Rattle.chart_machine.specs.declared.standing.Move.{Move}
use Rattle.chart_machine.specs.declared.standing.Standing.{Standing}
use Rattle.chart_machine.specs.declared.standing.Standing.TheVariants as at
use Rattle.chart_machine.specs.declared.table.Table.{Table}
use Rattle.chart_machine.specs.Steps.{to, moved}
use Rattle.chart_machine.specs.Table.{state_at}
use Rattle.chart_machine_laws.specs.Tree.{around, holder}
use Rattle.chart_machine_laws.proofs.LyingIn.{head_in, tail_in}
use Rattle.tick_laws.proofs.Lists.{same_or_not, map_contains}
use Rattle.abort_expansion_laws.specs.CoreRows.{own, IsState}
use Rattle.abort_expansion_laws.proofs.FreshInside.{all_entered}
use Rattle.abort_expansion_laws.proofs.Leaving.{at_number, set_here, set_other}
use Rattle.abort_expansion_laws.proofs.StateEntry.{Entry, entry_ends, entry_tries, entry_guards, entry_opens}
use Rattle.abort_expansion_laws.proofs.NumberedRegions.{past_number}
use Rattle.preemption_laws.proofs.EnclosedStill.{Firsts}
use Rattle.preemption_laws.proofs.Ground.{Ground}

module _ (k : Table) (g : Ground k) (no_strong : (s : ℕ) → strong_aborts (own k s) ≡ []) (Fits : ℕ → Standing → Type 0)
    (outside : (r : ℕ) → Fits r at.Outside) (ended : (r : ℕ) → Fits r at.Ended)
    (tries : (x : ℕ) → IsState k x → Fits (holder k x) (at.Trying x (at_once (own k x))))
    (waits : (x : ℕ) → IsState k x → Fits (holder k x) (at.Within x (first_closing_tests (own k x)))) where
  abbrev pub FitsMove : Move → Type 0
  FitsMove m = Fits m.region m.standing

  abbrev n : ℕ
  n = suc (length k.regions)

  by_entry : (x : ℕ) → IsState k x → Each FitsMove (state_at k x).opened → Entry k x → Each FitsMove (state_at k x).entered
  by_entry x is opened (entry_ends e) = subst (Each FitsMove) (sym e) (ended (holder k x), tt)
  by_entry x is opened (entry_tries none e) = subst (Each FitsMove) (sym e) (tries x is, tt)
  by_entry x is opened (entry_guards t tests some strong e) =
      absurd (let wrong : [] ≡ t ∷ tests = sym (ap at_once (no_strong x)) ∙ strong in cc)
  by_entry x is opened (entry_opens some strong e) = subst (Each FitsMove) (sym e) (waits x is, opened)

  pub each_entered_fits : (xs : List ℕ) → ((x : ℕ) → Contains xs x → Each FitsMove (state_at k x).entered) → Each FitsMove (all_entered k xs)
  each_entered_fits [] each = tt
  each_entered_fits (x ∷ xs) each =
      each_append FitsMove (state_at k x).entered (all_entered k xs) (each x (head_in x xs)) (each_entered_fits xs (λ y h. each y (tail_in x y xs h)))

  -- by the states in which its regions begin, which lie deeper
  opened_by : (s : ℕ) → IsState k s → ((x : ℕ) → IsState k x → holder k s < holder k x → holder k x < n → Each FitsMove (state_at k x).entered) →
      Each FitsMove (state_at k s).opened
  opened_by s is each = by_regions (state_at k s).regions refl
    where
      by_regions : (rs : List ℕ) → (state_at k s).regions ≡ rs → Each FitsMove (state_at k s).opened
      by_regions [] none = subst (Each FitsMove) (sym (g.bare s is none)) tt
      by_regions (r ∷ rs) some =
          let all : Firsts k s = g.firsts s r (subst (λ zs. Contains zs r) (sym some) (head_in r rs)) in
          subst (Each FitsMove) (sym all.opens)
          (each_entered_fits all.firsts
          (λ x h.
          let direct = g.tree.children s (holder k x) (subst (λ zs. Contains zs (holder k x)) all.holders (map_contains (holder k) all.firsts x h)) in
          let inner : Contains (around k (holder k x)) s = subst (λ zs. Contains zs s) (sym direct) (head_in s (around k (holder k s))) in
          each x (all.states x h) (g.tree.deeper (holder k x) s inner) (g.holder_there (holder k x) s inner).0.1))

  opened_fits : (fuel s : ℕ) → IsState k s → n ≤ holder k s + fuel → Each FitsMove (state_at k s).opened
  opened_fits zero s is few = opened_by s is (λ x here up lt. absurd (omega (few, up, lt, arith)))
  opened_fits (suc fuel) s is few = opened_by s is (λ x here up lt. by_entry x here (opened_fits fuel x here (omega (few, up, arith))) (g.entries x here))

  pub all_opened_fits : (s : ℕ) → IsState k s → Each FitsMove (state_at k s).opened
  all_opened_fits s is = opened_fits n s is (omega arith)

  pub entered_fits : (x : ℕ) → IsState k x → Each FitsMove (state_at k x).entered
  entered_fits x is = by_entry x is (all_opened_fits x is) (g.entries x is)

  pub all_dropped : (rs : List ℕ) → Each FitsMove (map (λ r. to r at.Outside) rs)
  all_dropped [] = tt
  all_dropped (r ∷ rs) = (outside r, all_dropped rs)

  one_moved : (m : Move) (zs : List Standing) → FitsMove m → (q : ℕ) → Fits q (at_number zs q) → Fits q (at_number (slice_set zs m.region m.standing) q)
  one_moved m zs fits q before =
      ⊎_elim here (λ ne. subst (Fits q) (sym (set_other zs m.region q m.standing ne)) before) (same_or_not q m.region)
    where
      here : q ≡ m.region → Fits q (at_number (slice_set zs m.region m.standing) q)
      here same =
          ⊎_elim
          (λ lt.
          subst (λ z. Fits z (at_number (slice_set zs m.region m.standing) z)) (sym same)
          (subst (Fits m.region) (sym (set_here zs m.region m.standing lt)) fits))
          (λ past.
          let size = length-set zs m.region m.standing in
          subst (Fits q) (sym (past_number (slice_set zs m.region m.standing) q (omega (size, past, same, arith)))) (outside q))
          (cases_lt m.region (length zs))

  pub all_moved_fit : (ms : List Move) (zs : List Standing) → Each FitsMove ms → ((q : ℕ) → Fits q (at_number zs q)) → (q : ℕ) →
      Fits q (at_number (moved ms zs) q)
  all_moved_fit [] zs fit before q = before q
  all_moved_fit (m ∷ ms) zs fit before q = all_moved_fit ms (slice_set zs m.region m.standing) fit.1 (λ u. one_moved m zs fit.0 u (before u)) q
