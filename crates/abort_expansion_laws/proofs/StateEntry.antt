-- How a state is entered: it ends its region, is tested, tests its immediate strong aborts first, or is opened.
use Rattle.std.proofs.Common.{◌≡◌, ◌≢◌, ℕ, Bool, true, false, List, [], ◌∷◌, refl, sym, ap, ◌∙◌}
use Rattle.core_charts.specs.declared.region.Transition.{Transition}
use Rattle.core_charts.specs.Tests.{at_once, strong_aborts, first_closing_tests}
use Rattle.chart_machine.specs.declared.standing.Standing.TheVariants as at
use Rattle.chart_machine.specs.declared.standing.Move.{Move}
use Rattle.chart_machine.specs.declared.table.StateRow.{StateRow}
use Rattle.chart_machine.specs.declared.table.Table.{Table}
use Rattle.chart_machine.specs.declared.table.TablePosition.{TablePosition}
use Rattle.chart_machine.specs.Table.{Subtree, state_at, region_numbers, entered_state, is_superstate, come_to}
use Rattle.chart_machine.specs.Steps.{to}
use Rattle.chart_machine_laws.specs.Tree.{holder}
use Rattle.abort_expansion_laws.specs.CoreRows.{own}

pub data Entry (k : Table) (s : ℕ) : Type 0 where
  entry_ends : (state_at k s).entered ≡ to (holder k s) at.Ended ∷ [] → Entry k s
  entry_tries : (state_at k s).regions ≡ [] → (state_at k s).entered ≡ to (holder k s) (at.Trying s (at_once (own k s))) ∷ [] → Entry k s
  entry_guards : (t : Transition) (tests : List Transition) → (state_at k s).regions ≢ [] → at_once (strong_aborts (own k s)) ≡ t ∷ tests →
      (state_at k s).entered ≡ to (holder k s) (at.Entering s (t ∷ tests)) ∷ [] → Entry k s
  entry_opens : (state_at k s).regions ≢ [] → at_once (strong_aborts (own k s)) ≡ [] →
      (state_at k s).entered ≡ to (holder k s) (at.Within s (first_closing_tests (own k s))) ∷ (state_at k s).opened → Entry k s

abbrev row_of : TablePosition → Bool → List Subtree → List Transition → List Move → StateRow
row_of a final pieces all opened =
    record {
      holder = a.holder;
      regions = region_numbers pieces a.region;
      transitions = all;
      entered = entered_state final (is_superstate pieces) a all opened;
      opened = opened;
    }

module _ (k : Table) (a : TablePosition) (all : List Transition) (opened : List Move) where
  of_superstate : (p : Subtree) (pieces : List Subtree) → state_at k a.state ≡ row_of a false (p ∷ pieces) all opened →
      (strong : List Transition) → at_once (strong_aborts all) ≡ strong → Entry k a.state
  of_superstate p pieces is strong e = by_strong strong e
    where
      some : (state_at k a.state).regions ≢ []
      some none = let wrong : region_numbers (p ∷ pieces) a.region ≡ [] = sym (ap (λ z. z.regions) is) ∙ none in absurd cc

      tested_first : (strong : List Transition) → at_once (strong_aborts all) ≡ strong → at_once (strong_aborts (own k a.state)) ≡ strong
      tested_first strong e = ap (λ z. at_once (strong_aborts z.transitions)) is ∙ e

      by_strong : (strong : List Transition) → at_once (strong_aborts all) ≡ strong → Entry k a.state
      by_strong [] e =
          entry_opens some (tested_first [] e)
          (ap (λ z. z.entered) is ∙
          (ap (λ zs. come_to a.holder a.state zs (first_closing_tests all) opened) e ∙
          sym (ap (λ z. to z.holder (at.Within a.state (first_closing_tests z.transitions)) ∷ z.opened) is)))
      by_strong (t ∷ tests) e =
          entry_guards t tests some (tested_first (t ∷ tests) e)
          (ap (λ z. z.entered) is ∙
          (ap (λ zs. come_to a.holder a.state zs (first_closing_tests all) opened) e ∙
          sym (ap (λ z. to z.holder (at.Entering a.state (t ∷ tests)) ∷ []) is)))

  of_row : (final : Bool) (pieces : List Subtree) → state_at k a.state ≡ row_of a final pieces all opened → Entry k a.state
  of_row true pieces is = entry_ends (ap (λ z. z.entered) is ∙ sym (ap (λ z. to z.holder at.Ended ∷ []) is))
  of_row false [] is =
      entry_tries (ap (λ z. z.regions) is)
      (ap (λ z. z.entered) is ∙ sym (ap (λ z. to z.holder (at.Trying a.state (at_once z.transitions)) ∷ []) is))
  of_row false (p ∷ pieces) is = of_superstate p pieces is (at_once (strong_aborts all)) refl

pub entry_of : (k : Table) (a : TablePosition) (final : Bool) (pieces : List Subtree) (all : List Transition) (opened : List Move) →
    state_at k a.state ≡ row_of a final pieces all opened → Entry k a.state
entry_of k a final pieces all opened is = of_row k a all opened final pieces is
