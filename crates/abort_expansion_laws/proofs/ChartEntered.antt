-- Where something of a chart was just entered: who stands there, and that nobody is anywhere else.
use Rattle.std.proofs.Common.{◌≡◌, ◌≢◌, ℕ, suc, ◌⊎◌, ⊎_elim, true, false, List, ◌∷◌, length, Contains, refl, sym, ap, subst, ◌∙◌}
use Rattle.core_charts.specs.declared.region.Transition.{Transition}
use Rattle.core_charts.specs.Tests.{at_once, first_closing_tests}
use Rattle.chart_machine.specs.declared.standing.Standing.{Standing}
use Rattle.chart_machine.specs.declared.standing.Standing.TheVariants as at
use Rattle.chart_machine.specs.declared.table.Table.{Table}
use Rattle.chart_machine.specs.Turns.{guards as has_to_guard, LiesIn, itself, deeper}
use Rattle.tick_laws.proofs.Lists.{same_or_not}
use Rattle.chart_machine_laws.specs.Tree.{IsThere, around, holder}
use Rattle.chart_machine_laws.proofs.LyingIn.{head_in, lies_in_outer, around_outer}
use Rattle.abort_expansion_laws.specs.CoreRows.{own, IsState, Images}
use Rattle.abort_expansion_laws.specs.Related.{IsInside, guarded, open_inside}
use Rattle.abort_expansion_laws.proofs.StateEntry.{Entry, entry_ends, entry_tries, entry_guards, entry_opens}
use Rattle.abort_expansion_laws.proofs.FreshInside.{Fresh, Begins, NobodyIn, ElsewhereNobody, begins_closed, begins_open}
use Rattle.abort_expansion_laws.proofs.InitialPairs.{chart_begins}
use Rattle.abort_expansion_laws.proofs.JustEntered.{EntryRows}
use Rattle.abort_expansion_laws.proofs.AreaReached.{Above, area_reached}

-- entered without being within
pub data IsClosed : Standing → Type 0 where
  closed_ended : IsClosed at.Ended
  closed_trying : (s : ℕ) (tests : List Transition) → IsClosed (at.Trying s tests)
  closed_entering : (s : ℕ) (tests : List Transition) → IsClosed (at.Entering s tests)

pub closed_present : (x : Standing) → IsClosed x → x ≢ at.Outside
closed_present _ closed_ended e = absurd cc
closed_present _ (closed_trying s tests) e = absurd cc
closed_present _ (closed_entering s tests) e = absurd cc

pub closed_not_within : (x : Standing) → IsClosed x → (s : ℕ) (tests : List Transition) → x ≢ at.Within s tests
closed_not_within _ closed_ended s tests e = absurd cc
closed_not_within _ (closed_trying u others) s tests e = absurd cc
closed_not_within _ (closed_entering u others) s tests e = absurd cc

pub closed_not_guarding : (x : Standing) → IsClosed x → (s : ℕ) (tests : List Transition) → x ≢ at.Guarding s tests
closed_not_guarding _ closed_ended s tests e = absurd cc
closed_not_guarding _ (closed_trying u others) s tests e = absurd cc
closed_not_guarding _ (closed_entering u others) s tests e = absurd cc

module _ (k core : Table) (i : Images) (more : EntryRows k core i) (f : ℕ → Standing) where
  abbrev n : ℕ
  n = suc (length k.regions)

  pub data Stood (h : ℕ) : Type 0 where
    stood_closed : (y : Standing) → f h ≡ y → IsClosed y → NobodyIn k n f h → Stood h
    stood_open : (x : ℕ) → IsState k x → holder k x ≡ h → f h ≡ at.Within x (first_closing_tests (own k x)) → Fresh k n f x →
        ElsewhereNobody k n f h x → Stood h

  pub stood_of : (x : ℕ) → IsState k x → Begins k n f x → Stood (holder k x)
  stood_of x here b = by_entry (more.entries x here)
    where
      by_entry : Entry k x → Stood (holder k x)
      by_entry (entry_ends e) =
          let own_one = begins_closed k n f x at.Ended b (λ u tests w. absurd cc) e in stood_closed at.Ended own_one.0 closed_ended own_one.1
      by_entry (entry_tries none e) =
          let own_one = begins_closed k n f x (at.Trying x (at_once (own k x))) b (λ u tests w. absurd cc) e in
          stood_closed (at.Trying x (at_once (own k x))) own_one.0 (closed_trying x (at_once (own k x))) own_one.1
      by_entry (entry_guards t tests some strong e) =
          let own_one = begins_closed k n f x (at.Entering x (t ∷ tests)) b (λ u others w. absurd cc) e in
          stood_closed (at.Entering x (t ∷ tests)) own_one.0 (closed_entering x (t ∷ tests)) own_one.1
      by_entry (entry_opens some strong e) =
          let own_one = begins_open k n f x (first_closing_tests (own k x)) b e in stood_open x here refl own_one.0 own_one.1 own_one.2

  pub record WasEntered (q : ℕ) : Type 0 where
    pub stood : Stood q
    pub parent : (u : ℕ) (us : List ℕ) → around k q ≡ u ∷ us → (tests : List Transition) × (f (holder k u) ≡ at.Within u tests)

  pub data ChartReach (q : ℕ) : Type 0 where
    was_entered : WasEntered q → ChartReach q
    none_there : ((p : ℕ) → LiesIn k p q → f p ≡ at.Outside) → ChartReach q

  -- ---- one level deeper

  module _ (q u : ℕ) (us : List ℕ) (there : IsThere k q) (round : around k q ≡ u ∷ us) where
    in_u : Contains (around k q) u
    in_u = subst (λ zs. Contains zs u) (sym round) (head_in u us)

    below : (p : ℕ) → LiesIn k p q → Contains (around k p) u
    below p lies = around_outer k more.tree.nested (around k p) p q u refl lies in_u

    first_of : {v : ℕ} {vs : List ℕ} → u ∷ us ≡ v ∷ vs → u ≡ v
    first_of e = cc

    by_stood : Stood (holder k u) → ChartReach q
    by_stood (stood_closed y stands closed none) = none_there (λ p lies. none p u (below p lies) refl)
    by_stood (stood_open x here held stands fresh others) =
        ⊎_elim
        (λ same.
        let its = more.super_around q u in_u in
        let b = chart_begins k core i more.rows more.tree more.core_tree more.entries more.elsewhere f u (more.alike u its.0 its.1)
        (subst (Fresh k n f) (sym same) fresh) q (more.tree.innermost q u us round) (more.once q u us there round) in
        was_entered (record {
          stood = subst Stood b.held (stood_of b.first b.here b.begins);
          parent = λ v vs e. (
            first_closing_tests (own k x),
            ap (λ z. f (holder k z)) (sym (first_of (sym round ∙ e))) ∙
                (stands ∙ ap (λ z. at.Within z (first_closing_tests (own k x))) (sym same ∙ first_of (sym round ∙ e))),
          );
        }))
        (λ ne. none_there (λ p lies. others p u (below p lies) refl ne)) (same_or_not u x)

    reach_deeper : ChartReach (holder k u) → ChartReach q
    reach_deeper (was_entered l) = by_stood l.stood
    reach_deeper (none_there none) =
        none_there (λ p lies. none p (lies_in_outer k more.tree.nested (around k p) p q (holder k u) refl lies (deeper u in_u refl)))

  pub chart_reach : (In : ℕ → Type 0) → ((q : ℕ) → IsThere k q → In q → ChartReach q ⊎ Above k In q) → (q : ℕ) → IsThere k q → In q → ChartReach q
  chart_reach In begins q there inner = area_reached k In more.tree ChartReach reach_deeper begins q there inner

  -- ---- what follows for one region that was reached

  -- who was entered is there
  pub stood_present : (q : ℕ) → Stood q → f q ≢ at.Outside
  stood_present q (stood_closed y stands closed none) e = closed_present y closed (sym stands ∙ e)
  stood_present q (stood_open x here held stands fresh others) e =
      let wrong : at.Within x (first_closing_tests (own k x)) ≡ at.Outside = sym stands ∙ e in absurd cc

  -- who is within a superstate has just opened it
  pub reached_open : (h s : ℕ) (tests : List Transition) → f h ≡ at.Within s tests → ChartReach h →
      (tests ≡ first_closing_tests (own k s)) × Fresh k n f s × IsState k s
  reached_open h s tests is (none_there none) = let wrong : at.Within s tests ≡ at.Outside = sym is ∙ none h (itself refl) in absurd cc
  reached_open h s tests is (was_entered l) = by_stood_open l.stood
    where
      by_stood_open : Stood h → (tests ≡ first_closing_tests (own k s)) × Fresh k n f s × IsState k s
      by_stood_open (stood_closed y stands closed none) = absurd (closed_not_within y closed s tests (sym stands ∙ is))
      by_stood_open (stood_open x here held stands fresh others) =
          let both : at.Within x (first_closing_tests (own k x)) ≡ at.Within s tests = sym stands ∙ is in
          let same : x ≡ s = cc in
          let tests_are : first_closing_tests (own k x) ≡ tests = cc in
          (sym tests_are ∙ ap (λ z. first_closing_tests (own k z)) same, subst (Fresh k n f) same fresh, subst (IsState k) same here)

  -- nobody guards but on entry, with nobody inside
  pub reached_inside : (h s : ℕ) (x : Standing) → f h ≡ x → IsInside k core i s x → ChartReach h → (tests : List Transition) × (f h ≡ at.Within s tests)
  reached_inside h s _ is (open_inside tests) reached = (tests, is)
  reached_inside h s _ is (guarded tests) (none_there none) =
      let wrong : at.Guarding s tests ≡ at.Outside = sym is ∙ none h (itself refl) in absurd cc
  reached_inside h s _ is (guarded tests) (was_entered l) = by_stood_guard l.stood
    where
      by_stood_guard : Stood h → (others : List Transition) × (f h ≡ at.Within s others)
      by_stood_guard (stood_closed y stands closed none) = absurd (closed_not_guarding y closed s tests (sym stands ∙ is))
      by_stood_guard (stood_open x here held stands fresh others) =
          let wrong : at.Guarding s tests ≡ at.Within x (first_closing_tests (own k x)) = sym is ∙ stands in absurd cc

  pub reached_guards : (h : ℕ) → has_to_guard (f h) ≡ true → ChartReach h → NobodyIn k n f h
  reached_guards h guards (none_there none) = λ q y inner held. none q (deeper y inner held)
  reached_guards h guards (was_entered l) = by_stood_guard l.stood
    where
      by_stood_guard : Stood h → NobodyIn k n f h
      by_stood_guard (stood_closed y stands closed none) = none
      by_stood_guard (stood_open x here held stands fresh others) = let wrong : true ≡ false = sym guards ∙ ap has_to_guard stands in absurd cc
