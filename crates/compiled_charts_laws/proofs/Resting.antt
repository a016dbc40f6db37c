-- Between two ticks a state of the chart is active exactly where some thread of the graph rests at a node that stands for it.
use Rattle.std.proofs.Common.{◌≡◌, ℕ, zero, suc, ◌<◌, Bool, true, false, ◌||◌, Option, Some, None, List, [], ◌∷◌, map, length, slice_get}
use Rattle.std.proofs.Common.{unwrap_or, eqb-true, refl, sym, ap, subst, ◌∙◌, arith}
use Rattle.std.proofs.lemmas.Option.{slice_get_within, same_Some}
use Rattle.std.specs.List.{list_any}
use Rattle.sc_graph.specs.declared.control.Control.{Control}
use Rattle.sc_graph.specs.declared.control.Status.{Status}
use Rattle.chart_machine.specs.declared.standing.Standing.{Standing}
use Rattle.chart_machine.specs.declared.standing.Standing.TheVariants as stand
use Rattle.chart_machine.specs.declared.standing.Configuration.{Configuration}
use Rattle.chart_machine.specs.declared.table.Table.{Table}
use Rattle.chart_machine.specs.Table.{state_at, region_at}
use Rattle.chart_machine.specs.Turns.{standing_of}
use Rattle.chart_machine.specs.Machine as chart
use Rattle.scl.specs.Numbering.{Numbered}
use Rattle.scl.specs.Meaning.{State, Doing, Away, Todo, Forked, Resting, Resuming, Finished, doing}
use Rattle.scl_graph_laws.specs.Standing.{standing}
use Rattle.node_states.specs.Active.{rests_in, is_number, is_active}
use Rattle.chart_lowering_laws.specs.Layout.{Layout, Lowers, IsRegionOf, InRegion}
use Rattle.chart_lowering_laws.specs.Corresponds.{Live, HeldBy, IsAtRoot, Giving, Nothing, Ready, Turn, Past, given, Fits}
use Rattle.chart_lowering_laws.specs.Keeps.{AtRest}
use Rattle.chart_lowering_laws.specs.Active.{TellsStates, RestsIn}
use Rattle.chart_lowering_laws.proofs.NumberTests.{nat_same, same_test}
use Rattle.chart_lowering_laws.proofs.ActiveStates.{active_is}
use Rattle.compiled_charts_laws.specs.Nodes.{StandForStates}

-- an item for which a test holds
module _ {A B : Type 0} (f : B → Bool) (g : A → B) where
  abbrev Holds : List A → Type 0
  Holds xs = (i : ℕ) × (x : A) × (slice_get xs i ≡ Some x) × (f (g x) ≡ true)

  any_item : (xs : List A) → list_any f (map g xs) ≡ true → Holds xs
  any_item [] h = absurd cc
  any_item (x ∷ xs) h = by (f (g x)) refl h (any_item xs)
    where
      by : (b : Bool) → f (g x) ≡ b → (b || list_any f (map g xs)) ≡ true → (list_any f (map g xs) ≡ true → Holds xs) → Holds (x ∷ xs)
      by true is h more = (zero, x, refl, is)
      by false is h more = let found : Holds xs = more h in (suc found.0, found.1, found.2, found.3)

  some_item : (xs : List A) (i : ℕ) (x : A) → slice_get xs i ≡ Some x → f (g x) ≡ true → list_any f (map g xs) ≡ true
  some_item [] i x at h = absurd cc
  some_item (y ∷ xs) zero x at h = ap (λ b. b || list_any f (map g xs)) (ap (λ z. f (g z)) (same_Some y x at) ∙ h)
  some_item (y ∷ xs) (suc i) x at h = by (f (g y)) (some_item xs i x at h)
    where
      by : (b : Bool) → list_any f (map g xs) ≡ true → (b || list_any f (map g xs)) ≡ true
      by true more = refl
      by false more = more

module _ (k : Table) (p : Numbered) (l : Layout) (low : Lowers k p l) (tells : TellsStates k l) (nodes : List (Option ℕ))
    (stands : StandForStates k p.root l nodes) (c : Configuration) (s : State) (rest : AtRest k p l c s) where
  -- a thread rests at a node that stands for this state
  abbrev RestsAt : ℕ → Doing → Type 0
  RestsAt u d = is_number u (rests_in nodes (standing d)) ≡ true

  told : (u v n : ℕ) → slice_get nodes (suc n) ≡ Some (Some v) → is_number u (unwrap_or (slice_get nodes (suc n)) None) ≡ true → v ≡ u
  told u v n at h = eqb-true v u (subst (λ o. is_number u (unwrap_or o None) ≡ true) at h)

  none_told : (u n : ℕ) → slice_get nodes (suc n) ≡ Some None → is_number u (unwrap_or (slice_get nodes (suc n)) None) ≡ true → ⊥
  none_told u n at h = let no : false ≡ true = subst (λ o. is_number u (unwrap_or o None) ≡ true) at h in absurd (cc)

  -- a region stands in the state for which the node of its thread stands
  in_state : (r u : ℕ) (x : Standing) (d : Doing) → Live k p.root l r x d → HeldBy k p.root l r x → RestsAt u d → InRegion k r u × (chart.stands_in x u ≡ true)
  in_state r u (stand.Trying v tests) (Resting n more) live held h =
      let same : v ≡ u = told u v n (stands.pauses v n more held.0.there live.1) h in (subst (InRegion k r) same held.0, nat_same v u same)
  in_state r u (stand.Within v tests) (Resting n more) live held h =
      let same : v ≡ u = told u v n (stands.pauses v n more held.0.there live.2) h in (subst (InRegion k r) same held.0, nat_same v u same)
  in_state r u (stand.Within v tests) (Forked n branches more) live held h =
      let same : v ≡ u = told u v n (stands.forks v n branches more held.0.there live.1) h in (subst (InRegion k r) same held.0, nat_same v u same)
  in_state r u x Away live held h = let no : false ≡ true = h in absurd (cc)
  in_state r u x (Todo todo) live held h = let no : false ≡ true = h in absurd (cc)
  in_state r u x (Resuming n more) live held h = let no : false ≡ true = h in absurd (cc)
  in_state r u x Finished live held h = let no : false ≡ true = h in absurd (cc)
  in_state r u (stand.Trying v tests) (Forked n branches more) live held h = absurd live
  in_state r u stand.Outside (Resting n more) live held h = absurd live
  in_state r u stand.Outside (Forked n branches more) live held h = absurd live
  in_state r u stand.Ended (Resting n more) live held h = absurd live
  in_state r u stand.Ended (Forked n branches more) live held h = absurd live
  in_state r u (stand.Entering v tests) (Resting n more) live held h = absurd live
  in_state r u (stand.Entering v tests) (Forked n branches more) live held h = absurd live
  in_state r u (stand.Guarding v tests) (Resting n more) live held h = absurd live
  in_state r u (stand.Guarding v tests) (Forked n branches more) live held h = absurd live
  in_state r u (stand.Acting v [] target) (Resting n more) live held h = absurd live
  in_state r u (stand.Acting v [] target) (Forked n branches more) live held h = absurd live
  in_state r u (stand.Acting v (e ∷ effects) target) (Resting n more) live held h = absurd live
  in_state r u (stand.Acting v (e ∷ effects) target) (Forked n branches more) live held h = absurd live

  -- the chart's own thread rests in none
  not_at_root : (u : ℕ) (d : Doing) → IsAtRoot p.root d → RestsAt u d → ⊥
  not_at_root u (Forked n branches more) at h = none_told u n (stands.top n branches more at) h
  not_at_root u (Resting n more) at h = at
  not_at_root u Away at h = let no : false ≡ true = h in absurd (cc)
  not_at_root u (Todo todo) at h = let no : false ≡ true = h in absurd (cc)
  not_at_root u (Resuming n more) at h = let no : false ≡ true = h in absurd (cc)
  not_at_root u Finished at h = let no : false ≡ true = h in absurd (cc)

  no_rest_away : (u : ℕ) (d : Doing) → d ≡ Away → RestsAt u d → ⊥
  no_rest_away u d away h = let no : false ≡ true = subst (RestsAt u) away h in absurd (cc)

  by_given : (r u : ℕ) (g : Giving) (x : Standing) (d : Doing) → Fits k p.root l r g x d → RestsAt u d → InRegion k r u × (chart.stands_in x u ≡ true)
  by_given r u Nothing x d fits h = absurd (no_rest_away u d fits.1 h)
  by_given r u Ready x d fits h = absurd (no_rest_away u d fits.1 h)
  by_given r u Past x d fits h = absurd (no_rest_away u d fits.1 h)
  by_given r u Turn x d fits h = in_state r u x d fits.0 fits.1 h

  active_by : (t u : ℕ) → t < length s.threads → RestsAt u (doing s t) → chart.is_active k c u ≡ true
  active_by zero u less h = absurd (not_at_root u (doing s zero) rest.corresponds.root h)
  active_by (suc t) u less h =
      let many : length s.threads ≡ suc (length k.regions) = rest.corresponds.threads in
      let there : IsRegionOf k (suc t) = (omega arith, omega (arith, less, many)) in
      let found : InRegion k (suc t) u × (chart.stands_in (standing_of c (suc t)) u ≡ true) =
      by_given (suc t) u (given k c s (region_at k (suc t)).around) (standing_of c (suc t)) (doing s (suc t)) (rest.corresponds.each (suc t) there) h in
      subst (λ r. chart.stands_in (standing_of c r) u ≡ true) (sym found.0.holder) found.1

  -- where the region's thread rests in a state its node stands for that
  rests_at : (u : ℕ) → u < length k.states → (d : Doing) → RestsIn l u d → RestsAt u d
  rests_at u there (Resting n more) h =
      subst (λ o. is_number u (unwrap_or o None) ≡ true) (sym (stands.pauses u n more there h)) (nat_same u u refl)
  rests_at u there (Forked n branches more) h =
      subst (λ o. is_number u (unwrap_or o None) ≡ true) (sym (stands.forks u n branches more there h)) (nat_same u u refl)
  rests_at u there Away h = absurd h
  rests_at u there (Todo todo) h = absurd h
  rests_at u there (Resuming n more) h = absurd h
  rests_at u there Finished h = absurd h

  -- who rests somewhere is a thread
  is_thread : (u t : ℕ) → RestsIn l u (doing s t) → slice_get s.threads t ≡ Some (doing s t)
  is_thread u t = by (slice_get s.threads t)
    where
      by : (o : Option Doing) → RestsIn l u (unwrap_or o Away) → o ≡ Some (unwrap_or o Away)
      by None h = absurd h
      by (Some d) h = refl

  pub told_alike : (e : Control) → e.statuses ≡ map standing s.threads → (u : ℕ) → u < length k.states → is_active nodes e u ≡ chart.is_active k c u
  told_alike e same u there =
      let rests_so : Status → Bool = λ x. is_number u (rests_in nodes x) in
      ap (list_any rests_so) same
      ∙ same_test (list_any rests_so (map standing s.threads)) (chart.is_active k c u)
      (λ h.
      let found : (t : ℕ) × (d : Doing) × (slice_get s.threads t ≡ Some d) × (rests_so (standing d) ≡ true) = any_item rests_so standing s.threads h in
      active_by found.0 u (slice_get_within s.threads found.0 found.1 found.2)
      (subst (RestsAt u) (sym (ap (λ o. unwrap_or o Away) found.2)) found.3))
      (λ h.
      let in_it : RestsIn l u (doing s (state_at k u).holder) = (active_is k p l low tells c s rest u there).0 h in
      some_item rests_so standing s.threads (state_at k u).holder (doing s (state_at k u).holder) (is_thread u (state_at k u).holder in_it)
      (rests_at u there (doing s (state_at k u).holder) in_it))
