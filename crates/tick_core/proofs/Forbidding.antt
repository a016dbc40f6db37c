-- Pairs of steps that stand in a forbidden order.
use Rattle.std.proofs.Common.{◌≡◌, ℕ, ◌+◌, ◌<◌, ◌≤◌, ◌⊎◌, inl, inr, Bool, true, false, List, Some, option_map, slice_get, get_or, length, refl, sym, ap, subst}
use Rattle.std.proofs.Common.{subst₂, ◌∙◌, arith}
use Rattle.std.specs.Prelude.{◌↔◌, IsTrue, not}
use Rattle.std.proofs.lemmas.List.{length-map}
use Rattle.std.proofs.lemmas.Option.{same_Some, slice_get-get_or, slice_get-map, slice_get_within}
use Rattle.sc_values.specs.Access.{MayPrecede}
use Rattle.sc_values.specs.Runs.{Act, ConcurrentSteps, IsOrdered}
use Rattle.sc_graph.specs.Program.{Program}
use Rattle.sc_graph.specs.Threads.{ForkedApart, AreConcurrent}
use Rattle.sc_graph.specs.Accesses.{accesses}
use Rattle.sc_graph.specs.Valid.{IsFormed}
use Rattle.tick_laws.proofs.Lists.{map_some}
use Rattle.tick_laws.proofs.Tree.{apart_once}
use Rattle.tick_core.specs.declared.judging.replaying.Taken.{Taken}
use Rattle.tick_core.specs.Judging.{IsForbidden, IsFirstForbidden}
use Rattle.tick_core.specs.Inside.Judging.{act_at, acts_at, IsFirstBefore, TakesBetween}

pub lt_or_le : (h n : ℕ) → (h < n) ⊎ (n ≤ h)
lt_or_le h n = grind arith

pub below_or_at : (n i : ℕ) → n < i + 1 → (n < i) ⊎ (n ≡ i)
below_or_at n i below = grind arith

-- a place at which a fact holds is no less than one below which it nowhere does
pub least_from : (P : ℕ → Type 0) (n : ℕ) → ((h : ℕ) → h < n → ¬ P h) → (h : ℕ) → P h → n ≤ h
least_from P n none h here = elim (lt_or_le h n) [ inl less ↦ absurd (none h less here) | inr le ↦ le ]

-- and one more place without it
pub none_more : (P : ℕ → Type 0) (n : ℕ) → ((h : ℕ) → h < n → ¬ P h) → ¬ P n → (h : ℕ) → h < n + 1 → ¬ P h
none_more P n none here h below there =
    elim (below_or_at h n below) [ inl less ↦ none h less there | inr same ↦ here (subst P same there) ]

pub act_here : (p : Program) (steps : List Taken) (i : ℕ) (s : Taken) → slice_get steps i ≡ Some s → slice_get (acts_at p steps) i ≡ Some (act_at p s)
act_here p steps i s is = slice_get-map (act_at p) steps i ∙ ap (option_map (act_at p)) is

step_here : (p : Program) (steps : List Taken) (i : ℕ) (x : Act) → slice_get (acts_at p steps) i ≡ Some x → (s : Taken) × (slice_get steps i ≡ Some s)
    × (act_at p s ≡ x)
step_here p steps i x is = map_some (act_at p) (slice_get steps i) x (sym (slice_get-map (act_at p) steps i) ∙ is)

pub not_true : (b : Bool) → IsTrue (not b) → IsTrue b → ⊥
not_true true refused held = absurd (cc)
not_true false refused held = absurd (cc)

pub not_from : (b : Bool) → ¬ IsTrue b → IsTrue (not b)
not_from true refused = absurd (refused refl)
not_from false refused = refl

abbrev pub no_step : Taken
no_step = record { thread = 0; node = 0 }

-- steps s and t stand at these places
pub record TwoSteps (steps : List Taken) (i j : ℕ) (s t : Taken) : Type 0 where
  pub first : slice_get steps i ≡ Some s
  pub second : slice_get steps j ≡ Some t

pub two_steps : (steps : List Taken) (i j : ℕ) → i < j → j < length steps → TwoSteps steps i j (get_or steps i no_step) (get_or steps j no_step)
two_steps steps i j before within =
    record { first = slice_get-get_or steps i no_step (omega (arith, before, within)); second = slice_get-get_or steps j no_step within }

module _ (p : Program) (steps : List Taken) (i j : ℕ) (s t : Taken) (two : TwoSteps steps i j s t) where
  first_is : (x : Act) → slice_get (acts_at p steps) i ≡ Some x → act_at p s ≡ x
  first_is x is = same_Some (act_at p s) x (sym (act_here p steps i s two.first) ∙ is)

  second_is : (x : Act) → slice_get (acts_at p steps) j ≡ Some x → act_at p t ≡ x
  second_is x is = same_Some (act_at p t) x (sym (act_here p steps j t two.second) ∙ is)

  pub concurrent_by : (a : ℕ) → ForkedApart p s.thread t.thread a → ¬ TakesBetween steps i j a → ConcurrentSteps (ForkedApart p) (acts_at p steps) i j
  concurrent_by a apart none =
      record {
        first = act_at p s;
        second = act_at p t;
        is_first = act_here p steps i s two.first;
        is_second = act_here p steps j t two.second;
        forking = a;
        apart = apart;
        between = λ k x after before is e.
            let found = step_here p steps k x is in
            none (record { at = k; taken = found.0; after = after; before = before; is = found.1; thread = ap (λ (y : Act). y.thread) found.2 ∙ e });
      }

  apart_here : (both : ConcurrentSteps (ForkedApart p) (acts_at p steps) i j) → ForkedApart p s.thread t.thread both.forking
  apart_here both =
      subst₂ (λ (x y : Act). ForkedApart p x.thread y.thread both.forking)
      (sym (first_is both.first both.is_first)) (sym (second_is both.second both.is_second)) both.apart

  pub concurrent_threads : ConcurrentSteps (ForkedApart p) (acts_at p steps) i j → AreConcurrent p s.thread t.thread
  concurrent_threads both = record { forking = both.forking; apart = apart_here both }

  pub none_between : IsFormed p → (a : ℕ) → ForkedApart p s.thread t.thread a → ConcurrentSteps (ForkedApart p) (acts_at p steps) i j
      → ¬ TakesBetween steps i j a
  none_between formed a apart both takes =
      let same : both.forking ≡ a = apart_once p formed s.thread t.thread both.forking a (apart_here both) apart in
      both.between takes.at (act_at p takes.taken) takes.after takes.before (act_here p steps takes.at takes.taken takes.is) (takes.thread ∙ sym same)

  may_here : (both : ConcurrentSteps (ForkedApart p) (acts_at p steps) i j) → MayPrecede (accesses p s.node) (accesses p t.node)
      → MayPrecede both.first.access both.second.access
  may_here both may =
      subst₂ (λ (x y : Act). MayPrecede x.access y.access) (first_is both.first both.is_first) (second_is both.second both.is_second) may

  may_there : (both : ConcurrentSteps (ForkedApart p) (acts_at p steps) i j) → MayPrecede both.first.access both.second.access
      → MayPrecede (accesses p s.node) (accesses p t.node)
  may_there both may =
      subst₂ (λ (x y : Act). MayPrecede x.access y.access) (sym (first_is both.first both.is_first)) (sym (second_is both.second both.is_second)) may

  pub forbidden_here : i < j → (may : Bool) → IsTrue may ↔ MayPrecede (accesses p s.node) (accesses p t.node) →
      ConcurrentSteps (ForkedApart p) (acts_at p steps) i j → IsTrue (not may) ↔ IsForbidden (ForkedApart p) (acts_at p steps) i j
  forbidden_here before may decides both = (
    λ e. record { before = before; both = both; forbidden = λ m. not_true may e (decides.1 (may_there both m)) },
    λ f. not_from may (λ e. f.forbidden (may_here f.both (decides.0 e))),
  )

-- steps without a forbidden pair are in order
pub ordered_from : (p : Program) (steps : List Taken) (n : ℕ) → length steps ≤ n →
    ((j : ℕ) → j < n → (i : ℕ) → ¬ IsForbidden (ForkedApart p) (acts_at p steps) i j) → IsOrdered (ForkedApart p) (acts_at p steps)
ordered_from p steps n long none i j before both =
    let at : j < length (acts_at p steps) = slice_get_within (acts_at p steps) j both.second both.is_second in
    let same : length (acts_at p steps) ≡ length steps = length-map steps (act_at p) in
    let within : j < n = omega (arith, at, same, long) in
    let never : ¬ ¬ MayPrecede both.first.access both.second.access = λ m. none j within i (record { before = before; both = both; forbidden = m }) in
    record { no_order = λ o. never (λ m. m.no_order o); no_clash = λ k. never (λ m. m.no_clash k) }

pub first_from : (p : Program) (steps : List Taken) (i j : ℕ) → IsFirstBefore p steps i j →
    ((k : ℕ) → k < j → (h : ℕ) → ¬ IsForbidden (ForkedApart p) (acts_at p steps) h k) → IsFirstForbidden (ForkedApart p) (acts_at p steps) i j
first_from p steps i j first none =
    record {
      is = first.is;
      least_second = λ h k f. least_from (λ k. (h : ℕ) × IsForbidden (ForkedApart p) (acts_at p steps) h k) j (λ k less f. none k less f.0 f.1) k (h, f);
      least_first = first.least;
    }

pub none_more_places : (p : Program) (steps : List Taken) (j : ℕ) → ((k : ℕ) → k < j → (h : ℕ) → ¬ IsForbidden (ForkedApart p) (acts_at p steps) h k) →
    ((h : ℕ) → ¬ IsForbidden (ForkedApart p) (acts_at p steps) h j) → (k : ℕ) → k < j + 1 → (h : ℕ) → ¬ IsForbidden (ForkedApart p) (acts_at p steps) h k
none_more_places p steps j none here k below h f =
    none_more (λ k. (h : ℕ) × IsForbidden (ForkedApart p) (acts_at p steps) h k) j (λ k less g. none k less g.0 g.1) (λ g. here g.0 g.1) k below (h, f)
