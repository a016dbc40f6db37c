-- Which states are active, by a row of nodes that stands for states of the core chart and by the row past these.
use Rattle.std.proofs.Common.{ℕ, zero, suc, ◌+◌, ◌≡◌, ◌<◌, ◌≤◌, true, false, Bool, ◌||◌, Option, Some, None, List, [], ◌∷◌, length, slice_get}
use Rattle.std.proofs.Common.{unwrap_or, option_map, option_and_then, if◌then◌else◌, refl, sym, ap, ◌∙◌, arith}
use Rattle.std.specs.List.{list_any}
use Rattle.std.proofs.lemmas.Bool.Decides.{Decides-eqb}
use Rattle.std.proofs.lemmas.Option.{slice_get-map, slice_get_within, none-some, same_Some}
use Rattle.sc_graph.specs.declared.control.Control.{Control}
use Rattle.sc_graph.specs.declared.control.Status.{Status}
use Rattle.abort_expansion.specs.StateMap.{chart_state}
use Rattle.node_states.specs.Active.{rests_at, state_of, rests_in, is_number, is_active, numbers_where}
use Rattle.node_states.specs.StandsFor.{past_core, composed}

-- ---- rows of numbers

pub same_numbers : (f g : ℕ → Bool) (from count : ℕ) → ((m : ℕ) → from ≤ m → m < from + count → f m ≡ g m) →
    numbers_where f from count ≡ numbers_where g from count
same_numbers f g from zero each = refl
same_numbers f g from (suc count) each =
    ap (λ b. if b then from ∷ numbers_where f (suc from) count else numbers_where f (suc from) count) (each from (omega arith) (omega arith))
    ∙ ap (λ xs. if g from then from ∷ xs else xs)
    (same_numbers f g (suc from) count (λ m low high. each m (omega (arith, low)) (omega (arith, high))))

pub same_truth : (a b : Bool) → (a ≡ true → b ≡ true) → (b ≡ true → a ≡ true) → a ≡ b
same_truth true b there back = sym (there refl)
same_truth false true there back = back refl
same_truth false false there back = refl

-- ---- some item of a list

-- an item for which this holds, and where it is
record IsSome (p : Status → Bool) (xs : List Status) : Type 0 where
  place : ℕ
  item : Status
  there : slice_get xs place ≡ Some item
  holds : p item ≡ true

any_where : (p : Status → Bool) (xs : List Status) → list_any p xs ≡ true → IsSome p xs
any_where p [] e = absurd cc
any_where p (x ∷ xs) e = by_own (p x) refl e (any_where p xs)
  where
    later : IsSome p xs → IsSome p (x ∷ xs)
    later h = record { place = suc h.place; item = h.item; there = h.there; holds = h.holds }

    by_own : (b : Bool) → p x ≡ b → (b || list_any p xs) ≡ true → (list_any p xs ≡ true → IsSome p xs) → IsSome p (x ∷ xs)
    by_own true is e rest = record { place = 0; item = x; there = refl; holds = is }
    by_own false is e rest = later (rest e)

or_true : (b : Bool) → (b || true) ≡ true
or_true true = refl
or_true false = refl

any_there : (p : Status → Bool) (xs : List Status) (i : ℕ) (y : Status) → slice_get xs i ≡ Some y → p y ≡ true → list_any p xs ≡ true
any_there p [] i y at e = absurd (none-some y at)
any_there p (x ∷ xs) zero y at e = ap (λ b. b || list_any p xs) (ap p (same_Some x y at) ∙ e)
any_there p (x ∷ xs) (suc i) y at e = ap (λ b. p x || b) (any_there p xs i y at e) ∙ or_true (p x)

-- ---- past the core chart

number_is : (o : Option ℕ) (m : ℕ) → is_number m o ≡ true → o ≡ Some m
number_is None m e = absurd cc
number_is (Some n) m e = ap Some ((Decides-eqb n m).0 e)

is_own : (m : ℕ) → is_number m (Some m) ≡ true
is_own m = (Decides-eqb m m).1 refl

module _ (nodes states : List (Option ℕ)) where
  past_or_none : (o : Option (Option ℕ)) → unwrap_or (option_map (past_core states) o) None ≡ past_core states (unwrap_or o None)
  past_or_none None = refl
  past_or_none (Some n) = refl

  state_past : (n : ℕ) → state_of (composed nodes states) n ≡ past_core states (state_of nodes n)
  state_past n = ap (λ o. unwrap_or o None) (slice_get-map (past_core states) nodes n) ∙ past_or_none (slice_get nodes n)

  rests_past : (o : Option ℕ) → option_and_then (state_of (composed nodes states)) o ≡ past_core states (option_and_then (state_of nodes) o)
  rests_past None = refl
  rests_past (Some n) = state_past n

  -- a core state that is active, and stands for this one
  pub record IsActiveBehind (control : Control) (m : ℕ) : Type 0 where
    pub core_state : ℕ
    pub active : is_active nodes control core_state ≡ true
    pub stands_for : chart_state states core_state ≡ Some m

  number_past : (o : Option ℕ) (m : ℕ) → is_number m (past_core states o) ≡ true → (n : ℕ) × (is_number n o ≡ true) × (chart_state states n ≡ Some m)
  number_past None m e = absurd cc
  number_past (Some n) m e = (n, is_own n, number_is (chart_state states n) m e)

  past_number : (o : Option ℕ) (n m : ℕ) → is_number n o ≡ true → chart_state states n ≡ Some m → is_number m (past_core states o) ≡ true
  past_number o n m e stands = ap (λ q. is_number m (past_core states q)) (number_is o n e) ∙ (ap (is_number m) stands ∙ is_own m)

  pub active_behind : (control : Control) (m : ℕ) → is_active (composed nodes states) control m ≡ true → IsActiveBehind control m
  active_behind control m e =
      let some : IsSome (λ s. is_number m (rests_in (composed nodes states) s)) control.statuses =
      any_where (λ s. is_number m (rests_in (composed nodes states) s)) control.statuses e in
      let own = number_past (rests_in nodes some.item) m (ap (is_number m) (sym (rests_past (rests_at some.item))) ∙ some.holds) in
      record {
        core_state = own.0;
        active = any_there (λ s. is_number own.0 (rests_in nodes s)) control.statuses some.place some.item some.there own.1;
        stands_for = own.2;
      }

  pub active_past : (control : Control) (m : ℕ) → IsActiveBehind control m → is_active (composed nodes states) control m ≡ true
  active_past control m h =
      let some : IsSome (λ s. is_number h.core_state (rests_in nodes s)) control.statuses =
      any_where (λ s. is_number h.core_state (rests_in nodes s)) control.statuses h.active in
      any_there (λ s. is_number m (rests_in (composed nodes states) s)) control.statuses some.place some.item some.there
      (ap (is_number m) (rests_past (rests_at some.item)) ∙ past_number (rests_in nodes some.item) h.core_state m some.holds h.stands_for)

-- a number that stands for some state has an entry
pub has_entry : (states : List (Option ℕ)) (n m : ℕ) → chart_state states n ≡ Some m → n < length states
has_entry states n m stands = by_entry (slice_get states n) refl stands
  where
    by_entry : (o : Option (Option ℕ)) → slice_get states n ≡ o → unwrap_or o None ≡ Some m → n < length states
    by_entry None is e = absurd (none-some m e)
    by_entry (Some x) is e = slice_get_within states n x is
