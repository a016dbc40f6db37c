-- Ordered runs by recursion on their steps, and what lets a step move to the front.
use Rattle.std.proofs.Common.{◌≡◌, ◌≢◌, ℕ, zero, suc, ◌<◌, List, [], ◌∷◌, ◌++◌, Some, slice_get, refl, sym, subst, arith}
use Rattle.std.proofs.lemmas.Option.{none-some, same_Some}
use Rattle.sc_values.specs.Access.{MayPrecede}
use Rattle.sc_values.specs.Runs.{Act, ConcurrentSteps, IsOrdered}

-- step m may precede each step of a log that a thread still open forks apart from it. A thread is
-- open until it takes a step itself
abbrev pub Clear : (ℕ → ℕ → ℕ → Type 0) → Act → (ℕ → Type 0) → List Act → Type 0
Clear ForkedApart m IsOpen [] = Unit {0}
Clear ForkedApart m IsOpen (x ∷ log) =
    ((a : ℕ) → ForkedApart m.thread x.thread a → IsOpen a → MayPrecede m.access x.access)
    × Clear ForkedApart m (λ a. IsOpen a × (x.thread ≢ a)) log

abbrev pub EachIsOpen : ℕ → Type 0
EachIsOpen a = Unit {0}

-- each step may precede those after it that are concurrent with it
abbrev pub Orderly : (ℕ → ℕ → ℕ → Type 0) → List Act → Type 0
Orderly ForkedApart [] = Unit {0}
Orderly ForkedApart (m ∷ log) = Clear ForkedApart m EachIsOpen log × Orderly ForkedApart log

-- step m may move before step x: it may precede it, and its thread forks x's apart from no other
pub record Passes (ForkedApart : ℕ → ℕ → ℕ → Type 0) (m x : Act) : Type 0 where
  pub forks_none : (u a : ℕ) → ForkedApart x.thread u a → a ≢ m.thread
  pub may : MayPrecede m.access x.access

abbrev pub PassesAll : (ℕ → ℕ → ℕ → Type 0) → Act → List Act → Type 0
PassesAll ForkedApart m [] = Unit {0}
PassesAll ForkedApart m (x ∷ front) = Passes ForkedApart m x × PassesAll ForkedApart m front

-- thread a takes no step of a log
abbrev pub TakesNone : ℕ → List Act → Type 0
TakesNone a [] = Unit {0}
TakesNone a (x ∷ log) = (x.thread ≢ a) × TakesNone a log

module _ (ForkedApart : ℕ → ℕ → ℕ → Type 0) where
  -- a clear step may precede one that comes after steps of other threads than the forking one
  pub clear_past : (m x : Act) (IsOpen : ℕ → Type 0) (front back : List Act) → Clear ForkedApart m IsOpen (front ++ x ∷ back) →
      (a : ℕ) → ForkedApart m.thread x.thread a → IsOpen a → TakesNone a front → MayPrecede m.access x.access
  clear_past m x IsOpen [] back clear a apart is_open none = clear.0 a apart is_open
  clear_past m x IsOpen (y ∷ front) back clear a apart is_open none =
      clear_past m x (λ b. IsOpen b × (y.thread ≢ b)) front back clear.1 a apart (is_open, none.0) none.1

  -- a clear step may precede the one at a place, where no step before it closes the forking thread
  clear_at : (m : Act) (IsOpen : ℕ → Type 0) (log : List Act) → Clear ForkedApart m IsOpen log → (j : ℕ) (x : Act) → slice_get log j ≡ Some x →
      (a : ℕ) → ForkedApart m.thread x.thread a → IsOpen a → ((k : ℕ) (y : Act) → k < j → slice_get log k ≡ Some y → y.thread ≢ a)
      → MayPrecede m.access x.access
  clear_at m IsOpen [] clear j x at a apart is_open between = absurd (none-some x at)
  clear_at m IsOpen (y ∷ log) clear zero x at a apart is_open between =
      let same : y ≡ x = same_Some y x at in
      subst (λ (z : Act). MayPrecede m.access z.access) same (clear.0 a (subst (λ (z : Act). ForkedApart m.thread z.thread a) (sym same) apart) is_open)
  clear_at m IsOpen (y ∷ log) clear (suc j) x at a apart is_open between =
      clear_at m (λ b. IsOpen b × (y.thread ≢ b)) log clear.1 j x at a apart (is_open, between zero y (omega arith) refl)
      (λ k z lt here. between (suc k) z (omega arith) here)

  clear_from : (m : Act) (IsOpen : ℕ → Type 0) (log : List Act) →
      ((j : ℕ) (x : Act) (a : ℕ) → slice_get log j ≡ Some x → ForkedApart m.thread x.thread a → IsOpen a →
      ((k : ℕ) (y : Act) → k < j → slice_get log k ≡ Some y → y.thread ≢ a) → MayPrecede m.access x.access) →
      Clear ForkedApart m IsOpen log
  clear_from m IsOpen [] each = tt
  clear_from m IsOpen (y ∷ log) each = (
    λ a apart is_open. each zero y a refl apart is_open (λ k z lt here. absurd (omega arith)),
    clear_from m (λ b. IsOpen b × (y.thread ≢ b)) log (λ j x a at apart is_open between.
        each (suc j) x a at apart is_open.0 (before j a is_open.1 between)),
  )
    where
      before : (j a : ℕ) → y.thread ≢ a → ((k : ℕ) (z : Act) → k < j → slice_get log k ≡ Some z → z.thread ≢ a) →
          (k : ℕ) (z : Act) → k < suc j → slice_get (y ∷ log) k ≡ Some z → z.thread ≢ a
      before j a closed between zero z lt here = subst (λ (w : Act). w.thread ≢ a) (same_Some y z here) closed
      before j a closed between (suc k) z lt here = between k z (omega arith) here

  -- with fewer threads open less is asked
  pub clear_weaker : (m : Act) (IsOpen IsStill : ℕ → Type 0) (log : List Act) →
      ((u a : ℕ) → ForkedApart m.thread u a → IsStill a → IsOpen a) → Clear ForkedApart m IsOpen log → Clear ForkedApart m IsStill log
  clear_weaker m IsOpen IsStill [] fewer clear = tt
  clear_weaker m IsOpen IsStill (x ∷ log) fewer clear = (
    λ a apart still. clear.0 a apart (fewer x.thread a apart still),
    clear_weaker m (λ b. IsOpen b × (x.thread ≢ b)) (λ b. IsStill b × (x.thread ≢ b)) log (λ u a apart still. (fewer u a apart still.0, still.1)) clear.1,
  )

  -- a step of a thread that forks m's apart from no other may be taken out
  pub clear_without : (m x : Act) (IsOpen : ℕ → Type 0) (front back : List Act) → ((u a : ℕ) → ForkedApart m.thread u a → a ≢ x.thread) →
      Clear ForkedApart m IsOpen (front ++ x ∷ back) → Clear ForkedApart m IsOpen (front ++ back)
  clear_without m x IsOpen [] back none clear =
      clear_weaker m (λ b. IsOpen b × (x.thread ≢ b)) IsOpen back (λ u a apart is_open. (is_open, λ e. none u a apart (sym e))) clear.1
  clear_without m x IsOpen (y ∷ front) back none clear =
      (clear.0, clear_without m x (λ b. IsOpen b × (y.thread ≢ b)) front back none clear.1)

  clear_front : (m : Act) (IsOpen : ℕ → Type 0) (front back : List Act) → PassesAll ForkedApart m front →
      Clear ForkedApart m EachIsOpen back → Clear ForkedApart m IsOpen (front ++ back)
  clear_front m IsOpen [] back passes clear = clear_weaker m EachIsOpen IsOpen back (λ u a apart is_open. tt) clear
  clear_front m IsOpen (x ∷ front) back passes clear =
      (λ a apart is_open. passes.0.may, clear_front m (λ b. IsOpen b × (x.thread ≢ b)) front back passes.1 clear)

  orderly_back : (front back : List Act) → Orderly ForkedApart (front ++ back) → Orderly ForkedApart back
  orderly_back [] back orderly = orderly
  orderly_back (x ∷ front) back orderly = orderly_back front back orderly.1

  orderly_without : (m : Act) (front back : List Act) → PassesAll ForkedApart m front → Orderly ForkedApart (front ++ m ∷ back)
      → Orderly ForkedApart (front ++ back)
  orderly_without m [] back passes orderly = orderly.1
  orderly_without m (x ∷ front) back passes orderly =
      (clear_without x m EachIsOpen front back passes.0.forks_none orderly.0, orderly_without m front back passes.1 orderly.1)

  -- a step that may pass all before it may come first
  pub to_front : (m : Act) (front back : List Act) → PassesAll ForkedApart m front → Orderly ForkedApart (front ++ m ∷ back)
      → Orderly ForkedApart (m ∷ (front ++ back))
  to_front m front back passes orderly =
      (clear_front m EachIsOpen front back passes (orderly_back front (m ∷ back) orderly).0, orderly_without m front back passes orderly)

  abbrev shorter : (m : Act) (log : List Act) (i j : ℕ) → ConcurrentSteps ForkedApart (m ∷ log) (suc i) (suc j) → ConcurrentSteps ForkedApart log i j
  shorter m log i j both =
      record {
        first = both.first;
        second = both.second;
        is_first = both.is_first;
        is_second = both.is_second;
        forking = both.forking;
        apart = both.apart;
        between = λ k x lt gt at. both.between (suc k) x (omega arith) (omega arith) at;
      }

  abbrev longer : (m : Act) (log : List Act) (i j : ℕ) → ConcurrentSteps ForkedApart log i j → ConcurrentSteps ForkedApart (m ∷ log) (suc i) (suc j)
  longer m log i j both =
      record {
        first = both.first;
        second = both.second;
        is_first = both.is_first;
        is_second = both.is_second;
        forking = both.forking;
        apart = both.apart;
        between = later;
      }
    where
      later : (k : ℕ) (x : Act) → suc i < k → k < suc j → slice_get (m ∷ log) k ≡ Some x → x.thread ≢ both.forking
      later zero x lt gt at = absurd (omega arith)
      later (suc k) x lt gt at = both.between k x (omega arith) (omega arith) at

  ordered_first : (m : Act) (log : List Act) → Clear ForkedApart m EachIsOpen log → (j : ℕ) → (both : ConcurrentSteps ForkedApart (m ∷ log) zero (suc j)) →
      MayPrecede both.first.access both.second.access
  ordered_first m log clear j both =
      let same : m ≡ both.first = same_Some m both.first both.is_first in
      subst (λ (z : Act). MayPrecede z.access both.second.access) same
      (clear_at m EachIsOpen log clear j both.second both.is_second both.forking
      (subst (λ (z : Act). ForkedApart z.thread both.second.thread both.forking) (sym same) both.apart) tt
      (λ k y lt at. both.between (suc k) y (omega arith) (omega arith) at))

  pub admissible_from_orderly : (log : List Act) → Orderly ForkedApart log → IsOrdered ForkedApart log
  admissible_from_orderly [] orderly i j lt both = absurd (none-some both.first both.is_first)
  admissible_from_orderly (m ∷ log) orderly i zero lt both = absurd (omega arith)
  admissible_from_orderly (m ∷ log) orderly zero (suc j) lt both = ordered_first m log orderly.0 j both
  admissible_from_orderly (m ∷ log) orderly (suc i) (suc j) lt both =
      admissible_from_orderly log orderly.1 i j (omega arith) (shorter m log i j both)

  from_first : (m : Act) (log : List Act) (j a : ℕ) → ((k : ℕ) (y : Act) → k < j → slice_get log k ≡ Some y → y.thread ≢ a) →
      (k : ℕ) (y : Act) → zero < k → k < suc j → slice_get (m ∷ log) k ≡ Some y → y.thread ≢ a
  from_first m log j a between zero y lt gt at = absurd (omega arith)
  from_first m log j a between (suc k) y lt gt at = between k y (omega arith) at

  pub orderly_from_admissible : (log : List Act) → IsOrdered ForkedApart log → Orderly ForkedApart log
  orderly_from_admissible [] ordered = tt
  orderly_from_admissible (m ∷ log) ordered = (
    clear_from m EachIsOpen log (λ j x a at apart is_open between.
        ordered zero (suc j) (omega arith)
        (record { first = m; second = x; is_first = refl; is_second = at; forking = a; apart = apart; between = from_first m log j a between })),
    orderly_from_admissible log (λ i j lt two. ordered (suc i) (suc j) (omega arith) (longer m log i j two)),
  )
