-- A run is admissible by what shows of it.
use Rattle.std.proofs.Common.{◌≡◌, ◌≢◌, ℕ, zero, suc, ◌<◌, ◌⊎◌, inl, inr, ⊎_elim, Some, List, [], ◌∷◌, slice_get, Contains, refl, sym, subst, arith}
use Rattle.std.proofs.lemmas.Option.{none-some, same_Some}
use Rattle.sc_values.specs.Access.{Access, no_access, Precedes, init_update, init_read, update_read, Clash, two_inits, two_updates, MayPrecede}
use Rattle.sc_values.specs.Runs.{Act, IsOrdered}
use Rattle.chart_lowering_laws.specs.Shown.{Move, Shown, Silent, all_acts, shown_acts}

-- ---- what neither reads nor writes may stand anywhere

reads_nothing : (x : ℕ) → Contains [] x → ⊥
reads_nothing x h = let lt = h.1 in absurd (omega arith)

nothing_first : (a : Access) → ¬ Precedes no_access a
nothing_first a (init_update x f i u) = absurd (cc)
nothing_first a (init_read x i r) = absurd (cc)
nothing_first a (update_read x f u r) = absurd (cc)

pub nothing_second : (a : Access) → ¬ Precedes a no_access
nothing_second a (init_update x f i u) = absurd (cc)
nothing_second a (init_read x i r) = absurd (reads_nothing x r)
nothing_second a (update_read x f u r) = absurd (reads_nothing x r)

nothing_clashes : (a : Access) → ¬ Clash no_access a
nothing_clashes a (two_inits x i j h) = absurd (cc)
nothing_clashes a (two_updates x f g u v h) = absurd (cc)

nothing_clashes_too : (a : Access) → ¬ Clash a no_access
nothing_clashes_too a (two_inits x i j h) = absurd (cc)
nothing_clashes_too a (two_updates x f g u v h) = absurd (cc)

pub before_all : (a : Access) → MayPrecede no_access a
before_all a = record { no_order = nothing_second a; no_clash = nothing_clashes a }

pub after_all : (a : Access) → MayPrecede a no_access
after_all a = record { no_order = nothing_first a; no_clash = nothing_clashes_too a }

-- ---- order, from the front

module _ (F : ℕ → ℕ → ℕ → Type 0) where
  -- these steps may come after x, where they are forked apart by one of the threads that may count
  abbrev Clear : Act → (ℕ → Type 0) → List Act → Type 0
  Clear x P [] = Unit {0}
  Clear x P (y ∷ ys) =
      ((a : ℕ) → P a → F x.thread y.thread a → MayPrecede x.access y.access)
      × Clear x (λ a. P a × (y.thread ≢ a)) ys

  abbrev After : Act → (ℕ → Type 0) → List Act → Type 0
  After x P ys =
      (j : ℕ) (y : Act) (a : ℕ) → slice_get ys j ≡ Some y → P a
      → ((k : ℕ) (z : Act) → k < j → slice_get ys k ≡ Some z → z.thread ≢ a)
      → F x.thread y.thread a → MayPrecede x.access y.access

  clear : (x : Act) (P : ℕ → Type 0) (ys : List Act) → After x P ys → Clear x P ys
  clear x P [] h = tt
  clear x P (y ∷ ys) h = (
    λ a p f. h 0 y a refl p (λ k z lt there. absurd (omega (arith, lt))) f,
    clear x (λ a. P a × (y.thread ≢ a)) ys (λ j z a is p none f. h (suc j) z a is p.0 (between j a p.1 none) f),
  )
    where
      between : (j a : ℕ) → y.thread ≢ a → ((k : ℕ) (z : Act) → k < j → slice_get ys k ≡ Some z → z.thread ≢ a)
          → (k : ℕ) (z : Act) → k < suc j → slice_get (y ∷ ys) k ≡ Some z → z.thread ≢ a
      between j a first none zero z lt there = subst (λ z. z.thread ≢ a) (same_Some y z there) first
      between j a first none (suc k) z lt there = none k z (omega (arith, lt)) there

  clear_back : (x : Act) (P : ℕ → Type 0) (ys : List Act) → Clear x P ys → After x P ys
  clear_back x P [] h j y a is p none f = absurd (none-some y is)
  clear_back x P (z ∷ ys) h zero y a is p none f =
      subst (λ (w : Act). MayPrecede x.access w.access) (same_Some z y is) (h.0 a p (subst (λ (w : Act). F x.thread w.thread a) (sym (same_Some z y is)) f))
  clear_back x P (z ∷ ys) h (suc j) y a is p none f =
      clear_back x (λ a. P a × (z.thread ≢ a)) ys h.1 j y a is (p, none 0 z (omega arith) refl) (λ k w lt there. none (suc k) w (omega (arith, lt)) there) f

  abbrev Any : ℕ → Type 0
  Any a = Unit {0}

  ordered_first : (x : Act) (xs : List Act) → IsOrdered F (x ∷ xs) → Clear x Any xs
  ordered_first x xs h = clear x Any xs (λ j y a is p none f. h 0 (suc j) (omega arith) (record {
    first = x;
    second = y;
    is_first = refl;
    is_second = is;
    forking = a;
    apart = f;
    between = λ k z low high there. at j a none k z low high there;
  }))
    where
      at : (j a : ℕ) → ((k : ℕ) (z : Act) → k < j → slice_get xs k ≡ Some z → z.thread ≢ a)
          → (k : ℕ) (z : Act) → 0 < k → k < suc j → slice_get (x ∷ xs) k ≡ Some z → z.thread ≢ a
      at j a none zero z low high there = absurd (omega (arith, low))
      at j a none (suc k) z low high there = none k z (omega (arith, high)) there

  ordered_rest : (x : Act) (xs : List Act) → IsOrdered F (x ∷ xs) → IsOrdered F xs
  ordered_rest x xs h i j lt both = h (suc i) (suc j) (omega (arith, lt)) (record {
    first = both.first;
    second = both.second;
    is_first = both.is_first;
    is_second = both.is_second;
    forking = both.forking;
    apart = both.apart;
    between = λ k z low high there. at k z low high there;
  })
    where
      at : (k : ℕ) (z : Act) → suc i < k → k < suc j → slice_get (x ∷ xs) k ≡ Some z → z.thread ≢ both.forking
      at zero z low high there = absurd (omega (arith, low))
      at (suc k) z low high there = both.between k z (omega (arith, low)) (omega (arith, high)) there

  ordered_cons : (x : Act) (xs : List Act) → Clear x Any xs → IsOrdered F xs → IsOrdered F (x ∷ xs)
  ordered_cons x xs first rest zero zero lt both = absurd (omega (arith, lt))
  ordered_cons x xs first rest (suc i) zero lt both = absurd (omega (arith, lt))
  ordered_cons x xs first rest zero (suc j) lt both =
      let same : x ≡ both.first = same_Some x both.first both.is_first in
      subst (λ (w : Act). MayPrecede w.access both.second.access) same
      (clear_back x Any xs first j both.second both.forking both.is_second tt
      (λ k z less there. both.between (suc k) z (omega arith) (omega (arith, less)) there)
      (subst (λ (w : Act). F w.thread both.second.thread both.forking) (sym same) both.apart))
  ordered_cons x xs first rest (suc i) (suc j) lt both = rest i j (omega (arith, lt)) (record {
    first = both.first;
    second = both.second;
    is_first = both.is_first;
    is_second = both.is_second;
    forking = both.forking;
    apart = both.apart;
    between = λ k z low high there. both.between (suc k) z (omega (arith, low)) (omega (arith, high)) there;
  })

  -- ---- from what shows to the whole

  abbrev pub Quiet : List Move → Type 0
  Quiet [] = Unit {0}
  Quiet (Shown x ∷ moves) = Quiet moves
  Quiet (Silent x ∷ moves) = (x.access ≡ no_access) × Quiet moves

  clear_whole : (x : Act) (P Q : ℕ → Type 0) (moves : List Move) → ((a : ℕ) → Q a → P a) → Quiet moves → Clear x P (shown_acts moves) →
      Clear x Q (all_acts moves)
  clear_whole x P Q [] sub quiet h = tt
  clear_whole x P Q (Shown y ∷ moves) sub quiet h = (
    λ a q f. h.0 a (sub a q) f,
    clear_whole x (λ a. P a × (y.thread ≢ a)) (λ a. Q a × (y.thread ≢ a)) moves (λ a q. (sub a q.0, q.1)) quiet h.1,
  )
  clear_whole x P Q (Silent y ∷ moves) sub quiet h = (
    λ a q f. subst (λ (s : Access). MayPrecede x.access s) (sym quiet.0) (after_all x.access),
    clear_whole x P (λ a. Q a × (y.thread ≢ a)) moves (λ a q. sub a q.0) quiet.1 h,
  )

  clear_silent : (x : Act) (P : ℕ → Type 0) (ys : List Act) → x.access ≡ no_access → Clear x P ys
  clear_silent x P [] is = tt
  clear_silent x P (y ∷ ys) is = (
    λ a p f. subst (λ (s : Access). MayPrecede s y.access) (sym is) (before_all y.access),
    clear_silent x (λ a. P a × (y.thread ≢ a)) ys is,
  )

  pub ordered_whole : (moves : List Move) → Quiet moves → IsOrdered F (shown_acts moves) → IsOrdered F (all_acts moves)
  ordered_whole [] quiet h = h
  ordered_whole (Shown x ∷ moves) quiet h =
      ordered_cons x (all_acts moves)
      (clear_whole x Any Any moves (λ a q. q) quiet (ordered_first x (shown_acts moves) h))
      (ordered_whole moves quiet (ordered_rest x (shown_acts moves) h))
  ordered_whole (Silent x ∷ moves) quiet h =
      ordered_cons x (all_acts moves) (clear_silent x Any (all_acts moves) quiet.0) (ordered_whole moves quiet.1 h)

  -- ---- from the whole to what shows

  -- nobody shows a step that thread a forks apart from those of thread t
  abbrev pub Never : ℕ → ℕ → List Move → Type 0
  Never t a [] = Unit {0}
  Never t a (Shown y ∷ moves) = (¬ F t y.thread a) × Never t a moves
  Never t a (Silent y ∷ moves) = Never t a moves

  -- the next step of thread a shows, or else nobody does so from then on
  abbrev pub Held : ℕ → ℕ → List Move → Type 0
  Held t a [] = Unit {0}
  Held t a (Shown y ∷ moves) = (y.thread ≡ a) ⊎ Held t a moves
  Held t a (Silent y ∷ moves) = ((y.thread ≢ a) × Held t a moves) ⊎ Never t a moves

  abbrev pub AreHeld : List Move → Type 0
  AreHeld [] = Unit {0}
  AreHeld (Shown x ∷ moves) = ((u a : ℕ) → F x.thread u a → Held x.thread a moves) × AreHeld moves
  AreHeld (Silent x ∷ moves) = AreHeld moves

  -- of the threads that may count by what shows, each may count in the whole
  abbrev Counts : ℕ → (ℕ → Type 0) → (ℕ → Type 0) → List Move → Type 0
  Counts t P Q moves = (u a : ℕ) → F t u a → Q a → (P a × Held t a moves) ⊎ Never t a moves

  clear_shown : (x : Act) (P Q : ℕ → Type 0) (moves : List Move) → Counts x.thread P Q moves → Clear x P (all_acts moves) → Clear x Q (shown_acts moves)
  clear_shown x P Q [] counts h = tt
  clear_shown x P Q (Shown y ∷ moves) counts h = (
    λ a q f. ⊎_elim (λ p. h.0 a p.0 f) (λ never. absurd (never.0 f)) (counts y.thread a f q),
    clear_shown x (λ a. P a × (y.thread ≢ a)) (λ a. Q a × (y.thread ≢ a)) moves onward h.1,
  )
    where
      onward : Counts x.thread (λ a. P a × (y.thread ≢ a)) (λ a. Q a × (y.thread ≢ a)) moves
      onward u a f q =
          ⊎_elim
          (λ p. ⊎_elim (λ same. absurd (q.1 same)) (λ held. inl ((p.0, q.1), held)) p.1)
          (λ never. inr never.1)
          (counts u a f q.0)
  clear_shown x P Q (Silent y ∷ moves) counts h = clear_shown x (λ a. P a × (y.thread ≢ a)) Q moves onward h.1
    where
      onward : Counts x.thread (λ a. P a × (y.thread ≢ a)) Q moves
      onward u a f q =
          ⊎_elim
          (λ p. ⊎_elim (λ held. inl ((p.0, held.0), held.1)) (λ never. inr never) p.1)
          (λ never. inr never)
          (counts u a f q)

  pub ordered_shown : (moves : List Move) → AreHeld moves → IsOrdered F (all_acts moves) → IsOrdered F (shown_acts moves)
  ordered_shown [] held h = h
  ordered_shown (Shown x ∷ moves) held h =
      ordered_cons x (shown_acts moves)
      (clear_shown x Any Any moves (λ u a f q. inl (tt, held.0 u a f)) (ordered_first x (all_acts moves) h))
      (ordered_shown moves held.1 (ordered_rest x (all_acts moves) h))
  ordered_shown (Silent x ∷ moves) held h = ordered_shown moves held (ordered_rest x (all_acts moves) h)
