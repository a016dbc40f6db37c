-- What the rows tell: who stands in one, and whether anybody does.
use Rattle.std.proofs.Common.{◌≡◌, ◌≢◌, ℕ, zero, suc, ◌+◌, ◌-◌, ◌<◌, ◌≤◌, ◌⊎◌, Bool, true, false, List, [], ◌∷◌, length, length-drop, take, drop}
use Rattle.std.proofs.Common.{get_or, Option, Some, None, slice_get, slice_index, Contains, refl, sym, ap, subst, ◌∙◌, inl, inr, arith}
use Rattle.std.specs.Prelude.{count_by, cond, ◌↔◌, MatchOption}
use Rattle.std.proofs.lemmas.Option.{slice_get_within, get_or_from_slice_get}
use Rattle.std.proofs.lemmas.Grind.{get_or_default_zero}
use Rattle.std.proofs.lemmas.Bool.{cases_lt}
use Rattle.std.proofs.lemmas.List.{get_or_past, length-take-le, get_or-take, get_or-drop}
use Rattle.std.proofs.lemmas.List.Recursion.{is_count_by}
use Rattle.std.proofs.lemmas.List.Sums.{get_or-le-sum_by}
use Rattle.tick_core.specs.Rows.{IsIn, IsRow, IsBare, AreEmpty, IsGreatest, IsFirst}
use Rattle.tick_core.specs.Inside.Places.{is_in, Holds, Stand}
use Rattle.tick_core.proofs.Lists.{counts_one}

-- what is counted is counted at least once where it stands
counted_once : {X : Type 0} (p : X → Bool) (xs : List X) (i : ℕ) (x : X) → slice_get xs i ≡ Some x → p x ≡ true → 1 ≤ count_by p xs
counted_once p xs i x is counts =
    let one : counts_one (p (get_or xs i x)) ≤ count_by p xs = get_or-le-sum_by (λ z. counts_one (p z)) xs i x (slice_get_within xs i x is) in
    let same : counts_one (p (get_or xs i x)) ≡ 1 = ap (λ z. counts_one (p z)) (get_or_from_slice_get xs i x x is) ∙ ap counts_one counts in
    omega arith

abbrev tally : (X : Type 0) (p : X → Bool) → List X → ℕ
tally X p [] = 0
tally X p (x ∷ xs) = cond (p x) (1 + tally X p xs) (tally X p xs)

somewhere : (X : Type 0) (p : X → Bool) (xs : List X) → 1 ≤ tally X p xs → (i : ℕ) × (x : X) × (slice_get xs i ≡ Some x) × (p x ≡ true)
somewhere X p [] some = absurd (omega arith)
somewhere X p (x ∷ xs) some = at_head (p x) refl (λ more. somewhere X p xs more)
  where
    at_head : (b : Bool) → p x ≡ b → (1 ≤ tally X p xs → (i : ℕ) × (y : X) × (slice_get xs i ≡ Some y) × (p y ≡ true)) → (i : ℕ) × (y : X)
        × (slice_get (x ∷ xs) i ≡ Some y) × (p y ≡ true)
    at_head true is rest = (0, x, refl, is)
    at_head false is rest =
        let found = rest (subst (λ b. 1 ≤ cond b (1 + tally X p xs) (tally X p xs)) is some) in
        (suc found.0, found.1, found.2, found.3)

-- where something is counted it stands somewhere
pub counted_somewhere : (X : Type 0) (p : X → Bool) (xs : List X) → 1 ≤ count_by p xs → (i : ℕ) × (x : X) × (slice_get xs i ≡ Some x) × (p x ≡ true)
counted_somewhere X p xs some = somewhere X p xs (subst (λ n. 1 ≤ n) (sym (is_count_by (tally X p) p refl (λ x xs. refl) xs)) some)

class_in : (o : Option ℕ) → is_in o ≡ true → (class : ℕ) × (o ≡ Some class)
class_in None stands = absurd cc
class_in (Some class) stands = (class, refl)

module _ (rooms : List ℕ) (classes : List (Option ℕ)) (starts counts row places : List ℕ) (top len : ℕ)
    (h : Stand rooms classes starts counts row places top len) where
  pub empty_is : (len ≡ 0) ↔ AreEmpty (record { rooms = rooms; classes = classes })
  empty_is = (
    λ none. record { each = λ t class is. absurd (let one = counted_once is_in classes t (Some class) is refl in omega (arith, h.len_is)) },
    λ empty. none empty,
  )
    where
      none : AreEmpty (record { rooms = rooms; classes = classes }) → len ≡ 0
      none empty = go len refl
        where
          go : (n : ℕ) → len ≡ n → len ≡ 0
          go zero is = is
          go (suc n) is =
              let there = counted_somewhere (Option ℕ) is_in classes (omega (arith, h.len_is)) in
              let class = class_in there.1 there.3 in
              absurd (empty.each there.0 class.0 (there.2 ∙ ap Some class.1))

  pub lies_within : (class : ℕ) → class < length rooms → slice_index starts class + slice_index counts class ≤ length row
  lies_within class known = omega (arith, h.lie.within class known, h.fits class known)

  pub start_known : (class : ℕ) → class < length counts → (class < length rooms) × (class < length starts)
  start_known class below = (omega (arith, h.counts_long), omega (arith, h.counts_long, h.lie.starts_long))

  -- a row as it is lent
  module _ (class : ℕ) (xs : List ℕ) (known : class < length rooms) (is : xs ≡ take (slice_index counts class) (drop (slice_index starts class) row)) where
    long : length xs ≡ slice_index counts class
    long = ap length is ∙ length-take-le (slice_index counts class) (drop (slice_index starts class) row)
        (omega (arith, lies_within class known, length-drop (slice_index starts class) row))

    at : (i d : ℕ) → i < slice_index counts class → get_or xs i d ≡ get_or row (slice_index starts class + i) d
    at i d below =
        ap (λ l. get_or l i d) is ∙ (get_or-take (slice_index counts class) (drop (slice_index starts class) row) i d below
        ∙ get_or-drop (slice_index starts class) row i d)

    -- who stands at a place of the row
    at_place : (i t : ℕ) → i < slice_index counts class → get_or xs i t ≡ t → slice_index row (slice_index starts class + i) ≡ t
    at_place i t below found =
        sym (get_or_default_zero row (slice_index starts class + i) t (omega (arith, lies_within class known))) ∙ (sym (at i t below) ∙ found)

    holds : (i : ℕ) → i < slice_index counts class → Holds classes row places class (slice_index starts class + i)
    holds i below = h.held class (slice_index starts class + i) known (omega arith) (omega arith)

    -- two places of the row hold two items
    differ : (i j a b : ℕ) → i < j → slice_get xs i ≡ Some a → slice_get xs j ≡ Some b → a ≢ b
    differ i j a b less at_i at_j same =
        let i_below : i < slice_index counts class = omega (arith, slice_get_within xs i a at_i, long) in
        let j_below : j < slice_index counts class = omega (arith, slice_get_within xs j b at_j, long) in
        let i_is = at_place i a i_below (get_or_from_slice_get xs i a a at_i) in
        let j_is = at_place j b j_below (get_or_from_slice_get xs j b b at_j) in
        let i_knows = sym (ap (slice_index places) i_is) ∙ (holds i i_below).knows in
        let j_knows = sym (ap (slice_index places) j_is) ∙ (holds j j_below).knows in
        absurd (omega (arith, i_knows, j_knows, ap (slice_index places) same))

    found : (t : ℕ) → IsIn classes t class → Contains xs t
    found t stands =
        let place = h.placed t class stands in
        let k = slice_index places t - slice_index starts class in
        let below : slice_index places t - slice_index starts class < slice_index counts class = omega (arith, place.low, place.high) in
        let whole : slice_index starts class + (slice_index places t - slice_index starts class) ≡ slice_index places t = omega (arith, place.low) in (
          slice_index places t - slice_index starts class,
          omega (arith, below, long),
          at (slice_index places t - slice_index starts class) t below ∙ (ap (λ n. get_or row n t) whole
              ∙ (get_or_default_zero row (slice_index places t) t (omega (arith, place.high, lies_within class known)) ∙ place.found)),
        )

    pub row_is : IsRow classes class xs
    row_is =
        record {
          each = λ t within.
              let below : within.0 < slice_index counts class = omega (arith, within.1, long) in
              sym (ap (slice_get classes) (at_place within.0 t below within.2)) ∙ (holds within.0 below).is_in;
          all = found;
          once = differ;
        }

  pub no_row : (class : ℕ) → length rooms ≤ class → IsRow classes class []
  no_row class past =
      record {
        each = λ t within. absurd (let lt = within.1 in omega arith);
        all = λ t is. absurd (omega (arith, h.known t class is));
        once = λ i j a b less at. absurd (omega (arith, slice_get_within [] i a at));
      }

  -- the class to which the search has fallen
  pub greatest_is : (class : ℕ) → ¬ (len ≡ 0) → class ≤ top → ((other : ℕ) → class < other → other ≤ top → slice_index counts other ≡ 0)
      → (slice_index counts class ≡ 0 → class ≡ 0) →
      IsGreatest (record { rooms = rooms; classes = classes }) class
  greatest_is class some at_most bare stands =
      let there = counted_somewhere (Option ℕ) is_in classes (omega (arith, h.len_is, some)) in
      let own = class_in there.1 there.3 in
      let is : IsIn classes there.0 own.0 = there.2 ∙ ap Some own.1 in
      let below : own.0 ≤ class = not_above there.0 own.0 is in
      let taken : 1 ≤ slice_index counts class = at_least there.0 own.0 is below in
      let known : class < length rooms = in_rooms (slice_index counts class) class refl taken in
      let first : Holds classes row places class (slice_index starts class) = h.held class (slice_index starts class) known (omega arith) (omega arith) in
      record { someone = slice_index row (slice_index starts class); is_in = first.is_in; greatest = not_above }
    where
      taken_by : (t other : ℕ) → IsIn classes t other → 1 ≤ slice_index counts other
      taken_by t other is = let place = h.placed t other is in omega (arith, place.low, place.high)

      not_above : (t other : ℕ) → IsIn classes t other → other ≤ class
      not_above t other is = go (cases_lt class other)
        where
          go : (class < other) ⊎ (other ≤ class) → other ≤ class
          go (inl above) = absurd (omega (arith, bare other above (h.below t other is), taken_by t other is))
          go (inr below) = below

      at_least : (t other : ℕ) → IsIn classes t other → other ≤ class → 1 ≤ slice_index counts class
      at_least t other is below = go (cases_lt 0 (slice_index counts class))
        where
          go : (0 < slice_index counts class) ⊎ (slice_index counts class ≤ 0) → 1 ≤ slice_index counts class
          go (inl some) = some
          go (inr none) =
              let zero_class : class ≡ 0 = stands (omega arith) in
              let same : other ≡ class = omega arith in
              absurd (omega (arith, taken_by t other is, ap (slice_index counts) same))

      in_rooms : (n c : ℕ) → slice_index counts c ≡ n → 1 ≤ n → c < length rooms
      in_rooms n c is some_there = go (cases_lt c (length counts))
        where
          go : (c < length counts) ⊎ (length counts ≤ c) → c < length rooms
          go (inl within) = omega (arith, h.counts_long)
          go (inr past) = absurd (omega (arith, get_or_past counts c 0 past))

  -- who stands in the row of the greatest class is first
  pub first_is : (class : ℕ) → IsGreatest (record { rooms = rooms; classes = classes }) class → (o : Option ℕ) →
      MatchOption o (IsBare (record { rooms = rooms; classes = classes }) class) (λ t. IsIn classes t class) →
      MatchOption o (AreEmpty (record { rooms = rooms; classes = classes })) (IsFirst (record { rooms = rooms; classes = classes }))
  first_is class great None bare = absurd (bare.each great.someone great.is_in)
  first_is class great (Some t) is = record { class = class; is_in = is; greatest = great.greatest }

  -- nobody stands in a row of a greater class than the one to which the search has fallen
  pub fallen : (class : ℕ) → IsGreatest (record { rooms = rooms; classes = classes }) class → Stand rooms classes starts counts row places class len
  fallen class great =
      record {
        lie = h.lie;
        counts_long = h.counts_long;
        places_long = h.places_long;
        counted = h.counted;
        fits = h.fits;
        known = h.known;
        placed = h.placed;
        held = h.held;
        below = great.greatest;
        len_is = h.len_is;
      }
