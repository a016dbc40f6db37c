-- Rows stand as an item enters a row that has room.
use Rattle.std.proofs.Common.{◌≡◌, ◌≢◌, ℕ, ◌+◌, ◌<◌, ◌≤◌, ◌⊎◌, Bool, true, false, nat_eq, List, length, length-set, set, Option, Some, None, slice_get}
use Rattle.std.proofs.Common.{slice_index, refl, sym, ap, subst, ◌∙◌, inl, inr, arith, eqb-true}
use Rattle.std.proofs.lemmas.Option.{slice_get_within}
use Rattle.tick_core.specs.Rows.{IsIn, members}
use Rattle.tick_core.specs.Inside.Places.{is_in, HasPlace, Holds, Stand}
use Rattle.tick_core.proofs.Lists.{index_same, index_other, get_set_other, get_set_same, same_or_not, counts_one, count_set, of_same}
use Rattle.tick_core.proofs.Classes.{one_room, count_more, entered}

-- the row of a class has a free place behind its items
pub record FreePlace (rooms starts counts row : List ℕ) (class : ℕ) : Type 0 where
  pub place : slice_index starts class + slice_index counts class < length row
  pub room : slice_index counts class < slice_index rooms class
  pub count_there : class < length counts
  pub start_there : class < length starts

module _ (rooms : List ℕ) (classes : List (Option ℕ)) (starts counts row places : List ℕ) (top len : ℕ)
    (h : Stand rooms classes starts counts row places top len) where
  -- an item has entered the row of a class
  pub has_entered : (t class at greatest : ℕ) → slice_get classes t ≡ Some None → class < length rooms
      → members (set classes t (Some class)) class ≤ slice_index rooms class →
      at ≡ slice_index starts class + slice_index counts class → top ≤ greatest → class ≤ greatest →
      Stand rooms (set classes t (Some class)) starts (set counts class (slice_index counts class + 1)) (set row at t) (set places t at) greatest (len + 1)
  has_entered t class at greatest nowhere known fits at_is top_below class_below =
      record {
        lie = record {
          starts_long = h.lie.starts_long;
          apart = h.lie.apart;
          within = λ c below. omega (arith, h.lie.within c below, length-set row at t);
        };
        counts_long = length-set counts class (slice_index counts class + 1) ∙ h.counts_long;
        places_long = length-set places t at ∙ (h.places_long ∙ sym (length-set classes t (Some class)));
        counted = λ c below. counted c below (same_or_not c class);
        fits = λ c below. fit c below (same_or_not c class);
        known = λ u c is. known_after u c (entered classes t class u c in_classes is);
        placed = λ u c is. placed_after u c (entered classes t class u c in_classes is);
        held = λ c i below low high. held_after c i below low high (same_or_not c class) (same_or_not i at);
        below = λ u c is. below_after u c (entered classes t class u c in_classes is);
        len_is = omega (arith, h.len_is, count_set is_in classes t (Some class) None nowhere);
      }
    where
      in_classes : t < length classes
      in_classes = slice_get_within classes t None nowhere

      more : members (set classes t (Some class)) class ≡ slice_index counts class + 1
      more = let one = count_more classes t class class nowhere in let yes : counts_one (nat_eq class class) ≡ 1 = ap counts_one (of_same class) in
          omega (arith, h.counted class known)

      room : slice_index counts class < slice_index rooms class
      room = omega (arith, more)

      counts_after : slice_index (set counts class (slice_index counts class + 1)) class ≡ slice_index counts class + 1
      counts_after = index_same counts class (slice_index counts class + 1) (omega (arith, h.counts_long))

      counts_other : (c : ℕ) → c ≢ class → slice_index (set counts class (slice_index counts class + 1)) c ≡ slice_index counts c
      counts_other c other = index_other counts class c (slice_index counts class + 1) other

      other_test : (c : ℕ) → c ≢ class → nat_eq class c ≡ false
      other_test c other = go (nat_eq class c) refl
        where
          go : (b : Bool) → nat_eq class c ≡ b → nat_eq class c ≡ false
          go true is = absurd (other (sym (eqb-true class c is)))
          go false is = is

      counted : (c : ℕ) → c < length rooms → (c ≡ class) ⊎ (c ≢ class) → slice_index (set counts class (slice_index counts class + 1)) c
          ≡ members (set classes t (Some class)) c
      counted c below (inl same) = subst (λ c. slice_index (set counts class (slice_index counts class + 1)) c ≡ members (set classes t (Some class)) c)
          (sym same) (counts_after ∙ sym more)
      counted c below (inr other) =
          let no : counts_one (nat_eq class c) ≡ 0 = ap counts_one (other_test c other) in
          omega (arith, counts_other c other, h.counted c below, count_more classes t class c nowhere)

      fit : (c : ℕ) → c < length rooms → (c ≡ class) ⊎ (c ≢ class) → slice_index (set counts class (slice_index counts class + 1)) c ≤ slice_index rooms c
      fit c below (inl same) = subst (λ c. slice_index (set counts class (slice_index counts class + 1)) c ≤ slice_index rooms c) (sym same)
          (omega (arith, counts_after, room))
      fit c below (inr other) = omega (arith, counts_other c other, h.fits c below)

      known_after : (u c : ℕ) → ((u ≡ t) × (c ≡ class)) ⊎ ((u ≢ t) × IsIn classes u c) → c < length rooms
      known_after u c (inl same) = omega (arith, same.1)
      known_after u c (inr was) = h.known u c was.1

      below_after : (u c : ℕ) → ((u ≡ t) × (c ≡ class)) ⊎ ((u ≢ t) × IsIn classes u c) → c ≤ greatest
      below_after u c (inl same) = omega (arith, same.1)
      below_after u c (inr was) = omega (arith, h.below u c was.1)

      at_within : at < length row
      at_within = omega (arith, h.lie.within class known, room)

      -- nobody stood at the new place
      free : (u c : ℕ) → IsIn classes u c → slice_index places u ≢ at
      free u c is same = go (same_or_not c class)
        where
          place : HasPlace starts counts row places u c
          place = h.placed u c is

          go : (c ≡ class) ⊎ (c ≢ class) → ⊥
          go (inl e) = absurd (omega (arith, place.high, ap (slice_index starts) e, ap (slice_index counts) e))
          go (inr other) = other (one_room rooms starts row h.lie c class at (h.known u c is) known (omega (arith, place.low))
              (omega (arith, place.high, h.fits c (h.known u c is)))
              (omega arith) (omega (arith, room)))

      own_place : HasPlace starts (set counts class (slice_index counts class + 1)) (set row at t) (set places t at) t class
      own_place =
          let it : slice_index (set places t at) t ≡ at = index_same places t at (omega (arith, in_classes, h.places_long)) in
          record {
            low = omega (arith, it);
            high = omega (arith, it, counts_after);
            found = ap (slice_index (set row at t)) it ∙ index_same row at t at_within;
          }

      grown : (c : ℕ) → (c ≡ class) ⊎ (c ≢ class) → slice_index counts c ≤ slice_index (set counts class (slice_index counts class + 1)) c
      grown c (inl same) = omega (arith, counts_after, ap (slice_index counts) same, ap (slice_index (set counts class (slice_index counts class + 1))) same)
      grown c (inr other) = omega (arith, counts_other c other)

      placed_after : (u c : ℕ) → ((u ≡ t) × (c ≡ class)) ⊎ ((u ≢ t) × IsIn classes u c)
          → HasPlace starts (set counts class (slice_index counts class + 1)) (set row at t) (set places t at) u c
      placed_after u c (inl same) =
          subst (λ c. HasPlace starts (set counts class (slice_index counts class + 1)) (set row at t) (set places t at) u c) (sym same.1)
          (subst (λ u. HasPlace starts (set counts class (slice_index counts class + 1)) (set row at t) (set places t at) u class) (sym same.0) own_place)
      placed_after u c (inr was) =
          let place = h.placed u c was.1 in
          let it : slice_index (set places t at) u ≡ slice_index places u = index_other places t u at was.0 in
          record {
            low = omega (arith, it, place.low);
            high = omega (arith, it, place.high, grown c (same_or_not c class));
            found = ap (slice_index (set row at t)) it ∙ (index_other row at (slice_index places u) t (free u c was.1) ∙ place.found);
          }

      own_hold : Holds (set classes t (Some class)) (set row at t) (set places t at) class at
      own_hold =
          let it : slice_index (set row at t) at ≡ t = index_same row at t at_within in
          record {
            is_in = ap (slice_get (set classes t (Some class))) it ∙ get_set_same classes t (Some class) in_classes;
            knows = ap (slice_index (set places t at)) it ∙ index_same places t at (omega (arith, in_classes, h.places_long));
          }

      other_hold : (c i : ℕ) → i ≢ at → Holds classes row places c i → Holds (set classes t (Some class)) (set row at t) (set places t at) c i
      other_hold c i differ was =
          let it : slice_index (set row at t) i ≡ slice_index row i = index_other row at i t differ in
          let stays : slice_index row i ≢ t = λ same. none_there (sym nowhere ∙ (ap (slice_get classes) (sym same) ∙ was.is_in)) in
          record {
            is_in = ap (slice_get (set classes t (Some class))) it ∙ (get_set_other classes t (slice_index row i) (Some class) stays ∙ was.is_in);
            knows = ap (slice_index (set places t at)) it ∙ (index_other places t (slice_index row i) at stays ∙ was.knows);
          }
        where
          none_there : Some None ≡ Some (Some c) → ⊥
          none_there e = cc

      held_after : (c i : ℕ) → c < length rooms → slice_index starts c ≤ i
          → i < slice_index starts c + slice_index (set counts class (slice_index counts class + 1)) c →
          (c ≡ class) ⊎ (c ≢ class) → (i ≡ at) ⊎ (i ≢ at) → Holds (set classes t (Some class)) (set row at t) (set places t at) c i
      held_after c i below low high (inl same) (inl here) =
          subst (λ c. Holds (set classes t (Some class)) (set row at t) (set places t at) c i) (sym same)
          (subst (λ i. Holds (set classes t (Some class)) (set row at t) (set places t at) class i) (sym here) own_hold)
      held_after c i below low high (inr other) (inl here) =
          absurd (other (one_room rooms starts row h.lie c class at below known (omega arith) (omega (arith, counts_other c other, h.fits c below))
          (omega arith)
          (omega (arith, room))))
      held_after c i below low high (inl same) (inr there) =
          other_hold c i there (h.held c i below low
          (omega (
            arith,
            counts_after,
            ap (slice_index (set counts class (slice_index counts class + 1))) same,
            ap (slice_index counts) same,
            ap (slice_index starts) same,
          )))
      held_after c i below low high (inr other) (inr there) = other_hold c i there (h.held c i below low (omega (arith, counts_other c other)))

  -- the place behind a row that has room for an item lies in the flat row
  pub free_place : (t class : ℕ) → slice_get classes t ≡ Some None → class < length rooms
      → members (set classes t (Some class)) class ≤ slice_index rooms class →
      FreePlace rooms starts counts row class
  free_place t class nowhere known fits =
      let one = count_more classes t class class nowhere in
      let yes : counts_one (nat_eq class class) ≡ 1 = ap counts_one (of_same class) in
      let room : slice_index counts class < slice_index rooms class = omega (arith, h.counted class known) in
      record {
        place = omega (arith, h.lie.within class known);
        room = room;
        count_there = omega (arith, h.counts_long);
        start_there = omega (arith, h.lie.starts_long);
      }
