-- Rows stand as an item leaves its row, and the last of the row takes its place.
use Rattle.std.proofs.Common.{◌≡◌, ◌≢◌, ℕ, ◌+◌, ◌-◌, ◌<◌, ◌≤◌, ◌⊎◌, Bool, true, false, nat_eq, List, length, length-set, set, Option, Some, None, slice_get}
use Rattle.std.proofs.Common.{slice_index, refl, sym, ap, subst, ◌∙◌, inl, inr, arith, eqb-true}
use Rattle.std.specs.Prelude.{count_by}
use Rattle.std.proofs.lemmas.Option.{slice_get_within}
use Rattle.tick_core.specs.Rows.{IsIn, members}
use Rattle.tick_core.specs.Inside.Places.{is_in, HasPlace, Holds, Stand}
use Rattle.tick_core.proofs.Lists.{index_same, index_other, get_set_other, same_or_not, counts_one, count_set, of_same}
use Rattle.tick_core.proofs.Classes.{one_room, one_class, count_less, left}

-- what the row of an item is like
pub record StandsIn (classes : List (Option ℕ)) (starts counts row places : List ℕ) (t class : ℕ) : Type 0 where
  pub some : 1 ≤ slice_index counts class
  pub place : slice_index places t < length row
  pub last_place : slice_index starts class + (slice_index counts class - 1) < length row
  pub last_item : slice_index row (slice_index starts class + (slice_index counts class - 1)) < length places
  pub count_there : class < length counts
  pub start_there : class < length starts
  pub place_there : t < length places
  pub counted : 1 ≤ count_by is_in classes

module _ (rooms : List ℕ) (classes : List (Option ℕ)) (starts counts row places : List ℕ) (top len : ℕ)
    (h : Stand rooms classes starts counts row places top len) where
  -- an item has left its row, and the last of the row stands in its place
  pub has_left : (t class at count last : ℕ) → IsIn classes t class → at ≡ slice_index places t → count ≡ slice_index counts class - 1
      → last ≡ slice_index row (slice_index starts class + count) →
      Stand rooms (set classes t None) starts (set counts class count) (set row at last) (set places last at) top (len - 1)
  has_left t class at count last is at_is count_is last_is =
      record {
        lie = record {
          starts_long = h.lie.starts_long;
          apart = h.lie.apart;
          within = λ c below. omega (arith, h.lie.within c below, length-set row at last);
        };
        counts_long = length-set counts class count ∙ h.counts_long;
        places_long = length-set places last at ∙ (h.places_long ∙ sym (length-set classes t None));
        counted = λ c below. counted c below (same_or_not c class);
        fits = λ c below. fit c below (same_or_not c class);
        known = λ u c stays. h.known u c (left classes t u c in_classes stays).1;
        placed = λ u c stays. placed_after u c (left classes t u c in_classes stays) (same_or_not u last) (same_or_not c class);
        held = λ c i below low high. held_after c i below low high (same_or_not c class) (same_or_not i at);
        below = λ u c stays. h.below u c (left classes t u c in_classes stays).1;
        len_is = omega (arith, h.len_is, count_set is_in classes t None (Some class) is);
      }
    where
      in_classes : t < length classes
      in_classes = slice_get_within classes t (Some class) is

      known : class < length rooms
      known = h.known t class is

      place : HasPlace starts counts row places t class
      place = h.placed t class is

      some : 1 ≤ slice_index counts class
      some = omega (arith, place.low, place.high)

      ends : Holds classes row places class (slice_index starts class + count)
      ends = h.held class (slice_index starts class + count) known (omega arith) (omega (arith, some))

      last_in : IsIn classes last class
      last_in = ap (slice_get classes) last_is ∙ ends.is_in

      last_knows : slice_index places last ≡ slice_index starts class + count
      last_knows = ap (slice_index places) last_is ∙ ends.knows

      at_within : at < length row
      at_within = omega (arith, place.high, h.fits class known, h.lie.within class known)

      less : members (set classes t None) class + 1 ≡ slice_index counts class
      less = let one = count_less classes t class class is in let yes : counts_one (nat_eq class class) ≡ 1 = ap counts_one (of_same class) in
          omega (arith, h.counted class known)

      counts_after : slice_index (set counts class count) class ≡ count
      counts_after = index_same counts class count (omega (arith, h.counts_long, known))

      counts_other : (c : ℕ) → c ≢ class → slice_index (set counts class count) c ≡ slice_index counts c
      counts_other c other = index_other counts class c count other

      other_test : (c : ℕ) → c ≢ class → nat_eq class c ≡ false
      other_test c other = go (nat_eq class c) refl
        where
          go : (b : Bool) → nat_eq class c ≡ b → nat_eq class c ≡ false
          go true same = absurd (other (sym (eqb-true class c same)))
          go false same = same

      counted : (c : ℕ) → c < length rooms → (c ≡ class) ⊎ (c ≢ class) → slice_index (set counts class count) c ≡ members (set classes t None) c
      counted c below (inl same) = subst (λ c. slice_index (set counts class count) c ≡ members (set classes t None) c) (sym same)
          (omega (arith, counts_after, less))
      counted c below (inr other) =
          let no : counts_one (nat_eq class c) ≡ 0 = ap counts_one (other_test c other) in
          omega (arith, counts_other c other, h.counted c below, count_less classes t class c is)

      fit : (c : ℕ) → c < length rooms → (c ≡ class) ⊎ (c ≢ class) → slice_index (set counts class count) c ≤ slice_index rooms c
      fit c below (inl same) = subst (λ c. slice_index (set counts class count) c ≤ slice_index rooms c) (sym same)
          (omega (arith, counts_after, h.fits class known))
      fit c below (inr other) = omega (arith, counts_other c other, h.fits c below)

      moved_knows : slice_index (set places last at) last ≡ at
      moved_knows = index_same places last at (omega (arith, slice_get_within classes last (Some class) last_in, h.places_long))

      -- the item and the last one stand at different places, if they differ
      at_before : (u : ℕ) → u ≢ t → u ≡ last → at < slice_index starts class + count
      at_before u differ same = go (same_or_not at (slice_index starts class + count))
        where
          go : (at ≡ slice_index starts class + count) ⊎ (at ≢ slice_index starts class + count) → at < slice_index starts class + count
          go (inl e) = absurd (differ (same ∙ (last_is ∙ (ap (slice_index row) (sym e ∙ at_is) ∙ place.found))))
          go (inr e) = omega (arith, place.high, some)

      -- nobody else stands at the item's place
      alone : (u c : ℕ) → u ≢ t → IsIn classes u c → slice_index places u ≢ at
      alone u c differ stays same = differ (sym (h.placed u c stays).found ∙ (ap (slice_index row) (same ∙ at_is) ∙ place.found))

      -- nor at the last place
      not_last : (u c : ℕ) → u ≢ last → IsIn classes u c → slice_index places u ≢ slice_index starts class + count
      not_last u c differ stays same = differ (sym (h.placed u c stays).found ∙ (ap (slice_index row) same ∙ sym last_is))

      moved_place : HasPlace starts (set counts class count) (set row at last) (set places last at) last class → (u c : ℕ) → u ≡ last → c ≡ class →
          HasPlace starts (set counts class count) (set row at last) (set places last at) u c
      moved_place own u c same class_same =
          subst (λ c. HasPlace starts (set counts class count) (set row at last) (set places last at) u c) (sym class_same)
          (subst (λ u. HasPlace starts (set counts class count) (set row at last) (set places last at) u class) (sym same) own)

      placed_after : (u c : ℕ) → (u ≢ t) × IsIn classes u c → (u ≡ last) ⊎ (u ≢ last) → (c ≡ class) ⊎ (c ≢ class) →
          HasPlace starts (set counts class count) (set row at last) (set places last at) u c
      placed_after u c was (inl same) other =
          let class_same : c ≡ class = one_class classes last c class (ap (slice_get classes) (sym same) ∙ was.1) last_in in
          let before : at < slice_index starts class + count = at_before u was.0 same in
          moved_place (record {
            low = omega (arith, moved_knows, place.low);
            high = omega (arith, moved_knows, counts_after);
            found = ap (slice_index (set row at last)) moved_knows ∙ index_same row at last at_within;
          }) u c same class_same
      placed_after u c was (inr differ) (inl same) =
          let own = h.placed u c was.1 in
          let it : slice_index (set places last at) u ≡ slice_index places u = index_other places last u at differ in
          let ne : slice_index places u ≢ slice_index starts class + count = not_last u c differ was.1 in
          record {
            low = omega (arith, it, own.low);
            high = omega (
              arith,
              it,
              own.high,
              ap (slice_index starts) same,
              ap (slice_index counts) same,
              ap (slice_index (set counts class count)) same,
              counts_after,
              some,
            );
            found = ap (slice_index (set row at last)) it ∙ (index_other row at (slice_index places u) last (alone u c was.0 was.1) ∙ own.found);
          }
      placed_after u c was (inr differ) (inr other) =
          let own = h.placed u c was.1 in
          let it : slice_index (set places last at) u ≡ slice_index places u = index_other places last u at differ in
          record {
            low = omega (arith, it, own.low);
            high = omega (arith, it, own.high, counts_other c other);
            found = ap (slice_index (set row at last)) it ∙ (index_other row at (slice_index places u) last (alone u c was.0 was.1) ∙ own.found);
          }

      here_holds : at < slice_index starts class + count → Holds (set classes t None) (set row at last) (set places last at) class at
      here_holds before =
          let it : slice_index (set row at last) at ≡ last = index_same row at last at_within in
          let differ : last ≢ t = λ same. absurd (omega (arith, last_knows, ap (slice_index places) same)) in
          record {
            is_in = ap (slice_get (set classes t None)) it ∙ (get_set_other classes t last None differ ∙ last_in);
            knows = ap (slice_index (set places last at)) it ∙ moved_knows;
          }

      other_hold : (c i : ℕ) → i ≢ at → i ≢ slice_index starts class + count → Holds classes row places c i
          → Holds (set classes t None) (set row at last) (set places last at) c i
      other_hold c i differ no_end was =
          let it : slice_index (set row at last) i ≡ slice_index row i = index_other row at i last differ in
          let no_t : slice_index row i ≢ t = λ same. differ (sym was.knows ∙ (ap (slice_index places) same ∙ sym at_is)) in
          let no_last : slice_index row i ≢ last = λ same. no_end (sym was.knows ∙ (ap (slice_index places) same ∙ last_knows)) in
          record {
            is_in = ap (slice_get (set classes t None)) it ∙ (get_set_other classes t (slice_index row i) None no_t ∙ was.is_in);
            knows = ap (slice_index (set places last at)) it ∙ (index_other places last (slice_index row i) at no_last ∙ was.knows);
          }

      held_after : (c i : ℕ) → c < length rooms → slice_index starts c ≤ i → i < slice_index starts c + slice_index (set counts class count) c →
          (c ≡ class) ⊎ (c ≢ class) → (i ≡ at) ⊎ (i ≢ at) → Holds (set classes t None) (set row at last) (set places last at) c i
      held_after c i below low high (inl same) (inl here) =
          subst (λ c. Holds (set classes t None) (set row at last) (set places last at) c i) (sym same)
          (subst (λ i. Holds (set classes t None) (set row at last) (set places last at) class i) (sym here)
          (here_holds (omega (arith, ap (slice_index starts) same, ap (slice_index (set counts class count)) same, counts_after))))
      held_after c i below low high (inr other) (inl here) =
          absurd (other (one_room rooms starts row h.lie c class at below known (omega arith)
          (omega (arith, counts_other c other, h.fits c below)) (omega (arith, place.low))
          (omega (arith, place.high, h.fits class known))))
      held_after c i below low high (inl same) (inr there) =
          other_hold c i there (λ e. absurd (omega (arith, ap (slice_index starts) same, ap (slice_index (set counts class count)) same, counts_after)))
          (h.held c i below low (omega (
            arith,
            counts_after,
            ap (slice_index (set counts class count)) same,
            ap (slice_index counts) same,
            ap (slice_index starts) same,
          )))
      held_after c i below low high (inr other) (inr there) =
          other_hold c i there (λ e.
          absurd (other (one_room rooms starts row h.lie c class i below known low (omega (arith, counts_other c other, h.fits c below)) (omega arith)
          (omega (arith, some, h.fits class known)))))
          (h.held c i below low (omega (arith, counts_other c other)))

  -- an item that stands in a row: its place and the last place of the row lie in the flat row, and who is last is an item
  pub stands_in : (t class : ℕ) → IsIn classes t class → StandsIn classes starts counts row places t class
  stands_in t class is =
      let known = h.known t class is in
      let place = h.placed t class is in
      let some : 1 ≤ slice_index counts class = omega (arith, place.low, place.high) in
      let ends : Holds classes row places class (slice_index starts class + (slice_index counts class - 1)) = h.held class
      (slice_index starts class + (slice_index counts class - 1)) known (omega arith) (omega (arith, some)) in
      record {
        some = some;
        place = omega (arith, place.high, h.fits class known, h.lie.within class known);
        last_place = omega (arith, h.fits class known, h.lie.within class known);
        last_item = omega (
          arith,
          slice_get_within classes (slice_index row (slice_index starts class + (slice_index counts class - 1)))
              (Some class) ends.is_in,
          h.places_long,
        );
        count_there = omega (arith, h.counts_long);
        start_there = omega (arith, h.lie.starts_long);
        place_there = omega (arith, slice_get_within classes t (Some class) is, h.places_long);
        counted = omega (arith, h.len_is, count_set is_in classes t None (Some class) is);
      }
