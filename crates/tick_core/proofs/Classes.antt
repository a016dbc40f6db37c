-- Which class an item is of, and how many are of a class, as one gets a class and as one loses it; whose room a place lies in.
use Rattle.std.proofs.Common.{◌≡◌, ◌≢◌, ℕ, ◌+◌, ◌<◌, ◌≤◌, ◌⊎◌, nat_eq, List, length, get_or, set, Option, Some, None, slice_get, slice_index}
use Rattle.std.proofs.Common.{refl, sym, ap, ◌∙◌, inl, inr, arith}
use Rattle.std.proofs.lemmas.Bool.{cases_lt}
use Rattle.std.proofs.lemmas.Option.{slice_get_read}
use Rattle.tick_core.specs.Rows.{IsIn, is_of, members}
use Rattle.tick_core.specs.Inside.Places.{LieApart}
use Rattle.tick_core.proofs.Lists.{get_set_other, get_set_same, same_or_not, counts_one, count_set}

pub one_class : (classes : List (Option ℕ)) (t a b : ℕ) → IsIn classes t a → IsIn classes t b → a ≡ b
one_class classes t a b x y = let e : Some (Some a) ≡ Some (Some b) = sym x ∙ y in cc

pub count_more : (classes : List (Option ℕ)) (t class other : ℕ) → slice_get classes t ≡ Some None → members (set classes t (Some class)) other + 0
    ≡ members classes other + counts_one (nat_eq class other)
count_more classes t class other none = count_set (is_of other) classes t (Some class) None none

pub count_less : (classes : List (Option ℕ)) (t class other : ℕ) → IsIn classes t class → members (set classes t None) other + counts_one (nat_eq class other)
    ≡ members classes other + 0
count_less classes t class other is = count_set (is_of other) classes t None (Some class) is

-- who stands in a row after an item has entered one
pub entered : (classes : List (Option ℕ)) (t class u other : ℕ) → t < length classes → IsIn (set classes t (Some class)) u other →
    ((u ≡ t) × (other ≡ class)) ⊎ ((u ≢ t) × IsIn classes u other)
entered classes t class u other below is = go (same_or_not u t)
  where
    go : (u ≡ t) ⊎ (u ≢ t) → ((u ≡ t) × (other ≡ class)) ⊎ ((u ≢ t) × IsIn classes u other)
    go (inl same) =
        let here : slice_get (set classes t (Some class)) t ≡ Some (Some class) = get_set_same classes t (Some class) below in
        let also : slice_get (set classes t (Some class)) t ≡ Some (Some other) = sym (ap (slice_get (set classes t (Some class))) same) ∙ is in
        let e : other ≡ class = cc in
        inl (same, e)
    go (inr differ) = inr (differ, sym (get_set_other classes t u (Some class) differ) ∙ is)

-- and after one has left
pub left : (classes : List (Option ℕ)) (t u other : ℕ) → t < length classes → IsIn (set classes t None) u other → (u ≢ t) × IsIn classes u other
left classes t u other below is = go (same_or_not u t)
  where
    go : (u ≡ t) ⊎ (u ≢ t) → (u ≢ t) × IsIn classes u other
    go (inl same) =
        let here : slice_get (set classes t None) t ≡ Some None = get_set_same classes t None below in
        let also : slice_get (set classes t None) t ≡ Some (Some other) = sym (ap (slice_get (set classes t None)) same) ∙ is in
        absurd cc
    go (inr differ) = (differ, sym (get_set_other classes t u None differ) ∙ is)

-- an item of which a class was read stands in its row
pub stood_in : (classes : List (Option ℕ)) (t : ℕ) (o : Option ℕ) (class : ℕ) → t < length classes → o ≡ get_or classes t o → o ≡ Some class
    → IsIn classes t class
stood_in classes t o class below read is = slice_get_read classes (length classes) t o refl below read ∙ ap Some is

-- a place lies in the room of one class
pub one_room : (rooms starts row : List ℕ) → LieApart rooms starts row → (a b i : ℕ) → a < length rooms → b < length rooms
    → slice_index starts a ≤ i → i < slice_index starts a + slice_index rooms a →
    slice_index starts b ≤ i → i < slice_index starts b + slice_index rooms b → a ≡ b
one_room rooms starts row lie a b i a_known b_known a_low a_high b_low b_high = go (cases_lt a b) (cases_lt b a)
  where
    go : (a < b) ⊎ (b ≤ a) → (b < a) ⊎ (a ≤ b) → a ≡ b
    go (inl less) other = absurd (omega (arith, lie.apart a b less b_known))
    go other (inl less) = absurd (omega (arith, lie.apart b a less a_known))
    go (inr x) (inr y) = omega arith
