-- Names are apart whose numbers rise once they are sorted; and labels that are apart have none that stands twice.
use Rattle.std.proofs.Common.{◌≡◌, ℕ, zero, suc, ◌+◌, ◌-◌, ◌<◌, Bool, true, false, true≢false, Some, List, [], ◌∷◌}
use Rattle.std.proofs.Common.{map, drop, length, get_or, slice_get, append_assoc, ◌++◌, eqb, refl, sym, subst, ◌∙◌, ap}
use Rattle.std.proofs.Common.{arith, IsPermutation}
use Rattle.std.specs.Prelude.{not}
use Rattle.std.specs.Cmp.{nat_eq_equiv}
use Rattle.std.specs.List.{IsDistinct}
use Rattle.std.specs.Str.{bytes_eq}
use Rattle.std.proofs.Math.ListN.{get_or-map}
use Rattle.std.proofs.lemmas.List.{length-map}
use Rattle.std.proofs.lemmas.Option.{get_or_from_slice_get, none-some, slice_get_within}
use Rattle.std.proofs.lemmas.Bool.{eqb-true, eq-eqb}
use Rattle.std.proofs.lemmas.List.Sorted.{IsPermutation-sym}
use Rattle.std.proofs.lemmas.Map.Keys.{IsDistinct-IsPermutation, IsDistinct-from_apart, IsDistinct-tail, apart_from_distinct}
use Rattle.std.proofs.lemmas.Slice.Eq.{bytes_eq-Decides}
use Rattle.sc_text.specs.declared.read_fault.FaultKind.TheVariants as broken
use Rattle.sc_text.specs.declared.drafts.parts.Named.{Named}
use Rattle.sc_text.specs.Flaws.{first_or, flaw_if, is_at, is_repeated, place_among}
use Rattle.sc_text.proofs.Distinct.{AreFirst, itself}
use Rattle.sc_text.proofs.PartsInOrder.{drop_is}
use Rattle.scl_reader.specs.Inside.Apart.{AreRising, number_of}
use Rattle.scl_reader.specs.Flaws.{names, repeated}

rising_far : (xs : List ℕ) → AreRising xs → (i k d : ℕ) → i + suc k < length xs → get_or xs i d < get_or xs (i + suc k) d
rising_far xs h i zero d le =
    let next : i + 1 ≡ i + suc zero = omega arith in
    let up : get_or xs i d < get_or xs (i + 1) d = h.each i d (omega (arith, le)) in
    subst (λ n. get_or xs i d < get_or xs n d) next up
rising_far xs h i (suc k) d le =
    let before : _ = rising_far xs h i k d (omega (arith, le)) in
    let next : (i + suc k) + 1 ≡ i + suc (suc k) = omega arith in
    let up : get_or xs (i + suc k) d < get_or xs ((i + suc k) + 1) d = h.each (i + suc k) d (omega (arith, le)) in
    let more : get_or xs (i + suc k) d < get_or xs (i + suc (suc k)) d = subst (λ n. get_or xs (i + suc k) d < get_or xs n d) next up in
    omega (arith, before, more)

unequal : (x y : ℕ) → x < y → eqb x y ≡ false
unequal x y lt = by (eqb x y) refl
  where
    by : (b : Bool) → eqb x y ≡ b → b ≡ false
    by false e = refl
    by true e = let same : x ≡ y = eqb-true x y e in absurd (omega (arith, lt, same))

rising_distinct : (ys : List ℕ) → AreRising ys → IsDistinct eqb ys
rising_distinct ys h = IsDistinct-from_apart eqb ys (λ i j d before within.
    let at : i + suc (j - suc i) ≡ j = omega (arith, before) in
    let below : i + suc (j - suc i) < length ys = omega (arith, before, within) in
    unequal (get_or ys i d) (get_or ys j d) (subst (λ n. get_or ys i d < get_or ys n d) at (rising_far ys h i (j - suc i) d below)))

-- names whose numbers are distinct
other_name : (n : List ℕ) (ns : List (List ℕ)) (k : ℕ) (name : List ℕ) → IsDistinct eqb (map number_of (n ∷ ns)) → slice_get ns k ≡ Some name
    → bytes_eq n name ≡ false
other_name n ns k name d is = by (bytes_eq n name) refl
  where
    by : (b : Bool) → bytes_eq n name ≡ b → b ≡ false
    by false e = refl
    by true e =
        let same : n ≡ name = (bytes_eq-Decides n name).0 e in
        let within : k < length ns = slice_get_within ns k name is in
        let long : length (map number_of ns) ≡ length ns = length-map ns number_of in
        let apart : eqb (number_of n) (get_or (map number_of ns) k (number_of name)) ≡ false =
        apart_from_distinct eqb (map number_of (n ∷ ns)) 0 (suc k) (number_of name) d (omega arith) (omega (arith, within, long)) in
        let stands : get_or (map number_of ns) k (number_of name) ≡ number_of name =
        get_or-map number_of ns k name ∙ ap number_of (get_or_from_slice_get ns k name name is) in
        let equal : eqb (number_of n) (get_or (map number_of ns) k (number_of name)) ≡ true =
        eq-eqb (number_of n) (get_or (map number_of ns) k (number_of name)) (ap number_of same ∙ sym stands) in
        absurd (true≢false (sym equal ∙ apart))

all_first : (ns : List (List ℕ)) → IsDistinct eqb (map number_of ns) → AreFirst ns
all_first [] d k name is = absurd (none-some name is)
all_first (n ∷ ns) d zero name is =
    let same : n ≡ name = cc in
    ap (λ m. place_among (n ∷ ns) m) (sym same) ∙ ap (λ b. first_or b (place_among ns n)) (itself n)
all_first (n ∷ ns) d (suc k) name is =
    ap (λ b. first_or b (place_among ns name)) (other_name n ns k name d is)
    ∙ ap (first_or false) (all_first ns (IsDistinct-tail eqb (number_of n) (map number_of ns) d) k name is)

pub rising_apart : (ns : List (List ℕ)) (xs ys : List ℕ) → xs ≡ map number_of ns → IsPermutation xs ys → AreRising ys → AreFirst ns
rising_apart ns xs ys is moved h =
    all_first ns (subst (IsDistinct eqb) is (IsDistinct-IsPermutation eqb nat_eq_equiv.symm ys xs (IsPermutation-sym xs ys moved) (rising_distinct ys h)))

-- the numbers of labels, one behind the other
pub numbers_step : (all : List Named) (at : ℕ) (l : Named) (old new : List ℕ) → slice_get all at ≡ Some l → new ≡ old ++ number_of l.name ∷ []
    → new ++ map number_of (names (drop (at + 1) all)) ≡ old ++ map number_of (names (drop at all))
numbers_step all at l old new e is =
    ap (λ r. r ++ map number_of (names (drop (at + 1) all))) is
    ∙ append_assoc old (number_of l.name ∷ []) (map number_of (names (drop (at + 1) all)))
    ∙ ap (λ q. old ++ map number_of (names q)) (sym (drop_is all at l e))

-- ---- labels that are apart

abbrev StandsAt : List (List ℕ) → ℕ → List Named → Type 0
StandsAt ns at labels = (k : ℕ) (l : Named) → slice_get labels k ≡ Some l → slice_get ns (at + k) ≡ Some l.name

not_again : (ns : List (List ℕ)) (at : ℕ) (labels : List Named) → AreFirst ns → StandsAt ns at labels → repeated ns at labels ≡ []
not_again ns at [] first stands = refl
not_again ns at (l ∷ labels) first stands =
    let here : at + 0 ≡ at = omega arith in
    let place : place_among ns l.name ≡ Some at = first at l.name (subst (λ n. slice_get ns n ≡ Some l.name) here (stands 0 l refl)) in
    let once : is_repeated ns at l.name ≡ false = ap (λ o. not (is_at at o)) place ∙ ap not (eq-eqb at at refl) in
    let behind : StandsAt ns (at + 1) labels = λ k m is.
    let next : at + suc k ≡ (at + 1) + k = omega arith in
    subst (λ n. slice_get ns n ≡ Some m.name) next (stands (suc k) m is) in
    ap (λ b. flaw_if b broken.Repeated l.at ++ repeated ns (at + 1) labels) once ∙ not_again ns (at + 1) labels first behind

named_at : (labels : List Named) (k : ℕ) (l : Named) → slice_get labels k ≡ Some l → slice_get (names labels) k ≡ Some l.name
named_at [] k l is = absurd (none-some l is)
named_at (m ∷ labels) zero l is = let same : m ≡ l = cc in ap (λ r. Some r.name) same
named_at (m ∷ labels) (suc k) l is = named_at labels k l is

pub none_repeated : (labels : List Named) → AreFirst (names labels) → repeated (names labels) 0 labels ≡ []
none_repeated labels first = not_again (names labels) 0 labels first (λ k l is.
    let at : k ≡ 0 + k = omega arith in
    subst (λ n. slice_get (names labels) n ≡ Some l.name) at (named_at labels k l is))
