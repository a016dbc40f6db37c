-- Flaws that are told are found by going over them.
use Rattle.std.proofs.Common.{◌≡◌, ℕ, zero, suc, ◌≤◌, ◌<◌, Bool, true, false, Some, None, List, [], ◌∷◌, ◌++◌, refl, sym, ◌∙◌}
use Rattle.std.proofs.Common.{ap, arith, take, length, slice_get, if◌then◌else◌}
use Rattle.std.proofs.lemmas.Option.{slice_get_within}
use Rattle.sc_text.specs.declared.drafts.flaw.Flaw.{Flaw}
use Rattle.sc_text.specs.First.{comes_before, earlier, first_behind}
use Rattle.sc_text.specs.Told.{inserted, in_order_with, told_behind, told_limit, told_of}

pub told_both : (found xs ys : List Flaw) → told_behind found (xs ++ ys) ≡ told_behind (told_behind found xs) ys
told_both found [] ys = refl
told_both found (x ∷ xs) ys = told_both (take told_limit (inserted x found)) xs ys

-- ---- some of a list, from its front

module _ {A : Type 0} where
  pub taken_whole : (n : ℕ) (xs : List A) → length xs ≤ n → take n xs ≡ xs
  taken_whole zero [] le = refl
  taken_whole (suc n) [] le = refl
  taken_whole zero (x ∷ xs) le = absurd (omega (arith, le))
  taken_whole (suc n) (x ∷ xs) le = ap (λ ys. x ∷ ys) (taken_whole n xs (omega (arith, le)))

  taken_less : (n : ℕ) (xs : List A) → take n (take (suc n) xs) ≡ take n xs
  taken_less zero xs = refl
  taken_less (suc n) [] = refl
  taken_less (suc n) (y ∷ ys) = ap (λ zs. y ∷ zs) (taken_less n ys)

  taken_again : (n : ℕ) (xs : List A) → take n (take n xs) ≡ take n xs
  taken_again zero xs = refl
  taken_again (suc n) [] = refl
  taken_again (suc n) (y ∷ ys) = ap (λ zs. y ∷ zs) (taken_again n ys)

  taken_behind : (n : ℕ) (x : A) (xs : List A) → take n (x ∷ take n xs) ≡ take n (x ∷ xs)
  taken_behind zero x xs = refl
  taken_behind (suc n) x xs = ap (λ ys. x ∷ ys) (taken_less n xs)

-- ---- a flaw that comes before none of as many as are told

abbrev pub ComesBeforeNone : Flaw → List Flaw → Type 0
ComesBeforeNone f found = (k : ℕ) (g : Flaw) → slice_get found k ≡ Some g → comes_before f g ≡ false

stay_by_case : (f g : Flaw) (xs : List Flaw) (b : Bool) → take (length xs) (inserted f xs) ≡ xs
    → take (suc (length xs)) (if b then g ∷ inserted f xs else g ∷ xs) ≡ g ∷ xs
stay_by_case f g xs true e = ap (λ ys. g ∷ ys) e
stay_by_case f g xs false e = ap (λ ys. g ∷ ys) (taken_whole (length xs) xs (omega arith))

stay : (f : Flaw) (found : List Flaw) → ComesBeforeNone f found → take (length found) (inserted f found) ≡ found
stay f [] none = refl
stay f (g ∷ found) none =
    ap (λ b. take (suc (length found)) (if b then f ∷ (g ∷ found) else (if comes_before g f then g ∷ inserted f found else g ∷ found))) (none 0 g refl)
    ∙ stay_by_case f g found (comes_before g f) (stay f found (λ k h at. none (suc k) h at))

-- as it is found by going over them, to their end
pub past_told : (f : Flaw) (found : List Flaw) (i : ℕ) → length found ≡ told_limit → length found ≤ i
    → ((k : ℕ) (g : Flaw) → k < i → slice_get found k ≡ Some g → comes_before f g ≡ false) → take told_limit (inserted f found) ≡ found
past_told f found i many over none =
    ap (λ n. take n (inserted f found)) (sym many)
    ∙ stay f found (λ k g at. let within = slice_get_within found k g at in none k g (omega (arith, over, within)) at)

-- ---- the others may be taken before a flaw is put at its place, or behind that

taken_by_case : (n : ℕ) (f g : Flaw) (xs : List Flaw) (b c : Bool) → take n (inserted f (take n xs)) ≡ take n (inserted f xs)
    → take (suc n) (if b then f ∷ (g ∷ take n xs) else (if c then g ∷ inserted f (take n xs) else g ∷ take n xs))
    ≡ take (suc n) (if b then f ∷ (g ∷ xs) else (if c then g ∷ inserted f xs else g ∷ xs))
taken_by_case n f g xs true c e = ap (λ ys. f ∷ ys) (taken_behind n g xs)
taken_by_case n f g xs false true e = ap (λ ys. g ∷ ys) e
taken_by_case n f g xs false false e = ap (λ ys. g ∷ ys) (taken_again n xs)

taken_inserted : (n : ℕ) (f : Flaw) (xs : List Flaw) → take n (inserted f (take n xs)) ≡ take n (inserted f xs)
taken_inserted zero f xs = refl
taken_inserted (suc n) f [] = refl
taken_inserted (suc n) f (g ∷ xs) = taken_by_case n f g xs (comes_before f g) (comes_before g f) (taken_inserted n f xs)

told_is : (found flaws : List Flaw) → told_behind (take told_limit found) flaws ≡ take told_limit (in_order_with found flaws)
told_is found [] = refl
told_is found (f ∷ flaws) = ap (λ xs. told_behind xs flaws) (taken_inserted told_limit f found) ∙ told_is (inserted f found) flaws

pub told_found : (flaws : List Flaw) → told_behind [] flaws ≡ told_of flaws
told_found flaws = told_is [] flaws

-- ---- the first that is told is the first

first_by_case : (f g : Flaw) (xs ys zs : List Flaw) (b c : Bool)
    → slice_get (take told_limit (if b then f ∷ xs else (if c then g ∷ ys else g ∷ zs))) 0 ≡ Some (if b then f else g)
first_by_case f g xs ys zs true c = refl
first_by_case f g xs ys zs false true = refl
first_by_case f g xs ys zs false false = refl

first_inserted : (f : Flaw) (found : List Flaw) → slice_get (take told_limit (inserted f found)) 0 ≡ Some (earlier (slice_get found 0) f)
first_inserted f [] = refl
first_inserted f (g ∷ found) = first_by_case f g (g ∷ found) (inserted f found) found (comes_before f g) (comes_before g f)

pub first_told : (found flaws : List Flaw) → slice_get (told_behind found flaws) 0 ≡ first_behind (slice_get found 0) flaws
first_told found [] = refl
first_told found (f ∷ flaws) =
    first_told (take told_limit (inserted f found)) flaws ∙ ap (λ x. first_behind x flaws) (first_inserted f found)

pub first_is : (flaws : List Flaw) → slice_get (told_of flaws) 0 ≡ first_behind None flaws
first_is flaws = ap (λ xs. slice_get xs 0) (sym (told_found flaws)) ∙ first_told [] flaws
