-- Names of the text and names that expansion adds are apart.
use Rattle.std.proofs.Common.{◌≡◌, ◌≢◌, ℕ, ◌<◌, ◌≤◌, ◌^◌, ◌⊎◌, inl, inr, ◌==◌, Bool, true, false, not, ◌&&◌, ◌||◌, IsTrue, List, [], ◌∷◌, ◌++◌, slice_get, refl}
use Rattle.std.proofs.Common.{ap, sym, subst, ◌∙◌, arith}
use Rattle.std.specs.Prelude.{decimal}
use Rattle.std.specs.List.{list_any}
use Rattle.std.specs.Str.{bytes_eq}
use Rattle.std.proofs.lemmas.Slice.Eq.{bytes_eq-Decides}
use Rattle.std.proofs.lemmas.Fmt.{decimal_injective}
use Rattle.sc_text.specs.declared.language.Language.TheVariants as languages
use Rattle.sc_text.specs.Parts.{IsNameIn, are_distinct}
use Rattle.sc_text.proofs.EachItem.{Each, each_append}

-- ---- lists without repetition

abbrev pub Unlike : List (List ℕ) → List ℕ → Type 0
Unlike others name = Each (λ other. name ≢ other) others

abbrev pub Apart : List (List ℕ) → Type 0
Apart [] = Unit {0}
Apart (name ∷ names) = Unlike names name × Apart names

pub apart_append : (xs ys : List (List ℕ)) → Apart xs → Apart ys → Each (Unlike ys) xs → Apart (xs ++ ys)
apart_append [] ys h k cross = k
apart_append (x ∷ xs) ys h k cross =
    (each_append (λ other. x ≢ other) xs ys h.0 cross.0, apart_append xs ys h.1 k cross.1)

decided : (b : Bool) → (IsTrue b → ⊥) → b ≡ false
decided true never = absurd (never refl)
decided false never = refl

not_eq : (x y : List ℕ) → x ≢ y → bytes_eq x y ≡ false
not_eq x y differ = decided (bytes_eq x y) (λ same. differ ((bytes_eq-Decides x y).0 same))

none_equal : (x : List ℕ) (ys : List (List ℕ)) → Unlike ys x → list_any (bytes_eq x) ys ≡ false
none_equal x [] h = refl
none_equal x (y ∷ ys) h = rw (not_eq x y h.0) (none_equal x ys h.1)

pub distinct_if_apart : (names : List (List ℕ)) → Apart names → IsTrue (are_distinct names)
distinct_if_apart [] h = refl
distinct_if_apart (x ∷ xs) h = rw (none_equal x xs h.0) (distinct_if_apart xs h.1)

eq_self : (x y : List ℕ) → x ≡ y → bytes_eq x y ≡ true
eq_self x y same = (bytes_eq-Decides x y).1 same

not_both : (a b : Bool) → a ≡ true → (a || b) ≡ false → ⊥
not_both true b is none = absurd cc
not_both false b is none = absurd cc

later_false : (a b : Bool) → (a || b) ≡ false → b ≡ false
later_false true b none = absurd cc
later_false false b none = none

unlike_if : (x : List ℕ) (ys : List (List ℕ)) → list_any (bytes_eq x) ys ≡ false → Unlike ys x
unlike_if x [] h = tt
unlike_if x (y ∷ ys) h = (
  λ same. not_both (bytes_eq x y) (list_any (bytes_eq x) ys) (eq_self x y same) h,
  unlike_if x ys (later_false (bytes_eq x y) (list_any (bytes_eq x) ys) h),
)

first_not : (a b : Bool) → IsTrue (not a && b) → a ≡ false
first_not true b h = absurd cc
first_not false b h = refl

then_so : (a b : Bool) → IsTrue (not a && b) → IsTrue b
then_so true b h = absurd cc
then_so false b h = h

pub apart_if_distinct : (names : List (List ℕ)) → IsTrue (are_distinct names) → Apart names
apart_if_distinct [] h = tt
apart_if_distinct (x ∷ xs) h =
    (unlike_if x xs (first_not (list_any (bytes_eq x) xs) (are_distinct xs) h), apart_if_distinct xs (then_so (list_any (bytes_eq x) xs) (are_distinct xs) h))

-- ---- names that begin with `_`

pub text_is_named : (name : List ℕ) → IsNameIn languages.Chart name → IsNameIn languages.Scl name
text_is_named name h = record { free = h.free; begins = λ first at. refl }

pub text_has_no_bar : (name rest : List ℕ) → IsNameIn languages.Chart name → name ≢ 95 ∷ rest
text_has_no_bar name rest h same = let begins : IsTrue (not (95 == 95)) = h.begins 95 (ap (λ n. slice_get n 0) same) in absurd cc

abbrev pub letter_of : List ℕ → ℕ
letter_of [] = 0
letter_of (first ∷ []) = 0
letter_of (first ∷ letter ∷ rest) = letter

-- ---- a name by a letter, below some byte, and a number of this range, behind `_`

pub record IsAdded (top low high : ℕ) (name : List ℕ) : Type 0 where
  pub letter : ℕ
  pub number : ℕ
  pub is : name ≡ 95 ∷ letter ∷ decimal number
  pub below : letter < top
  pub least : low ≤ number
  pub most : number < high

abbrev pub IsIn : List (List ℕ) → List ℕ → Type 0
IsIn [] name = ⊥
IsIn (text ∷ texts) name = (name ≡ text) ⊎ IsIn texts name

-- a name of the text, or one that is added
abbrev pub IsCalled : (texts : List (List ℕ)) → (top low high : ℕ) → List ℕ → Type 0
IsCalled texts top low high name = IsIn texts name ⊎ IsAdded top low high name

pub at_in : (P : List ℕ → Type 0) (texts : List (List ℕ)) (name : List ℕ) → Each P texts → IsIn texts name → P name
at_in P [] name h is = absurd is
at_in P (text ∷ texts) name h (inl same) = subst P (sym same) h.0
at_in P (text ∷ texts) name h (inr later) = at_in P texts name h.1 later

abbrev pub IsText : List ℕ → Type 0
IsText name = IsNameIn languages.Chart name

pub added_apart : (top low mid high : ℕ) (x y : List ℕ) → high ≤ 2 ^ 64 → IsAdded top low mid x → IsAdded top mid high y → x ≢ y
added_apart top low mid high x y small h k same =
    let both : 95 ∷ h.letter ∷ decimal h.number ≡ 95 ∷ k.letter ∷ decimal k.number = sym h.is ∙ same ∙ k.is in
    let digits : decimal h.number ≡ decimal k.number = cc in
    let number : h.number ≡ k.number =
    decimal_injective h.number k.number (omega (arith, h.most, k.least, k.most, small)) (omega (arith, k.most, small)) digits in
    absurd (omega (arith, number, h.most, k.least))

pub called_apart : (ts us : List (List ℕ)) (top low mid high : ℕ) → high ≤ 2 ^ 64 → Each IsText ts → Each IsText us → Each (Unlike us) ts
    → (x y : List ℕ) → IsCalled ts top low mid x → IsCalled us top mid high y → x ≢ y
called_apart ts us top low mid high small h k cross x y (inl a) (inl b) =
    at_in (λ other. x ≢ other) us y (at_in (Unlike us) ts x cross a) b
called_apart ts us top low mid high small h k cross x y (inl a) (inr b) =
    λ same. text_has_no_bar x (b.letter ∷ decimal b.number) (at_in IsText ts x h a) (same ∙ b.is)
called_apart ts us top low mid high small h k cross x y (inr a) (inl b) =
    λ same. text_has_no_bar y (a.letter ∷ decimal a.number) (at_in IsText us y k b) (sym same ∙ a.is)
called_apart ts us top low mid high small h k cross x y (inr a) (inr b) = added_apart top low mid high x y small a b
