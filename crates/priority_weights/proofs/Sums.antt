-- Sums over the numbers of a list, and over the numbers below a bound.
use Rattle.std.proofs.Common.{ℕ, zero, suc, ◌≡◌, ◌≢◌, ◌<◌, ◌≤◌, ◌+◌, ◌⊎◌, inl, inr, Bool, true, false, Some, List, [], ◌∷◌, slice_get, refl, sym, ◌∙◌, ap}
use Rattle.std.proofs.Common.{arith, nat_eq, eqb-true, eq-eqb}
use Rattle.std.specs.Prelude.{Contains}
use Rattle.std.proofs.lemmas.Option.{slice_get-get_or}
use Rattle.sc_graph.specs.Size.{AreDistinct}

abbrev pub mark : Bool → ℕ
mark true = 1
mark false = 0

abbrev pub sum_over : (ℕ → ℕ) → List ℕ → ℕ
sum_over g [] = 0
sum_over g (k ∷ ks) = g k + sum_over g ks

abbrev pub total : (ℕ → ℕ) → ℕ → ℕ
total f zero = 0
total f (suc n) = total f n + f n

-- of each number of the list
abbrev pub AllOf : (ℕ → Type 0) → List ℕ → Type 0
AllOf P [] = Unit {0}
AllOf P (k ∷ ks) = P k × AllOf P ks

abbrev pub Apart : List ℕ → Type 0
Apart [] = Unit {0}
Apart (k ∷ ks) = AllOf (λ m. k ≢ m) ks × Apart ks

pub same_or_not : (a b : ℕ) → (a ≡ b) ⊎ (a ≢ b)
same_or_not a b = grind arith

pub eq_false : (a b : ℕ) → a ≢ b → nat_eq a b ≡ false
eq_false a b ne = told (nat_eq a b) refl
  where
    told : (x : Bool) → nat_eq a b ≡ x → nat_eq a b ≡ false
    told true e = absurd (ne (eqb-true a b e))
    told false e = e

contains_more : (k : ℕ) (ks : List ℕ) (m : ℕ) → Contains ks m → Contains (k ∷ ks) m
contains_more k ks m c = let lt = c.1 in (suc c.0, omega (arith, lt), c.2)

pub all_of : (P : ℕ → Type 0) (ks : List ℕ) → ((k : ℕ) → Contains ks k → P k) → AllOf P ks
all_of P [] h = tt
all_of P (k ∷ ks) h = (h k (zero, omega arith, refl), all_of P ks (λ m c. h m (contains_more k ks m c)))

pub all_map : (P Q : ℕ → Type 0) → ((k : ℕ) → P k → Q k) → (ks : List ℕ) → AllOf P ks → AllOf Q ks
all_map P Q f [] h = tt
all_map P Q f (k ∷ ks) h = (f k h.0, all_map P Q f ks h.1)

pub over_le : (g h : ℕ → ℕ) (ks : List ℕ) → AllOf (λ k. g k ≤ h k) ks → sum_over g ks ≤ sum_over h ks
over_le g h [] le = omega arith
over_le g h (k ∷ ks) le = let a = le.0 in let b = over_le g h ks le.1 in omega (arith, a, b)

pub over_none : (ks : List ℕ) → sum_over (λ k. 0) ks ≡ 0
over_none [] = refl
over_none (k ∷ ks) = let a = over_none ks in omega (arith, a)

pub over_zero : (g : ℕ → ℕ) (ks : List ℕ) → AllOf (λ k. g k ≡ 0) ks → sum_over g ks ≡ 0
over_zero g [] h = refl
over_zero g (k ∷ ks) h = let a = h.0 in let b = over_zero g ks h.1 in omega (arith, a, b)

apart_shift : (k : ℕ) (ks : List ℕ) → AreDistinct (k ∷ ks) → AreDistinct ks
apart_shift k ks d i j a b lt at bt = d (suc i) (suc j) a b (omega (arith, lt)) at bt

pub apart_of : (ks : List ℕ) → AreDistinct ks → Apart ks
apart_of [] d = tt
apart_of (k ∷ ks) d = (all_of (λ m. k ≢ m) ks (λ m c. d zero (suc c.0) k m (omega arith) refl (there m c)), apart_of ks (apart_shift k ks d))
  where
    there : (m : ℕ) (c : Contains ks m) → slice_get ks c.0 ≡ Some m
    there m c = slice_get-get_or ks c.0 m c.1 ∙ ap Some c.2

none_is : (a k : ℕ) (ks : List ℕ) → a ≡ k → AllOf (λ m. k ≢ m) ks → sum_over (λ m. mark (nat_eq a m)) ks ≡ 0
none_is a k ks e apart =
    over_zero (λ m. mark (nat_eq a m)) ks
    (all_map (λ m. k ≢ m) (λ m. mark (nat_eq a m) ≡ 0) (λ m ne. ap mark (eq_false a m (λ f. ne (sym e ∙ f)))) ks apart)

-- a number stands in a list without repetitions once at most
pub apart_once : (a : ℕ) (ks : List ℕ) → Apart ks → sum_over (λ m. mark (nat_eq a m)) ks ≤ 1
apart_once a [] d = omega arith
apart_once a (k ∷ ks) d = elim (same_or_not a k) [
  | inl e ↦ (let rest = none_is a k ks e d.0 in let here : mark (nat_eq a k) ≡ 1 = ap mark (eq-eqb a k e) in omega (arith, rest, here))
  | inr ne ↦ (let rest = apart_once a ks d.1 in let here : mark (nat_eq a k) ≡ 0 = ap mark (eq_false a k ne) in omega (arith, rest, here))
]

pub total_le : (f g : ℕ → ℕ) (n : ℕ) → ((y : ℕ) → y < n → f y ≤ g y) → total f n ≤ total g n
total_le f g zero le = omega arith
total_le f g (suc n) le = let a = total_le f g n (λ y lt. le y (omega (arith, lt))) in let b = le n (omega arith) in omega (arith, a, b)

pub total_add : (f g : ℕ → ℕ) (n : ℕ) → total (λ y. f y + g y) n ≡ total f n + total g n
total_add f g zero = refl
total_add f g (suc n) = let a = total_add f g n in omega (arith, a)

pub total_small : (f : ℕ → ℕ) (n : ℕ) → ((y : ℕ) → f y ≤ 1) → total f n ≤ n
total_small f zero le = omega arith
total_small f (suc n) le = let a = total_small f n le in let b = le n in omega (arith, a, b)

total_none : (n : ℕ) → total (λ y. 0) n ≡ 0
total_none zero = refl
total_none (suc n) = let a = total_none n in omega (arith, a)

-- each number below the bound is met
pub total_once : (u n : ℕ) → u < n → 1 ≤ total (λ y. mark (nat_eq y u)) n
total_once u zero lt = absurd (omega (arith, lt))
total_once u (suc n) lt = elim (same_or_not n u) [
  | inl e ↦ (let here : mark (nat_eq n u) ≡ 1 = ap mark (eq-eqb n u e) in omega (arith, here))
  | inr ne ↦ (let a = total_once u n (omega (arith, lt, ne)) in omega (arith, a))
]

-- sums in either order
pub total_over : (g : ℕ → ℕ → ℕ) (n : ℕ) (ks : List ℕ) → sum_over (λ k. total (g k) n) ks ≡ total (λ y. sum_over (λ k. g k y) ks) n
total_over g n [] = sym (total_none n)
total_over g n (k ∷ ks) =
    let a = total_over g n ks in
    let b = total_add (g k) (λ y. sum_over (λ k. g k y) ks) n in
    omega (arith, a, b)
