-- Tests of numbers.
use Rattle.std.proofs.Common.{◌≡◌, ◌≢◌, ℕ, ◌⊎◌, Bool, true, false, nat_eq, refl, inl, inr, eqb-true}
use Rattle.std.proofs.lemmas.Bool.{eq-eqb}

pub same_or_not : (a b : ℕ) → (a ≡ b) ⊎ (a ≢ b)
same_or_not a b = at (nat_eq a b) refl
  where
    at : (e : Bool) → nat_eq a b ≡ e → (a ≡ b) ⊎ (a ≢ b)
    at true is = inl (eqb-true a b is)
    at false is = inr (λ same. let h : nat_eq a b ≡ true = eq-eqb a b same in absurd (cc))

pub nat_differ : (a b : ℕ) → a ≢ b → nat_eq a b ≡ false
nat_differ a b differ = at (nat_eq a b) refl
  where
    at : (e : Bool) → nat_eq a b ≡ e → nat_eq a b ≡ false
    at true is = absurd (differ (eqb-true a b is))
    at false is = is

pub nat_same : (a b : ℕ) → a ≡ b → nat_eq a b ≡ true
nat_same a b same = eq-eqb a b same

-- two tests that hold in the same cases are equal
pub same_test : (a b : Bool) → (a ≡ true → b ≡ true) → (b ≡ true → a ≡ true) → a ≡ b
same_test true true f g = refl
same_test false false f g = refl
same_test true false f g = let h : false ≡ true = f refl in absurd (cc)
same_test false true f g = let h : false ≡ true = g refl in absurd (cc)
