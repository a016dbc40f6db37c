-- What one pass put, of lists that grow, and sums over hands of which one changes.
use Rattle.std.proofs.Common.{◌≡◌, ◌≢◌, ℕ, zero, suc, ◌+◌, ◌<◌, Bool, true, false, nat_eq, cond, List, [], ◌∷◌, ◌++◌, length, set, refl, ap, sym, ◌∙◌, arith}
use Rattle.std.specs.List.{sum_by}
use Rattle.std.proofs.lemmas.List.Sums.{sum_by-cons}
use Rattle.std.proofs.lemmas.Bool.Decides.{nat_tests}
use mathlib.Core.Option.{some, some-ne-none}
use lib.ListN.{get_elem?}
use Rattle.tick_core.specs.Claims.{Claim}
use Rattle.ready_queue.specs.Order.{Given, put_by}

put_by-cond : (b : Bool) (c : Claim) (xs ys : List Claim) → cond b (c ∷ (xs ++ ys)) (xs ++ ys) ≡ cond b (c ∷ xs) xs ++ ys
put_by-cond true c xs ys = refl
put_by-cond false c xs ys = refl

pub put_by-append : (p : ℕ) (xs ys : Given) → put_by p (xs ++ ys) ≡ put_by p xs ++ put_by p ys
put_by-append p [] ys = refl
put_by-append p (e ∷ xs) ys =
    ap (λ l. cond (nat_eq e.0 p) (e.1 ∷ l) l) (put_by-append p xs ys) ∙ put_by-cond (nat_eq e.0 p) e.1 (put_by p xs) (put_by p ys)

-- the pass that put it
pub put_by-own : (p : ℕ) (c : Claim) → put_by p ((p, c) ∷ []) ≡ c ∷ []
put_by-own p c = let same : nat_eq p p ≡ true = grind (arith, nat_tests) in rw same refl

pub put_by-other : (p q : ℕ) (c : Claim) → p ≢ q → put_by q ((p, c) ∷ []) ≡ []
put_by-other p q c apart = let differ : nat_eq p q ≡ false = grind (arith, nat_tests, apart) in rw differ refl

module _ {A : Type 0} where
  pub length-set : (xs : List A) (k : ℕ) (x : A) → length (set xs k x) ≡ length xs
  length-set [] k x = refl
  length-set (y ∷ xs) zero x = refl
  length-set (y ∷ xs) (suc k) x = ap suc (length-set xs k x)

  pub within : (xs : List A) (k : ℕ) (x : A) → get_elem? xs k ≡ some x → k < length xs
  within [] k x at = absurd (some-ne-none x (sym at))
  within (y ∷ xs) zero x at = omega arith
  within (y ∷ xs) (suc k) x at = omega (arith, within xs k x at)

  pub sum_set : (f : A → ℕ) (xs : List A) (k : ℕ) (x y : A) → get_elem? xs k ≡ some x → sum_by f (set xs k y) + f x ≡ sum_by f xs + f y
  sum_set f [] k x y at = absurd (some-ne-none x (sym at))
  sum_set f (z ∷ xs) zero x y at =
      let same : f z ≡ f x = cc at in
      omega (arith, sum_by-cons f z xs, sum_by-cons f y xs, same)
  sum_set f (z ∷ xs) (suc k) x y at = omega (arith, sum_by-cons f z xs, sum_by-cons f z (set xs k y), sum_set f xs k x y at)
