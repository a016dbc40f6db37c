-- The ends of lists.
use Rattle.std.proofs.Common.{◌≡◌, ◌≤◌, Option, Some, List, [], ◌∷◌, ◌++◌, length, take, refl, arith}
use Rattle.std.specs.List.{last_or}

pub last_snoc : {A : Type 0} (o : Option A) (xs : List A) (x : A) → last_or o (xs ++ x ∷ []) ≡ Some x
last_snoc o [] x = refl
last_snoc o (y ∷ xs) x = last_snoc (Some y) xs x

pub first_snoc : {A : Type 0} (xs : List A) (x : A) → 1 ≤ length xs → take 1 (xs ++ x ∷ []) ≡ take 1 xs
first_snoc [] x some = absurd (omega (arith, some))
first_snoc (y ∷ xs) x some = refl
