-- Items of one class that each own a place of it are no more than its places.
use Rattle.std.proofs.Common.{◌≡◌, ◌≢◌, ℕ, suc, ◌<◌, ◌≤◌, Bool, true, false, nat_eq, List, [], ◌∷◌, length, length-set, set, Option, Some, None}
use Rattle.std.proofs.Common.{slice_index, refl, ap, subst, ◌∙◌, arith, eqb-true, eq-eqb}
use Rattle.std.specs.Prelude.{count_by}
use Rattle.std.proofs.lemmas.Option.{slice_get-get_or}
use Rattle.std.proofs.lemmas.List.Sums.{sum_by-cons}
use Rattle.tick_core.specs.Rows.{IsIn, is_of, members}
use Rattle.tick_core.proofs.Lists.{counts_one, count_set, index_other}

-- item t owns a place of this class
pub record Owns (R : ℕ → ℕ → Type 0) (places : List ℕ) (t class : ℕ) : Type 0 where
  pub place : ℕ
  pub owned : R place t
  pub within : place < length places
  pub has : slice_index places place ≡ class

not_next : (class : ℕ) → nat_eq class (suc class) ≡ false
not_next class = go (nat_eq class (suc class)) refl
  where
    go : (b : Bool) → nat_eq class (suc class) ≡ b → nat_eq class (suc class) ≡ false
    go true is = absurd (let e = eqb-true class (suc class) is in omega arith)
    go false is = is

class_is : (class : ℕ) (o : Option ℕ) → is_of class o ≡ true → o ≡ Some class
class_is class None counts = absurd cc
class_is class (Some other) counts = ap Some (eqb-true other class counts)

pub fits_in : (R : ℕ → ℕ → Type 0) (classes : List (Option ℕ)) (places : List ℕ) (class : ℕ) →
    ((place t u : ℕ) → R place t → R place u → t ≡ u) → ((t : ℕ) → IsIn classes t class → Owns R places t class)
    → members classes class ≤ count_by (nat_eq class) places
fits_in R [] places class alone own = omega arith
fits_in R (o ∷ classes) places class alone own =
    at_head (is_of class o) refl
    (λ rest other. fits_in (λ place t. R place (suc t)) classes rest class (λ place t u x y. next (alone place (suc t) (suc u) x y)) other)
  where
    next : {t u : ℕ} → suc t ≡ suc u → t ≡ u
    next {t} {u} e = omega arith

    at_head : (b : Bool) → is_of class o ≡ b →
        ((rest : List ℕ) → ((t : ℕ) → IsIn classes t class → Owns (λ place u. R place (suc u)) rest t class)
        → members classes class ≤ count_by (nat_eq class) rest) →
        members (o ∷ classes) class ≤ count_by (nat_eq class) places
    at_head false is go =
        let none : counts_one (is_of class o) ≡ 0 = ap counts_one is in
        let rest : members classes class ≤ count_by (nat_eq class) places =
        go places (λ t stands. let it = own (suc t) stands in record { place = it.place; owned = it.owned; within = it.within; has = it.has }) in
        omega (arith, sum_by-cons (λ x. counts_one (is_of class x)) o classes)
    at_head true is go =
        let one : counts_one (is_of class o) ≡ 1 = ap counts_one is in
        let first : Owns R places 0 class = own 0 (ap Some (class_is class o is)) in
        let taken : List ℕ = set places first.place (suc class) in
        let fewer = count_set (nat_eq class) places first.place (suc class) class (slice_get-get_or places first.place 0 first.within ∙ ap Some first.has) in
        let gone : counts_one (nat_eq class (suc class)) ≡ 0 = ap counts_one (not_next class) in
        let there : counts_one (nat_eq class class) ≡ 1 = ap counts_one (eq-eqb class class refl) in
        let rest : members classes class ≤ count_by (nat_eq class) (set places first.place (suc class)) =
        go (set places first.place (suc class)) (λ t stands. others first t (own (suc t) stands)) in
        omega (arith, sum_by-cons (λ x. counts_one (is_of class x)) o classes)
      where
        others : (first : Owns R places 0 class) (t : ℕ) → Owns R places (suc t) class
            → Owns (λ place u. R place (suc u)) (set places first.place (suc class)) t class
        others first t it =
            let differ : it.place ≢ first.place = λ same. absurd (let e = alone first.place (suc t) 0 (subst (λ n. R n (suc t)) same it.owned) first.owned in
            omega arith) in
            record {
              place = it.place;
              owned = it.owned;
              within = omega (arith, it.within, length-set places first.place (suc class));
              has = index_other places first.place it.place (suc class) differ ∙ it.has;
            }
