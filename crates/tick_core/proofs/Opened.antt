-- How many claims are open, counted.
use Rattle.std.proofs.Common.{◌≡◌, ◌≢◌, ℕ, zero, suc, ◌+◌, ◌<◌, ◌⊎◌, List, [], ◌∷◌, length, Option, Some, None, slice_get, slice_set}
use Rattle.std.proofs.Common.{refl, sym, ap, inl, inr, ⊎_elim, arith}
use Rattle.std.specs.Prelude.{count_by, is_some}
use Rattle.std.proofs.lemmas.List.Sums.{sum_by-cons}
use Rattle.tick_core.proofs.Lists.{count_set, counts_one}
use Rattle.tick_laws.proofs.Lists.{slice_get_there}
use Rattle.tick_core.specs.Claims.{Claim}

one_more : (x : Option Claim) (claims : List (Option Claim)) → count_by is_some (x ∷ claims) ≡ counts_one (is_some x) + count_by is_some claims
one_more x claims = sum_by-cons (λ z. counts_one (is_some z)) x claims

-- where none is counted, none is open
pub none_open : (claims : List (Option Claim)) → count_by is_some claims ≡ 0 → (t : ℕ) (a : Claim) → slice_get claims t ≢ Some (Some a)
none_open [] none t a is = absurd cc
none_open (Some b ∷ claims) none t a is = absurd (omega (arith, one_more (Some b) claims))
none_open (None ∷ claims) none zero a is = absurd cc
none_open (None ∷ claims) none (suc t) a is = none_open claims (omega (arith, one_more None claims)) t a is

-- where none is open, none is counted
pub none_counted : (claims : List (Option Claim)) → ((t : ℕ) (a : Claim) → slice_get claims t ≢ Some (Some a)) → count_by is_some claims ≡ 0
none_counted [] none = refl
none_counted (Some b ∷ claims) none = absurd (none 0 b refl)
none_counted (None ∷ claims) none = omega (arith, one_more None claims, none_counted claims (λ t a is. none (suc t) a is))

-- where some are counted, one is open
pub some_open : (claims : List (Option Claim)) → 0 < count_by is_some claims → (t : ℕ) × (a : Claim) × (slice_get claims t ≡ Some (Some a))
some_open [] some = absurd (omega arith)
some_open (Some b ∷ claims) some = (0, b, refl)
some_open (None ∷ claims) some =
    let found = some_open claims (omega (arith, one_more None claims)) in
    (suc found.0, found.1, found.2)

-- a place holds a claim or none
pub open_or_not : (claims : List (Option Claim)) (t : ℕ) → t < length claims → (slice_get claims t ≡ Some None)
    ⊎ ((a : Claim) × (slice_get claims t ≡ Some (Some a)))
open_or_not claims t below = let there : (x : Option Claim) × (slice_get claims t ≡ Some x) = slice_get_there claims t below in go there.0 there.1
  where
    go : (x : Option Claim) → slice_get claims t ≡ Some x → (slice_get claims t ≡ Some None) ⊎ ((a : Claim) × (slice_get claims t ≡ Some (Some a)))
    go None is = inl is
    go (Some a) is = inr (a, is)

-- one more is open
pub count_opened : (claims : List (Option Claim)) (t : ℕ) (a : Claim) → slice_get claims t ≡ Some None → count_by is_some (slice_set claims t (Some a))
    ≡ count_by is_some claims + 1
count_opened claims t a is = omega (arith, count_set is_some claims t (Some a) None is)

-- one less is open
pub count_closed : (claims : List (Option Claim)) (t : ℕ) (a : Claim) → slice_get claims t ≡ Some (Some a) → count_by is_some (slice_set claims t None) + 1
    ≡ count_by is_some claims
count_closed claims t a is = omega (arith, count_set is_some claims t None (Some a) is)

pub count_same : (claims : List (Option Claim)) (t : ℕ) → slice_get claims t ≡ Some None → count_by is_some (slice_set claims t None) ≡ count_by is_some claims
count_same claims t is = omega (arith, count_set is_some claims t None None is)

-- to close what is not open changes nothing
pub none_there : (claims : List (Option Claim)) (t : ℕ) → slice_get claims t ≡ Some None → slice_set claims t None ≡ claims
none_there [] t is = absurd cc
none_there (x ∷ claims) zero is = let same : x ≡ None = cc in ap (λ y. y ∷ claims) (sym same)
none_there (x ∷ claims) (suc t) is = ap (λ ys. x ∷ ys) (none_there claims t is)

-- where none is counted, no place holds one
pub none_counted_at : (claims : List (Option Claim)) (t : ℕ) → count_by is_some claims ≡ 0 → t < length claims → slice_get claims t ≡ Some None
none_counted_at claims t none below = ⊎_elim (λ is. is) (λ opened. absurd (none_open claims none t opened.0 opened.1)) (open_or_not claims t below)

-- where none is counted, none is there
pub none_counted_there : (claims : List (Option Claim)) (t : ℕ) → count_by is_some claims ≡ 0 → slice_set claims t None ≡ claims
none_counted_there [] t none = refl
none_counted_there (Some b ∷ claims) t none = absurd (omega (arith, one_more (Some b) claims, none))
none_counted_there (None ∷ claims) zero none = refl
none_counted_there (None ∷ claims) (suc t) none = ap (λ ys. None ∷ ys) (none_counted_there claims t (omega (arith, one_more None claims, none)))
