-- What stands at a place after a write, and how a count changes by one.
use Rattle.std.proofs.Common.{◌≡◌, ◌≢◌, ℕ, zero, suc, ◌+◌, ◌<◌, ◌⊎◌, Bool, true, List, [], ◌∷◌, length, set, Some}
use Rattle.std.proofs.Common.{slice_get, slice_index, refl, sym, ap, ◌∙◌, arith, eq-eqb}
use Rattle.std.specs.Prelude.{count_by, cond}
use Rattle.std.proofs.lemmas.Bool.{cases_eq}
use Rattle.std.proofs.lemmas.Option.{slice_get_within, get_or_from_slice_get}
use Rattle.std.proofs.lemmas.List.{get_or-set_same, get_or-set_other}
use Rattle.std.proofs.lemmas.List.Sums.{sum_by-set}
use Rattle.tick_core.specs.Rows.{is_of}

pub index_same : (xs : List ℕ) (i v : ℕ) → i < length xs → slice_index (set xs i v) i ≡ v
index_same xs i v below = get_or-set_same xs i v 0 below

pub index_other : (xs : List ℕ) (i k v : ℕ) → k ≢ i → slice_index (set xs i v) k ≡ slice_index xs k
index_other xs i k v other = get_or-set_other xs i k v 0 other

pub get_set_other : {X : Type 0} (xs : List X) (i k : ℕ) (v : X) → k ≢ i → slice_get (set xs i v) k ≡ slice_get xs k
get_set_other [] i k v ne = refl
get_set_other (x ∷ xs) zero zero v ne = absurd (ne refl)
get_set_other (x ∷ xs) zero (suc k) v ne = refl
get_set_other (x ∷ xs) (suc i) zero v ne = refl
get_set_other (x ∷ xs) (suc i) (suc k) v ne = get_set_other xs i k v (λ e. ne (ap suc e))

pub get_set_same : {X : Type 0} (xs : List X) (i : ℕ) (v : X) → i < length xs → slice_get (set xs i v) i ≡ Some v
get_set_same [] i v lt = absurd (omega arith)
get_set_same (x ∷ xs) zero v lt = refl
get_set_same (x ∷ xs) (suc i) v lt = get_set_same xs i v (omega arith)

-- a number is another one, or it isn't
pub same_or_not : (m n : ℕ) → (m ≡ n) ⊎ (m ≢ n)
same_or_not m n = cases_eq m n

abbrev pub counts_one : Bool → ℕ
counts_one b = cond b 1 0

-- how many are counted after a write
pub count_set : {X : Type 0} (p : X → Bool) (xs : List X) (i : ℕ) (y x : X) → slice_get xs i ≡ Some x →
    count_by p (set xs i y) + counts_one (p x) ≡ count_by p xs + counts_one (p y)
count_set p xs i y x is =
    ap (λ z. count_by p (set xs i y) + counts_one (p z)) (sym (get_or_from_slice_get xs i x x is))
    ∙ sum_by-set (λ z. counts_one (p z)) xs i y x (slice_get_within xs i x is)

pub of_same : (class : ℕ) → is_of class (Some class) ≡ true
of_same class = eq-eqb class class refl
