-- Membership in lists by head and tail, and what stands at a place after a write.
use Rattle.std.proofs.Common.{◌≡◌, ◌≢◌, ℕ, zero, suc, ◌<◌, ◌⊎◌, ◌&&◌, Bool, true, List, [], ◌∷◌, map, length, get_or, set, Option, Some, None, slice_get}
use Rattle.std.proofs.Common.{option_map, option_and_then, Contains, All, refl, ap, subst, ◌∙◌, inl, inr, ⊎_elim, arith}
use Rattle.std.proofs.lemmas.Bool.{and_parts, cases_eq}
use Rattle.std.specs.List.{list_all}
use Rattle.std.proofs.lemmas.Option.{none-some, same_Some, slice_get-get_or, slice_get_within, get_or_from_slice_get}

pub same_or_not : (m n : ℕ) → (m ≡ n) ⊎ (m ≢ n)
same_or_not m n = cases_eq m n

pub true_both : (a b : Bool) → a ≡ true → b ≡ true → (a && b) ≡ true
true_both a b h i = cc

module _ {X : Type 0} where
  pub contains_head : (x : X) (xs : List X) → Contains (x ∷ xs) x
  contains_head x xs = (0, omega arith, refl)

  pub contains_tail : (x y : X) (xs : List X) → Contains xs y → Contains (x ∷ xs) y
  contains_tail x y xs h = let lt = h.1 in (suc h.0, omega arith, h.2)

  pub contains_none : (y : X) → Contains [] y → ⊥
  contains_none y h = let lt = h.1 in absurd (omega arith)

  contains_at : (x y : X) (xs : List X) (k : ℕ) → k < length (x ∷ xs) → get_or (x ∷ xs) k y ≡ y → (x ≡ y) ⊎ Contains xs y
  contains_at x y xs zero lt e = inl e
  contains_at x y xs (suc k) lt e = inr (k, omega arith, e)

  -- an element is the head or stands in the tail
  pub contains_cons : (x y : X) (xs : List X) → Contains (x ∷ xs) y → (x ≡ y) ⊎ Contains xs y
  contains_cons x y xs h = contains_at x y xs h.0 h.1 h.2

  pub contains_get : (xs : List X) (k : ℕ) (x : X) → slice_get xs k ≡ Some x → Contains xs x
  contains_get xs k x e = (k, slice_get_within xs k x e, get_or_from_slice_get xs k x x e)

  pub get_contains : (xs : List X) (x : X) → Contains xs x → (k : ℕ) × (slice_get xs k ≡ Some x)
  get_contains xs x h = (h.0, slice_get-get_or xs h.0 x h.1 ∙ ap Some h.2)

  -- a fact of each element, at one
  pub all_at : (P : X → Type 0) (xs : List X) (x : X) → All P xs → Contains xs x → P x
  all_at P xs x all h = subst P h.2 (all h.0 x h.1)

  pub list_all_at : (test : X → Bool) (xs : List X) (x : X) → list_all test xs ≡ true → Contains xs x → test x ≡ true
  list_all_at test [] x e h = absurd (contains_none x h)
  list_all_at test (y ∷ xs) x e h =
      ⊎_elim (λ same. subst (λ z. test z ≡ true) same (and_parts _ _ e).0)
      (λ tail. list_all_at test xs x (and_parts _ _ e).1 tail)
      (contains_cons y x xs h)

  pub list_all_from : (test : X → Bool) (xs : List X) → ((x : X) → Contains xs x → test x ≡ true) → list_all test xs ≡ true
  list_all_from test [] each = refl
  list_all_from test (y ∷ xs) each =
      true_both _ _ (each y (contains_head y xs)) (list_all_from test xs (λ x h. each x (contains_tail y x xs h)))

  pub get_set_other : (xs : List X) (i k : ℕ) (v : X) → k ≢ i → slice_get (set xs i v) k ≡ slice_get xs k
  get_set_other [] i k v ne = refl
  get_set_other (x ∷ xs) zero zero v ne = absurd (ne refl)
  get_set_other (x ∷ xs) zero (suc k) v ne = refl
  get_set_other (x ∷ xs) (suc i) zero v ne = refl
  get_set_other (x ∷ xs) (suc i) (suc k) v ne = get_set_other xs i k v (λ e. ne (ap suc e))

  pub get_set_same : (xs : List X) (i : ℕ) (v : X) → i < length xs → slice_get (set xs i v) i ≡ Some v
  get_set_same [] i v lt = absurd (omega arith)
  get_set_same (x ∷ xs) zero v lt = refl
  get_set_same (x ∷ xs) (suc i) v lt = get_set_same xs i v (omega arith)

-- each element of a mapped list is the image of one
pub contains_map : {X Y : Type 0} (f : X → Y) (xs : List X) (y : Y) → Contains (map f xs) y → (x : X) × Contains xs x × (f x ≡ y)
contains_map f [] y h = absurd (contains_none y h)
contains_map f (x ∷ xs) y h =
    ⊎_elim (λ same. (x, contains_head x xs, same))
    (λ tail. let rest = contains_map f xs y tail in (rest.0, contains_tail x rest.0 xs rest.1, rest.2))
    (contains_cons (f x) y (map f xs) h)

pub map_contains : {X Y : Type 0} (f : X → Y) (xs : List X) (x : X) → Contains xs x → Contains (map f xs) (f x)
map_contains f [] x h = absurd (contains_none x h)
map_contains f (z ∷ xs) x h =
    ⊎_elim (λ same. subst (λ w. Contains (map f (z ∷ xs)) (f w)) same (contains_head (f z) (map f xs)))
    (λ tail. contains_tail (f z) (f x) (map f xs) (map_contains f xs x tail))
    (contains_cons z x xs h)

pub contained : (xs : List ℕ) (x : ℕ) → Contains xs x ⊎ ¬ Contains xs x
contained [] x = inr (contains_none x)
contained (y ∷ xs) x =
    ⊎_elim (λ same. inl (subst (Contains (y ∷ xs)) same (contains_head y xs)))
    (λ other. ⊎_elim (λ tail. inl (contains_tail y x xs tail)) (λ none. inr (λ h. ⊎_elim other none (contains_cons y x xs h))) (contained xs x))
    (same_or_not y x)

-- what a defined value of two steps came from
pub map_some : {A B : Type 0} (f : A → B) (o : Option A) (y : B) → option_map f o ≡ Some y → (x : A) × (o ≡ Some x) × (f x ≡ y)
map_some f None y e = absurd (none-some y e)
map_some f (Some x) y e = (x, refl, same_Some (f x) y e)

pub and_then_some : {A B : Type 0} (f : A → Option B) (o : Option A) (y : B) → option_and_then f o ≡ Some y → (x : A) × (o ≡ Some x) × (f x ≡ Some y)
and_then_some f None y e = absurd (none-some y e)
and_then_some f (Some x) y e = (x, refl, e)

-- what is below a list's length stands in it
pub slice_get_there : {A : Type 0} (xs : List A) (k : ℕ) → k < length xs → (x : A) × (slice_get xs k ≡ Some x)
slice_get_there [] k h = absurd (omega arith)
slice_get_there (x ∷ xs) zero h = (x, refl)
slice_get_there (x ∷ xs) (suc k) h = slice_get_there xs k (omega arith)
