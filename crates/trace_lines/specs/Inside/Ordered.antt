-- Values that are given to inputs, in the order of their names.
use Rattle.std.specs.Prelude.{◌≡◌, ⊤, ℕ, zero, suc, List, [], ◌∷◌, Bool, true, if◌then◌else◌, Some, slice_get}
use Rattle.std.specs.declared.cmp.Ordering.TheVariants.{Less}
use Rattle.std.specs.Ordering.{nat_cmp, is_gt, match_ordering}
use Rattle.std.specs.Cmp.Lexicographic.{slice_cmp}
use Rattle.sc_values.specs.declared.value.Value.{Value}

abbrev pub is_behind : List ℕ → List ℕ → Bool
is_behind name other = is_gt (slice_cmp nat_cmp name other)

-- this name is before those of all of these
abbrev pub IsBefore : List ℕ → List (List ℕ × Value) → Type 0
IsBefore name [] = ⊤
IsBefore name (h ∷ hs) = (slice_cmp nat_cmp name h.0 ≡ Less) × IsBefore name hs

-- each name is there once, and before the later ones
abbrev pub AreInOrder : List (List ℕ × Value) → Type 0
AreInOrder [] = ⊤
AreInOrder (h ∷ hs) = IsBefore h.0 hs × AreInOrder hs

-- whether this name is behind the last one, where there is one
abbrev pub is_behind_last : List ℕ → List (List ℕ × Value) → Bool
is_behind_last name [] = true
is_behind_last name (h ∷ []) = is_behind name h.0
is_behind_last name (h ∷ i ∷ hs) = is_behind_last name (i ∷ hs)

-- how many there are, from the first on, that this name is behind
abbrev pub place_in : List ℕ → List (List ℕ × Value) → ℕ
place_in name [] = zero
place_in name (h ∷ hs) = if is_behind name h.0 then suc (place_in name hs) else zero

-- the one at this place has this name
pub record IsNamedAt (hs : List (List ℕ × Value)) (at : ℕ) (name : List ℕ) : Type 0 where
  pub one : List ℕ × Value
  pub there : slice_get hs at ≡ Some one
  pub named : one.0 ≡ name

-- with one more, at its place, and in place of the one of its name
abbrev pub with_given : List ℕ × Value → List (List ℕ × Value) → List (List ℕ × Value)
with_given g [] = g ∷ []
with_given g (h ∷ hs) = match_ordering (slice_cmp nat_cmp g.0 h.0) (g ∷ h ∷ hs) (g ∷ hs) (h ∷ with_given g hs)
