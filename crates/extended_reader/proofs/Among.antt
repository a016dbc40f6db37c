-- Whether a name stands among others, one round after the other.
use Rattle.std.proofs.Common.{◌≡◌, ℕ, ◌+◌, Bool, true, false, Option, Some, None, List, ◌∷◌, drop, refl, sym, ◌∙◌, ap}
use Rattle.std.specs.List.{slice_get}
use Rattle.std.specs.Option.{is_some}
use Rattle.std.specs.Str.{bytes_eq}
use Rattle.sc_text.specs.Flaws.{first_or, place_among, is_among}
use Rattle.sc_text.proofs.PartsInOrder.{drop_is}

later : (o : Option ℕ) → is_some (first_or false o) ≡ is_some o
later None = refl
later (Some n) = refl

module _ (names : List (List ℕ)) (name one : List ℕ) (i : ℕ) (at : slice_get names i ≡ Some one) where
  step : is_among (drop i names) name ≡ is_some (first_or (bytes_eq one name) (place_among (drop (i + 1) names) name))
  step = ap (λ d. is_among d name) (drop_is names i one at)

  pub is_this : bytes_eq one name ≡ true → is_among (drop i names) name ≡ true
  is_this e = step ∙ ap (λ b. is_some (first_or b (place_among (drop (i + 1) names) name))) e

  pub is_other : bytes_eq one name ≡ false → is_among (drop (i + 1) names) name ≡ is_among (drop i names) name
  is_other e =
      sym (step ∙ ap (λ b. is_some (first_or b (place_among (drop (i + 1) names) name))) e ∙ later (place_among (drop (i + 1) names) name))
