-- What is handed over, one more at a time.
use Rattle.std.proofs.Common.{◌≡◌, ℕ, ◌+◌, ◌<◌, List, [], ◌∷◌, ◌++◌, length, drop, sym, ap, ◌∙◌, append_assoc, add-one, drop-cons}
use Rattle.core_charts.specs.declared.region.Effect.{Effect}
use Rattle.extended_charts.specs.Making.{copy}
use Rattle.chart_reduction.specs.Registers.{handing}

handing_more : (before register : ℕ) (xs : List ℕ) (i : ℕ) → i < length xs
    → handing before register (drop i xs) ≡ copy before register ∷ handing (before + 1) (register + 1) (drop (i + 1) xs)
handing_more before register xs i h = simp (add-one, drop-cons xs i 0 h)

pub handed : (xs : List ℕ) (i before register x y : ℕ) (effect : Effect) (made more all : List Effect) → i < length xs
    → made ++ handing before register (drop i xs) ≡ all → x ≡ before → y ≡ register → effect ≡ copy x y → more ≡ made ++ effect ∷ []
    → more ++ handing (before + 1) (register + 1) (drop (i + 1) xs) ≡ all
handed xs i before register x y effect made more all h invariant of_x of_y of_effect of_more =
    let rest : List Effect = handing (before + 1) (register + 1) (drop (i + 1) xs) in
    let is_copy : effect ≡ copy before register = of_effect ∙ ap (λ n. copy n y) of_x ∙ ap (λ n. copy before n) of_y in
    ap (λ es. es ++ rest) of_more ∙ append_assoc made (effect ∷ []) rest ∙ ap (λ e. made ++ e ∷ rest) is_copy
    ∙ ap (λ es. made ++ es) (sym (handing_more before register xs i h)) ∙ invariant
