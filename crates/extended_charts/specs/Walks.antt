-- What is made of the items of a list, one after the other, where each needs as many numbers as it counts.
use Rattle.std.specs.Prelude.{ℕ, ◌+◌, List, [], ◌∷◌, ◌++◌}

-- of each item from a number on, which goes on by what the item counts
abbrev pub walk : {A B : Type 0} → (count : A → ℕ) → (make : A → ℕ → List B) → (x : ℕ) → List A → List B
walk count make x [] = []
walk count make x (item ∷ items) = make item x ++ walk count make (x + count item) items
