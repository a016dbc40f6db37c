-- Lists that are made one for each number.
use Rattle.std.specs.Prelude.{ℕ, ◌≡◌, ◌<◌, List, [], length, get_or}

-- for each of so many numbers, what P says of its list and of what is made of it
pub record EachOf (P : List ℕ → List ℕ → Type 0) (count : ℕ) (lists made : List (List ℕ)) : Type 0 where
  pub long : length made ≡ count
  pub each : (x : ℕ) → x < count → P (get_or lists x []) (get_or made x [])
