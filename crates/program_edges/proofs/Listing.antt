-- Lists of the numbers below a bound of which something holds, as they grow.
use Rattle.std.proofs.Common.{ℕ, ◌≡◌, ◌<◌, ◌+◌, ◌⊎◌, List, [], ◌∷◌, length, get_or, arith, zero, suc}
use Rattle.std.specs.Prelude.{Contains}
use Rattle.program_edges.specs.Users.{Lists}

pub record ListsBelow (numbers : List ℕ) (P : ℕ → Type 0) (bound : ℕ) : Type 0 where
  pub each : (n : ℕ) → n < bound → P n → Contains numbers n
  pub only : (n : ℕ) → Contains numbers n → P n

pub single : (y x : ℕ) → Contains (y ∷ []) x → y ≡ x
single y x c = first c.0 c.1 c.2
  where
    first : (k : ℕ) → k < length (y ∷ []) → get_or (y ∷ []) k x ≡ x → y ≡ x
    first zero lt e = e
    first (suc k) lt e = absurd (omega arith)

pub split : (n bound : ℕ) → n < bound + 1 → (n < bound) ⊎ (n ≡ bound)
split n bound lt = grind arith

pub lists_all : (numbers : List ℕ) (P : ℕ → Type 0) (bound : ℕ) → ListsBelow numbers P bound → ((n : ℕ) → P n → n < bound) → Lists numbers P
lists_all numbers P bound l h = record { each = λ n p. l.each n (h n p) p; only = l.only }
