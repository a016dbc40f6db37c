-- The one number below a bound of which a fact holds, as a search finds it.
use Rattle.std.proofs.Common.{ℕ, ◌≡◌, ◌<◌, Option, MatchOption}

-- the only number below n of which P holds is what was found, or there is none
pub record IsOnlyBelow (P : ℕ → Type 0) (one n : ℕ) : Type 0 where
  pub within : one < n
  pub is : P one
  pub alone : (m : ℕ) → m < n → P m → m ≡ one

abbrev pub FoundBelow : (ℕ → Type 0) → Option ℕ → ℕ → Type 0
FoundBelow P found n = MatchOption found ((m : ℕ) → m < n → ¬ P m) (λ one. IsOnlyBelow P one n)
