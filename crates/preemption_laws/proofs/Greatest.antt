-- Of the first so many threads the one of the greatest rank among those that are enabled, or none of them is.
use Rattle.std.proofs.Common.{◌≡◌, ℕ, zero, suc, ◌<◌, ◌≤◌, ◌⊎◌, inl, inr, ⊎_elim, Bool, true, false, refl, sym, ap, ◌∙◌, arith}
use Rattle.std.proofs.lemmas.Bool.{cases_lt, cases_Bool}

module _ (enabled : ℕ → Bool) (rank : ℕ → ℕ) where
  pub record Leads (n t : ℕ) : Type 0 where
    pub on : enabled t ≡ true
    pub greatest : (u : ℕ) → u < n → enabled u ≡ true → rank u ≤ rank t

  abbrev pub NoneOf : ℕ → Type 0
  NoneOf n = (u : ℕ) → u < n → enabled u ≡ false

  abbrev pub Leader : ℕ → Type 0
  Leader n = ((t : ℕ) × Leads n t) ⊎ NoneOf n

  apart : (u v : ℕ) → u ≡ v → enabled u ≡ true → enabled v ≡ false → ⊥
  apart u v same on off = let wrong : true ≡ false = sym on ∙ (ap enabled same ∙ off) in absurd cc

  below_or_last : {P : Type 0} (n u : ℕ) → u < suc n → (u < n → P) → (u ≡ n → P) → P
  below_or_last n u lt below same = ⊎_elim below (λ le. same (omega (arith, le, lt))) (cases_lt u n)

  leader_next : (n : ℕ) → Leader n → (enabled n ≡ true) ⊎ (enabled n ≡ false) → Leader (suc n)
  leader_next n (inl (t, leads)) (inl here) = ⊎_elim
      (λ less. inl (
        n,
        record {
          on = here;
          greatest = λ u lt on. below_or_last n u lt (λ below. let rest = leads.greatest u below on in omega (arith, rest, less))
              (λ e. let same = ap rank e in omega (arith, same));
        },
      ))
      (λ least. inl (
        t,
        record {
          on = leads.on;
          greatest = λ u lt on. below_or_last n u lt (λ below. leads.greatest u below on)
              (λ e. let same = ap rank e in omega (arith, same, least));
        },
      ))
      (cases_lt (rank t) (rank n))
  leader_next n (inl (t, leads)) (inr off) =
      inl (t, record { on = leads.on; greatest = λ u lt on. below_or_last n u lt (λ below. leads.greatest u below on) (λ e. absurd (apart u n e on off)) })
  leader_next n (inr none) (inl here) =
      inl (
        n,
        record {
          on = here;
          greatest = λ u lt on. below_or_last n u lt (λ below. absurd (apart u u refl on (none u below))) (λ e. let same = ap rank e in omega (arith, same));
        },
      )
  leader_next n (inr none) (inr off) = inr (λ u lt. below_or_last n u lt (none u) (λ e. ap enabled e ∙ off))

  pub leader : (n : ℕ) → Leader n
  leader zero = inr (λ u lt. absurd (omega (arith, lt)))
  leader (suc n) = leader_next n (leader n) (cases_Bool (enabled n))
