-- Numbers each of which stands once, within a range.
use Rattle.std.proofs.lemmas.Bool.{ne_eqb}
use Rattle.std.proofs.Common.{◌≡◌, ℕ, ◌+◌, ◌<◌, ◌≤◌, ◌⊎◌, inl, inr, Bool, true, false, nat_eq, if◌then◌else◌, List, [], ◌∷◌, ◌++◌, ap, ◌∙◌, arith}

abbrev pub count : ℕ → List ℕ → ℕ
count k [] = 0
count k (n ∷ ns) = (if nat_eq k n then 1 else 0) + count k ns

pub count_append : (k : ℕ) (ms ns : List ℕ) → count k (ms ++ ns) ≡ count k ms + count k ns
count_append k [] ns = omega arith
count_append k (m ∷ ms) ns = omega (arith, count_append k ms ns)

-- of the numbers from `from` on, `size` many, each is there at most once, and no other is
pub record Once (from size : ℕ) (c : ℕ → ℕ) : Type 0 where
  pub before : (k : ℕ) → k < from → c k ≡ 0
  pub behind : (k : ℕ) → from + size ≤ k → c k ≡ 0
  pub once : (k : ℕ) → c k ≤ 1

pub none_once : (from : ℕ) (c : ℕ → ℕ) → ((k : ℕ) → c k ≡ 0) → Once from 0 c
none_once from c none = record {
  before = λ k lt. none k;
  behind = λ k le. none k;
  once = λ k. omega (arith, none k);
}

pub below_or_not : (k m : ℕ) → (k < m) ⊎ (m ≤ k)
below_or_not k m = grind arith

-- a number alone
abbrev here : Bool → ℕ
here b = (if b then 1 else 0) + 0 + 0

not_here : (k n : ℕ) → (k ≡ n → ⊥) → here (nat_eq k n) ≡ 0
not_here k n differ = ap here (ne_eqb k n differ)

at_most_here : (b : Bool) → here b ≤ 1
at_most_here true = omega arith
at_most_here false = omega arith

pub one_once : (n : ℕ) → Once n 1 (λ k. count k (n ∷ []) + count k [])
one_once n = record {
  before = λ k lt. not_here k n (λ same. absurd (omega (arith, lt, same)));
  behind = λ k le. not_here k n (λ same. absurd (omega (arith, le, same)));
  once = λ k. at_most_here (nat_eq k n);
}

-- two ranges side by side
pub both_once : (from m n : ℕ) (mid size : ℕ) (c d e : ℕ → ℕ) → mid ≡ from + m → size ≡ m + n → Once from m c → Once mid n d → ((k : ℕ) → e k ≡ c k + d k)
    → Once from size e
both_once from m n mid size c d e is_mid is_size left right sum = record {
  before = λ k lt. omega (arith, sum k, left.before k lt, right.before k (omega (arith, lt, is_mid)));
  behind = λ k le. omega (arith, sum k, left.behind k (omega (arith, le, is_size)), right.behind k (omega (arith, le, is_mid, is_size)));
  once = λ k.
      elim (below_or_not k mid) [
        | inl lt ↦ omega (arith, sum k, left.once k, right.before k lt)
        | inr le ↦ omega (arith, sum k, right.once k, left.behind k (omega (arith, le, is_mid)))
      ];
}

-- another count of the same numbers
pub same_once : (from size : ℕ) (c d : ℕ → ℕ) → ((k : ℕ) → d k ≡ c k) → Once from size c → Once from size d
same_once from size c d same h = record {
  before = λ k lt. same k ∙ h.before k lt;
  behind = λ k le. same k ∙ h.behind k le;
  once = λ k. omega (arith, same k, h.once k);
}
