-- A table that is under every one that keeps a rule stays so as it rises.
use Rattle.std.proofs.Common.{ℕ, ◌≡◌, ◌≢◌, ◌<◌, ◌≤◌, ◌+◌, ◌*◌, ◌-◌, ◌⊎◌, inl, inr, List, length, get_or, sum, sym, subst, arith, get_or-set_other}
use Rattle.std.proofs.Common.{get_or-set_same}
use Rattle.std.specs.Prelude.{slice_index}
use Rattle.std.proofs.Math.ListN.{set}
use Rattle.std.proofs.lemmas.List.{length-set}
use Rattle.std.proofs.lemmas.List.Sums.{sum_by-set, sum_by-le}
use Rattle.std.specs.Prelude.{All}
use Rattle.std.proofs.lemmas.Grind.{get_or_default_zero}
use Rattle.least_or_cycle.specs.Least.{Keeps, IsLeast, Exceeds, IsNeeded, IsPart}
use Rattle.least_or_cycle.specs.Inside.Rising.{IsUnder, IsRaised}

same_or_not : (a b : ℕ) → (a ≡ b) ⊎ (a ≢ b)
same_or_not a b = grind arith

less_or_not : (a b : ℕ) → (a < b) ⊎ (b ≤ a)
less_or_not a b = grind arith

sum-set_more : (xs : List ℕ) (i y : ℕ) → i < length xs → get_or xs i 0 < y → sum xs < sum (set xs i y)
sum-set_more xs i y lt more =
    let h : sum (set xs i y) + get_or xs i 0 ≡ sum xs + y = sum_by-set (λ x. x) xs i y 0 lt in
    omega (arith, h, more)

pub part_raised : (rule : (ℕ → ℕ) → ℕ → Type 0) (top : ℕ) (p : List ℕ) (m x : ℕ) → IsUnder rule top p → m < length p →
    IsPart rule p m x → slice_index p m < x → x ≤ top → IsRaised rule top p (set p m x)
part_raised rule top p m x u lt needed less le = record {
  under = record {
    within = λ n. elim (same_or_not n m) [
      | inl e ↦ (let P : ℕ → Type 0 = λ k. get_or (set p m x) k 0 ≤ top in
          let here : get_or (set p m x) m 0 ≡ x = get_or-set_same p m x 0 lt in
          subst P (sym e) (omega (arith, here, le)))
      | inr ne ↦ (let there : get_or (set p m x) n 0 ≡ get_or p n 0 = get_or-set_other p m n x 0 ne in
          let w = u.within n in omega (arith, there, w))
    ];
    below = λ q keeps n.
        let length_same : length (set p m x) ≡ length p = length-set p m x in
        let P : ℕ → Type 0 = λ count. Keeps rule count q in
        let kept : Keeps rule (length p) q = subst P length_same keeps in
        elim (same_or_not n m) [
          | inl e ↦ (let Q : ℕ → Type 0 = λ k. get_or (set p m x) k 0 ≤ q k in
              let here : get_or (set p m x) m 0 ≡ x = get_or-set_same p m x 0 lt in
              let below : x ≤ q m = needed.least q kept (u.below q kept) in
              subst Q (sym e) (omega (arith, here, below)))
          | inr ne ↦ (let there : get_or (set p m x) n 0 ≡ get_or p n 0 = get_or-set_other p m n x 0 ne in
              let below = u.below q kept n in omega (arith, there, below))
        ];
  };
  more = sum-set_more p m x lt less;
}

pub raised_under : (rule : (ℕ → ℕ) → ℕ → Type 0) (top : ℕ) (p : List ℕ) (m x : ℕ) → IsUnder rule top p → m < length p →
    IsNeeded rule p m x → slice_index p m < x → x ≤ top → IsRaised rule top p (set p m x)
raised_under rule top p m x u lt needed = part_raised rule top p m x u lt (record { least = needed.least })

pub part_under : (rule : (ℕ → ℕ) → ℕ → Type 0) (top : ℕ) (p : List ℕ) (m x : ℕ) → IsUnder rule top p → m < length p →
    IsPart rule p m x → slice_index p m < x → x ≤ top → IsUnder rule top (set p m x)
part_under rule top p m x u lt part less le = (part_raised rule top p m x u lt part less le).under

pub part_exceeded : (rule : (ℕ → ℕ) → ℕ → Type 0) (top : ℕ) (p : List ℕ) (m x : ℕ) → IsUnder rule top p → m < length p →
    IsPart rule p m x → top < x → Exceeds rule (length p) top
part_exceeded rule top p m x u lt needed less = record {
  exceeds = λ q keeps within.
      let most : q m ≤ top = within.each m lt in
      let least : x ≤ q m = needed.least q keeps (u.below q keeps) in
      omega (arith, most, least, less);
}

pub exceeded : (rule : (ℕ → ℕ) → ℕ → Type 0) (top : ℕ) (p : List ℕ) (m x : ℕ) → IsUnder rule top p → m < length p →
    IsNeeded rule p m x → top < x → Exceeds rule (length p) top
exceeded rule top p m x u lt needed = part_exceeded rule top p m x u lt (record { least = needed.least })

pub kept_at : (rule : (ℕ → ℕ) → ℕ → Type 0) (p : List ℕ) (m x n : ℕ) → IsNeeded rule p m x → x ≤ slice_index p m → n ≡ m → rule (slice_index p) n
kept_at rule p m x n needed le e = let P : ℕ → Type 0 = rule (slice_index p) in subst P (sym e) (needed.enough le)

pub under_is_least : (rule : (ℕ → ℕ) → ℕ → Type 0) (top count : ℕ) (p : List ℕ) → length p ≡ count → IsUnder rule top p →
    ((n : ℕ) → n < length p → n < length p → rule (slice_index p) n) → IsLeast rule count p
under_is_least rule top count p long u kept =
    let P : ℕ → Type 0 = λ c. (q : ℕ → ℕ) → Keeps rule c q → (n : ℕ) → slice_index p n ≤ q n in
    record {
      long = long;
      keeps = record { each = λ n lt. kept n (omega (arith, long, lt)) (omega (arith, long, lt)) };
      least = subst P long u.below;
    }

pub zeros_under : (rule : (ℕ → ℕ) → ℕ → Type 0) (top : ℕ) (p : List ℕ) → ((n : ℕ) → slice_index p n ≡ 0) → IsUnder rule top p
zeros_under rule top p zeros = record {
  within = λ n. let z = zeros n in omega (arith, z);
  below = λ q keeps n. let z = zeros n in omega (arith, z);
}

-- what is left to the top falls as the sum grows
pub sum_left : (rule : (ℕ → ℕ) → ℕ → Type 0) (top : ℕ) (p q : List ℕ) (count : ℕ) → length q ≡ count → IsUnder rule top q → sum p < sum q
    → count * top - sum q < count * top - sum p
sum_left rule top p q count long u more =
    let all : All (λ x. x ≤ top) q = λ n d lt. let same : get_or q n d ≡ get_or q n 0 = get_or_default_zero q n d lt in let w = u.within n in
    omega (arith, same, w) in
    let h : sum q ≤ length q * top = sum_by-le (λ x. x) top q all in
    let P : ℕ → Type 0 = λ c. sum q ≤ c * top in
    let k : sum q ≤ count * top = subst P long h in
    omega (arith, k, more)

pub kept_is_least : (rule : (ℕ → ℕ) → ℕ → Type 0) (top count : ℕ) (p : List ℕ) → length p ≡ count → IsUnder rule top p → Keeps rule count (slice_index p) →
    IsLeast rule count p
kept_is_least rule top count p long u kept =
    let P : ℕ → Type 0 = λ c. (q : ℕ → ℕ) → Keeps rule c q → (n : ℕ) → slice_index p n ≤ q n in
    record { long = long; keeps = kept; least = subst P long u.below }
