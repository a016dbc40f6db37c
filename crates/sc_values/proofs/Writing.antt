-- What a sink took in several turns.
use Rattle.std.proofs.Common.{◌≡◌, ℕ, zero, suc, ◌+◌, ◌≤◌, Option, Some, None, Ok, List, [], ◌∷◌, ◌++◌, take, drop, length, refl, sym, ap, ◌∙◌, append_assoc}
use Rattle.std.proofs.Common.{arith}
use Rattle.std.proofs.lemmas.List.{append-nil}
use Rattle.std.specs.Io.KnownBytes.{Appends, Keeps}
use Rattle.sc_values.specs.Streams.{failed_writes, GrowsInto}

take_nil : (n : ℕ) → take {A = ℕ} n [] ≡ []
take_nil zero = refl
take_nil (suc n) = refl

take_both : (bytes : List ℕ) (i n : ℕ) → take i bytes ++ take n (drop i bytes) ≡ take (i + n) bytes
take_both bytes zero n = ap (λ (m : ℕ). take m bytes) (let e : n ≡ zero + n = omega arith in e)
take_both [] (suc i) zero = sym (take_nil (suc i + zero))
take_both [] (suc i) (suc n) = sym (take_nil (suc i + suc n))
take_both (b ∷ bytes) (suc i) n =
    let e : suc (i + n) ≡ suc i + n = omega arith in
    ap (λ t. b ∷ t) (take_both bytes i n) ∙ ap (λ (m : ℕ). take m (b ∷ bytes)) e

pub appends_none : (a : Option (List ℕ)) (bytes : List ℕ) → Appends a a (take 0 bytes)
appends_none None bytes = tt
appends_none (Some xs) bytes = sym (append-nil xs)

pub appends_more : (a b c : Option (List ℕ)) (bytes : List ℕ) (i n : ℕ) → Appends a b (take i bytes) → Appends b c (take n (drop i bytes))
    → Appends a c (take (i + n) bytes)
appends_more None b c bytes i n h k = tt
appends_more (Some xs) None c bytes i n h k = absurd h
appends_more (Some xs) (Some ys) None bytes i n h k = absurd k
appends_more (Some xs) (Some ys) (Some zs) bytes i n h k =
    k ∙ ap (λ t. t ++ take n (drop i bytes)) h ∙ append_assoc xs (take i bytes) (take n (drop i bytes)) ∙ ap (λ t. xs ++ t) (take_both bytes i n)

pub grows_into : (a b : Option (List ℕ)) (bytes : List ℕ) (i : ℕ) → Appends a b (take i bytes) → GrowsInto a b bytes
grows_into None b bytes i h = tt
grows_into (Some xs) None bytes i h = absurd h
grows_into (Some xs) (Some ys) bytes i h = (i, h)

pub grows_kept : (a b c : Option (List ℕ)) (bytes : List ℕ) (i : ℕ) → Appends a b (take i bytes) → Keeps b c → GrowsInto a c bytes
grows_kept None b c bytes i h k = tt
grows_kept (Some xs) None c bytes i h k = absurd h
grows_kept (Some xs) (Some ys) None bytes i h k = absurd k
grows_kept (Some xs) (Some ys) (Some zs) bytes i h k = (i, k ∙ h)

take_past : (bytes : List ℕ) (i : ℕ) → length bytes ≤ i → take i bytes ≡ bytes
take_past [] zero h = refl
take_past [] (suc i) h = refl
take_past (b ∷ bytes) zero h = absurd (omega arith)
take_past (b ∷ bytes) (suc i) h = ap (λ t. b ∷ t) (take_past bytes i (omega arith))

pub appends_all : (a b : Option (List ℕ)) (bytes : List ℕ) (i : ℕ) → length bytes ≤ i → Appends a b (take i bytes) → Appends a b bytes
appends_all None b bytes i past h = tt
appends_all (Some xs) None bytes i past h = absurd h
appends_all (Some xs) (Some ys) bytes i past h = h ∙ ap (λ t. xs ++ t) (take_past bytes i past)

-- how far `write_all` has come
pub record Wrote (a b : Option (List ℕ)) (failed_before failed : ℕ) (bytes : List ℕ) (i : ℕ) : Type 0 where
  pub within : i ≤ length bytes
  pub appends : Appends a b (take i bytes)
  pub none_failed : failed ≡ failed_before

none_failed_at : (n : ℕ) (bytes : List ℕ) → (n ≡ 0 → ⊥) → failed_writes (Ok n) bytes ≡ 0
none_failed_at zero bytes some = absurd (some refl)
none_failed_at (suc n) [] some = refl
none_failed_at (suc n) (b ∷ bytes) some = refl

pub counts_none : (n : ℕ) (bytes : List ℕ) (old new : ℕ) → (n ≡ 0 → ⊥) → new ≡ old + failed_writes (Ok n) bytes → new ≡ old
counts_none n bytes old new some is = omega (arith, is, none_failed_at n bytes some)
