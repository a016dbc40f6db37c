-- Sums of the credits of threads: one replaced by another, and those handed to a list of threads.
use Rattle.std.proofs.Common.{◌≡◌, ◌≢◌, ℕ, zero, suc, ◌+◌, ◌≤◌, ◌<◌, ◌⊎◌, cond, nat_eq, List, [], ◌∷◌, Contains, refl, ap, subst, sym, ◌∙◌, inl, inr, ⊎_elim}
use Rattle.std.proofs.Common.{arith}
use Rattle.std.proofs.lemmas.Bool.{cases_eq, eq-eqb, ne_eqb}
use Rattle.sc_graph.specs.declared.tables.Tables.{Tables}
use Rattle.sc_graph.specs.Program.{Program, entry_of}
use Rattle.sc_graph.specs.Tables.{bound}
use Rattle.sc_graph.specs.Costs.{entry_weight, entry_weights, child_bounds}
use Rattle.tick_laws.specs.WithinTick.{total}
use Rattle.tick_laws.proofs.Lists.{contains_none, contains_head, contains_tail, contains_cons}

-- f, but y at k
abbrev pub replaced : {A : Type 0} → (ℕ → A) → ℕ → A → ℕ → A
replaced f k y t = cond (nat_eq t k) y (f t)

-- f, but g at each of a list
abbrev pub handed : {A : Type 0} → (ℕ → A) → List ℕ → (ℕ → A) → ℕ → A
handed g [] f = f
handed g (k ∷ ks) f = replaced (handed g ks f) k (g k)

abbrev pub total_of : (ℕ → ℕ) → List ℕ → ℕ
total_of g [] = 0
total_of g (k ∷ ks) = g k + total_of g ks

module _ {A : Type 0} where
  pub replaced_same : (f : ℕ → A) (k t : ℕ) (y : A) → t ≡ k → replaced f k y t ≡ y
  replaced_same f k t y e = ap (λ b. cond b y (f t)) (eq-eqb t k e)

  pub replaced_other : (f : ℕ → A) (k t : ℕ) (y : A) → t ≢ k → replaced f k y t ≡ f t
  replaced_other f k t y e = ap (λ b. cond b y (f t)) (ne_eqb t k e)

  -- what was handed to a thread of the list, and to another
  pub data Handed (g : ℕ → A) (ks : List ℕ) (f : ℕ → A) (t : ℕ) : Type 0 where
    among : Contains ks t → handed g ks f t ≡ g t → Handed g ks f t
    apart : ¬ Contains ks t → handed g ks f t ≡ f t → Handed g ks f t

  pub handed_cases : (g : ℕ → A) (ks : List ℕ) (f : ℕ → A) (t : ℕ) → Handed g ks f t
  handed_cases g [] f t = apart (contains_none t) refl
  handed_cases g (k ∷ ks) f t = at (cases_eq t k) (handed_cases g ks f t)
    where
      at : (t ≡ k) ⊎ (t ≢ k) → Handed g ks f t → Handed g (k ∷ ks) f t
      at (inl e) h = among (subst (Contains (k ∷ ks)) (sym e) (contains_head k ks)) (replaced_same (handed g ks f) k t (g k) e ∙ ap g (sym e))
      at (inr e) (among h i) = among (contains_tail k t ks h) (replaced_other (handed g ks f) k t (g k) e ∙ i)
      at (inr e) (apart h i) = apart (λ c. ⊎_elim (λ same. e (sym same)) h (contains_cons k t ks c)) (replaced_other (handed g ks f) k t (g k) e ∙ i)

  pub handed_among : (g : ℕ → A) (ks : List ℕ) (f : ℕ → A) (t : ℕ) → Contains ks t → handed g ks f t ≡ g t
  handed_among g ks f t h = at (handed_cases g ks f t)
    where
      at : Handed g ks f t → handed g ks f t ≡ g t
      at (among c e) = e
      at (apart c e) = absurd (c h)

  pub handed_apart : (g : ℕ → A) (ks : List ℕ) (f : ℕ → A) (t : ℕ) → ¬ Contains ks t → handed g ks f t ≡ f t
  handed_apart g ks f t h = at (handed_cases g ks f t)
    where
      at : Handed g ks f t → handed g ks f t ≡ f t
      at (among c e) = absurd (h c)
      at (apart c e) = e

pub total_zero : (n : ℕ) → total (λ _. 0) n ≡ 0
total_zero zero = refl
total_zero (suc n) = omega (arith, total_zero n)

total-replaced_past : (f : ℕ → ℕ) (k y n : ℕ) → n ≤ k → total (replaced f k y) n ≡ total f n
total-replaced_past f k y zero le = refl
total-replaced_past f k y (suc n) le = omega (arith, replaced_other f k n y (λ e. omega (arith, e, le)), total-replaced_past f k y n (omega (arith, le)))

-- a new credit adds at most itself to the total
pub total-replaced_le : (f : ℕ → ℕ) (k y n : ℕ) → total (replaced f k y) n ≤ total f n + y
total-replaced_le f k y zero = omega arith
total-replaced_le f k y (suc n) = at (cases_eq n k) (total-replaced_le f k y n)
  where
    at : (n ≡ k) ⊎ (n ≢ k) → total (replaced f k y) n ≤ total f n + y → replaced f k y n + total (replaced f k y) n ≤ f n + total f n + y
    at (inl e) rest = omega (arith, replaced_same f k n y e, total-replaced_past f k y n (omega (arith, e)))
    at (inr e) rest = omega (arith, replaced_other f k n y e, rest)

-- a new credit of a thread takes the place of its old one
pub total-replaced : (f : ℕ → ℕ) (k y n : ℕ) → k < n → total (replaced f k y) n + f k ≡ total f n + y
total-replaced f k y zero lt = absurd (omega (arith, lt))
total-replaced f k y (suc n) lt = at (cases_eq n k) (total-replaced f k y n)
  where
    at : (n ≡ k) ⊎ (n ≢ k) → (k < n → total (replaced f k y) n + f k ≡ total f n + y) → replaced f k y n + total (replaced f k y) n + f k ≡ f n + total f n + y
    at (inl e) rest = omega (arith, ap f e, replaced_same f k n y e, total-replaced_past f k y n (omega (arith, e)))
    at (inr e) rest = omega (arith, replaced_other f k n y e, rest (omega (arith, e, lt)))

pub total-handed_le : (g : ℕ → ℕ) (ks : List ℕ) (f : ℕ → ℕ) (n : ℕ) → total (handed g ks f) n ≤ total f n + total_of g ks
total-handed_le g [] f n = omega arith
total-handed_le g (k ∷ ks) f n =
    omega (arith, total-replaced_le (handed g ks f) k (g k) n, total-handed_le g ks f n)

-- the words of the rules, as totals over a list
pub entry_weights_total : (p : Program) (q : Tables) (ks : List ℕ) → entry_weights p q ks ≡ total_of (λ k. entry_weight q (entry_of p k)) ks
entry_weights_total p q [] = refl
entry_weights_total p q (k ∷ ks) = ap (λ n. entry_weight q (entry_of p k) + n) (entry_weights_total p q ks)

pub child_bounds_total : (q : Tables) (ks : List ℕ) → child_bounds q ks ≡ total_of (bound q) ks
child_bounds_total q [] = refl
child_bounds_total q (k ∷ ks) = ap (λ n. bound q k + n) (child_bounds_total q ks)
