-- A row of bytes that pass a test, and the first that doesn't.
use Rattle.std.proofs.Common.{◌≡◌, ◌≢◌, ℕ, suc, ◌+◌, ◌&&◌, Bool, true, false, cond, List, [], ◌∷◌, ◌++◌, length, refl, sym, ◌∙◌, ap, subst, arith}
use Rattle.std.proofs.lemmas.Bool.{and_parts}
use Rattle.std.specs.List.{list_all, prefix_len}

-- the row ends here
abbrev pub Stops : (ℕ → Bool) → List ℕ → Type 0
Stops p [] = Unit {0}
Stops p (c ∷ rest) = p c ≡ false

-- the longest row of bytes that pass, at the front
pub record Parted (p : ℕ → Bool) (xs : List ℕ) : Type 0 where
  pub front : List ℕ
  pub rest : List ℕ
  pub parts : xs ≡ front ++ rest
  pub passes : list_all p front ≡ true
  pub stops : Stops p rest
  pub long : length front ≡ prefix_len p xs

pub parted : (p : ℕ → Bool) (xs : List ℕ) → Parted p xs
parted p [] = record { front = []; rest = []; parts = refl; passes = refl; stops = tt; long = refl }
parted p (x ∷ xs) = go (parted p xs) (p x) refl
  where
    go : Parted p xs → (b : Bool) → p x ≡ b → Parted p (x ∷ xs)
    go h true e = record {
      front = x ∷ h.front;
      rest = h.rest;
      parts = ap (λ l. x ∷ l) h.parts;
      passes = ap (λ b. b && list_all p h.front) e ∙ h.passes;
      stops = h.stops;
      long = let l = h.long in
          let one : suc (length h.front) ≡ 1 + prefix_len p xs = omega arith in
          one ∙ ap (λ b. cond b (1 + prefix_len p xs) 0) (sym e);
    }
    go h false e = record { front = []; rest = x ∷ xs; parts = refl; passes = refl; stops = e; long = ap (λ b. cond b (1 + prefix_len p xs) 0) (sym e) }

-- a longer front doesn't pass
pub no_longer : (p : ℕ → Bool) (front rest more behind : List ℕ) → Stops p rest → rest ≡ more ++ behind → more ≢ [] → list_all p (front ++ more) ≡ true → ⊥
no_longer p [] [] [] behind s e n a = n refl
no_longer p [] [] (c ∷ more) behind s e n a = cc
no_longer p [] (d ∷ rest) [] behind s e n a = n refl
no_longer p [] (d ∷ rest) (c ∷ more) behind s e n a =
    let same : d ≡ c = cc in
    let stop : p c ≡ false = subst (λ b. p b ≡ false) same s in
    let pass : p c ≡ true = (and_parts (p c) (list_all p more) a).0 in
    cc
no_longer p (f ∷ front) rest more behind s e n a = no_longer p front rest more behind s e n (and_parts (p f) (list_all p (front ++ more)) a).1
