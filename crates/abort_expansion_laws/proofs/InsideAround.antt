-- What lies inside of a state has it around it; of two superstates around a region one lies in the other; what holds of each holds of all.
use Rattle.std.proofs.Common.{◌≡◌, ℕ, ◌⊎◌, inl, inr, ⊎_elim, Bool, true, false, nat_eq, List, []}
use Rattle.std.proofs.Common.{◌∷◌, Contains, refl, sym, subst, ◌∙◌, if◌then◌else◌}
use Rattle.std.specs.Prelude.{filter}
use Rattle.std.specs.List.{list_any}
use Rattle.chart_machine.specs.declared.table.Table.{Table}
use Rattle.chart_machine.specs.Table.{region_at}
use Rattle.chart_machine.specs.Turns.{inside, numbered_from}
use Rattle.chart_machine_laws.proofs.LyingIn.{around, holder, none_in, head_or_tail}
use Rattle.chart_machine_laws.proofs.LyingIn.{IsNested}
use Rattle.chart_lowering_laws.proofs.Matching.{any_contains}

-- ---- who is inside has the superstate around it
kept_head : (b : Bool) (x : ℕ) (xs : List ℕ) (P : ℕ → Type 0) → (b ≡ true → P x) → ((y : ℕ) → Contains xs y → P y) → (y : ℕ) →
    Contains (if b then x ∷ xs else xs) y → P y
kept_head true x xs P own rest y h = ⊎_elim (λ same. subst P same (own refl)) (λ tail. rest y tail) (head_or_tail x y xs h)
kept_head false x xs P own rest y h = rest y h

filtered : (p : ℕ → Bool) (xs : List ℕ) (y : ℕ) → Contains (filter p xs) y → p y ≡ true
filtered p [] y h = absurd (none_in y h)
filtered p (x ∷ xs) y h = kept_head (p x) x (filter p xs) (λ z. p z ≡ true) (λ e. e) (λ z tail. filtered p xs z tail) y h

pub inside_around : (k : Table) (s r : ℕ) → Contains (inside k s) r → Contains (around k r) s
inside_around k s r h = any_contains s (around k r) (filtered (λ q. list_any (nat_eq s) (region_at k q).around) (numbered_from 1 k.regions) r h)

-- of two superstates around a region, one lies in the other
module _ (k : Table) (tree : IsNested k) where
  pub one_in_other : (ss : List ℕ) (t s u : ℕ) → around k t ≡ ss → Contains ss s → Contains ss u →
      (s ≡ u) ⊎ (Contains (around k (holder k s)) u ⊎ Contains (around k (holder k u)) s)
  one_in_other [] t s u e first second = absurd (none_in s first)
  one_in_other (x ∷ xs) t s u e first second =
      by_places (head_or_tail x s xs first) (head_or_tail x u xs second)
      (λ a b. one_in_other xs (holder k x) s u (sym outer) a b)
    where
      outer : xs ≡ around k (holder k x)
      outer = tree.upward t x xs e

      by_places : (x ≡ s) ⊎ Contains xs s → (x ≡ u) ⊎ Contains xs u →
          (Contains xs s → Contains xs u → (s ≡ u) ⊎ (Contains (around k (holder k s)) u ⊎ Contains (around k (holder k u)) s)) →
          (s ≡ u) ⊎ (Contains (around k (holder k s)) u ⊎ Contains (around k (holder k u)) s)
      by_places (inl a) (inl b) rest = inl (sym a ∙ b)
      by_places (inl a) (inr b) rest = inr (inl (subst (λ v. Contains (around k (holder k v)) u) a (subst (λ zs. Contains zs u) outer b)))
      by_places (inr a) (inl b) rest = inr (inr (subst (λ v. Contains (around k (holder k v)) s) b (subst (λ zs. Contains zs s) outer a)))
      by_places (inr a) (inr b) rest = rest a b
