-- Threads form a tree: two that a third forks apart don't descend from one another, and no other forks them apart.
use Rattle.std.proofs.Common.{◌≡◌, ℕ, zero, suc, ◌<◌, ◌≤◌, ◌⊎◌, Some, refl, sym, ap, subst, ◌∙◌, inl, inr, ⊎_elim, arith}
use Rattle.std.proofs.lemmas.Option.{same_Some}
use Rattle.sc_graph.specs.Program.{Program, parent_of}
use Rattle.sc_graph.specs.Threads.{Descends, Below, ForkedApart}
use Rattle.sc_graph.specs.Valid.{IsFormed}
use Rattle.tick_laws.proofs.Formed.{parent_below, child_parent}

descends_above : (p : Program) (n t k a : ℕ) → Descends p n t k → parent_of p k ≡ Some a → Descends p (suc n) t a
descends_above p zero t k a d parent = (a, ap (parent_of p) d ∙ parent, refl)
descends_above p (suc n) t k a d parent = (d.0, d.1, descends_above p n d.0 k a d.2 parent)

pub below_above : (p : Program) (t k a : ℕ) → Below p t k → parent_of p k ≡ Some a → Below p t a
below_above p t k a b parent = record { generations = suc b.generations; descends = descends_above p b.generations t k a b.descends parent }

below_by : (p : Program) (n t a : ℕ) → Descends p n t a → Below p t a
below_by p n t a d = record { generations = n; descends = d }

trans_by : (p : Program) (n t u a : ℕ) → Descends p n t u → Below p u a → Below p t a
trans_by p zero t u a d b = subst (λ v. Below p v a) (sym d) b
trans_by p (suc n) t u a d b =
    let rest = trans_by p n d.0 u a d.2 b in
    record { generations = suc rest.generations; descends = (d.0, d.1, rest.descends) }

pub below_trans : (p : Program) (t u a : ℕ) → Below p t u → Below p u a → Below p t a
below_trans p t u a b over = trans_by p b.generations t u a b.descends over

-- of two threads from which a third descends, one descends from the other
on_line : (p : Program) (n m t a b : ℕ) → Descends p n t a → Descends p m t b → Below p a b ⊎ Below p b a
on_line p zero m t a b d e = inl (below_by p m a b (subst (λ v. Descends p m v b) d e))
on_line p (suc n) zero t a b d e = inr (below_by p (suc n) b a (subst (λ v. Descends p (suc n) v a) e d))
on_line p (suc n) (suc m) t a b d e =
    on_line p n m d.0 a b d.2 (subst (λ v. Descends p m v b) (same_Some e.0 d.0 (sym e.1 ∙ d.1)) e.2)

module _ (p : Program) (formed : IsFormed p) where
  descends_le : (n t a : ℕ) → Descends p n t a → a ≤ t
  descends_le zero t a d = subst (λ v. v ≤ t) d (at_most t)
    where
      at_most : (k : ℕ) → k ≤ k
      at_most k = omega arith
  descends_le (suc n) t a d =
      let less : d.0 < t = parent_below p formed t d.0 d.1 in
      let rest : a ≤ d.0 = descends_le n d.0 a d.2 in
      omega arith

  pub below_le : (t a : ℕ) → Below p t a → a ≤ t
  below_le t a b = descends_le b.generations t a b.descends

  siblings_by : (n k l a : ℕ) → parent_of p k ≡ Some a → parent_of p l ≡ Some a → Descends p n k l → k ≡ l
  siblings_by zero k l a of_k of_l d = d
  siblings_by (suc n) k l a of_k of_l d =
      let same : d.0 ≡ a = same_Some d.0 a (sym d.1 ∙ of_k) in
      let low : l ≤ d.0 = descends_le n d.0 l d.2 in
      let high : a < l = parent_below p formed l a of_l in
      absurd (omega arith)

  siblings : (k l a : ℕ) → parent_of p k ≡ Some a → parent_of p l ≡ Some a → Below p k l → k ≡ l
  siblings k l a of_k of_l b = siblings_by b.generations k l a of_k of_l b.descends

  -- no thread descends from two children of one
  one_child : (t k l a : ℕ) → parent_of p k ≡ Some a → parent_of p l ≡ Some a → Below p t k → Below p t l → k ≡ l
  one_child t k l a of_k of_l b d =
      ⊎_elim (siblings k l a of_k of_l) (λ e. sym (siblings l k a of_l of_k e)) (on_line p b.generations d.generations t k l b.descends d.descends)

  left_parent : (t u a : ℕ) (m : ForkedApart p t u a) → parent_of p m.left ≡ Some a
  left_parent t u a m = child_parent p formed m.fork a m.children m.join m.left m.is_fork m.left_child

  right_parent : (t u a : ℕ) (m : ForkedApart p t u a) → parent_of p m.right ≡ Some a
  right_parent t u a m = child_parent p formed m.fork a m.children m.join m.right m.is_fork m.right_child

  -- threads forked apart descend from the one that forks them
  pub left_under : (t u a : ℕ) → ForkedApart p t u a → Below p t a
  left_under t u a m = below_above p t m.left a m.t_below (left_parent t u a m)

  pub right_under : (t u a : ℕ) → ForkedApart p t u a → Below p u a
  right_under t u a m = below_above p u m.right a m.u_below (right_parent t u a m)

  -- no thread descends from both sides
  apart_from : (v t u a : ℕ) (m : ForkedApart p t u a) → Below p v m.left → Below p v m.right → ⊥
  apart_from v t u a m b d = m.differ (one_child v m.left m.right a (left_parent t u a m) (right_parent t u a m) b d)

  pub not_below_apart : (t u a : ℕ) → ForkedApart p t u a → Below p t u → ⊥
  not_below_apart t u a m b = apart_from t t u a m m.t_below (below_trans p t u m.right b m.u_below)

  pub not_self_apart : (t a : ℕ) → ForkedApart p t t a → ⊥
  not_self_apart t a m = apart_from t t t a m m.t_below m.u_below

  both_below : (a b : ℕ) → Below p a b → Below p b a → a ≡ b
  both_below a b over under = let high = below_le a b over in let low = below_le b a under in omega arith

  -- threads that a forks apart are not forked apart above it
  forked_lower : (t u a b : ℕ) → ForkedApart p t u a → ForkedApart p t u b → Below p a b → a ≡ b
  forked_lower t u a b m n above =
      let under = left_under t u a m in
      let side = n.t_below in
      ⊎_elim
      (λ a_low. absurd (apart_from u t u b n (below_trans p u a n.left (right_under t u a m) a_low) n.u_below))
      (λ left_low. by_left left_low.generations left_low.descends)
      (on_line p under.generations side.generations t a n.left under.descends side.descends)
    where
      by_left : (g : ℕ) → Descends p g n.left a → a ≡ b
      by_left zero d = absurd (apart_from u t u b n (subst (Below p u) (sym d) (right_under t u a m)) n.u_below)
      by_left (suc g) d =
          both_below a b above (below_by p g b a (subst (λ v. Descends p g v a) (same_Some d.0 b (sym d.1 ∙ left_parent t u b n)) d.2))

  -- one thread alone forks two others apart
  pub apart_once : (t u a b : ℕ) → ForkedApart p t u a → ForkedApart p t u b → a ≡ b
  apart_once t u a b m n =
      let over = left_under t u a m in
      let other = left_under t u b n in
      ⊎_elim (forked_lower t u a b m n) (λ low. sym (forked_lower t u b a n m low))
      (on_line p over.generations other.generations t a b over.descends other.descends)
