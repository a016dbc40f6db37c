-- Which regions lie in which, and which are concurrent, in a table whose rows are those of a tree.
use Rattle.std.proofs.Common.{◌≡◌, ℕ, ◌≤◌, ◌⊎◌, List, [], ◌∷◌, length, Contains, refl, sym, ap, subst, ◌∙◌, arith, inl, inr}
pub use Rattle.tick_laws.proofs.Lists.{contains_none as none_in, contains_head as head_in, contains_tail as tail_in, contains_cons as head_or_tail}
use Rattle.chart_machine.specs.declared.table.Table.{Table}
use Rattle.chart_machine.specs.Turns.{LiesIn, itself, deeper, SideBySide, holder_of, ForkedApart}
pub use Rattle.chart_machine_laws.specs.Tree.{IsNested, IsTree, LiesUnder, around, holder}

module _ (k : Table) (tree : IsNested k) where
  -- what r lies in is r itself, or what the region round it lies in
  pub outwards : (r q s : ℕ) (ss : List ℕ) → around k r ≡ s ∷ ss → LiesIn k r q → (r ≡ q) ⊎ LiesIn k (holder k s) q
  outwards r q s ss e (itself same) = inl same
  outwards r q s ss e (deeper u inner held) = by_place (head_or_tail s u ss (subst (λ z. Contains z u) e inner))
    where
      by_place : (s ≡ u) ⊎ Contains ss u → (r ≡ q) ⊎ LiesIn k (holder k s) q
      by_place (inl here) = inr (itself (ap (holder k) here ∙ held))
      by_place (inr there) = inr (deeper u (subst (λ z. Contains z u) (tree.upward r s ss e) there) held)

  pub inwards : (r q s : ℕ) (ss : List ℕ) → around k r ≡ s ∷ ss → LiesIn k (holder k s) q → LiesIn k r q
  inwards r q s ss e (itself same) = deeper s (subst (λ z. Contains z s) (sym e) (head_in s ss)) same
  inwards r q s ss e (deeper u inner held) =
      deeper u (subst (λ z. Contains z u) (sym e) (tail_in s u ss (subst (λ z. Contains z u) (sym (tree.upward r s ss e)) inner))) held

  pub top_only : (r q : ℕ) → around k r ≡ [] → LiesIn k r q → r ≡ q
  top_only r q e (itself same) = same
  top_only r q e (deeper u inner held) = absurd (none_in u (subst (λ z. Contains z u) e inner))

  -- outwards the way gets shorter
  shorter : (ss : List ℕ) (r q : ℕ) → around k r ≡ ss → LiesIn k r q → length (around k q) ≤ length ss
  shorter [] r q e lies = let same : around k q ≡ [] = ap (around k) (sym (top_only r q e lies)) ∙ e in omega (ap length same, arith)
  shorter (s ∷ ss) r q e lies = by_step (outwards r q s ss e lies) (λ up. shorter ss (holder k s) q (sym (tree.upward r s ss e)) up)
    where
      by_step : (r ≡ q) ⊎ LiesIn k (holder k s) q → (LiesIn k (holder k s) q → length (around k q) ≤ length ss) → length (around k q) ≤ length (s ∷ ss)
      by_step (inl same) rest = let n : length (around k q) ≡ length (s ∷ ss) = ap (λ z. length (around k z)) (sym same) ∙ ap length e in omega (n, arith)
      by_step (inr up) rest = let n = rest up in omega (n, arith)

  -- of two regions that r lies in, at one depth, both are the same
  one_at_depth : (ss : List ℕ) (r p q : ℕ) → around k r ≡ ss → LiesIn k r p → LiesIn k r q → length (around k p) ≡ length (around k q) → p ≡ q
  one_at_depth [] r p q e in_p in_q even = sym (top_only r p e in_p) ∙ top_only r q e in_q
  one_at_depth (s ∷ ss) r p q e in_p in_q even =
      by_steps (outwards r p s ss e in_p) (outwards r q s ss e in_q) (λ up_p up_q. one_at_depth ss (holder k s) p q (sym (tree.upward r s ss e)) up_p up_q even)
    where
      own : (z : ℕ) → r ≡ z → length (around k z) ≡ length (s ∷ ss)
      own z same = ap (λ w. length (around k w)) (sym same) ∙ ap length e

      by_steps : (r ≡ p) ⊎ LiesIn k (holder k s) p → (r ≡ q) ⊎ LiesIn k (holder k s) q → (LiesIn k (holder k s) p → LiesIn k (holder k s) q → p ≡ q) → p ≡ q
      by_steps (inl a) (inl b) rest = sym a ∙ b
      by_steps (inr a) (inr b) rest = rest a b
      by_steps (inl a) (inr b) rest =
          let m = own p a in let n = shorter ss (holder k s) q (sym (tree.upward r s ss e)) b in absurd (omega (m, n, even, arith))
      by_steps (inr a) (inl b) rest =
          let m = own q b in let n = shorter ss (holder k s) p (sym (tree.upward r s ss e)) a in absurd (omega (m, n, even, arith))

  pub lies_in_outer : (ss : List ℕ) (t h q : ℕ) → around k t ≡ ss → LiesIn k t h → LiesIn k h q → LiesIn k t q
  lies_in_outer [] t h q e in_h in_q = subst (λ z. LiesIn k z q) (sym (top_only t h e in_h)) in_q
  lies_in_outer (s ∷ ss) t h q e in_h in_q = by_step (outwards t h s ss e in_h) (λ up. lies_in_outer ss (holder k s) h q (sym (tree.upward t s ss e)) up in_q)
    where
      by_step : (t ≡ h) ⊎ LiesIn k (holder k s) h → (LiesIn k (holder k s) h → LiesIn k (holder k s) q) → LiesIn k t q
      by_step (inl same) rest = subst (λ z. LiesIn k z q) (sym same) in_q
      by_step (inr up) rest = inwards t q s ss e (rest up)

  -- nobody lies on both sides of a fork
  pub one_side : (left right w : ℕ) → SideBySide k left right → LiesIn k w left → LiesIn k w right → ⊥
  one_side left right w beside in_left in_right =
      beside.differ (one_at_depth (around k w) w left right refl in_left in_right (ap length beside.around))

  pub not_from_itself : (t b : ℕ) → ForkedApart k t t b → ⊥
  not_from_itself t b met = one_side met.left met.right t met.beside met.r_in met.u_in

  -- nor is a region forked apart from one that lies in it
  pub not_from_outer : (h t b : ℕ) → LiesIn k t h → ForkedApart k h t b → ⊥
  not_from_outer h t b inner met = one_side met.left met.right t met.beside (lies_in_outer (around k t) t h met.left refl inner met.r_in) met.u_in

  pub swapped : (t u b : ℕ) → ForkedApart k t u b → ForkedApart k u t b
  swapped t u b met =
      record {
        left = met.right;
        right = met.left;
        beside =
            record {
              differ = λ e. met.beside.differ (sym e);
              first = met.beside.second;
              second = met.beside.first;
              first_there = met.beside.second_there;
              second_there = met.beside.first_there;
              around = sym met.beside.around;
            };
        r_in = met.u_in;
        u_in = met.r_in;
        held = ap (holder_of k) (sym met.beside.around) ∙ met.held;
      }

  -- what is around a region is around all that lies in it
  pub around_outer : (ss : List ℕ) (z q s : ℕ) → around k z ≡ ss → LiesIn k z q → Contains (around k q) s → Contains (around k z) s
  around_outer [] z q s e lies here = subst (λ w. Contains (around k w) s) (sym (top_only z q e lies)) here
  around_outer (x ∷ ss) z q s e lies here =
      by_step (outwards z q x ss e lies) (λ u. around_outer ss (holder k x) q s (sym (tree.upward z x ss e)) u here)
    where
      by_step : (z ≡ q) ⊎ LiesIn k (holder k x) q → (LiesIn k (holder k x) q → Contains (around k (holder k x)) s) → Contains (around k z) s
      by_step (inl same) rest = subst (λ w. Contains (around k w) s) (sym same) here
      by_step (inr u) rest = subst (λ w. Contains w s) (sym e) (tail_in x s ss (subst (λ w. Contains w s) (sym (tree.upward z x ss e)) (rest u)))

  pub apart_inside : (r q a : ℕ) → ForkedApart k r q a → LiesUnder k r a × LiesUnder k q a
  apart_inside r q a met = (under r met.left met.r_in met.held, under q met.right met.u_in (ap (holder_of k) (sym met.beside.around) ∙ met.held))
    where
      by_around : (z side : ℕ) (ss : List ℕ) → around k side ≡ ss → LiesIn k z side → holder_of k ss ≡ a → LiesUnder k z a
      by_around z side [] e lies held = inr (sym held)
      by_around z side (s ∷ ss) e lies held =
          inl (s, around_outer (around k z) z side s refl lies (subst (λ w. Contains w s) (sym e) (head_in s ss)), held)

      under : (z side : ℕ) → LiesIn k z side → holder_of k (around k side) ≡ a → LiesUnder k z a
      under z side lies held = by_around z side (around k side) refl lies held

  -- of two superstates around a region, what is around the one lies around the region too
  pub around_around : (ss : List ℕ) (t s u : ℕ) → around k t ≡ ss → Contains (around k t) s → Contains (around k (holder k s)) u → Contains (around k t) u
  around_around ss t s u e inner outer = around_outer (around k t) t (holder k s) u refl (deeper s inner refl) outer

  -- a region that a superstate directly holds is forked apart from what lies in that superstate by the region that holds it
  pub by_holder : (s g t b : ℕ) (ss : List ℕ) → around k g ≡ s ∷ ss → Contains (around k t) s → ForkedApart k g t b → b ≡ holder k s
  by_holder s g t b ss directly inner met = by_side (outwards g met.left s ss directly met.r_in)
    where
      by_side : (g ≡ met.left) ⊎ LiesIn k (holder k s) met.left → b ≡ holder k s
      by_side (inl same) = sym met.held ∙ ap (holder_of k) (ap (around k) (sym same) ∙ directly)
      by_side (inr outer) =
          absurd (one_side met.left met.right t met.beside (lies_in_outer (around k t) t (holder k s) met.left refl (deeper s inner refl) outer) met.u_in)
