-- The goto with the least number of a table stands in it, and none in it has a lesser one.
use Rattle.std.proofs.Common.{◌≡◌, ℕ, zero, suc, ◌≤◌, ◌<◌, Bool, true, false, Some, None, List, [], ◌∷◌, if◌then◌else◌, ◌⊎◌, inl, inr, refl, ap, sym}
use Rattle.std.proofs.Common.{subst, arith}
use Rattle.std.specs.Prelude.{nat_lt}
use Rattle.std.proofs.lemmas.Bool.Decides.{nat_tests}
use Rattle.std.proofs.lemmas.Option.{none-some}
use Rattle.scl_graph.specs.declared.hops.Hop.{Hop}
use Rattle.scl_graph.specs.declared.hops.Hop.TheVariants as hop
use Rattle.scl_graph.specs.Inside.Settling.{Best, at_place, better, better_of, least}

no_goto : (g p n : ℕ) → hop.Node n ≡ hop.Goto g p → ⊥
no_goto g p n e = cc

abbrev pub nobody : Best
nobody = None

abbrev pub pair_of : ℕ × ℕ → Best → ℕ × ℕ
pair_of other None = other
pair_of other (Some b) = b

same_pair : (b c : ℕ × ℕ) → Some b ≡ Some c → b ≡ c
same_pair b c e = ap (pair_of b) e

goto_of : (b c : ℕ × ℕ) → Some b ≡ Some c → hop.Goto b.0 b.1 ≡ hop.Goto c.0 c.1
goto_of b c e = ap (λ x. hop.Goto x.0 x.1) (same_pair b c e)

picked : (test : Bool) (f r : ℕ) (b c : ℕ × ℕ) → (if test then Some (f, r) else Some b) ≡ Some c → (Some b ≡ Some c) ⊎ (hop.Goto f r ≡ hop.Goto c.0 c.1)
picked true f r b c e = inr (goto_of (f, r) c e)
picked false f r b c e = inl e

better_stands : (best : Best) (f r : ℕ) (c : ℕ × ℕ) → better best f r ≡ Some c → (best ≡ Some c) ⊎ (hop.Goto f r ≡ hop.Goto c.0 c.1)
better_stands None f r c e = inr (goto_of (f, r) c e)
better_stands (Some b) f r c e = picked (nat_lt f b.0) f r b c e

better_of_stands : (best : Best) (h : Hop) (c : ℕ × ℕ) → better_of best h ≡ Some c → (best ≡ Some c) ⊎ (h ≡ hop.Goto c.0 c.1)
better_of_stands best (hop.Node n) c e = inl e
better_of_stands best (hop.Goto f r) c e = better_stands best f r c e

at_first : (best : Best) (h : Hop) (hops : List Hop) (c : ℕ × ℕ) → (best ≡ Some c) ⊎ (h ≡ hop.Goto c.0 c.1) → (best ≡ Some c)
    ⊎ ((p : ℕ) × (at_place (h ∷ hops) p ≡ hop.Goto c.0 c.1))
at_first best h hops c (inl e) = inl e
at_first best h hops c (inr e) = inr (0, e)

further_on : (best : Best) (h : Hop) (hops : List Hop) (c : ℕ × ℕ) → (better_of best h ≡ Some c) ⊎ ((p : ℕ) × (at_place hops p ≡ hop.Goto c.0 c.1))
    → (best ≡ Some c) ⊎ ((p : ℕ) × (at_place (h ∷ hops) p ≡ hop.Goto c.0 c.1))
further_on best h hops c (inl e) = at_first best h hops c (better_of_stands best h c e)
further_on best h hops c (inr e) = inr (suc e.0, e.1)

pub least_stands : (best : Best) (hops : List Hop) (c : ℕ × ℕ) → least best hops ≡ Some c → (best ≡ Some c) ⊎ ((p : ℕ) × (at_place hops p ≡ hop.Goto c.0 c.1))
least_stands best [] c is = inl is
least_stands best (h ∷ hops) c is = further_on best h hops c (least_stands (better_of best h) hops c is)

-- the best one of those seen is no greater than this
pub record IsNoGreater (best : Best) (f : ℕ) : Type 0 where
  pub goto : ℕ × ℕ
  pub known : best ≡ Some goto
  pub le : goto.0 ≤ f

no_greater_of : (test : Bool) (f r : ℕ) (b : ℕ × ℕ) → (test ≡ false → b.0 ≤ f) → IsNoGreater (if test then Some (f, r) else Some b) f
no_greater_of true f r b le = record { goto = (f, r); known = refl; le = omega arith }
no_greater_of false f r b le = record { goto = b; known = refl; le = le refl }

better_new : (best : Best) (f r : ℕ) → IsNoGreater (better best f r) f
better_new None f r = record { goto = (f, r); known = refl; le = omega arith }
better_new (Some b) f r = no_greater_of (nat_lt f b.0) f r b (λ e. grind (arith, nat_tests, e))

no_less : (test : Bool) (f r : ℕ) (b : ℕ × ℕ) (g : ℕ) → (test ≡ true → f < b.0) → b.0 ≤ g → IsNoGreater (if test then Some (f, r) else Some b) g
no_less true f r b g lt le = let less : _ = lt refl in record { goto = (f, r); known = refl; le = omega (arith, less, le) }
no_less false f r b g lt le = record { goto = b; known = refl; le = le }

better_old : (best : Best) (f r g : ℕ) → IsNoGreater best g → IsNoGreater (better best f r) g
better_old None f r g h = absurd (none-some h.goto h.known)
better_old (Some b) f r g h =
    let same : b ≡ h.goto = same_pair b h.goto h.known in
    let first : b.0 ≡ h.goto.0 = ap (λ x. x.0) same in
    let le : b.0 ≤ g = omega (arith, first, h.le) in
    no_less (nat_lt f b.0) f r b g (λ e. grind (arith, nat_tests, e)) le

better_of_old : (best : Best) (h : Hop) (g : ℕ) → IsNoGreater best g → IsNoGreater (better_of best h) g
better_of_old best (hop.Node n) g old = old
better_of_old best (hop.Goto f r) g old = better_old best f r g old

least_old : (best : Best) (hops : List Hop) (g : ℕ) → IsNoGreater best g → IsNoGreater (least best hops) g
least_old best [] g h = h
least_old best (k ∷ hops) g h = least_old (better_of best k) hops g (better_of_old best k g h)

pub least_new : (best : Best) (hops : List Hop) (p f r : ℕ) → at_place hops p ≡ hop.Goto f r → IsNoGreater (least best hops) f
least_new best [] p f r is = absurd (no_goto f r 0 is)
least_new best (h ∷ hops) zero f r is =
    least_old (better_of best h) hops f (subst (λ k. IsNoGreater (better_of best k) f) (sym is) (better_new best f r))
least_new best (h ∷ hops) (suc p) f r is = least_new (better_of best h) hops p f r is
