-- The strong check of the outermost superstate that guards is the first in front; where that guards no longer, the others stay there.
use Rattle.std.proofs.Common.{◌≡◌, ◌≢◌, ℕ, ⊎_elim, Bool, true, false, Some, List, [], ◌∷◌, ◌++◌, Contains, refl, sym, ap, subst, ◌∙◌}
use Rattle.std.specs.Prelude.{reverse, flat_map}
use Rattle.core_charts.specs.declared.region.Transition.{Transition}
use Rattle.chart_machine.specs.declared.standing.Configuration.{Configuration}
use Rattle.chart_machine.specs.declared.table.Table.{Table}
use Rattle.chart_machine.specs.Turns.{standing_of, guards}
use Rattle.abort_expansion.specs.Transitions.{check, go, is_raised}
use Rattle.chart_machine_laws.proofs.LyingIn.{IsNested, around, holder, none_in, head_or_tail, head_in, tail_in}
use Rattle.abort_expansion_laws.specs.CoreRows.{Images}
use Rattle.abort_expansion_laws.specs.Related.{ahead, front}
use Rattle.abort_expansion_laws.proofs.StageReached.{holds_other}
use Rattle.abort_expansion_laws.proofs.Fronts.{reversed, none_of_each, guards_not, guards_here}

-- one of them has something, and those around it nothing: then this stands first
module _ (k : Table) (tree : IsNested k) (f g : ℕ → List Transition) (o : ℕ) (z : Transition) (own_f : f o ≡ z ∷ []) (own_g : g o ≡ [])
    (outer : (s : ℕ) → Contains (around k (holder k o)) s → f s ≡ []) where
  not_around_itself : (s : ℕ) → Contains (around k (holder k s)) s → ⊥
  not_around_itself s h = holds_other k tree (holder k s) s h refl

  pub first_of_each : (zs : List ℕ) (q : ℕ) → around k q ≡ zs → Contains zs o → ((s : ℕ) → Contains zs s → s ≢ o → g s ≡ f s) →
      flat_map f (reverse zs) ≡ z ∷ flat_map g (reverse zs)
  first_of_each [] q e h same = absurd (none_in o h)
  first_of_each (s ∷ zs) q e h same =
      let up : (u : ℕ) → Contains zs u → Contains (around k (holder k s)) u = λ u inner. subst (λ ys. Contains ys u) (tree.upward q s zs e) inner in
      ⊎_elim
      (λ is.
      let out : (u : ℕ) → Contains zs u → f u ≡ [] = λ u inner. outer u (subst (λ v. Contains (around k (holder k v)) u) is (up u inner)) in
      let differs : (u : ℕ) → Contains zs u → u ≢ o = λ u inner w. not_around_itself s (up s (subst (Contains zs) (w ∙ sym is) inner)) in
      let before : flat_map f (reverse zs) ≡ [] = none_of_each f zs out in
      let after : flat_map g (reverse zs) ≡ [] = none_of_each g zs (λ u inner. same u (tail_in s u zs inner) (differs u inner) ∙ out u inner) in
      let first : f s ≡ z ∷ [] = ap f is ∙ own_f in
      let none : g s ≡ [] = ap g is ∙ own_g in
      let all_f : flat_map f (reverse (s ∷ zs)) ≡ z ∷ [] = reversed f s zs ∙ rw (before, first) refl in
      let all_g : flat_map g (reverse (s ∷ zs)) ≡ [] = reversed g s zs ∙ rw (after, none) refl in
      all_f ∙ ap (λ ys. z ∷ ys) (sym all_g))
      (λ tail.
      let differs : s ≢ o = λ is. not_around_itself s (up s (subst (Contains zs) (sym is) tail)) in
      let rest : flat_map f (reverse zs) ≡ z ∷ flat_map g (reverse zs) =
      first_of_each zs (holder k s) (sym (tree.upward q s zs e)) tail (λ u inner ne. same u (tail_in s u zs inner) ne) in
      let own : g s ≡ f s = same s (head_in s zs) differs in
      reversed f s zs
      ∙ (ap (λ ys. ys ++ (f s ++ [])) rest
      ∙ ap (λ ys. z ∷ ys) (ap (λ ys. flat_map g (reverse zs) ++ (ys ++ [])) (sym own) ∙ sym (reversed g s zs))))
      (head_or_tail s o zs h)

module _ (k core : Table) (i : Images) where
  -- the outermost that guards is first; where it does so no longer, the others stand in front
  pub front_first : (tree : IsNested k) (c c' : Configuration) (o x q : ℕ) → Contains (around k q) o → guards (standing_of c (holder k o)) ≡ true →
      (i.flags_of o).strong ≡ Some x →
      ((s : ℕ) → Contains (around k (holder k o)) s → guards (standing_of c (holder k s)) ≡ false) →
      guards (standing_of c' (holder k o)) ≡ false →
      ((s : ℕ) → Contains (around k q) s → s ≢ o → guards (standing_of c' (holder k s)) ≡ guards (standing_of c (holder k s))) → (b : Bool) →
      front k core i b c q ≡ go b (Some (is_raised x)) [] (i.places_of q).left ∷ front k core i b c' q
  front_first tree c c' o x q in_o on flag outer off same b =
      first_of_each k tree (λ s. ahead k core i b (i.places_of q).left c s) (λ s. ahead k core i b (i.places_of q).left c' s) o _
      (guards_here k core i b (i.places_of q).left c o on ∙ ap (check b (i.places_of q).left) flag) (guards_not k core i b (i.places_of q).left c' o off)
      (λ s h. guards_not k core i b (i.places_of q).left c s (outer s h)) (around k q) q refl in_o (λ s h ne. alike s (same s h ne))
    where
      alike : (s : ℕ) → guards (standing_of c' (holder k s)) ≡ guards (standing_of c (holder k s)) →
          ahead k core i b (i.places_of q).left c' s ≡ ahead k core i b (i.places_of q).left c s
      alike s e = rw (e) refl
