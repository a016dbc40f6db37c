-- Where a superstate with a strong flag is around a region, aborts are around it.
use Rattle.std.proofs.Common.{◌≡◌, ℕ, ⊎_elim, true, false, Some, List, [], ◌∷◌, ◌++◌, Contains, refl, sym, ap, ◌∙◌}
use Rattle.std.specs.Prelude.{reverse, flat_map}
use Rattle.std.proofs.lemmas.List.Folds.{flat_map-map}
use Rattle.core_charts.specs.declared.region.Transition.{Transition}
use Rattle.chart_machine.specs.declared.table.Table.{Table}
use Rattle.abort_expansion.specs.declared.flags.Flags.{Flags}
use Rattle.abort_expansion.specs.Flags.{aborts_around}
use Rattle.abort_expansion.specs.Transitions.{check}
use Rattle.chart_machine_laws.proofs.LyingIn.{around, none_in, head_or_tail}
use Rattle.abort_expansion_laws.specs.CoreRows.{Images, flags_around}
use Rattle.abort_expansion_laws.proofs.Fronts.{reversed}
use Rattle.abort_expansion_laws.proofs.InsideLeaves.{no_checks, true_or_false}

both_empty : (xs ys : List Transition) → xs ++ ys ≡ [] → (xs ≡ []) × (ys ≡ [])
both_empty [] ys e = (refl, e)
both_empty (x ∷ xs) ys e = absurd cc

empty_of_each : (f : ℕ → List Transition) (zs : List ℕ) → flat_map f (reverse zs) ≡ [] → (s : ℕ) → Contains zs s → f s ≡ []
empty_of_each f [] e s h = absurd (none_in s h)
empty_of_each f (u ∷ zs) e s h =
    let two = both_empty (flat_map f (reverse zs)) (f u ++ []) (sym (reversed f u zs) ∙ e) in
    ⊎_elim (λ is. ap f (sym is) ∙ (both_empty (f u) [] two.1).0) (λ tail. empty_of_each f zs two.0 s tail) (head_or_tail u s zs h)

pub aborts_here : (k core : Table) (i : Images) (o x : ℕ) → (i.flags_of o).strong ≡ Some x → (q : ℕ) → Contains (around k q) o →
    aborts_around (flags_around k core i q) ≡ true
aborts_here k core i o x flag q in_o = ⊎_elim (λ e. e) (λ e. wrong e) (true_or_false (aborts_around (flags_around k core i q)))
  where
    wrong : aborts_around (flags_around k core i q) ≡ false → aborts_around (flags_around k core i q) ≡ true
    wrong e =
        let none : flat_map (λ s. check true 0 (i.flags_of s).strong) (reverse (around k q)) ≡ [] =
        sym (flat_map-map (λ (f : Flags). check true 0 f.strong) i.flags_of (reverse (around k q))) ∙ no_checks true 0 (flags_around k core i q) e in
        let gone : check true 0 (i.flags_of o).strong ≡ [] = empty_of_each (λ s. check true 0 (i.flags_of s).strong) (around k q) none o in_o in
        let still : check true 0 (Some x) ≡ [] = sym (ap (check true 0) flag) ∙ gone in absurd cc
