-- The superstates around a region whose strong flags a monitor there has yet to look at: the innermost ones, in a row that ends with the outermost
-- of them reversed.
use Rattle.std.proofs.Common.{◌≡◌, ℕ, ⊎_elim, Bool, List, [], ◌∷◌, ◌++◌, map, Contains, sym, ap, subst, ◌∙◌}
use Rattle.std.specs.Prelude.{reverse, flat_map}
use Rattle.std.proofs.lemmas.List.{append_assoc, append-nil, reverse-append, reverse-reverse}
use Rattle.std.proofs.lemmas.List.Elements.{Contains-append_left, Contains-append_cases}
use Rattle.std.proofs.lemmas.List.Folds.{flat_map-map}
use Rattle.abort_expansion.specs.declared.flags.Flags.{Flags}
use Rattle.abort_expansion.specs.Transitions.{check, strong_checks}
use Rattle.abort_expansion_laws.specs.CoreRows.{Images}
use Rattle.chart_machine_laws.proofs.LyingIn.{none_in, head_in, tail_in, head_or_tail}

pub in_reverse : (xs : List ℕ) (y : ℕ) → Contains (reverse xs) y → Contains xs y
in_reverse [] y h = absurd (none_in y h)
in_reverse (x ∷ xs) y h =
    ⊎_elim (λ first. tail_in x y xs (in_reverse xs y first)) (λ last. ⊎_elim (λ e. subst (Contains (x ∷ xs)) e (head_in x xs))
    (λ none. absurd (none_in y none)) (head_or_tail x y [] last))
    (Contains-append_cases (reverse xs) (x ∷ []) y (subst (λ zs. Contains zs y) (reverse-append (x ∷ []) xs) h))

pub in_reversed : (xs : List ℕ) (y : ℕ) → Contains xs y → Contains (reverse xs) y
in_reversed xs y h = in_reverse (reverse xs) y (subst (λ zs. Contains zs y) (sym (reverse-reverse xs)) h)

-- all of them
pub all_yet : (zs : List ℕ) → zs ≡ reverse (reverse zs) ++ []
all_yet zs = sym (append-nil (reverse (reverse zs)) ∙ reverse-reverse zs)

-- one fewer
pub one_seen : (zs : List ℕ) (s : ℕ) (yet seen : List ℕ) → zs ≡ reverse (s ∷ yet) ++ seen → zs ≡ reverse yet ++ (s ∷ seen)
one_seen zs s yet seen e = e ∙ (ap (λ ys. ys ++ seen) (reverse-append (s ∷ []) yet) ∙ append_assoc (reverse yet) (s ∷ []) seen)

-- each is one of them
pub yet_among : (zs yet seen : List ℕ) → zs ≡ reverse yet ++ seen → (s : ℕ) → Contains yet s → Contains zs s
yet_among zs yet seen e s h = subst (λ ys. Contains ys s) (sym e) (Contains-append_left (reverse yet) seen s (in_reversed yet s h))

-- the checks of their flags
pub checks_are : (i : Images) (b : Bool) (place : ℕ) (yet : List ℕ) →
    strong_checks b place (map i.flags_of yet) ≡ flat_map (λ s. check b place (i.flags_of s).strong) (reverse (reverse yet))
checks_are i b place yet =
    flat_map-map (λ (f : Flags). check b place f.strong) i.flags_of yet
    ∙ ap (flat_map (λ s. check b place (i.flags_of s).strong)) (sym (reverse-reverse yet))
