-- The strong checks in front: none where nobody guards around, the same where the same superstates guard, and all where all guard.
use Rattle.std.proofs.Common.{◌≡◌, ℕ, ⊎_elim, Bool, true, false, Some, None, Option, List, [], ◌∷◌, ◌++◌, Contains, refl, sym, ap, subst, ◌∙◌}
use Rattle.std.specs.Prelude.{reverse, flat_map}
use Rattle.std.proofs.lemmas.List.{reverse-append}
use Rattle.std.proofs.lemmas.Grind.{flat_map-append}
use Rattle.std.proofs.lemmas.List.Folds.{flat_map-map}
use Rattle.std.proofs.lemmas.Bool.{or_parts}
use Rattle.core_charts.specs.declared.region.Transition.{Transition}
use Rattle.chart_machine.specs.declared.standing.Configuration.{Configuration}
use Rattle.chart_machine.specs.declared.table.Table.{Table}
use Rattle.chart_machine.specs.Turns.{standing_of, guards, is_guarded}
use Rattle.abort_expansion.specs.Transitions.{check, strong_checks}
use Rattle.chart_machine_laws.proofs.LyingIn.{around, holder, none_in, head_or_tail, head_in, tail_in}
use Rattle.abort_expansion_laws.specs.CoreRows.{Images, flags_around}
use Rattle.abort_expansion_laws.specs.Related.{ahead, front}

-- ---- what each of some superstates has, the outermost first

pub reversed : (f : ℕ → List Transition) (s : ℕ) (zs : List ℕ) → flat_map f (reverse (s ∷ zs)) ≡ flat_map f (reverse zs) ++ (f s ++ [])
reversed f s zs = ap (flat_map f) (reverse-append (s ∷ []) zs) ∙ flat_map-append f (reverse zs) (s ∷ [])

pub none_of_each : (f : ℕ → List Transition) (zs : List ℕ) → ((s : ℕ) → Contains zs s → f s ≡ []) → flat_map f (reverse zs) ≡ []
none_of_each f [] none = refl
none_of_each f (s ∷ zs) none =
    let own : f s ≡ [] = none s (head_in s zs) in
    let rest : flat_map f (reverse zs) ≡ [] = none_of_each f zs (λ u h. none u (tail_in s u zs h)) in
    reversed f s zs ∙ rw (own, rest) refl

pub same_of_each : (f g : ℕ → List Transition) (zs : List ℕ) → ((s : ℕ) → Contains zs s → g s ≡ f s) → flat_map g (reverse zs) ≡ flat_map f (reverse zs)
same_of_each f g [] same = refl
same_of_each f g (s ∷ zs) same =
    let own : g s ≡ f s = same s (head_in s zs) in
    let rest : flat_map g (reverse zs) ≡ flat_map f (reverse zs) = same_of_each f g zs (λ u h. same u (tail_in s u zs h)) in
    let both : flat_map g (reverse zs) ++ (g s ++ []) ≡ flat_map f (reverse zs) ++ (f s ++ []) = rw (own, rest) refl in
    reversed g s zs ∙ (both ∙ sym (reversed f s zs))

-- ---- fronts

module _ (k core : Table) (i : Images) where
  pub guards_not : (b : Bool) (place : ℕ) (c : Configuration) (s : ℕ) → guards (standing_of c (holder k s)) ≡ false → ahead k core i b place c s ≡ []
  guards_not b place c s e = rw (e) refl

  pub guards_here : (b : Bool) (place : ℕ) (c : Configuration) (s : ℕ) → guards (standing_of c (holder k s)) ≡ true →
      ahead k core i b place c s ≡ check b place (i.flags_of s).strong
  guards_here b place c s e = rw (e) refl

  pub front_free : (c : Configuration) (r : ℕ) → is_guarded k c (around k r) ≡ false → (b : Bool) → front k core i b c r ≡ []
  front_free c r free b =
      none_of_each (λ s. ahead k core i b (i.places_of r).left c s) (around k r)
      (λ s h. guards_not b (i.places_of r).left c s (nobody (around k r) s free h))
    where
      nobody : (zs : List ℕ) (s : ℕ) → is_guarded k c zs ≡ false → Contains zs s → guards (standing_of c (holder k s)) ≡ false
      nobody [] s e h = absurd (none_in s h)
      nobody (u ∷ zs) s e h =
          let both = or_parts (guards (standing_of c (holder k u))) (is_guarded k c zs) e in
          ⊎_elim (λ same. subst (λ v. guards (standing_of c (holder k v)) ≡ false) same both.0) (λ tail. nobody zs s both.1 tail) (head_or_tail u s zs h)

  pub front_same : (c c' : Configuration) (r : ℕ) →
      ((s : ℕ) → Contains (around k r) s → guards (standing_of c' (holder k s)) ≡ guards (standing_of c (holder k s))) → (b : Bool) →
      front k core i b c' r ≡ front k core i b c r
  front_same c c' r same b =
      same_of_each (λ s. ahead k core i b (i.places_of r).left c s) (λ s. ahead k core i b (i.places_of r).left c' s) (around k r)
      (λ s h. alike s (same s h))
    where
      alike : (s : ℕ) → guards (standing_of c' (holder k s)) ≡ guards (standing_of c (holder k s)) →
          ahead k core i b (i.places_of r).left c' s ≡ ahead k core i b (i.places_of r).left c s
      alike s e = rw (e) refl

  -- where each around that has a strong flag guards, all strong checks stand in front
  pub front_whole : (c : Configuration) (r : ℕ) →
      ((s x : ℕ) → Contains (around k r) s → (i.flags_of s).strong ≡ Some x → guards (standing_of c (holder k s)) ≡ true) → (b : Bool) →
      front k core i b c r ≡ strong_checks b (i.places_of r).left (flags_around k core i r)
  front_whole c r each b =
      sym
      (flat_map-map (λ f. check b (i.places_of r).left f.strong) i.flags_of (reverse (around k r))
      ∙ same_of_each (λ s. ahead k core i b (i.places_of r).left c s) (λ s. check b (i.places_of r).left (i.flags_of s).strong) (around k r)
      (λ s h. by_flag s h (i.flags_of s).strong refl (guards (standing_of c (holder k s))) refl))
    where
      by_flag : (s : ℕ) → Contains (around k r) s → (f : Option ℕ) → (i.flags_of s).strong ≡ f → (g : Bool) → guards (standing_of c (holder k s)) ≡ g →
          check b (i.places_of r).left (i.flags_of s).strong ≡ ahead k core i b (i.places_of r).left c s
      by_flag s h f e true on = sym (guards_here b (i.places_of r).left c s on)
      by_flag s h None e false off = ap (check b (i.places_of r).left) e ∙ sym (guards_not b (i.places_of r).left c s off)
      by_flag s h (Some x) e false off = let wrong : true ≡ false = sym (each s x h e) ∙ off in absurd cc
