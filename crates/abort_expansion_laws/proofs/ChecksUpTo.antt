-- Checks of strong flags that lead to the same place, up to that of one flag. So the tests begin of whoever looks at the strong flags around, the
-- outermost first; the flags further out are at most as many as the superstates there with strong aborts.
use Rattle.std.proofs.Common.{◌≡◌, ℕ, suc, ◌⊎◌, inl, inr, ⊎_elim, Bool, true, false, Option, Some, None, List, [], ◌∷◌, ◌++◌, Contains, refl, sym, ap, subst}
use Rattle.std.proofs.Common.{◌∙◌, if◌then◌else◌}
use Rattle.std.specs.Prelude.{reverse, flat_map}
use Rattle.std.proofs.lemmas.List.{append_assoc}
use Rattle.core_charts.specs.declared.region.Transition.{Transition}
use Rattle.core_charts.specs.Aborts.{has_strong}
use Rattle.chart_machine.specs.declared.table.Table.{Table}
use Rattle.abort_expansion.specs.Transitions.{go, is_raised, check}
use Rattle.chart_machine_laws.proofs.LyingIn.{IsNested, around, holder, none_in, head_or_tail}
use Rattle.abort_expansion_laws.specs.CoreRows.{own, Images}
use Rattle.abort_expansion_laws.proofs.Fronts.{reversed}

pub data ChecksUpTo (x place : ℕ) : (many : ℕ) → List Transition → Type 0 where
  checks_it : (many : ℕ) (b : Bool) (rest : List Transition) → ChecksUpTo x place many (go b (Some (is_raised x)) [] place ∷ rest)
  checks_other : (many : ℕ) (b : Bool) (y : ℕ) (rest : List Transition) → ChecksUpTo x place many rest →
      ChecksUpTo x place (suc many) (go b (Some (is_raised y)) [] place ∷ rest)

pub more_checks : (x place many : ℕ) (tests : List Transition) → ChecksUpTo x place many tests → ChecksUpTo x place (suc many) tests
more_checks x place _ _ (checks_it many b rest) = checks_it (suc many) b rest
more_checks x place _ _ (checks_other many b y rest others) = checks_other (suc many) b y rest (more_checks x place many rest others)

-- so many, and one for each of these superstates that has strong aborts
pub strong_from : Table → List ℕ → ℕ → ℕ
strong_from k [] n = n
strong_from k (s ∷ zs) n = strong_from k zs (if has_strong (own k s) then suc n else n)

-- how many superstates around one have strong aborts
abbrev pub strong_around : Table → ℕ → ℕ
strong_around k o = strong_from k (around k (holder k o)) 0

-- each superstate around has its check, or none
module _ (k core : Table) (i : Images) (tree : IsNested k) (no_strong : (s : ℕ) → has_strong (own k s) ≡ false → (i.flags_of s).strong ≡ None)
    (o x place : ℕ) (b : Bool) (f : ℕ → List Transition) (own_one : f o ≡ go b (Some (is_raised x)) [] place ∷ [])
    (each : (s : ℕ) → (f s ≡ []) ⊎ (f s ≡ check b place (i.flags_of s).strong)) where
  abbrev Up : ℕ → List Transition → Type 0
  Up n tests = ChecksUpTo x place n tests

  one_outer : (s n : ℕ) (rest : List Transition) → Up n rest → Up (if has_strong (own k s) then suc n else n) ((f s ++ []) ++ rest)
  one_outer s n rest leads = by (has_strong (own k s)) refl (each s)
    where
      by_flag : (z : Option ℕ) → Up (suc n) ((check b place z ++ []) ++ rest)
      by_flag None = more_checks x place n rest leads
      by_flag (Some y) = checks_other n b y rest leads

      by : (h : Bool) → has_strong (own k s) ≡ h → (f s ≡ []) ⊎ (f s ≡ check b place (i.flags_of s).strong) →
          Up (if h then suc n else n) ((f s ++ []) ++ rest)
      by true e (inl none) = subst (λ zs. Up (suc n) ((zs ++ []) ++ rest)) (sym none) (more_checks x place n rest leads)
      by true e (inr checks) = subst (λ zs. Up (suc n) ((zs ++ []) ++ rest)) (sym checks) (by_flag (i.flags_of s).strong)
      by false e (inl none) = subst (λ zs. Up n ((zs ++ []) ++ rest)) (sym none) leads
      by false e (inr checks) = subst (λ zs. Up n ((zs ++ []) ++ rest)) (sym (checks ∙ ap (check b place) (no_strong s e))) leads

  apart : (n s : ℕ) (zs : List ℕ) (rest : List Transition) → Up n (flat_map f (reverse zs) ++ ((f s ++ []) ++ rest)) →
      Up n (flat_map f (reverse (s ∷ zs)) ++ rest)
  apart n s zs rest leads =
      subst (Up n) (sym (ap (λ ys. ys ++ rest) (reversed f s zs) ∙ append_assoc (flat_map f (reverse zs)) (f s ++ []) rest)) leads

  -- others count as well
  more_from : (more : List ℕ) (n : ℕ) (tests : List Transition) → Up n tests → Up (strong_from k more n) tests
  unfolding strong_from
  more_from [] n tests leads = leads
  more_from (s ∷ more) n tests leads = more_from more (if has_strong (own k s) then suc n else n) tests (by (has_strong (own k s)))
    where
      by : (h : Bool) → Up (if h then suc n else n) tests
      by true = more_checks x place n tests leads
      by false = leads

  all_outer : (zs more : List ℕ) (n : ℕ) (rest : List Transition) → Up n rest → Up (strong_from k (zs ++ more) n) (flat_map f (reverse zs) ++ rest)
  unfolding strong_from
  all_outer [] more n rest leads = more_from more n rest leads
  all_outer (s ∷ zs) more n rest leads =
      apart (strong_from k (s ∷ (zs ++ more)) n) s zs rest
      (all_outer zs more (if has_strong (own k s) then suc n else n) ((f s ++ []) ++ rest) (one_outer s n rest leads))

  pub up_to_own : (zs more : List ℕ) (p : ℕ) → around k p ≡ zs ++ more → Contains zs o → (rest : List Transition) →
      ChecksUpTo x place (strong_around k o) (flat_map f (reverse zs) ++ rest)
  up_to_own [] more p e h rest = absurd (none_in o h)
  up_to_own (s ∷ zs) more p e h rest =
      ⊎_elim
      (λ is.
      let up : zs ++ more ≡ around k (holder k o) = tree.upward p s (zs ++ more) e ∙ ap (λ v. around k (holder k v)) is in
      apart (strong_around k o) s zs rest
      (subst (λ ys. Up (strong_from k ys 0) (flat_map f (reverse zs) ++ ((f s ++ []) ++ rest))) up
      (all_outer zs more 0 ((f s ++ []) ++ rest) (subst (λ ys. Up 0 ((ys ++ []) ++ rest)) (sym (ap f is ∙ own_one)) (checks_it 0 b rest)))))
      (λ tail. apart (strong_around k o) s zs rest (up_to_own zs more (holder k s) (sym (tree.upward p s (zs ++ more) e)) tail ((f s ++ []) ++ rest)))
      (head_or_tail s o zs h)
