-- Numbers of regions and of flags: which of them differ.
use Rattle.std.proofs.Common.{◌≡◌, ℕ, ◌+◌, ◌<◌, ◌≤◌, inl, inr, ⊎_elim, Bool, true, false, Option, Some, None, List, []}
use Rattle.std.proofs.Common.{◌∷◌, map, Contains, refl, sym, ap, subst, ◌∙◌, arith}
use Rattle.std.specs.Prelude.{nat_eq}
use Rattle.scl_graph_laws.proofs.Targets.{same_number}
use Rattle.core_charts.specs.declared.region.Region.{Region}
use Rattle.core_charts.specs.declared.region.Region.TheFolds.{fold_out-Region}
use Rattle.core_charts.specs.declared.region.Transition.{Transition}
use Rattle.chart_machine.specs.Table.{Subtree, region_numbers, region_subtree, state_subtree, subtree_of_region as table_of_region}
use Rattle.chart_machine_laws.proofs.LyingIn.{none_in, head_in, head_or_tail}
use Rattle.abort_expansion.specs.declared.flags.Flags.{Flags}
use Rattle.abort_expansion.specs.Flags.{counts, given, one, flags_of}
use Rattle.core_charts.specs.Aborts.{has_strong, has_weak}
use Rattle.chart_lowering_laws.proofs.NumberTests.{nat_differ}
use Rattle.abort_expansion_laws.proofs.Resets.{Apart}
use Rattle.abort_expansion_laws.proofs.StartingRegions.{Once}

-- ---- of lists and numbers

pub no_one : (xs : List ℕ) → ((x : ℕ) → ¬ Contains xs x) → xs ≡ []
no_one [] none = refl
no_one (x ∷ xs) none = absurd (none x (head_in x xs))

-- the regions of a superstate have different numbers
pub some_regions : (r : Region) → 0 < (table_of_region r).regions
some_regions r = subst (λ p. 0 < p.regions) (sym (fold_out-Region Subtree Subtree region_subtree state_subtree r)) (omega arith)

pub numbers_high : (regions : List Region) (n r : ℕ) → Contains (region_numbers (map table_of_region regions) n) r → n ≤ r
numbers_high [] n r h = absurd (none_in r h)
numbers_high (x ∷ regions) n r h =
    ⊎_elim (λ same. omega (same, arith))
    (λ tail. let from = numbers_high regions (n + (table_of_region x).regions) r tail in omega (from, arith))
    (head_or_tail n r (region_numbers (map table_of_region regions) (n + (table_of_region x).regions)) h)

pub numbers_once : (regions : List Region) (n r : ℕ) → Contains (region_numbers (map table_of_region regions) n) r →
    Once r (region_numbers (map table_of_region regions) n)
numbers_once [] n r h = absurd (none_in r h)
numbers_once (x ∷ regions) n r h =
    let later : ℕ = n + (table_of_region x).regions in
    let some = some_regions x in
    ⊎_elim
    (λ same. inl (same, λ tail. let from = numbers_high regions later r tail in omega (from, same, some, arith)))
    (λ tail. let from = numbers_high regions later r tail in inr (λ same. omega (from, same, some, arith), numbers_once regions later r tail))
    (head_or_tail n r (region_numbers (map table_of_region regions) later) h)

-- ---- of flags

module _ (weak : Bool) (all : List Transition) (x : ℕ) where
  abbrev pub f : Flags
  f = flags_of weak all x

  pub strong_weak : Apart f.strong f.weak
  strong_weak = by_case (has_strong all) (has_weak all)
    where
      by_case : (a b : Bool) → Apart (given a x) (given b (x + one a))
      by_case true true = λ e. omega (e, arith)
      by_case true false = tt
      by_case false b = tt

  pub strong_counter : Apart f.strong f.counter
  strong_counter = by_case (has_strong all) (has_weak all) (counts weak all)
    where
      by_case : (a b d : Bool) → Apart (given a x) (given d (x + one a + one b))
      by_case true b true = λ e. omega (e, arith)
      by_case true b false = tt
      by_case false b d = tt

  pub weak_counter : Apart f.weak f.counter
  weak_counter = by_case (has_strong all) (has_weak all) (counts weak all)
    where
      by_case : (a b d : Bool) → Apart (given b (x + one a)) (given d (x + one a + one b))
      by_case a true true = λ e. omega (e, arith)
      by_case a true false = tt
      by_case a false d = tt

abbrev pub is_it : Option ℕ → ℕ → Bool
is_it (Some y) x = nat_eq y x
is_it None x = false

pub is_it_self : (o : Option ℕ) (x : ℕ) → o ≡ Some x → is_it o x ≡ true
is_it_self o x e = ap (λ z. is_it z x) e ∙ same_number x

pub is_it_other : (a b : Option ℕ) (x : ℕ) → Apart a b → a ≡ Some x → is_it b x ≡ false
is_it_other a None x apart e = refl
is_it_other a (Some y) x apart e = nat_differ y x (λ same. (subst (λ z. Apart z (Some y)) e apart) (sym same))
