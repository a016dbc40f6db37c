-- The first of some flaws is found by going over them.
use Rattle.std.proofs.Common.{◌≡◌, ℕ, zero, suc, ◌+◌, ◌*◌, ◌≤◌, ◌<◌, Bool, true, false, Some, None, List, [], ◌∷◌, ◌⊎◌, inl, inr, ⊎_elim, refl}
use Rattle.std.proofs.Common.{ap, subst, arith, slice_get, if◌then◌else◌}
use Rattle.std.proofs.lemmas.Bool.Decides.{nat_tests}
use Rattle.sc_text.specs.declared.read_fault.FaultKind.{FaultKind}
use Rattle.sc_text.specs.declared.read_fault.FaultKind.TheVariants as broken
use Rattle.sc_text.specs.FaultText.{broken_number}
use Rattle.sc_text.specs.declared.drafts.flaw.Flaw.{Flaw}
use Rattle.sc_text.specs.First.{comes_before, IsFirst, first_behind}

-- ---- the order of flaws

small : (b : FaultKind) → broken_number b ≤ 7
small broken.Token = omega arith
small broken.Grammar = omega arith
small broken.Unknown = omega arith
small broken.Repeated = omega arith
small broken.Kind = omega arith
small broken.Rule = omega arith
small broken.Limit = omega arith

key : Flaw → ℕ
key f = 8 * f.at + broken_number f.broken

module _ (f g : Flaw) where
  before_less : comes_before f g ≡ true → key f < key g
  unfolding key
  before_less e = let n = small f.broken in let m = small g.broken in grind (arith, nat_tests)

  not_before_most : comes_before f g ≡ false → key g ≤ key f
  unfolding key
  not_before_most e = let n = small f.broken in let m = small g.broken in grind (arith, nat_tests)

  most_not_before : key g ≤ key f → comes_before f g ≡ false
  unfolding key
  most_not_before le = let n = small f.broken in let m = small g.broken in grind (arith, nat_tests)

-- ---- what is found is one of them, and none comes before it

record Behind (found : Flaw) (flaws : List Flaw) (f : Flaw) : Type 0 where
  pub stands : (found ≡ f) ⊎ ((i : ℕ) × (slice_get flaws i ≡ Some f))
  pub found_late : key f ≤ key found
  pub others_late : (i : ℕ) (g : Flaw) → slice_get flaws i ≡ Some g → key f ≤ key g

some_one : {A : Type 0} (x y : A) → Some x ≡ Some y → x ≡ y
some_one x y e = cc

abbrev first_of : Flaw → Flaw → Bool → Flaw
first_of found x b = if b then x else found

step_stands : (found x f : Flaw) (flaws : List Flaw) (b : Bool) → (first_of found x b ≡ f) ⊎ ((i : ℕ) × (slice_get flaws i ≡ Some f))
    → (found ≡ f) ⊎ ((i : ℕ) × (slice_get (x ∷ flaws) i ≡ Some f))
step_stands found x f flaws true h = ⊎_elim (λ e. inr (0, ap Some e)) (λ s. inr (suc s.0, s.1)) h
step_stands found x f flaws false h = ⊎_elim (λ e. inl e) (λ s. inr (suc s.0, s.1)) h

step_others : (x f : Flaw) (flaws : List Flaw) → key f ≤ key x → ((i : ℕ) (g : Flaw) → slice_get flaws i ≡ Some g → key f ≤ key g) → (i : ℕ) (g : Flaw)
    → slice_get (x ∷ flaws) i ≡ Some g → key f ≤ key g
step_others x f flaws h all zero g e = subst (λ y. key f ≤ key y) (some_one x g e) h
step_others x f flaws h all (suc i) g e = all i g e

least_of : (found x f : Flaw) (b : Bool) → comes_before x found ≡ b → key f ≤ key (first_of found x b) → (key f ≤ key found) × (key f ≤ key x)
least_of found x f true e le = let less = before_less x found e in (omega arith, le)
least_of found x f false e le = let most = not_before_most x found e in (le, omega arith)

behind_one : (found : Flaw) (flaws : List Flaw) (f : Flaw) → first_behind (Some found) flaws ≡ Some f → Behind found flaws f
behind_one found [] f e =
    let same = some_one found f e in
    record { stands = inl same; found_late = subst (λ y. key y ≤ key found) same (omega arith); others_late = λ i g n. absurd cc }
behind_one found (x ∷ flaws) f e =
    let b = behind_one (first_of found x (comes_before x found)) flaws f e in
    let both = least_of found x f (comes_before x found) refl b.found_late in
    record {
      stands = step_stands found x f flaws (comes_before x found) b.stands;
      found_late = both.0;
      others_late = step_others x f flaws both.1 b.others_late;
    }

never_none : (found : Flaw) (flaws : List Flaw) → first_behind (Some found) flaws ≡ None → ⊥
never_none found [] e = cc
never_none found (x ∷ flaws) e = never_none (first_of found x (comes_before x found)) flaws e

stands_in : (x f : Flaw) (flaws : List Flaw) → (x ≡ f) ⊎ ((i : ℕ) × (slice_get flaws i ≡ Some f)) → (i : ℕ) × (slice_get (x ∷ flaws) i ≡ Some f)
stands_in x f flaws h = ⊎_elim (λ e. (0, ap Some e)) (λ s. (suc s.0, s.1)) h

pub first_found : (flaws : List Flaw) (f : Flaw) → first_behind None flaws ≡ Some f → IsFirst flaws f
first_found [] f e = absurd cc
first_found (x ∷ flaws) f e =
    let b = behind_one x flaws f e in
    let s = stands_in x f flaws b.stands in
    record {
      index = s.0;
      stands = s.1;
      first = λ i g at. most_not_before g f (step_others x f flaws b.found_late b.others_late i g at);
    }

pub none_found : (flaws : List Flaw) → first_behind None flaws ≡ None → flaws ≡ []
none_found [] e = refl
none_found (x ∷ flaws) e = absurd (never_none x flaws e)
