-- The states in which threads rest, by their marks.
use Rattle.std.proofs.Common.{ℕ, zero, suc, ◌+◌, ◌≡◌, ◌≢◌, ◌<◌, Bool, true, false, ◌||◌, nat_eq, Option, Some, None, List, [], ◌∷◌}
use Rattle.std.proofs.Common.{◌++◌, length, get_or, slice_set}
use Rattle.std.proofs.Common.{refl, sym, ap, subst, ◌∙◌, arith, if◌then◌else◌, eqb-true}
use Rattle.std.proofs.lemmas.Bool.{eq-eqb}
use Rattle.std.proofs.lemmas.List.{get_or-set_other}
use Rattle.std.proofs.lemmas.Grind.{get_or-set_at}
use Rattle.node_states.specs.Active.{is_number, numbers_where}
use Rattle.compiled_charts.specs.Inside.Marks.{marked, numbers_of}

one_on : (n : ℕ) (marks : List Bool) (rest : List ℕ) (b w : Bool) → b ≡ w → numbers_of marks (suc n) ≡ rest →
    numbers_of (b ∷ marks) n ≡ (if w then n ∷ rest else rest)
one_on n marks rest true true same more = ap (λ ns. n ∷ ns) more
one_on n marks rest false false same more = more
one_on n marks rest true false same more = absurd cc
one_on n marks rest false true same more = absurd cc

-- the numbers of marks that tell what is wanted are the numbers that are wanted
pub numbers_are : (wanted : ℕ → Bool) (marks : List Bool) (n : ℕ) →
    ((m : ℕ) → m < length marks → get_or marks m false ≡ wanted (n + m)) → numbers_of marks n ≡ numbers_where wanted n (length marks)
numbers_are wanted [] n each = refl
numbers_are wanted (b ∷ marks) n each =
    let same : n + 0 ≡ n = omega arith in
    let first : 0 < length (b ∷ marks) = omega arith in
    let shifted : (m : ℕ) → n + suc m ≡ suc n + m = λ m. omega arith in
    let within : (m : ℕ) → m < length marks → suc m < length (b ∷ marks) = λ m less. omega (arith, less) in
    one_on n marks (numbers_where wanted (suc n) (length marks)) b (wanted n) (each 0 first ∙ ap wanted same)
    (numbers_are wanted marks (suc n) (λ m less. each (suc m) (within m less) ∙ ap wanted (shifted m)))

or_true : (b : Bool) → (b || true) ≡ true
or_true true = refl
or_true false = refl

-- a mark more, for one that is asked for
pub one_more : (state : Option ℕ) (marks : List Bool) (m : ℕ) (others : Bool) → m < length marks →
    (get_or (marked state marks) m false || others) ≡ (get_or marks m false || (is_number m state || others))
one_more None marks m others less = refl
one_more (Some n) marks m others less = by (nat_eq n m) refl
  where
    by : (b : Bool) → nat_eq n m ≡ b → (get_or (slice_set marks n true) m false || others) ≡ (get_or marks m false || (nat_eq n m || others))
    by true same =
        let one : n ≡ m = eqb-true n m same in
        let there : n < length marks = subst (λ k. k < length marks) (sym one) less in
        ap (λ b. b || others) (get_or-set_at marks n m true false (sym one) there)
        ∙ sym (or_true (get_or marks m false))
        ∙ ap (λ b. get_or marks m false || (b || others)) (sym same)
    by false other =
        let apart : m ≢ n = λ one. let h : nat_eq n m ≡ true = eq-eqb n m (sym one) in absurd (cc) in
        ap (λ b. b || others) (get_or-set_other marks n m true false apart)
        ∙ ap (λ b. get_or marks m false || (b || others)) (sym other)

-- nothing is marked
pub none_more : (marks : List Bool) → ((m : ℕ) → get_or marks m false ≡ false) → (m : ℕ) → get_or (marks ++ false ∷ []) m false ≡ false
none_more [] each zero = refl
none_more [] each (suc m) = refl
none_more (b ∷ marks) each zero = each 0
none_more (b ∷ marks) each (suc m) = none_more marks (λ k. each (suc k)) m
