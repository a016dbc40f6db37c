-- Names of which each is the first of its kind are distinct, in whichever order they stand.
use Rattle.std.proofs.Common.{◌≡◌, ℕ, zero, suc, ◌+◌, ◌≤◌, Bool, true, false, cond, Option, Some, None, List, [], ◌∷◌, ◌++◌, slice_get, refl, sym, ◌∙◌, ap}
use Rattle.std.proofs.Common.{arith}
use Rattle.std.specs.Prelude.{not, ◌&&◌, ◌||◌}
use Rattle.std.specs.List.{list_any}
use Rattle.std.specs.Str.{bytes_eq}
use Rattle.std.proofs.lemmas.Slice.Eq.{bytes_eq-Decides}
use Rattle.std.proofs.lemmas.Bool.{and_parts}
use Rattle.sc_text.specs.Parts.{are_distinct}
use Rattle.sc_text.specs.Flaws.{first_or, place_among}

-- each of the names is the first of those that are equal to it
abbrev pub AreFirst : List (List ℕ) → Type 0
AreFirst names = (k : ℕ) (name : List ℕ) → slice_get names k ≡ Some name → place_among names name ≡ Some k

-- the same of the names from one place on
abbrev pub AreFirstBehind : (names : List (List ℕ)) (at : ℕ) → List (List ℕ) → Type 0
AreFirstBehind names at rest = (k : ℕ) (name : List ℕ) → slice_get rest k ≡ Some name → place_among names name ≡ Some (at + k)

module _ (names : List (List ℕ)) where
  pub no_more_names : (at : ℕ) → AreFirstBehind names at []
  no_more_names at k name e = absurd cc

  pub one_more_name : (at : ℕ) (name : List ℕ) (rest : List (List ℕ)) → place_among names name ≡ Some at → AreFirstBehind names (at + 1) rest
      → AreFirstBehind names at (name ∷ rest)
  one_more_name at name rest here more zero n e =
      let same : name ≡ n = cc in
      let sum : at + 0 ≡ at = omega arith in
      ap (place_among names) (sym same) ∙ here ∙ ap Some (sym sum)
  one_more_name at name rest here more (suc k) n e =
      let sum : at + 1 + k ≡ at + suc k = omega arith in
      more k n e ∙ ap Some sum

  pub all_first : AreFirstBehind names 0 names → AreFirst names
  all_first are k name e =
      let sum : 0 + k ≡ k = omega arith in
      are k name e ∙ ap Some sum

abbrev pub count : List ℕ → List (List ℕ) → ℕ
count name [] = 0
count name (n ∷ names) = cond (bytes_eq name n) 1 0 + count name names

pub itself : (name : List ℕ) → bytes_eq name name ≡ true
itself name = (bytes_eq-Decides name name).1 refl

later_place : (b : Bool) (later : Option ℕ) (k : ℕ) → first_or b later ≡ Some (suc k) → (b ≡ false) × (later ≡ Some k)
later_place true later k e = absurd cc
later_place false None k e = absurd cc
later_place false (Some i) k e = (refl, cc)

turned : (a b : List ℕ) → bytes_eq a b ≡ false → bytes_eq b a ≡ false
turned a b e = by_cases (bytes_eq b a) refl
  where
    by_cases : (c : Bool) → bytes_eq b a ≡ c → c ≡ false
    by_cases false is = refl
    by_cases true is =
        let same : b ≡ a = (bytes_eq-Decides b a).0 is in
        let yes : bytes_eq a b ≡ true = (bytes_eq-Decides a b).1 (sym same) in
        absurd cc

none_later : (n : List ℕ) (names : List (List ℕ)) → ((k : ℕ) (name : List ℕ) → slice_get names k ≡ Some name → bytes_eq n name ≡ false)
    → list_any (bytes_eq n) names ≡ false
none_later n [] differ = refl
none_later n (name ∷ names) differ =
    ap (λ b. b || list_any (bytes_eq n) names) (differ 0 name refl)
    ∙ none_later n names (λ k m at. differ (suc k) m at)

pub first_distinct : (names : List (List ℕ)) → AreFirst names → are_distinct names ≡ true
first_distinct [] are = refl
first_distinct (n ∷ names) are =
    ap (λ b. not b && are_distinct names)
    (none_later n names (λ k name at. (later_place (bytes_eq n name) (place_among names name) k (are (suc k) name at)).0))
    ∙ first_distinct names (λ k name at. (later_place (bytes_eq n name) (place_among names name) k (are (suc k) name at)).1)

-- ---- in another order

not_any : (n : List ℕ) (names : List (List ℕ)) → list_any (bytes_eq n) names ≡ false → count n names ≡ 0
not_any n [] e = refl
not_any n (name ∷ names) e = by_cases (bytes_eq n name) (list_any (bytes_eq n) names) e (not_any n names)
  where
    by_cases : (b c : Bool) → (b || c) ≡ false → (c ≡ false → count n names ≡ 0) → cond b 1 0 + count n names ≡ 0
    by_cases true c e more = absurd cc
    by_cases false c e more = let none = more e in omega (arith, none)

none_counted : (n : List ℕ) (names : List (List ℕ)) → count n names ≡ 0 → list_any (bytes_eq n) names ≡ false
none_counted n [] e = refl
none_counted n (name ∷ names) e = by_cases (bytes_eq n name) e (none_counted n names)
  where
    by_cases : (b : Bool) → cond b 1 0 + count n names ≡ 0 → (count n names ≡ 0 → list_any (bytes_eq n) names ≡ false) → (b || list_any (bytes_eq n) names)
        ≡ false
    by_cases true e more = absurd (omega (arith, e))
    by_cases false e more = more (omega (arith, e))

not_true : (b : Bool) → not b ≡ true → b ≡ false
not_true false e = refl
not_true true e = absurd cc

-- distinct names stand once each
pub distinct_once : (names : List (List ℕ)) → are_distinct names ≡ true → (q : List ℕ) → count q names ≤ 1
distinct_once [] e q = omega arith
distinct_once (n ∷ names) e q =
    let parts = and_parts (not (list_any (bytes_eq n) names)) (are_distinct names) e in
    by_cases (bytes_eq q n) refl (not_any n names (not_true (list_any (bytes_eq n) names) parts.0)) (distinct_once names parts.1 q)
  where
    by_cases : (b : Bool) → bytes_eq q n ≡ b → count n names ≡ 0 → count q names ≤ 1 → cond b 1 0 + count q names ≤ 1
    by_cases false is none more = omega (arith, more)
    by_cases true is none more =
        let same : q ≡ n = (bytes_eq-Decides q n).0 is in
        let zero_times : count q names ≡ 0 = ap (λ m. count m names) same ∙ none in
        omega (arith, zero_times)

-- names that stand once each are distinct
pub once_distinct : (names : List (List ℕ)) → ((q : List ℕ) → count q names ≤ 1) → are_distinct names ≡ true
once_distinct [] once = refl
once_distinct (n ∷ names) once =
    ap (λ b. not b && are_distinct names) (none_counted n names (alone (bytes_eq n n) (itself n) (once n)))
    ∙ once_distinct names (λ q. fewer (bytes_eq q n) (count q names) (once q))
  where
    alone : (b : Bool) → b ≡ true → cond b 1 0 + count n names ≤ 1 → count n names ≡ 0
    alone true e le = omega (arith, le)
    alone false e le = absurd cc

    fewer : (b : Bool) (c : ℕ) → cond b 1 0 + c ≤ 1 → c ≤ 1
    fewer true c le = omega (arith, le)
    fewer false c le = omega (arith, le)

pub count_both : (q : List ℕ) (xs ys : List (List ℕ)) → count q (xs ++ ys) ≡ count q xs + count q ys
count_both q [] ys = omega arith
count_both q (x ∷ xs) ys = let more = count_both q xs ys in omega (arith, more)
