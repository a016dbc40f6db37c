-- The states of a region have labels of different names, since no label of a program stands twice.
use Rattle.std.proofs.Common.{◌≡◌, ℕ, zero, suc, ◌+◌, ◌≤◌, Bool, true, false, if◌then◌else◌, Some, List, [], ◌∷◌, ◌++◌, map, length, slice_get, Contains}
use Rattle.std.proofs.Common.{refl, sym, ap, subst, ◌∙◌, arith}
use Rattle.std.specs.Str.{bytes_eq}
use Rattle.std.proofs.lemmas.Slice.Eq.{bytes_eq-Decides}
use Rattle.std.proofs.lemmas.Option.{none-some, same_Some}
use Rattle.core_charts.specs.declared.region.State.{State}
use Rattle.core_charts.specs.declared.region.Region.TheViews.{out-State}
use Rattle.core_charts.specs.declared.region.Region.TheFolds.{fold_out-State}
use Rattle.scl.specs.declared.statement.Statement.{Statement}
use Rattle.tick_laws.proofs.Lists.{contains_head, contains_tail}
use Rattle.scl_graph_laws.proofs.Scopes.{Distinct}
use Rattle.chart_lowering.specs.declared.targets.Targets.{Targets}
use Rattle.chart_lowering.specs.Lowering.{RegionPiece, StatePiece, label_name, label, texts, numbers, is_wanted, text_of}
use Rattle.chart_lowering.specs.Lowering.{region_piece as low_region, state_piece as low_state, piece_of_region as low_of_region}
use Rattle.chart_lowering.specs.Lowering.{piece_of_state as low_of_state}
use Rattle.chart_lowering_laws.proofs.Labels.{text_labels, labels_append, first_label, label_first}

-- ---- how often a name stands in a list

abbrev pub times : List ℕ → List (List ℕ) → ℕ
times name [] = 0
times name (x ∷ xs) = (if bytes_eq x name then 1 else 0) + times name xs

times_append : (name : List ℕ) (xs ys : List (List ℕ)) → times name (xs ++ ys) ≡ times name xs + times name ys
times_append name [] ys = omega arith
times_append name (x ∷ xs) ys = let rest : times name (xs ++ ys) ≡ times name xs + times name ys = times_append name xs ys in omega (arith, rest)

never : (name : List ℕ) (xs : List (List ℕ)) → (Contains xs name → ⊥) → times name xs ≡ 0
never name [] h = refl
never name (x ∷ xs) h = by (bytes_eq x name) refl (never name xs (λ i. h (contains_tail x name xs i)))
  where
    by : (b : Bool) → bytes_eq x name ≡ b → times name xs ≡ 0 → (if b then 1 else 0) + times name xs ≡ 0
    by true is rest = absurd (h (subst (λ y. Contains (y ∷ xs) name) (sym ((bytes_eq-Decides x name).0 is)) (contains_head name xs)))
    by false is rest = omega (arith, rest)

pub at_most_once : (name : List ℕ) (xs : List (List ℕ)) → Distinct xs → times name xs ≤ 1
at_most_once name [] h = omega arith
at_most_once name (x ∷ xs) h = by (bytes_eq x name) refl (at_most_once name xs h.1)
  where
    by : (b : Bool) → bytes_eq x name ≡ b → times name xs ≤ 1 → (if b then 1 else 0) + times name xs ≤ 1
    by true is rest = let none : times name xs ≡ 0 = never name xs (λ i. h.0 (subst (Contains xs) (sym ((bytes_eq-Decides x name).0 is)) i)) in
        omega (arith, none)
    by false is rest = omega (arith, rest)

times_head : (name : List ℕ) (xs : List (List ℕ)) → 1 ≤ times name (name ∷ xs)
times_head name xs = subst (λ b. 1 ≤ (if b then 1 else 0) + times name xs) (sym ((bytes_eq-Decides name name).1 refl)) (omega arith)

-- ---- the states of a region

-- in the texts of the initial states and of the others
abbrev times_in : List ℕ → Targets → List StatePiece → List ℕ → ℕ
times_in name at states ns = times name (text_labels (texts true at states ns)) + times name (text_labels (texts false at states ns))

state_begins : (s : State) (at : Targets) (n : ℕ) → 1 ≤ times (label_name n) (text_labels ((low_of_state s).text at n))
state_begins s at n =
    let l : (rest : List Statement) × (text_of (out-State s).is_final (map low_of_region (out-State s).regions) (out-State s).transitions at n ≡ label n ∷ rest)
    =
    first_label (out-State s).is_final (map low_of_region (out-State s).regions) (out-State s).transitions at n in
    subst (λ (p : StatePiece). 1 ≤ times (label_name n) (text_labels (p.text at n))) (sym (fold_out-State RegionPiece StatePiece low_region low_state s))
    (subst (λ xs. 1 ≤ times (label_name n) xs) (sym (ap text_labels l.1 ∙ label_first n l.0)) (times_head (label_name n) (text_labels l.0)))

-- the text of the first state is one of the two
more_times : (name : List ℕ) (at : Targets) (s : StatePiece) (states : List StatePiece) (n : ℕ) (ns : List ℕ) →
    times_in name at (s ∷ states) (n ∷ ns) ≡ times name (text_labels (s.text at n)) + times_in name at states ns
more_times name at s states n ns = by s.is_initial
  where
    each : (xs ys : List Statement) → times name (text_labels (xs ++ ys)) ≡ times name (text_labels xs) + times name (text_labels ys)
    each xs ys = ap (times name) (labels_append xs ys) ∙ times_append name (text_labels xs) (text_labels ys)

    by : (b : Bool) →
        times name (text_labels ((if is_wanted true b then s.text at n else []) ++ texts true at states ns)) + times name
        (text_labels ((if is_wanted false b then s.text at n else []) ++ texts false at states ns))
        ≡ times name (text_labels (s.text at n)) + times_in name at states ns
    by true = let one : _ = each (s.text at n) (texts true at states ns) in omega (arith, one)
    by false = let one : _ = each (s.text at n) (texts false at states ns) in omega (arith, one)

-- each name stands there
stands_once : (at : Targets) (states : List State) (ns : List ℕ) → length ns ≡ length states → (i : ℕ) (name : List ℕ) →
    slice_get (map label_name ns) i ≡ Some name → 1 ≤ times_in name at (map low_of_state states) ns
stands_once at states [] size i name is = absurd (none-some name is)
stands_once at [] (n ∷ ns) size i name is = absurd (omega (arith, size))
stands_once at (s ∷ ss) (n ∷ ns) size i name is = by i is (λ j. stands_once at ss ns (omega (arith, size)) j name)
  where
    by : (i : ℕ) → slice_get (label_name n ∷ map label_name ns) i ≡ Some name →
        ((j : ℕ) → slice_get (map label_name ns) j ≡ Some name → 1 ≤ times_in name at (map low_of_state ss) ns) →
        1 ≤ times_in name at (map low_of_state (s ∷ ss)) (n ∷ ns)
    by zero is more =
        let sum : _ = more_times name at (low_of_state s) (map low_of_state ss) n ns in
        let own : 1 ≤ times name (text_labels ((low_of_state s).text at n)) = subst (λ x. 1 ≤ times x (text_labels ((low_of_state s).text at n)))
        (same_Some (label_name n) name is) (state_begins s at n) in
        omega (arith, sum, own)
    by (suc j) is more =
        let sum : _ = more_times name at (low_of_state s) (map low_of_state ss) n ns in
        let rest : 1 ≤ times_in name at (map low_of_state ss) ns = more j is in
        omega (arith, sum, rest)

-- so where none stands twice, states with one name are one state
pub names_apart : (at : Targets) (states : List State) (ns : List ℕ) → length ns ≡ length states →
    ((name : List ℕ) → times_in name at (map low_of_state states) ns ≤ 1) →
    (i j : ℕ) (name : List ℕ) → slice_get (map label_name ns) i ≡ Some name → slice_get (map label_name ns) j ≡ Some name → i ≡ j
names_apart at states [] size once i j name is is_too = absurd (none-some name is)
names_apart at [] (n ∷ ns) size once i j name is is_too = absurd (omega (arith, size))
names_apart at (s ∷ ss) (n ∷ ns) size once i j name is is_too =
    by i j is is_too (names_apart at ss ns (omega (arith, size)) (λ x. let sum : _ = more_times x at (low_of_state s) (map low_of_state ss) n ns in
    let most : _ = once x in omega (arith, sum, most)))
  where
    twice : (j : ℕ) → label_name n ≡ name → slice_get (map label_name ns) j ≡ Some name → ⊥
    twice j same is =
        let sum : _ = more_times name at (low_of_state s) (map low_of_state ss) n ns in
        let own : 1 ≤ times name (text_labels ((low_of_state s).text at n)) = subst (λ x. 1 ≤ times x (text_labels ((low_of_state s).text at n))) same
        (state_begins s at n) in
        let rest : 1 ≤ times_in name at (map low_of_state ss) ns = stands_once at ss ns (omega (arith, size)) j name is in
        let most : times_in name at (map low_of_state (s ∷ ss)) (n ∷ ns) ≤ 1 = once name in
        absurd (omega (arith, sum, own, rest, most))

    by : (i j : ℕ) → slice_get (label_name n ∷ map label_name ns) i ≡ Some name → slice_get (label_name n ∷ map label_name ns) j ≡ Some name →
        ((i j : ℕ) (name : List ℕ) → slice_get (map label_name ns) i ≡ Some name → slice_get (map label_name ns) j ≡ Some name → i ≡ j) → i ≡ j
    by zero zero is is_too more = refl
    by zero (suc j) is is_too more = absurd (twice j (same_Some (label_name n) name is) is_too)
    by (suc i) zero is is_too more = absurd (twice i (same_Some (label_name n) name is_too) is)
    by (suc i) (suc j) is is_too more = ap suc (more i j name is is_too)

-- a region's body has no label twice
pub region_apart : (at : Targets) (states : List State) (ns : List ℕ) (rest : List Statement) → length ns ≡ length states →
    Distinct (text_labels ((texts true at (map low_of_state states) ns ++ texts false at (map low_of_state states) ns) ++ rest)) →
    (i j : ℕ) (name : List ℕ) → slice_get (map label_name ns) i ≡ Some name → slice_get (map label_name ns) j ≡ Some name → i ≡ j
region_apart at states ns rest size distinct =
    let xs : List Statement = texts true at (map low_of_state states) ns in
    let ys : List Statement = texts false at (map low_of_state states) ns in
    names_apart at states ns size (λ name.
    let most : times name (text_labels ((xs ++ ys) ++ rest)) ≤ 1 = at_most_once name (text_labels ((xs ++ ys) ++ rest)) distinct in
    let sum : times name (text_labels ((xs ++ ys) ++ rest)) ≡ times name (text_labels (xs ++ ys)) + times name (text_labels rest) =
    ap (times name) (labels_append (xs ++ ys) rest) ∙ times_append name (text_labels (xs ++ ys)) (text_labels rest) in
    let both : times name (text_labels (xs ++ ys)) ≡ times name (text_labels xs) + times name (text_labels ys) = ap (times name) (labels_append xs ys)
    ∙ times_append name (text_labels xs) (text_labels ys) in
    omega (arith, most, sum, both))

pub numbers_long : (states : List StatePiece) (first next : ℕ) → length (numbers states first next) ≡ length states
numbers_long [] first next = refl
numbers_long (s ∷ states) first next = by s.is_initial (λ m. numbers_long states first m)
  where
    by : (b : Bool) → ((m : ℕ) → length (numbers states first m) ≡ length states) →
        length (if b then first ∷ numbers states first next else next ∷ numbers states first (next + s.labels)) ≡ suc (length states)
    by true more = ap suc (more next)
    by false more = ap suc (more (next + s.labels))
