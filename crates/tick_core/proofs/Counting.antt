-- Rows as they are made: how many places are of each class, and where each row begins.
use Rattle.std.proofs.Common.{◌≡◌, ◌≢◌, ℕ, zero, suc, ◌+◌, ◌*◌, ◌<◌, ◌≤◌, ◌⊎◌, Bool, true, false, nat_eq, List, [], ◌∷◌, ◌++◌, length, length-set}
use Rattle.std.proofs.Common.{length-append, take, get_or, set, Option, Some, None, slice_index, refl, sym, ap, ◌∙◌, inl, inr, arith}
use Rattle.std.proofs.Common.{eqb-true, eq-eqb}
use Rattle.std.specs.Prelude.{count_by, sum_by, replicate}
use Rattle.std.proofs.lemmas.List.{take_all, length-take-le, get_or_append_left, length-replicate, get_or-replicate}
use Rattle.std.proofs.lemmas.List.Sums.{count_by_more_no, count_by_more_yes, count_by-le-length, sum_by-set, sum_by_more, sum_by_more_le}
use Rattle.std.proofs.lemmas.List.Sums.{sum_by-cons}
use Rattle.std.proofs.Math.Seq.{get_or-append_seam}
use Rattle.std.proofs.lemmas.List.Folds.{sum_by-replicate}
use Rattle.std.proofs.lemmas.Option.{slice_get_within, get_or_from_slice_get}
use Rattle.tick_core.specs.Rows.{IsIn, is_of, HasRooms}
use Rattle.tick_core.specs.Inside.Places.{is_in, Stand}
use Rattle.tick_core.proofs.Lists.{index_same, index_other, same_or_not, counts_one}

-- the first n places are counted
pub record Counted (rooms places : List ℕ) (n classes : ℕ) : Type 0 where
  pub long : length rooms ≡ classes
  pub counted : (class : ℕ) → class < classes → slice_index rooms class ≡ count_by (nat_eq class) (take n places)
  pub all : sum_by (λ x. x) rooms ≡ n

-- where the first n rows begin, and where the next one does
pub record Begun (starts rooms : List ℕ) (n next : ℕ) : Type 0 where
  pub long : length starts ≡ n
  pub begins : (class : ℕ) → class < n → slice_index starts class ≡ sum_by (λ x. x) (take class rooms)
  pub next_is : next ≡ sum_by (λ x. x) (take n rooms)

module _ (rooms places : List ℕ) (n classes : ℕ) (h : Counted rooms places n classes) (below : n < length places) (known : slice_index places n < classes) where
  -- so far no class counts more places than there are
  pub few : slice_index rooms (slice_index places n) < length places
  few = omega (
    arith,
    h.counted (slice_index places n) known,
    count_by-le-length (nat_eq (slice_index places n)) (take n places),
    length-take-le n places (omega arith),
  )

  -- one more place is counted
  pub count_more : (count : ℕ) → count ≡ slice_index rooms (slice_index places n) + 1 → Counted (set rooms (slice_index places n) count) places (n + 1) classes
  count_more count is =
      record {
        long = length-set rooms (slice_index places n) count ∙ h.long;
        counted = λ class within. counted class within (nat_eq class (slice_index places n)) refl;
        all = omega (arith, h.all, sum_by-set (λ x. x) rooms (slice_index places n) count 0 (omega (arith, h.long)));
      }
    where
      counted : (class : ℕ) → class < classes → (b : Bool) → nat_eq class (slice_index places n) ≡ b →
          slice_index (set rooms (slice_index places n) count) class ≡ count_by (nat_eq class) (take (n + 1) places)
      counted class within true same =
          let e : class ≡ slice_index places n = eqb-true class (slice_index places n) same in
          let now : slice_index (set rooms (slice_index places n) count) (slice_index places n) ≡ count = index_same rooms (slice_index places n) count
          (omega (arith, h.long)) in
          ap (slice_index (set rooms (slice_index places n) count)) e ∙ (now ∙ (is ∙ (ap (λ c. slice_index rooms c + 1) (sym e)
          ∙ (ap (λ m. m + 1) (h.counted class within) ∙ sym (count_by_more_yes (nat_eq class) places n 0 below same)))))
      counted class within false differ =
          let other : class ≢ slice_index places n = λ e. absurd (let yes = eq-eqb class (slice_index places n) e in let never : true ≡ false = sym yes
          ∙ differ in cc) in
          index_other rooms (slice_index places n) class count other ∙ (h.counted class within ∙ sym (count_by_more_no (nat_eq class) places n 0 below differ))

-- before the first place nothing is counted
pub count_none : (rooms places : List ℕ) (classes : ℕ) → rooms ≡ replicate classes 0 → Counted rooms places 0 classes
count_none rooms places classes is =
    record {
      long = ap length is ∙ length-replicate classes 0;
      counted = λ class within. ap (λ xs. slice_index xs class) is ∙ get_or-replicate classes class 0 0 within;
      all = ap (sum_by (λ x. x)) is ∙ (sum_by-replicate (λ x. x) classes 0 ∙ none classes);
    }
  where
    none : (n : ℕ) → n * 0 ≡ 0
    none n = omega arith

pub all_counted : (rooms places : List ℕ) (n classes : ℕ) → Counted rooms places n classes → n ≡ length places
    → ((i : ℕ) → i < length places → slice_index places i < classes) → HasRooms rooms places
all_counted rooms places n classes h all known =
    record {
      known = λ i below. omega (arith, known i below, h.long);
      room = λ class within. h.counted class (omega (arith, h.long)) ∙ ap (count_by (nat_eq class)) (take_all n places (omega arith));
    }

module _ (starts rooms : List ℕ) (n next : ℕ) (h : Begun starts rooms n next) (below : n < length rooms) where
  pub next_within : next + slice_index rooms n ≤ sum_by (λ x. x) rooms
  next_within = omega (arith, h.next_is, sum_by_more_le (λ x. x) rooms n 0 below)

  pub begin_more : (after : ℕ) → after ≡ next + slice_index rooms n → Begun (starts ++ next ∷ []) rooms (n + 1) after
  begin_more after is =
      record {
        long = length-append starts (next ∷ []) ∙ ap (λ m. m + 1) h.long;
        begins = λ class within. begins class within (same_or_not class n);
        next_is = is ∙ (ap (λ m. m + slice_index rooms n) h.next_is ∙ sym (sum_by_more (λ x. x) rooms n 0 below));
      }
    where
      begins : (class : ℕ) → class < n + 1 → (class ≡ n) ⊎ (class ≢ n) → slice_index (starts ++ next ∷ []) class ≡ sum_by (λ x. x) (take class rooms)
      begins class within (inl same) =
          ap (slice_index (starts ++ next ∷ [])) (same ∙ sym h.long)
          ∙ (get_or-append_seam starts next [] 0 ∙ (h.next_is ∙ ap (λ m. sum_by (λ x. x) (take m rooms)) (sym same)))
      begins class within (inr other) = get_or_append_left starts (next ∷ []) 0 class (omega (arith, h.long)) ∙ h.begins class (omega arith)

-- the sum of fewer rooms is no greater
sums_grow : (rooms : List ℕ) (low high : ℕ) → low ≤ high → sum_by (λ x. x) (take low rooms) ≤ sum_by (λ x. x) (take high rooms)
sums_grow rooms zero high less = omega arith
sums_grow [] (suc low) high less = omega arith
sums_grow (x ∷ rooms) (suc low) zero less = absurd (omega arith)
sums_grow (x ∷ rooms) (suc low) (suc high) less = omega (
  arith,
  sums_grow rooms low high (omega arith),
  sum_by-cons (λ x. x) x (take low rooms),
  sum_by-cons (λ x. x) x (take high rooms),
)

-- rows without items stand
pub stand_empty : (rooms : List ℕ) (classes : List (Option ℕ)) (starts counts row places : List ℕ) (items : ℕ) →
    length starts ≡ length rooms → ((class : ℕ) → class < length rooms → slice_index starts class ≡ sum_by (λ x. x) (take class rooms)) →
    sum_by (λ x. x) rooms ≡ length row → counts ≡ replicate (length rooms) 0 → classes ≡ replicate items None → length places ≡ items →
    Stand rooms classes starts counts row places 0 0
stand_empty rooms classes starts counts row places items starts_long starts_are whole counts_are classes_are places_long =
    record {
      lie = record { starts_long = starts_long; apart = apart; within = within };
      counts_long = ap length counts_are ∙ length-replicate (length rooms) 0;
      places_long = places_long ∙ sym (ap length classes_are ∙ length-replicate items None);
      counted = λ class known. none_stand class known ∙ sym (ap (count_by (is_of class)) classes_are ∙ none_of items (is_of class) refl);
      fits = λ class known. omega (arith, none_stand class known);
      known = λ t class is. absurd (nobody t class is);
      placed = λ t class is. absurd (nobody t class is);
      held = λ class i known low high. absurd (omega (arith, none_stand class known));
      below = λ t class is. absurd (nobody t class is);
      len_is = sym (ap (count_by is_in) classes_are ∙ none_of items is_in refl);
    }
  where
    apart : (low high : ℕ) → low < high → high < length rooms → slice_index starts low + slice_index rooms low ≤ slice_index starts high
    apart low high less known =
        omega (
          arith,
          starts_are low (omega arith),
          starts_are high known,
          sum_by_more (λ x. x) rooms low 0 (omega arith),
          sums_grow rooms (low + 1) high (omega arith),
        )

    within : (class : ℕ) → class < length rooms → slice_index starts class + slice_index rooms class ≤ length row
    within class known = omega (arith, starts_are class known, sum_by_more_le (λ x. x) rooms class 0 known)

    none_stand : (class : ℕ) → class < length rooms → slice_index counts class ≡ 0
    none_stand class known = ap (λ xs. slice_index xs class) counts_are ∙ get_or-replicate (length rooms) class 0 0 known

    none : (n : ℕ) → n * 0 ≡ 0
    none n = omega arith

    none_of : (n : ℕ) (p : Option ℕ → Bool) → p None ≡ false → count_by p (replicate n None) ≡ 0
    none_of n p passes = sum_by-replicate (λ (o : Option ℕ). counts_one (p o)) n None ∙ (ap (λ m. n * m) (ap counts_one passes) ∙ none n)

    nobody : (t class : ℕ) → IsIn classes t class → ⊥
    nobody t class is =
        let below : t < items = omega (arith, slice_get_within classes t (Some class) is, ap length classes_are, length-replicate {A = Option ℕ} items None) in
        let none : get_or classes t None ≡ None = ap (λ xs. get_or xs t None) classes_are ∙ get_or-replicate items t None None below in
        let some : get_or classes t None ≡ Some class = get_or_from_slice_get classes t (Some class) None is in
        let never : None ≡ Some class = sym none ∙ some in
        cc
