-- The rules of tables, said of one table at a time, and of all tables together.
use Rattle.std.proofs.Common.{ℕ, zero, suc, ◌≡◌, ◌<◌, Bool, true, false, ◌&&◌, Option, Some, None, List, [], ◌∷◌, length, map, get_or, slice_get, refl, sym}
use Rattle.std.proofs.Common.{◌∙◌, ap, arith}
use Rattle.std.specs.Prelude.{slice_index, nat_lt, unwrap_or, if◌then◌else◌}
use Rattle.sc_graph.specs.declared.program.Step.{Step}
use Rattle.sc_graph.specs.declared.program.Step.TheVariants as step
use Rattle.sc_graph.specs.declared.tables.Tables.{Tables}
use Rattle.sc_graph.specs.declared.place.Place.{Place}
use Rattle.sc_graph.specs.declared.place.Place.TheVariants as place
use Rattle.sc_graph.specs.Program.{Program, entry_of}
use Rattle.sc_graph.specs.Tables.{weight, end_bit, bound}
use Rattle.sc_graph.specs.Costs.{entry_end_bit, entries_end, may_end, EndBitAt, entry_weight, entry_weights, needed_weight, WeightAt, child_bounds}
use Rattle.sc_graph.proofs.Nodes.{step_within}
use Rattle.least_or_cycle.specs.Least.{Keeps, IsLeast}
use Rattle.priority_weights.specs.Inside.Entries.{bits, entry_bit, entry_bits, step_bit, BitKept, entry_number, entry_sum, join_weight, step_weight, WeightKept}
use Rattle.priority_weights.specs.Inside.Bounds.{bound_sum}
use Rattle.priority_weights.proofs.Bits.{step_more}
use Rattle.priority_weights.proofs.Sums.{mark}
use Rattle.priority_weights.proofs.Weighing.{weight_more}

entry_bit_is : (q : Tables) (o : Option ℕ) → entry_bit (end_bit q) o ≡ entry_end_bit q o
entry_bit_is q None = refl
entry_bit_is q (Some n) = refl

pub entry_bits_are : (p : Program) (q : Tables) (ks : List ℕ) → entry_bits p (end_bit q) ks ≡ entries_end p q ks
entry_bits_are p q [] = refl
entry_bits_are p q (k ∷ ks) =
    ap (λ b. b && entry_bits p (end_bit q) ks) (entry_bit_is q (entry_of p k)) ∙ ap (λ b. entry_end_bit q (entry_of p k) && b) (entry_bits_are p q ks)

pub step_bit_is : (p : Program) (q : Tables) (s : Step) → step_bit p (end_bit q) s ≡ may_end p q s
step_bit_is p q (step.Assign x code m) = refl
step_bit_is p q (step.Update x f code m) = refl
step_bit_is p q (step.Cond code k m) = refl
step_bit_is p q (step.Fork ks j) = ap (λ b. b && end_bit q j) (entry_bits_are p q ks)
step_bit_is p q (step.Join m) = refl
step_bit_is p q (step.Surf m) = refl
step_bit_is p q (step.Depth m) = refl
step_bit_is p q step.Exit = refl

mark_positive : (b : Bool) → b ≡ true → 0 < mark b
mark_positive true e = omega arith
mark_positive false e = absurd (cc)

marked : (b : Bool) → nat_lt 0 (mark b) ≡ true → b ≡ true
marked true e = refl
marked false e = absurd (cc)

positive : (a : ℕ) → nat_lt 0 a ≡ true → 0 < a
positive a h = grind (arith, h)

positive_bit : (a : ℕ) → 0 < a → nat_lt 0 a ≡ true
positive_bit a h = grind (arith, h)

-- the end bits of tables that keep the rule
pub bits_keep : (p : Program) (q : Tables) → ((at : Place) → EndBitAt p q at) → Keeps (BitKept p) (length p.nodes) (λ n. mark (end_bit q n))
bits_keep p q h = record {
  each = λ n lt. record {
    kept = λ s at may.
        let e = step_more p (bits (λ m. mark (end_bit q m))) (end_bit q) (λ m x. marked (end_bit q m) x) s may in
        mark_positive (end_bit q n) (h (place.Node n) s at (sym (step_bit_is p q s) ∙ e));
  };
}

-- the least bits are set where those of all tables that keep the rule are
pub bits_below : (p : Program) (ends : List ℕ) → IsLeast (BitKept p) (length p.nodes) ends → (q : Tables) → ((at : Place) → EndBitAt p q at) → (n : ℕ)
    → bits (slice_index ends) n ≡ true → end_bit q n ≡ true
bits_below p ends l q h n set =
    let a = positive (slice_index ends n) set in
    let b = l.least (λ m. mark (end_bit q m)) (bits_keep p q h) n in
    marked (end_bit q n) (positive_bit (mark (end_bit q n)) (omega (arith, a, b)))

-- as they stand in tables
pub bit_stands : (xs : List ℕ) (n : ℕ) → unwrap_or (slice_get (map (nat_lt 0) xs) n) false ≡ nat_lt 0 (get_or xs n 0)
bit_stands [] n = refl
bit_stands (x ∷ xs) zero = refl
bit_stands (x ∷ xs) (suc n) = bit_stands xs n

pub end_bit_is : (q : Tables) (ends : List ℕ) → q.end_bits ≡ map (nat_lt 0) ends → (n : ℕ) → end_bit q n ≡ bits (slice_index ends) n
end_bit_is q ends is n = ap (λ (bs : List Bool). unwrap_or (slice_get bs n) false) is ∙ bit_stands ends n

pub bits_kept : (p : Program) (ends : List ℕ) → IsLeast (BitKept p) (length p.nodes) ends → (q : Tables) → ((n : ℕ) → end_bit q n ≡ bits (slice_index ends) n)
    → (at : Place) → EndBitAt p q at
bits_kept p ends l q is (place.Node n) = λ s at may.
    let e = step_more p (end_bit q) (bits (slice_index ends)) (λ m x. sym (is m) ∙ x) s (step_bit_is p q s ∙ may) in
    let h = (l.keeps.each n (step_within p n s at)).kept s at e in
    is n ∙ positive_bit (slice_index ends n) h
bits_kept p ends l q is place.Image = tt
bits_kept p ends l q is (place.Variable x) = tt
bits_kept p ends l q is (place.Thread t) = tt
bits_kept p ends l q is (place.Pair m n) = tt

number_is : (q : Tables) (o : Option ℕ) → entry_number (weight q) o ≡ entry_weight q o
number_is q None = refl
number_is q (Some n) = refl

pub entry_number_is : (q : Tables) (o : Option ℕ) → entry_number (weight q) o ≡ entry_weight q o
entry_number_is q o = number_is q o

entry_sum_is : (p : Program) (q : Tables) (ks : List ℕ) → entry_sum p (weight q) ks ≡ entry_weights p q ks
entry_sum_is p q [] = refl
entry_sum_is p q (k ∷ ks) = let a = number_is q (entry_of p k) in let b = entry_sum_is p q ks in omega (arith, a, b)

join_weight_is : (p : Program) (q : Tables) (ks : List ℕ) (j : ℕ) → join_weight p (end_bit q) (weight q) ks j ≡ (if entries_end p q ks then weight q j else 0)
join_weight_is p q ks j = ap (λ b. if b then weight q j else 0) (entry_bits_are p q ks)

pub step_weight_is : (p : Program) (q : Tables) (s : Step) → step_weight p (end_bit q) (weight q) s ≡ needed_weight p q s
step_weight_is p q (step.Assign x code m) = refl
step_weight_is p q (step.Update x f code m) = refl
step_weight_is p q (step.Cond code k m) = refl
step_weight_is p q (step.Fork ks j) = let a = entry_sum_is p q ks in let b = join_weight_is p q ks j in omega (arith, a, b)
step_weight_is p q (step.Join m) = refl
step_weight_is p q (step.Surf m) = refl
step_weight_is p q (step.Depth m) = refl
step_weight_is p q step.Exit = refl

-- the weights of tables that keep both rules keep the rule by the least end bits
pub weights_keep : (p : Program) (ends : List ℕ) → IsLeast (BitKept p) (length p.nodes) ends → (q : Tables) → ((at : Place) → EndBitAt p q at)
    → ((at : Place) → WeightAt p q at) →
    Keeps (WeightKept p (bits (slice_index ends))) (length p.nodes) (weight q)
weights_keep p ends l q h w = record {
  each = λ n lt. record {
    kept = λ s at.
        let a = weight_more p (bits (slice_index ends)) (end_bit q) (weight q) (weight q) (bits_below p ends l q h) (λ m. omega arith) s in
        let b = step_weight_is p q s in
        let c = w (place.Node n) s at in
        omega (arith, a, b, c);
  };
}

pub weights_kept : (p : Program) (ends weights : List ℕ) → IsLeast (WeightKept p (bits (slice_index ends))) (length p.nodes) weights → (q : Tables)
    → ((n : ℕ) → end_bit q n ≡ bits (slice_index ends) n) →
    ((n : ℕ) → weight q n ≡ slice_index weights n) → (at : Place) → WeightAt p q at
weights_kept p ends weights l q is same (place.Node n) = λ s at.
    let a = weight_more p (end_bit q) (bits (slice_index ends)) (weight q) (slice_index weights) (λ m x. sym (is m) ∙ x) (λ m. let e = same m in
    omega (arith, e)) s in
    let b = step_weight_is p q s in
    let c = (l.keeps.each n (step_within p n s at)).kept s at in
    let e = same n in
    omega (arith, a, b, c, e)
weights_kept p ends weights l q is same place.Image = tt
weights_kept p ends weights l q is same (place.Variable x) = tt
weights_kept p ends weights l q is same (place.Thread t) = tt
weights_kept p ends weights l q is same (place.Pair m n) = tt

pub bound_sum_is : (q : Tables) (ks : List ℕ) → bound_sum (bound q) ks ≡ child_bounds q ks
bound_sum_is q [] = refl
bound_sum_is q (k ∷ ks) = let a = bound_sum_is q ks in omega (arith, a)
