-- What the step-weight rule asks grows with the weights and with the end bits.
use Rattle.std.proofs.Common.{ℕ, ◌≡◌, ◌<◌, ◌≤◌, Bool, true, false, Option, Some, None, List, [], ◌∷◌, length, refl, subst, arith}
use Rattle.std.specs.Prelude.{slice_index, if◌then◌else◌}
use Rattle.sc_graph.specs.declared.program.Step.{Step}
use Rattle.sc_graph.specs.declared.program.Step.TheVariants as step
use Rattle.sc_graph.specs.Program.{Program, step_at, entry_of}
use Rattle.least_or_cycle.specs.Least.{IsNeeded}
use Rattle.priority_weights.specs.Inside.Entries.{entry_bits, entry_number, entry_sum, step_weight, WeightKept}
use Rattle.priority_weights.proofs.Bits.{entries_more}

pub number_more : (v w : ℕ → ℕ) → ((n : ℕ) → v n ≤ w n) → (o : Option ℕ) → entry_number v o ≤ entry_number w o
number_more v w le None = omega arith
number_more v w le (Some n) = le n

pub sum_more : (p : Program) (v w : ℕ → ℕ) → ((n : ℕ) → v n ≤ w n) → (ks : List ℕ) → entry_sum p v ks ≤ entry_sum p w ks
sum_more p v w le [] = omega arith
sum_more p v w le (k ∷ ks) = let a = number_more v w le (entry_of p k) in let b = sum_more p v w le ks in omega (arith, a, b)

chosen_more : (a b : Bool) (x y : ℕ) → (a ≡ true → b ≡ true) → x ≤ y → (if a then x else 0) ≤ (if b then y else 0)
chosen_more true true x y f le = le
chosen_more true false x y f le = absurd (let e = f refl in cc)
chosen_more false b x y f le = omega arith

pub weight_more : (p : Program) (e f : ℕ → Bool) (v w : ℕ → ℕ) → ((n : ℕ) → e n ≡ true → f n ≡ true) → ((n : ℕ) → v n ≤ w n) → (s : Step)
    → step_weight p e v s ≤ step_weight p f w s
weight_more p e f v w more le (step.Assign x code next) = let a = le next in omega (arith, a)
weight_more p e f v w more le (step.Update x g code next) = let a = le next in omega (arith, a)
weight_more p e f v w more le (step.Cond code m n) = let a = le m in let b = le n in omega (arith, a, b)
weight_more p e f v w more le (step.Fork children join) =
    let a = sum_more p v w le children in
    let b = chosen_more (entry_bits p e children) (entry_bits p f children) (v join) (w join) (entries_more p e f more children) (le join) in
    omega (arith, a, b)
weight_more p e f v w more le (step.Join next) = let a = le next in omega (arith, a)
weight_more p e f v w more le (step.Surf depth) = omega arith
weight_more p e f v w more le (step.Depth next) = let a = le next in omega (arith, a)
weight_more p e f v w more le step.Exit = omega arith

pub weight_needed : (p : Program) (e : ℕ → Bool) (table : List ℕ) (n x : ℕ) (s : Step) → n < length table → step_at p n ≡ Some s
    → x ≡ step_weight p e (slice_index table) s → IsNeeded (WeightKept p e) table n x
weight_needed p e table n x s lt at is = record {
  enough = λ le. record { kept = λ t at'. same t at' le };
  least = λ q keeps below.
      let more = weight_more p e e (slice_index table) q (λ m h. h) below s in
      let h = (keeps.each n lt).kept s at in
      omega (arith, is, more, h);
}
  where
    same : (t : Step) → step_at p n ≡ Some t → x ≤ slice_index table n → step_weight p e (slice_index table) t ≤ slice_index table n
    same t at' le =
        let e' : s ≡ t = cc in
        let P : Step → Type 0 = λ y. step_weight p e (slice_index table) y ≤ slice_index table n in
        subst P e' (omega (arith, is, le))

pub weight_none : (p : Program) (e : ℕ → Bool) (table : List ℕ) (n : ℕ) → step_at p n ≡ None → IsNeeded (WeightKept p e) table n 0
weight_none p e table n at = record {
  enough = λ le. record { kept = λ t at'. absurd (cc) };
  least = λ q keeps below. omega arith;
}
