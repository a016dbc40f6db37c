-- The end-bit rule asks more of greater tables alone, and a table of ones keeps it.
use Rattle.std.proofs.Common.{ℕ, ◌≡◌, ◌<◌, ◌≤◌, Bool, true, false, ◌&&◌, ◌||◌, Option, Some, None, List, [], ◌∷◌, length, refl, arith}
use Rattle.std.specs.Prelude.{slice_index, nat_lt}
use Rattle.sc_graph.specs.declared.program.Step.{Step}
use Rattle.sc_graph.specs.declared.program.Step.TheVariants as step
use Rattle.sc_graph.specs.Program.{Program, step_at, entry_of}
use Rattle.least_or_cycle.specs.Least.{Keeps, Exceeds, IsNeeded}
use Rattle.priority_weights.specs.Inside.Entries.{bits, entry_bit, entry_bits, step_bit, BitKept}

and_more : (a b c d : Bool) → (a ≡ true → c ≡ true) → (b ≡ true → d ≡ true) → (a && b) ≡ true → (c && d) ≡ true
and_more true true c d f g h = let e = f refl in let k = g refl in cc
and_more true false c d f g h = absurd (cc)
and_more false b c d f g h = absurd (cc)

or_more : (a b c d : Bool) → (a ≡ true → c ≡ true) → (b ≡ true → d ≡ true) → (a || b) ≡ true → (c || d) ≡ true
or_more true b c d f g h = let e = f refl in cc
or_more false true true d f g h = refl
or_more false true false d f g h = g refl
or_more false false c d f g h = absurd (cc)

entry_more : (e f : ℕ → Bool) → ((n : ℕ) → e n ≡ true → f n ≡ true) → (o : Option ℕ) → entry_bit e o ≡ true → entry_bit f o ≡ true
entry_more e f more None h = h
entry_more e f more (Some n) h = more n h

pub entries_more : (p : Program) (e f : ℕ → Bool) → ((n : ℕ) → e n ≡ true → f n ≡ true) → (children : List ℕ) → entry_bits p e children ≡ true
    → entry_bits p f children ≡ true
entries_more p e f more [] h = refl
entries_more p e f more (k ∷ children) h =
    and_more (entry_bit e (entry_of p k)) (entry_bits p e children) (entry_bit f (entry_of p k)) (entry_bits p f children)
    (entry_more e f more (entry_of p k)) (entries_more p e f more children) h

pub step_more : (p : Program) (e f : ℕ → Bool) → ((n : ℕ) → e n ≡ true → f n ≡ true) → (s : Step) → step_bit p e s ≡ true → step_bit p f s ≡ true
step_more p e f more (step.Assign x code next) h = more next h
step_more p e f more (step.Update x g code next) h = more next h
step_more p e f more (step.Cond code on_true on_false) h = or_more (e on_true) (e on_false) (f on_true) (f on_false) (more on_true) (more on_false) h
step_more p e f more (step.Fork children join) h =
    and_more (entry_bits p e children) (e join) (entry_bits p f children) (f join) (entries_more p e f more children) (more join) h
step_more p e f more (step.Join next) h = more next h
step_more p e f more (step.Surf depth) h = h
step_more p e f more (step.Depth next) h = more next h
step_more p e f more step.Exit h = h

positive : (a : ℕ) → nat_lt 0 a ≡ true → 0 < a
positive a h = grind (arith, h)

positive_bit : (a : ℕ) → 0 < a → nat_lt 0 a ≡ true
positive_bit a h = grind (arith, h)

pub bits_more : (q r : ℕ → ℕ) → ((n : ℕ) → q n ≤ r n) → (n : ℕ) → bits q n ≡ true → bits r n ≡ true
bits_more q r le n h = let a = positive (q n) h in let b = le n in positive_bit (r n) (omega (arith, a, b))

-- a step that may end asks for 1
pub bit_asked : (p : Program) (table : List ℕ) (n : ℕ) (s : Step) → n < length table → step_at p n ≡ Some s → step_bit p (bits (slice_index table)) s ≡ true
    → IsNeeded (BitKept p) table n 1
bit_asked p table n s lt at may = record {
  enough = λ le. record { kept = λ t is ends. omega (arith, le) };
  least = λ q keeps below. above q keeps below;
}
  where
    above : (q : ℕ → ℕ) → Keeps (BitKept p) (length table) q → ((m : ℕ) → slice_index table m ≤ q m) → 1 ≤ q n
    above q keeps below =
        let more = step_more p (bits (slice_index table)) (bits q) (bits_more (slice_index table) q below) s may in
        let h = (keeps.each n lt).kept s at more in
        omega (arith, h)

pub ones_kept : (p : Program) (count : ℕ) → ¬ Exceeds (BitKept p) count 1
ones_kept p count over = over.exceeds (λ n. 1) (record { each = λ n lt. record { kept = λ s at ends. omega arith } }) (record { each = λ n lt. omega arith })
