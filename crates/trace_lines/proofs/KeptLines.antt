-- Lines that are kept, as one is set.
use native.Mathlib.Omega.{arith}
use Rattle.std.proofs.Common.{◌≡◌, ℕ, zero, suc, List, [], ◌∷◌, length, Some, option_map, unwrap_or, slice_get, slice_set, ◌∙◌, ◌<◌, refl, sym, ap, subst}
use Rattle.std.proofs.lemmas.List.{length-set}
use Rattle.sc_graph.specs.declared.program.Variable.{Variable}
use Rattle.trace_lines.specs.declared.kept_line.KeptLine.{KeptLine}
use Rattle.trace_lines.specs.Inside.Kept.{Says, IsKept, AreKept, IsKeptAt, inputs_at}

set_each : {A : Type 0} (P : A → Type 0) (xs : List A) (i : ℕ) (x : A) → ((k : ℕ) (y : A) → slice_get xs k ≡ Some y → P y) → P x → (k : ℕ) (y : A)
    → slice_get (slice_set xs i x) k ≡ Some y → P y
set_each P [] i x h p k y at = h k y at
set_each P (z ∷ xs) zero x h p zero y at = let same : x ≡ y = cc in subst P same p
set_each P (z ∷ xs) zero x h p (suc k) y at = h (suc k) y at
set_each P (z ∷ xs) (suc i) x h p zero y at = h 0 y at
set_each P (z ∷ xs) (suc i) x h p (suc k) y at = set_each P xs i x (λ k. h (suc k)) p k y at

pub set_there : (ks : List KeptLine) (place : ℕ) (k : KeptLine) → place < length ks → inputs_at (slice_set ks place k) place ≡ k.inputs
set_there [] place k below = absurd (omega (arith, below))
set_there (l ∷ ks) zero k below = refl
set_there (l ∷ ks) (suc place) k below = set_there ks place k (omega (arith, below))

pub one_more_kept : (variables : List Variable) (ks : List KeptLine) (slot : ℕ) (k : KeptLine) → AreKept variables ks → IsKept variables k
    → AreKept variables (slice_set ks slot k)
one_more_kept variables ks slot k are is = record { number = length-set ks slot k ∙ are.number; each = set_each (IsKept variables) ks slot k are.each is }

-- what is kept with a line is what it gives
pub says_kept : (variables : List Variable) (ks : List KeptLine) (place : ℕ) (line : List ℕ) → AreKept variables ks → IsKeptAt ks place line
    → Says variables line (inputs_at ks place)
says_kept variables ks place line are at =
    let there : at.one.inputs ≡ inputs_at ks place = sym (ap (λ o. unwrap_or (option_map (λ k. k.inputs) o) []) at.there) in
    subst (Says variables line) there (subst (λ bytes. Says variables bytes at.one.inputs) at.same (are.each place at.one at.there at.is_line))
