-- The counts of living children as one thread is counted, or passed by.
use Rattle.std.proofs.Common.{◌≡◌, ◌≢◌, ℕ, zero, suc, ◌<◌, ◌≤◌, ◌⊎◌, List, [], ◌∷◌, length, length-set, slice_set, slice_index}
use Rattle.std.proofs.Common.{refl, sym, ap, ◌∙◌, inl, inr, arith}
use Rattle.std.proofs.lemmas.Bool.{cases_lt}
use Rattle.tick_core.proofs.Lists.{index_same, index_other}
use Rattle.sc_graph.specs.declared.control.Control.{Control}
use Rattle.sc_graph.specs.declared.control.Status.TheVariants as status
use Rattle.sc_graph.specs.Program.{Program}
use Rattle.sc_graph.specs.Control.{status_of, joined_at}
use Rattle.tick_laws.proofs.Lists.{same_or_not}
use Rattle.tick_core.specs.Space.Living.{living}
use Rattle.tick_core.specs.Inside.Waking.{EntersCount}

set_past : (xs : List ℕ) (t v : ℕ) → length xs ≤ t → slice_set xs t v ≡ xs
set_past [] t v past = refl
set_past (x ∷ xs) zero v past = absurd (omega (arith, past))
set_past (x ∷ xs) (suc t) v past = ap (λ ys. x ∷ ys) (set_past xs t v (omega (arith, past)))

pub enters_count : (p : Program) (c : Control) (t v : ℕ) (before : List ℕ) → ((j : ℕ) → status_of c t ≡ status.Waiting j → v ≡ living c (joined_at p j))
    → EntersCount p c t before (slice_set before t v)
enters_count p c t v before is =
    record {
      long = length-set before t v;
      own = λ j less waits. index_same before t v less ∙ is j waits;
      others = λ u j waits was. others u j waits was (same_or_not u t);
    }
  where
    set_within : (u j : ℕ) → status_of c u ≡ status.Waiting j → slice_index before u ≡ living c (joined_at p j) → u ≡ t
        → (t < length before) ⊎ (length before ≤ t) → slice_index (slice_set before t v) u ≡ living c (joined_at p j)
    set_within u j waits was same (inl less) =
        ap (slice_index (slice_set before t v)) same ∙ (index_same before t v less ∙ is j (ap (status_of c) (sym same) ∙ waits))
    set_within u j waits was same (inr past) = ap (λ xs. slice_index xs u) (set_past before t v past) ∙ was

    others : (u j : ℕ) → status_of c u ≡ status.Waiting j → slice_index before u ≡ living c (joined_at p j) → (u ≡ t) ⊎ (u ≢ t)
        → slice_index (slice_set before t v) u ≡ living c (joined_at p j)
    others u j waits was (inl same) = set_within u j waits was same (cases_lt t (length before))
    others u j waits was (inr other) = index_other before t u v other ∙ was

-- who waits for nobody is not counted
pub passes_count : (p : Program) (c : Control) (t : ℕ) (counts : List ℕ) → ((j : ℕ) → status_of c t ≢ status.Waiting j) → EntersCount p c t counts counts
passes_count p c t counts idle = record { long = refl; own = λ j less waits. absurd (idle j waits); others = λ u j waits was. was }
