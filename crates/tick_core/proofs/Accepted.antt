-- Inputs are accepted where each is at its place.
use Rattle.std.proofs.Common.{◌≡◌, ℕ, zero, suc, ◌+◌, ◌<◌, List, [], ◌∷◌, take, Some, slice_get, refl, sym, subst, ◌∙◌, inl, inr, arith}
use Rattle.std.proofs.lemmas.List.{length-take}
use Rattle.sc_graph.proofs.Each.{below_or_at}
use Rattle.std.proofs.lemmas.Option.{slice_get_within}
use Rattle.sc_values.specs.declared.value.Value.{Value}
use Rattle.sc_graph.specs.Program.{Program}
use Rattle.sc_graph.specs.Tick.{AreAccepted}
use Rattle.tick_core.specs.Inside.Inputs.{IsAcceptedAt}

pub slice_get_take : {X : Type 0} (xs : List X) (i j : ℕ) → i < j → slice_get (take j xs) i ≡ slice_get xs i
slice_get_take [] i zero below = absurd (omega arith)
slice_get_take [] i (suc j) below = refl
slice_get_take (x ∷ xs) zero zero below = absurd (omega arith)
slice_get_take (x ∷ xs) zero (suc j) below = refl
slice_get_take (x ∷ xs) (suc i) zero below = absurd (omega arith)
slice_get_take (x ∷ xs) (suc i) (suc j) below = slice_get_take xs i j (omega arith)

pub within_take : {X : Type 0} (xs : List X) (i j : ℕ) (x : X) → slice_get (take j xs) i ≡ Some x → i < j
within_take xs i j x at = omega (arith, slice_get_within (take j xs) i x at, length-take j xs)

pub accepted_below : (p : Program) (inputs : List (List ℕ × Value)) (n : ℕ) →
    ((i : ℕ) (a : List ℕ × Value) → i < n → slice_get inputs i ≡ Some a → IsAcceptedAt p.variables inputs i a) →
    ((a : List ℕ × Value) → slice_get inputs n ≡ Some a → IsAcceptedAt p.variables inputs n a) →
    (i : ℕ) (a : List ℕ × Value) → i < n + 1 → slice_get inputs i ≡ Some a → IsAcceptedAt p.variables inputs i a
accepted_below p inputs n earlier here i a below at =
    elim (below_or_at i n below) [
      | inl less ↦ earlier i a less at
      | inr same ↦ subst (λ k. slice_get inputs k ≡ Some a → IsAcceptedAt p.variables inputs k a) (sym same) (here a) at
    ]

pub accepted_from : (p : Program) (inputs : List (List ℕ × Value)) →
    ((i : ℕ) (a : List ℕ × Value) → slice_get inputs i ≡ Some a → IsAcceptedAt p.variables inputs i a) → AreAccepted p inputs
accepted_from p inputs each =
    record {
      named = λ i name v is.
          let it = (each i (name, v) is).named in
          (it.number, it.variable, it.is, it.fits.name, it.fits.role, it.fits.kind);
      once = λ i j a b less first second.
          (each j b second).new.each i a (slice_get_take inputs i j less ∙ first);
    }

pub accepted_at : (p : Program) (inputs : List (List ℕ × Value)) → AreAccepted p inputs →
    (i : ℕ) (a : List ℕ × Value) → slice_get inputs i ≡ Some a → IsAcceptedAt p.variables inputs i a
accepted_at p inputs accepted i a is =
    let it = accepted.named i a.0 a.1 is in
    record {
      named = record { number = it.0; variable = it.1; is = it.2; fits = record { name = it.3; role = it.4; kind = it.5 } };
      new = record {
        each = λ k b at.
            let less : k < i = within_take inputs k i b at in
            accepted.once k i b a less (sym (slice_get_take inputs k i less) ∙ at) is;
      };
    }
