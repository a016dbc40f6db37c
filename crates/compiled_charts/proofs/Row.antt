-- Ticks in a row, one after the other.
use Rattle.std.proofs.Common.{ℕ, zero, suc, ◌+◌, ◌≡◌, ◌<◌, ◌⊎◌, inl, inr, Some, List, [], ◌∷◌, ◌++◌, drop, length, get_or, slice_get}
use Rattle.std.proofs.Common.{◌≢◌, Bool, true, false, nat_eq, eqb-true, refl, subst, sym, ap, ◌∙◌, append_assoc, arith}
use Rattle.std.proofs.lemmas.Bool.{eq-eqb}
use Rattle.std.proofs.lemmas.Option.{same_Some, slice_get_read}
use Rattle.std.proofs.lemmas.List.{append-nil}
use Rattle.sc_graph.specs.declared.control.Control.{Control}
use Rattle.sc_graph.specs.Tick.{Inputs, AreAccepted, Rests, initial}
use Rattle.bytecode.specs.Image.{Image}
use Rattle.tick_core.specs.declared.history.Report.{Report}
use Rattle.worker_pool.specs.Ticks.{IsTick}
use Rattle.compiled_charts.specs.Ticks.{AreTicks, IsFirstRefused}
use Rattle.compiled_charts.specs.Inside.Ran.{RanTo}

-- what stands at a place and behind it
split_at : {A : Type 0} (xs : List A) (at : ℕ) (x : A) → slice_get xs at ≡ Some x → drop at xs ≡ x ∷ drop (at + 1) xs
split_at [] at x e = absurd cc
split_at (y ∷ xs) zero x e = let same : y ≡ x = cc in ap (λ z. z ∷ xs) same
split_at (y ∷ xs) (suc at) x e =
    let more : suc (at + 1) ≡ suc at + 1 = omega arith in
    split_at xs at x e ∙ ap (λ n. x ∷ drop n (y ∷ xs)) more

-- behind the last one nothing stands
drop_all : {A : Type 0} (xs : List A) → drop (length xs) xs ≡ []
drop_all [] = refl
drop_all (x ∷ xs) = drop_all xs

less_or_last : (j at : ℕ) → j < at + 1 → (j < at) ⊎ (j ≡ at)
less_or_last j at less = by (nat_eq j at) refl
  where
    by : (b : Bool) → nat_eq j at ≡ b → (j < at) ⊎ (j ≡ at)
    by true same = inr (eqb-true j at same)
    by false other =
        let apart : j ≢ at = λ one. let h : nat_eq j at ≡ true = eq-eqb j at one in absurd (cc) in
        let below : j < at = omega (arith, less, apart) in
        inl below

pub none_ran : (image : Image) (ticks : List Inputs) → Rests image.program (initial image.program) → RanTo image ticks 0 (initial image.program) []
none_ran image ticks rests = record { rests = rests; others = λ ds h. h; accepted = λ j inputs less. absurd (omega (arith, less)) }

pub ran_on : (image : Image) (ticks : List Inputs) (at : ℕ) (c d : Control) (controls : List Control) (inputs : Inputs) (report : Report) →
    RanTo image ticks at c controls → slice_get ticks at ≡ Some inputs → IsTick image inputs c d report →
    RanTo image ticks (at + 1) d (controls ++ d ∷ [])
ran_on image ticks at c d controls inputs report ran there tick = record {
  rests = tick.rests;
  others = λ ds h.
      let here : AreTicks image (drop at ticks) c (d ∷ ds) =
      subst (λ ts. AreTicks image ts c (d ∷ ds)) (sym (split_at ticks at inputs there)) ((report, tick), h) in
      subst (λ xs. AreTicks image ticks (initial image.program) xs) (sym (append_assoc controls (d ∷ []) ds)) (ran.others (d ∷ ds) here);
  accepted = λ j others less is. by j others is (less_or_last j at less);
}
  where
    by : (j : ℕ) (others : Inputs) → slice_get ticks j ≡ Some others → (j < at) ⊎ (j ≡ at) → AreAccepted image.program others
    by j others is (inl less) = ran.accepted j others less is
    by j others is (inr same) =
        let one : Some inputs ≡ Some others = sym there ∙ sym (ap (slice_get ticks) same) ∙ is in
        subst (λ i. AreAccepted image.program i) (same_Some inputs others one) tick.accepted

pub ran_all : (image : Image) (ticks : List Inputs) (at : ℕ) (c : Control) (controls : List Control) →
    RanTo image ticks at c controls → at ≡ length ticks → AreTicks image ticks (initial image.program) controls
ran_all image ticks at c controls ran ends =
    let none : drop at ticks ≡ [] = ap (λ n. drop n ticks) ends ∙ drop_all ticks in
    subst (λ xs. AreTicks image ticks (initial image.program) xs) (append-nil controls)
    (ran.others [] (subst (λ ts. AreTicks image ts c []) (sym none) tt))

pub first_refused : (image : Image) (ticks : List Inputs) (at : ℕ) (c : Control) (controls : List Control) (inputs : Inputs) →
    RanTo image ticks at c controls → slice_get ticks at ≡ Some inputs → ¬ AreAccepted image.program inputs →
    IsFirstRefused image.program ticks (at + 1)
first_refused image ticks at c controls inputs ran there refused =
    record { before = at; counted = omega arith; inputs = inputs; there = there; refused = refused; earlier = ran.accepted }

-- the same, of inputs that are read at their place
pub on_at : (image : Image) (ticks : List Inputs) (at : ℕ) (c d : Control) (controls : List Control) (inputs : Inputs) (report : Report) →
    RanTo image ticks at c controls → at < length ticks → inputs ≡ get_or ticks at inputs → IsTick image inputs c d report →
    RanTo image ticks (at + 1) d (controls ++ d ∷ [])
on_at image ticks at c d controls inputs report ran less read tick =
    ran_on image ticks at c d controls inputs report ran (slice_get_read ticks (length ticks) at inputs refl less read) tick

pub refused_at : (image : Image) (ticks : List Inputs) (at : ℕ) (c : Control) (controls : List Control) (inputs : Inputs) →
    RanTo image ticks at c controls → at < length ticks → inputs ≡ get_or ticks at inputs → ¬ AreAccepted image.program inputs →
    IsFirstRefused image.program ticks (at + 1)
refused_at image ticks at c controls inputs ran less read refused =
    first_refused image ticks at c controls inputs ran (slice_get_read ticks (length ticks) at inputs refl less read) refused
