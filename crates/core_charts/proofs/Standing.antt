-- Where items stand among all.
use Rattle.std.proofs.Common.{◌≡◌, ℕ, zero, suc, ◌+◌, ◌<◌, Some, List, [], ◌∷◌, ◌++◌, length, slice_get, refl, sym, ap, subst, arith}
use Rattle.std.proofs.Common.{◌∙◌, append_assoc}
use Rattle.std.proofs.lemmas.List.{length-append}
use Rattle.core_charts.specs.declared.region.Transition.{Transition}
use Rattle.core_charts.specs.declared.elements.numbers.ElementNumbers.{ElementNumbers}
use Rattle.core_charts.specs.Elements.{Contents, all_effects}
use Rattle.core_charts.specs.Numbers.{behind_transition}

-- these stand among all from number n on
abbrev pub At : {A : Type 0} → List A → ℕ → List A → Type 0
At all n [] = Unit {0}
At all n (x ∷ xs) = (slice_get all n ≡ Some x) × At all (suc n) xs

pub at_first : {A : Type 0} (all : List A) (n : ℕ) (a b : List A) → At all n (a ++ b) → At all n a
at_first all n [] b h = tt
at_first all n (x ∷ a) b h = (h.0, at_first all (suc n) a b h.1)

pub at_behind : {A : Type 0} (all : List A) (n : ℕ) (a b : List A) → At all n (a ++ b) → At all (n + length a) b
at_behind all n [] b h = let e : n ≡ n + 0 = omega arith in subst (λ m. At all m b) e h
at_behind all n (x ∷ a) b h =
    let e : suc n + length a ≡ n + suc (length a) = omega arith in
    subst (λ m. At all m b) e (at_behind all (suc n) a b h.1)

at_step : {A : Type 0} (y : A) (all : List A) (n : ℕ) (xs : List A) → At all n xs → At (y ∷ all) (suc n) xs
at_step y all n [] h = tt
at_step y all n (x ∷ xs) h = (h.0, at_step y all (suc n) xs h.1)

pub at_whole : {A : Type 0} (xs : List A) → At xs 0 xs
at_whole [] = tt
at_whole (x ∷ xs) = (refl, at_step x xs 0 xs (at_whole xs))

pub below : {A : Type 0} (all : List A) (n : ℕ) (x : A) → slice_get all n ≡ Some x → n < length all
below [] n x h = absurd cc
below (y ∷ all) zero x h = omega arith
below (y ∷ all) (suc n) x h = let less : n < length all = below all n x h in omega (arith, less)

pub effects_append : (a b : List Transition) → all_effects (a ++ b) ≡ all_effects a ++ all_effects b
effects_append [] b = refl
effects_append (t ∷ a) b =
    ap (λ es. t.effects ++ es) (effects_append a b) ∙ sym (append_assoc t.effects (all_effects a) (all_effects b))

-- ---- a piece of a chart

-- its elements stand among all, from these numbers on
pub record Placed (all : Contents) (at : ElementNumbers) (own : Contents) : Type 0 where
  pub regions : At all.regions at.region own.regions
  pub states : At all.states at.state own.states
  pub transitions : At all.transitions at.transition own.transitions
  pub effects : At (all_effects all.transitions) at.effect (all_effects own.transitions)

abbrev pub both : Contents → Contents → Contents
both a b = record { regions = a.regions ++ b.regions; states = a.states ++ b.states; transitions = a.transitions ++ b.transitions }

pub placed_first : (all : Contents) (at : ElementNumbers) (a b : Contents) → Placed all at (both a b) → Placed all at a
placed_first all at a b h = record {
  regions = at_first all.regions at.region a.regions b.regions h.regions;
  states = at_first all.states at.state a.states b.states h.states;
  transitions = at_first all.transitions at.transition a.transitions b.transitions h.transitions;
  effects =
      at_first (all_effects all.transitions) at.effect (all_effects a.transitions) (all_effects b.transitions)
      (subst (At (all_effects all.transitions) at.effect) (effects_append a.transitions b.transitions) h.effects);
}

-- the numbers behind a piece
pub record Passes (own : Contents) (behind : ElementNumbers → ElementNumbers) : Type 0 where
  pub region : (at : ElementNumbers) → (behind at).region ≡ at.region + length own.regions
  pub state : (at : ElementNumbers) → (behind at).state ≡ at.state + length own.states
  pub transition : (at : ElementNumbers) → (behind at).transition ≡ at.transition + length own.transitions
  pub effect : (at : ElementNumbers) → (behind at).effect ≡ at.effect + length (all_effects own.transitions)

pub passes_both : (a b : Contents) (f g : ElementNumbers → ElementNumbers) → Passes a f → Passes b g → Passes (both a b) (λ at. g (f at))
passes_both a b f g p q = record {
  region = λ at. omega (arith, p.region at, q.region (f at), length-append a.regions b.regions);
  state = λ at. omega (arith, p.state at, q.state (f at), length-append a.states b.states);
  transition = λ at. omega (arith, p.transition at, q.transition (f at), length-append a.transitions b.transitions);
  effect = λ at.
      let many : length (all_effects (a.transitions ++ b.transitions)) ≡ length (all_effects a.transitions) + length (all_effects b.transitions) =
      ap length (effects_append a.transitions b.transitions) ∙ length-append (all_effects a.transitions) (all_effects b.transitions) in
      omega (arith, p.effect at, q.effect (f at), many);
}

pub placed_behind : (all : Contents) (at : ElementNumbers) (a b : Contents) (f : ElementNumbers → ElementNumbers) → Passes a f → Placed all at (both a b) →
    Placed all (f at) b
placed_behind all at a b f p h = record {
  regions = subst (λ n. At all.regions n b.regions) (sym (p.region at)) (at_behind all.regions at.region a.regions b.regions h.regions);
  states = subst (λ n. At all.states n b.states) (sym (p.state at)) (at_behind all.states at.state a.states b.states h.states);
  transitions =
      subst (λ n. At all.transitions n b.transitions) (sym (p.transition at))
      (at_behind all.transitions at.transition a.transitions b.transitions h.transitions);
  effects =
      subst (λ n. At (all_effects all.transitions) n (all_effects b.transitions)) (sym (p.effect at))
      (at_behind (all_effects all.transitions) at.effect (all_effects a.transitions) (all_effects b.transitions)
      (subst (At (all_effects all.transitions) at.effect) (effects_append a.transitions b.transitions) h.effects));
}

-- ---- transitions of a state

-- these stand from these numbers on
pub record Owned (all : Contents) (at : ElementNumbers) (own : List Transition) : Type 0 where
  pub transitions : At all.transitions at.transition own
  pub effects : At (all_effects all.transitions) at.effect (all_effects own)

pub owned_others : (all : Contents) (at : ElementNumbers) (t : Transition) (own : List Transition) → Owned all at (t ∷ own) →
    Owned all (behind_transition t at) own
owned_others all at t own h = record {
  transitions = h.transitions.1;
  effects = at_behind (all_effects all.transitions) at.effect t.effects (all_effects own) h.effects;
}

pub owned_effects : (all : Contents) (at : ElementNumbers) (t : Transition) (own : List Transition) → Owned all at (t ∷ own) →
    At (all_effects all.transitions) at.effect t.effects
owned_effects all at t own h = at_first (all_effects all.transitions) at.effect t.effects (all_effects own) h.effects
