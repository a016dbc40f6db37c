-- A code loads a variable where one of its operations does.
use Rattle.std.proofs.Common.{ℕ, ◌≡◌, ◌<◌, ◌⊎◌, inl, inr, Bool, true, false, ◌||◌, List, [], ◌∷◌, length, nat_eq, refl, get_or, arith, eqb-true, eq-eqb, zero}
use Rattle.std.proofs.Common.{suc}
use Rattle.std.specs.Prelude.{Contains}
use Rattle.std.specs.List.{list_any}
use Rattle.std.proofs.lemmas.List.Elements.{Contains-append_right, Contains-append_cases}
use Rattle.sc_values.specs.declared.operation.Operation.{Operation}
use Rattle.sc_values.specs.declared.operation.Operation.TheVariants as op
use Rattle.sc_values.specs.Code.{loads}
use Rattle.sc_graph.specs.Inside.Lookups.{is_load}

here : (y x : ℕ) (ys : List ℕ) → y ≡ x → Contains (y ∷ ys) x
here y x ys e = (0, omega arith, e)

later : (y x : ℕ) (ys : List ℕ) → Contains ys x → Contains (y ∷ ys) x
later y x ys c = Contains-append_right (y ∷ []) ys x c

single : (y x : ℕ) → Contains (y ∷ []) x → y ≡ x
single y x c = first c.0 c.1 c.2
  where
    first : (k : ℕ) → k < length (y ∷ []) → get_or (y ∷ []) k x ≡ x → y ≡ x
    first zero lt e = e
    first (suc k) lt e = absurd (omega arith)

cases : (y x : ℕ) (ys : List ℕ) → Contains (y ∷ ys) x → (y ≡ x) ⊎ Contains ys x
cases y x ys c = elim (Contains-append_cases (y ∷ []) ys x c) [ inl a ↦ inl (single y x a) | inr b ↦ inr b ]

nothing : (x : ℕ) → Contains [] x → ⊥
nothing x c = let lt = c.1 in omega arith

or_cases : (a b : Bool) → (a || b) ≡ true → (a ≡ true) ⊎ (b ≡ true)
or_cases true b e = inl refl
or_cases false b e = inr e

or_left : (a b : Bool) → a ≡ true → (a || b) ≡ true
or_left true b e = refl
or_left false b e = absurd (cc)

or_right : (a b : Bool) → b ≡ true → (a || b) ≡ true
or_right true b e = refl
or_right false b e = e

pub loaded_from_any : (x : ℕ) (code : List Operation) → list_any (is_load x) code ≡ true → Contains (loads code) x
loaded_from_any x [] e = absurd (cc)
loaded_from_any x (op.Load y ∷ code) e =
    elim (or_cases (nat_eq y x) (list_any (is_load x) code) e) [
      | inl a ↦ here y x (loads code) (eqb-true y x a)
      | inr b ↦ later y x (loads code) (loaded_from_any x code b)
    ]
loaded_from_any x (op.Literal v ∷ code) e = loaded_from_any x code e
loaded_from_any x (op.Unary f ∷ code) e = loaded_from_any x code e
loaded_from_any x (op.Binary f ∷ code) e = loaded_from_any x code e

pub any_from_loaded : (x : ℕ) (code : List Operation) → Contains (loads code) x → list_any (is_load x) code ≡ true
any_from_loaded x [] c = absurd (nothing x c)
any_from_loaded x (op.Load y ∷ code) c =
    elim (cases y x (loads code) c) [
      | inl a ↦ or_left (nat_eq y x) (list_any (is_load x) code) (eq-eqb y x a)
      | inr b ↦ or_right (nat_eq y x) (list_any (is_load x) code) (any_from_loaded x code b)
    ]
any_from_loaded x (op.Literal v ∷ code) c = any_from_loaded x code c
any_from_loaded x (op.Unary f ∷ code) c = any_from_loaded x code c
any_from_loaded x (op.Binary f ∷ code) c = any_from_loaded x code c
