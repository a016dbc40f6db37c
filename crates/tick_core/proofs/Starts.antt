-- How the values at the start of a tick are put one after the other.
use Rattle.std.proofs.Common.{◌≡◌, ℕ, zero, suc, ◌+◌, ◌<◌, ◌≤◌, List, [], ◌∷◌, ◌++◌, length, take, drop, set, Some}
use Rattle.std.proofs.Common.{slice_get, refl, sym, ap, subst, ◌∙◌, add-one, arith}
use Rattle.std.proofs.lemmas.List.{take_all}
use Rattle.std.proofs.lemmas.Option.{none-some, same_Some}
use Rattle.sc_values.specs.declared.value.Value.{Value}
use Rattle.sc_graph.specs.declared.program.Variable.{Variable}
use Rattle.sc_graph.specs.Tick.{Inputs, value_at_start, values_at_start}

-- the values of which the first n are those of the start
abbrev pub values_from : Inputs → List Variable → List Value → ℕ → List Value
values_from inputs variables values n = take n values ++ values_at_start inputs (drop n variables) (drop n values)

value_put : (inputs : Inputs) (vs : List Variable) (ws : List Value) (x : ℕ) (a : Variable) (w : Value) → slice_get vs x ≡ Some a → slice_get ws x ≡ Some w
    → values_from inputs vs (set ws x (value_at_start inputs a a.role w)) (suc x) ≡ values_from inputs vs ws x
value_put inputs [] ws x a w i j = absurd (none-some a i)
value_put inputs (b ∷ vs) [] x a w i j = absurd (none-some w j)
value_put inputs (b ∷ vs) (u ∷ ws) zero a w i j =
    ap (λ v. v ∷ values_at_start inputs vs ws)
    (ap (λ (z : Variable). value_at_start inputs z z.role w) (sym (same_Some b a i)) ∙ ap (value_at_start inputs b b.role) (sym (same_Some u w j)))
value_put inputs (b ∷ vs) (u ∷ ws) (suc x) a w i j = ap (λ rest. u ∷ rest) (value_put inputs vs ws x a w i j)

-- one more value of the start
pub value_more : (inputs : Inputs) (vs : List Variable) (ws : List Value) (x : ℕ) (a : Variable) (w v : Value) → slice_get vs x ≡ Some a
    → slice_get ws x ≡ Some w
    → v ≡ value_at_start inputs a a.role w → values_from inputs vs (set ws x v) (x + 1) ≡ values_from inputs vs ws x
value_more inputs vs ws x a w v i j is =
    ap (values_from inputs vs (set ws x v)) (add-one x) ∙ (ap (λ u. values_from inputs vs (set ws x u) (suc x)) is ∙ value_put inputs vs ws x a w i j)

put_both : (vs ws : List Value) (x : ℕ) (v : Value) → x < length vs → x < length ws → take x vs ≡ take x ws
    → take (suc x) (set vs x v) ≡ take (suc x) (set ws x v)
put_both [] ws x v less more same = absurd (omega (arith, less))
put_both (u ∷ vs) [] x v less more same = absurd (omega (arith, more))
put_both (u ∷ vs) (w ∷ ws) zero v less more same = refl
put_both (u ∷ vs) (w ∷ ws) (suc x) v less more same =
    let heads : u ≡ w = cc (same) in
    let tails : take x vs ≡ take x ws = cc (same) in
    ap (λ z. z ∷ take (suc x) (set vs x v)) heads ∙ ap (λ zs. w ∷ zs) (put_both vs ws x v (omega (arith, less)) (omega (arith, more)) tails)

-- where the first values are the same, and the same one is put behind them, there is one more that is
pub taken_more : (vs ws : List Value) (x : ℕ) (v : Value) → x < length vs → x < length ws → take x vs ≡ take x ws
    → take (x + 1) (set vs x v) ≡ take (x + 1) (set ws x v)
taken_more vs ws x v less more same =
    subst (λ n. take n (set vs x v) ≡ take n (set ws x v)) (sym (add-one x)) (put_both vs ws x v less more same)

pub taken_all : (vs ws : List Value) (n : ℕ) → length vs ≤ n → length ws ≤ n → take n vs ≡ take n ws → vs ≡ ws
taken_all vs ws n past more same = sym (take_all n vs past) ∙ (same ∙ take_all n ws more)
