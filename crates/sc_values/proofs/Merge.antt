-- An update may change places with another one by the same function, whatever the values.
use Rattle.std.proofs.Common.{◌≡◌, ◌≢◌, ℕ, zero, suc, ◌+◌, ◌*◌, ◌⊎◌, inl, inr, ⊎_elim, Some, Bool, true, false, ◌&&◌, ◌||◌, ℤ, ◌+ℤ◌, ◌*ℤ◌, refl, sym, ap, ◌∙◌}
use Rattle.std.proofs.Common.{arith}
use Rattle.std.proofs.lemmas.Bool.{cases_eq}
use Rattle.std.specs.Int.{int_wrap, int_min, int_max, w32}
use Rattle.std.proofs.lemmas.Int.{ints, int_wrap-add_left, int_wrap-mul_left}
use Rattle.std.proofs.Math.IntN.{*ℤ_comm}
use borrow.Author.Differences.{up, down, same_in, product_is}
use Rattle.sc_values.specs.declared.value.Value.{Value}
use Rattle.sc_values.specs.declared.value.Value.TheVariants as value
use Rattle.sc_values.specs.declared.operator.Combination.{Combination}
use Rattle.sc_values.specs.declared.operator.Combination.TheVariants as combine
use Rattle.sc_values.specs.Operator.{kind_of, binary_value, operator_of, kind_combined, combined}

and_turn : (v a b : Bool) → ((v && a) && b) ≡ ((v && b) && a)
and_turn false a b = refl
and_turn true false false = refl
and_turn true false true = refl
and_turn true true false = refl
and_turn true true true = refl

or_turn : (v a b : Bool) → ((v || a) || b) ≡ ((v || b) || a)
or_turn true a b = refl
or_turn false false false = refl
or_turn false false true = refl
or_turn false true false = refl
or_turn false true true = refl

min_turn : (v a b : ℤ) → int_min (int_min v a) b ≡ int_min (int_min v b) a
min_turn v a b = grind (arith, ints)

max_turn : (v a b : ℤ) → int_max (int_max v a) b ≡ int_max (int_max v b) a
max_turn v a b = grind (arith, ints)

add_turn : (v a b : ℤ) → int_wrap w32 (int_wrap w32 (v +ℤ a) +ℤ b) ≡ int_wrap w32 (int_wrap w32 (v +ℤ b) +ℤ a)
add_turn v a b =
    let turned : (v +ℤ a) +ℤ b ≡ (v +ℤ b) +ℤ a = omega (arith, ints) in
    int_wrap-add_left w32 (v +ℤ a) b ∙ ap (int_wrap w32) turned ∙ sym (int_wrap-add_left w32 (v +ℤ b) a)

times_assoc : (a b c : ℤ) → (a *ℤ b) *ℤ c ≡ a *ℤ (b *ℤ c)
times_assoc a b c =
    let ab = product_is a b in
    let bc = product_is b c in
    let by = λ (k : ℕ) (m n : ℕ) (e : m ≡ n). ap (λ x. x * k) e in
    let left = product_is (a *ℤ b) c in
    let right = product_is a (b *ℤ c) in
    let ups : up ((a *ℤ b) *ℤ c) ≡ up (a *ℤ (b *ℤ c)) = omega (arith, by (up c) _ _ ab.0, by (down c) _ _ ab.1, by (up a) _ _ bc.0, by (down a) _ _ bc.1) in
    let downs : down ((a *ℤ b) *ℤ c) ≡ down (a *ℤ (b *ℤ c)) = omega (arith, by (down c) _ _ ab.0, by (up c) _ _ ab.1, by (down a) _ _ bc.0, by (up a) _ _ bc.1)
    in
    same_in _ _ (λ i. ups i + sym downs i)

mul_turn : (v a b : ℤ) → int_wrap w32 (int_wrap w32 (v *ℤ a) *ℤ b) ≡ int_wrap w32 (int_wrap w32 (v *ℤ b) *ℤ a)
mul_turn v a b =
    let turned : (v *ℤ a) *ℤ b ≡ (v *ℤ b) *ℤ a = times_assoc v a b ∙ ap (λ x. v *ℤ x) (*ℤ_comm a b) ∙ sym (times_assoc v b a) in
    int_wrap-mul_left w32 (v *ℤ a) b ∙ ap (int_wrap w32) turned ∙ sym (int_wrap-mul_left w32 (v *ℤ b) a)

pub combined_turn : (f : Combination) (v a b : Value) → combined f (combined f v a) b ≡ combined f (combined f v b) a
combined_turn combine.Add (value.Int v) (value.Int a) (value.Int b) = ap value.Int (add_turn v a b)
combined_turn combine.Add (value.Int v) (value.Int a) (value.Bool b) = refl
combined_turn combine.Add (value.Int v) (value.Bool a) (value.Int b) = refl
combined_turn combine.Add (value.Int v) (value.Bool a) (value.Bool b) = refl
combined_turn combine.Multiply (value.Int v) (value.Int a) (value.Int b) = ap value.Int (mul_turn v a b)
combined_turn combine.Multiply (value.Int v) (value.Int a) (value.Bool b) = refl
combined_turn combine.Multiply (value.Int v) (value.Bool a) (value.Int b) = refl
combined_turn combine.Multiply (value.Int v) (value.Bool a) (value.Bool b) = refl
combined_turn combine.Min (value.Int v) (value.Int a) (value.Int b) = ap value.Int (min_turn v a b)
combined_turn combine.Min (value.Int v) (value.Int a) (value.Bool b) = refl
combined_turn combine.Min (value.Int v) (value.Bool a) (value.Int b) = refl
combined_turn combine.Min (value.Int v) (value.Bool a) (value.Bool b) = refl
combined_turn combine.Max (value.Int v) (value.Int a) (value.Int b) = ap value.Int (max_turn v a b)
combined_turn combine.Max (value.Int v) (value.Int a) (value.Bool b) = refl
combined_turn combine.Max (value.Int v) (value.Bool a) (value.Int b) = refl
combined_turn combine.Max (value.Int v) (value.Bool a) (value.Bool b) = refl
combined_turn combine.And (value.Int v) (value.Int a) (value.Int b) = refl
combined_turn combine.And (value.Int v) (value.Int a) (value.Bool b) = refl
combined_turn combine.And (value.Int v) (value.Bool a) (value.Int b) = refl
combined_turn combine.And (value.Int v) (value.Bool a) (value.Bool b) = refl
combined_turn combine.Or (value.Int v) (value.Int a) (value.Int b) = refl
combined_turn combine.Or (value.Int v) (value.Int a) (value.Bool b) = refl
combined_turn combine.Or (value.Int v) (value.Bool a) (value.Int b) = refl
combined_turn combine.Or (value.Int v) (value.Bool a) (value.Bool b) = refl
combined_turn combine.And (value.Bool v) (value.Bool a) (value.Bool b) = ap value.Bool (and_turn v a b)
combined_turn combine.And (value.Bool v) (value.Bool a) (value.Int b) = refl
combined_turn combine.And (value.Bool v) (value.Int a) (value.Bool b) = refl
combined_turn combine.And (value.Bool v) (value.Int a) (value.Int b) = refl
combined_turn combine.Or (value.Bool v) (value.Bool a) (value.Bool b) = ap value.Bool (or_turn v a b)
combined_turn combine.Or (value.Bool v) (value.Bool a) (value.Int b) = refl
combined_turn combine.Or (value.Bool v) (value.Int a) (value.Bool b) = refl
combined_turn combine.Or (value.Bool v) (value.Int a) (value.Int b) = refl
combined_turn combine.Add (value.Bool v) (value.Bool a) (value.Bool b) = refl
combined_turn combine.Add (value.Bool v) (value.Bool a) (value.Int b) = refl
combined_turn combine.Add (value.Bool v) (value.Int a) (value.Bool b) = refl
combined_turn combine.Add (value.Bool v) (value.Int a) (value.Int b) = refl
combined_turn combine.Multiply (value.Bool v) (value.Bool a) (value.Bool b) = refl
combined_turn combine.Multiply (value.Bool v) (value.Bool a) (value.Int b) = refl
combined_turn combine.Multiply (value.Bool v) (value.Int a) (value.Bool b) = refl
combined_turn combine.Multiply (value.Bool v) (value.Int a) (value.Int b) = refl
combined_turn combine.Min (value.Bool v) (value.Bool a) (value.Bool b) = refl
combined_turn combine.Min (value.Bool v) (value.Bool a) (value.Int b) = refl
combined_turn combine.Min (value.Bool v) (value.Int a) (value.Bool b) = refl
combined_turn combine.Min (value.Bool v) (value.Int a) (value.Int b) = refl
combined_turn combine.Max (value.Bool v) (value.Bool a) (value.Bool b) = refl
combined_turn combine.Max (value.Bool v) (value.Bool a) (value.Int b) = refl
combined_turn combine.Max (value.Bool v) (value.Int a) (value.Bool b) = refl
combined_turn combine.Max (value.Bool v) (value.Int a) (value.Int b) = refl

-- where the kinds fit, an update keeps its variable's kind, and its value is the operator's
pub record Combines (f : Combination) (v a : Value) : Type 0 where
  pub kept : kind_of (combined f v a) ≡ kind_of v
  pub given : binary_value (operator_of f) v a ≡ Some (combined f v a)

pub combined_kind : (f : Combination) (v a : Value) → kind_of v ≡ kind_combined f → kind_of a ≡ kind_combined f → Combines f v a
combined_kind combine.Add (value.Int v) (value.Int a) first second = record { kept = refl; given = refl }
combined_kind combine.Multiply (value.Int v) (value.Int a) first second = record { kept = refl; given = refl }
combined_kind combine.Min (value.Int v) (value.Int a) first second = record { kept = refl; given = refl }
combined_kind combine.Max (value.Int v) (value.Int a) first second = record { kept = refl; given = refl }
combined_kind combine.And (value.Bool v) (value.Bool a) first second = record { kept = refl; given = refl }
combined_kind combine.Or (value.Bool v) (value.Bool a) first second = record { kept = refl; given = refl }
combined_kind combine.Add (value.Bool v) a first second = absurd cc
combined_kind combine.Multiply (value.Bool v) a first second = absurd cc
combined_kind combine.Min (value.Bool v) a first second = absurd cc
combined_kind combine.Max (value.Bool v) a first second = absurd cc
combined_kind combine.And (value.Int v) a first second = absurd cc
combined_kind combine.Or (value.Int v) a first second = absurd cc
combined_kind combine.Add (value.Int v) (value.Bool a) first second = absurd cc
combined_kind combine.Multiply (value.Int v) (value.Bool a) first second = absurd cc
combined_kind combine.Min (value.Int v) (value.Bool a) first second = absurd cc
combined_kind combine.Max (value.Int v) (value.Bool a) first second = absurd cc
combined_kind combine.And (value.Bool v) (value.Int a) first second = absurd cc
combined_kind combine.Or (value.Bool v) (value.Int a) first second = absurd cc

number_of : Combination → ℕ
number_of combine.Add = 0
number_of combine.Multiply = 1
number_of combine.Min = 2
number_of combine.Max = 3
number_of combine.And = 4
number_of combine.Or = 5

of_number : ℕ → Combination
of_number zero = combine.Add
of_number (suc zero) = combine.Multiply
of_number (suc (suc zero)) = combine.Min
of_number (suc (suc (suc zero))) = combine.Max
of_number (suc (suc (suc (suc zero)))) = combine.And
of_number other = combine.Or

number_back : (f : Combination) → of_number (number_of f) ≡ f
unfolding of_number number_of
number_back combine.Add = refl
number_back combine.Multiply = refl
number_back combine.Min = refl
number_back combine.Max = refl
number_back combine.And = refl
number_back combine.Or = refl

-- two combinations are one or not
pub one_combination : (f g : Combination) → (f ≡ g) ⊎ (f ≢ g)
one_combination f g =
    ⊎_elim (λ same. inl (sym (number_back f) ∙ (ap of_number same ∙ number_back g))) (λ differ. inr (λ e. differ (ap number_of e)))
    (cases_eq (number_of f) (number_of g))
