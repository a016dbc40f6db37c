-- The example is a language: each choice is made by the next token, and more levels only open what was barred.
use Rattle.std.proofs.Common.{ℕ, zero, suc, false, [], ◌∷◌, refl}
use Rattle.grammar.specs.Grammar.{Grammar}
use Rattle.grammar.specs.Deeper.{Deeper, IsLanguage, same_one, deeper_seq, deeper_either, deeper_many, deeper_made, opened, with_one, with_seq, with_made}
use Rattle.grammar.specs.Sums.{numbers, one_word, plus, opening, unit, operand, sum_of, sums, SumsAreTold}
use Rattle.grammar.proofs.Shaped.{Shaped, shaped_one, shaped_seq, shaped_either, shaped_many, shaped_made, shaped_barred}
use Rattle.grammar.proofs.Told.{told, told_spelled, told_fault}

-- a one or a parenthesis begins each operand, and none goes on where it may end
abbrev IsOperand : Grammar numbers ℕ → Type 0
IsOperand g = Shaped g false (opening ∷ one_word ∷ []) []

unit_shaped : Shaped unit false (one_word ∷ []) []
unit_shaped = shaped_made _ _ _ _ _ _ _ (shaped_one _ refl)

sum_shaped : (g : Grammar numbers ℕ) → IsOperand g → Shaped (sum_of g) false (opening ∷ one_word ∷ []) (plus ∷ [])
sum_shaped g o =
    shaped_made _ _ _ _ _ _ _
    (shaped_seq _ _ _ _ _ _ _ _ _ _ o
    (shaped_many _ _ _ _ (shaped_made _ _ _ _ _ _ _ (shaped_seq _ _ _ _ _ _ _ _ _ _ (shaped_one _ refl) o refl)) refl)
    refl)

operand_shaped : (n : ℕ) → IsOperand (operand n)
operand_shaped zero = shaped_barred _ _ _ _ _ unit_shaped refl
operand_shaped (suc n) =
    shaped_either _ _ _ _ _ _ _
    (shaped_made _ _ _ _ _ _ _
    (shaped_seq _ _ _ _ _ _ _ _ _ _ (shaped_one _ refl)
    (shaped_made _ _ _ _ _ _ _ (shaped_seq _ _ _ _ _ _ _ _ _ _ (sum_shaped (operand n) (operand_shaped n)) (shaped_one _ refl) refl))
    refl))
    unit_shaped refl

sum_deeper : (g h : Grammar numbers ℕ) → Deeper ℕ g h → Deeper ℕ (sum_of g) (sum_of h)
sum_deeper g h d =
    deeper_made _ _ _ _ _ (deeper_seq _ _ _ _ _ _ d (deeper_many _ _ _ (deeper_made _ _ _ _ _ (deeper_seq _ _ _ _ _ _ (same_one _) d))))

unit_deeper : Deeper ℕ unit unit
unit_deeper = deeper_made _ _ _ _ _ (same_one _)

-- n levels, and more than n
data Above : ℕ → ℕ → Type 0 where
  above_none : (m : ℕ) → Above zero (suc m)
  above_more : (n m : ℕ) → Above n m → Above (suc n) (suc m)

operand_deeper : (n m : ℕ) → Above n m → Deeper ℕ (operand n) (operand m)
operand_deeper n m (above_none k) = opened _ _ _ _ _ (with_made _ _ _ _ _ (with_seq _ _ _ _ _ (with_one _))) unit_deeper
operand_deeper n m (above_more k l a) =
    deeper_either _ _ _ _ _
    (deeper_made _ _ _ _ _
    (deeper_seq _ _ _ _ _ _ (same_one _) (deeper_made _ _ _ _ _ (deeper_seq _ _ _ _ _ _ (sum_deeper _ _ (operand_deeper k l a)) (same_one _)))))
    unit_deeper

is_language : IsLanguage sums
is_language = record {
  predictive = λ k. (sum_shaped (operand (suc (suc k))) (operand_shaped (suc (suc k)))).predictive;
  deeper = λ k. sum_deeper _ _ (operand_deeper _ _ (above_more _ _ (above_more _ _ (above_none k))));
}

pub sums_told : SumsAreTold
sums_told = record { told = told sums is_language; spelled = told_spelled sums is_language; faulty = told_fault sums is_language }
