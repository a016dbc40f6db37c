-- At each choice of the grammar of expressions the next token decides.
use Rattle.std.proofs.Common.{◌≡◌, ℕ, zero, suc, ◌+◌, false, true, List, [], ◌∷◌, refl}
use Rattle.grammar.specs.Grammar.{Grammar}
use Rattle.grammar.specs.Predictive.{is_filled, disjoint}
use Rattle.grammar.proofs.Shaped.{Shaped, shaped_one, shaped_seq, shaped_either, shaped_maybe, shaped_many, shaped_made, shaped_barred}
use Rattle.sc_text.specs.declared.word.Word.TheVariants as word
use Rattle.sc_text.specs.declared.sign.Sign.TheVariants as sign
use Rattle.sc_text.specs.Classes.{Class, AName, Zero, Number, TheWord, TheSign}
use Rattle.sc_text.specs.Phrases.{Phrase}
use Rattle.sc_text.specs.Expression.{text_tokens, right, Inner, NoMore, Nested, leaf, parenthesized, operands, call, atom, unary, divisor, quotient, factor}
use Rattle.sc_text.specs.Expression.{product, sum, comparison, negation, conjunction, disjunction, within, expression}

-- what begins an atom, an operand with its sign, and an expression
abbrev leaf_first : List Class
leaf_first = AName ∷ Zero ∷ Number ∷ TheWord word.True ∷ TheWord word.False ∷ []

abbrev pub atom_first : List Class
atom_first = TheSign sign.OpenParenthesis ∷ TheWord word.Min ∷ TheWord word.Max ∷ leaf_first

abbrev pub unary_first : List Class
unary_first = TheSign sign.Minus ∷ atom_first

abbrev pub expression_first : List Class
expression_first = TheWord word.Not ∷ unary_first

-- what goes on with a product, a sum, a comparison and so on, where it may end too
abbrev pub product_tails : List Class
product_tails = TheSign sign.Star ∷ TheSign sign.Slash ∷ TheSign sign.Percent ∷ []

abbrev pub sum_tails : List Class
sum_tails = TheSign sign.Plus ∷ TheSign sign.Minus ∷ product_tails

abbrev pub comparison_tails : List Class
comparison_tails =
    TheSign sign.Equal ∷ TheSign sign.NotEqual ∷ TheSign sign.Less ∷ TheSign sign.LessOrEqual ∷ TheSign sign.Greater ∷ TheSign sign.GreaterOrEqual ∷ sum_tails

abbrev pub conjunction_tails : List Class
conjunction_tails = TheWord word.And ∷ comparison_tails

abbrev pub expression_tails : List Class
expression_tails = TheWord word.Or ∷ conjunction_tails

-- a phrase that is never empty
abbrev pub Is : Grammar text_tokens Phrase → List Class → List Class → Type 0
Is g opens stops = Shaped g false opens stops

pub data Fits : Inner → Type 1 where
  nothing : Fits NoMore
  nested : (w n s : Grammar text_tokens Phrase) → Is w expression_first expression_tails → Is n expression_first comparison_tails → Is s unary_first []
      → Fits (Nested w n s)

right_is : (classes opens stops : List Class) (g : Grammar text_tokens Phrase) → is_filled classes ≡ true → disjoint text_tokens opens [] ≡ true
    → Is g opens stops → Shaped (right classes g) false classes stops
right_is classes opens stops g some d h = shaped_made _ _ _ _ _ _ _ (shaped_seq _ _ _ _ _ _ _ _ _ _ (shaped_one _ some) h d)

leaf_is : Is leaf leaf_first []
unfolding leaf
leaf_is = shaped_made _ _ _ _ _ _ _ (shaped_one _ refl)

parenthesized_is : (w : Grammar text_tokens Phrase) → Is w expression_first expression_tails → Is (parenthesized w) (TheSign sign.OpenParenthesis ∷ []) []
unfolding parenthesized
parenthesized_is w h =
    shaped_made _ _ _ _ _ _ _
    (shaped_seq _ _ _ _ _ _ _ _ _ _ (shaped_one _ refl)
    (shaped_made _ _ _ _ _ _ _ (shaped_seq _ _ _ _ _ _ _ _ _ _ h (shaped_one _ refl) refl))
    refl)

operands_is : (w : Grammar text_tokens Phrase) → Is w expression_first expression_tails → Is (operands w) (TheSign sign.OpenParenthesis ∷ []) []
unfolding operands
operands_is w h =
    shaped_made _ _ _ _ _ _ _
    (shaped_seq _ _ _ _ _ _ _ _ _ _
    (shaped_made _ _ _ _ _ _ _
    (shaped_seq _ _ _ _ _ _ _ _ _ _ (shaped_one _ refl)
    (shaped_made _ _ _ _ _ _ _ (shaped_seq _ _ _ _ _ _ _ _ _ _ h (shaped_one _ refl) refl))
    refl))
    (shaped_made _ _ _ _ _ _ _ (shaped_seq _ _ _ _ _ _ _ _ _ _ h (shaped_one _ refl) refl))
    refl)

call_is : (w : Grammar text_tokens Phrase) → Is w expression_first expression_tails → Is (call w) (TheWord word.Min ∷ TheWord word.Max ∷ []) []
unfolding call
call_is w h = shaped_made _ _ _ _ _ _ _ (shaped_seq _ _ _ _ _ _ _ _ _ _ (shaped_one _ refl) (operands_is w h) refl)

atom_is : (i : Inner) → Fits i → Is (atom i) atom_first []
unfolding atom
atom_is NoMore h = shaped_barred _ _ _ _ _ leaf_is refl
atom_is (Nested a b c) (nested w n s h j k) =
    shaped_either _ _ _ _ _ _ _ (shaped_either _ _ _ _ _ _ _ (parenthesized_is w h) (call_is w h) refl) leaf_is refl

unary_is : (i : Inner) → Fits i → Is (unary i) unary_first []
unfolding unary
unary_is NoMore h = shaped_barred _ _ _ _ _ (atom_is NoMore h) refl
unary_is (Nested a b c) (nested w n s h j k) =
    shaped_either _ _ _ _ _ _ _
    (shaped_made _ _ _ _ _ _ _ (shaped_made _ _ _ _ _ _ _ (shaped_seq _ _ _ _ _ _ _ _ _ _ (shaped_one _ refl) k refl)))
    (atom_is (Nested w n s) (nested w n s h j k)) refl

quotient_is : Is quotient (TheSign sign.Slash ∷ TheSign sign.Percent ∷ []) []
unfolding quotient divisor
quotient_is =
    shaped_made _ _ _ _ _ _ _
    (shaped_seq _ _ _ _ _ _ _ _ _ _ (shaped_one _ refl)
    (shaped_seq _ _ _ _ _ _ _ _ _ _ (shaped_maybe _ _ _ _ (shaped_one _ refl)) (shaped_one _ refl) refl)
    refl)

factor_is : (i : Inner) → Fits i → Is (factor i) product_tails []
unfolding factor
factor_is i h = shaped_either _ _ _ _ _ _ _ (right_is _ _ _ _ refl refl (unary_is i h)) quotient_is refl

product_is : (i : Inner) → Fits i → Is (product i) unary_first product_tails
unfolding product
product_is i h =
    shaped_made _ _ _ _ _ _ _ (shaped_seq _ _ _ _ _ _ _ _ _ _ (unary_is i h) (shaped_many _ _ _ _ (factor_is i h) refl) refl)

sum_is : (i : Inner) → Fits i → Is (sum i) unary_first sum_tails
unfolding sum
sum_is i h =
    shaped_made _ _ _ _ _ _ _
    (shaped_seq _ _ _ _ _ _ _ _ _ _ (product_is i h) (shaped_many _ _ _ _ (right_is _ _ _ _ refl refl (product_is i h)) refl) refl)

comparison_is : (i : Inner) → Fits i → Is (comparison i) unary_first comparison_tails
unfolding comparison
comparison_is i h =
    shaped_made _ _ _ _ _ _ _
    (shaped_seq _ _ _ _ _ _ _ _ _ _ (sum_is i h) (shaped_maybe _ _ _ _ (right_is _ _ _ _ refl refl (sum_is i h))) refl)

negation_is : (i : Inner) → Fits i → Is (negation i) expression_first comparison_tails
unfolding negation
negation_is NoMore h = shaped_barred _ _ _ _ _ (comparison_is NoMore h) refl
negation_is (Nested a b c) (nested w n s h j k) =
    shaped_either _ _ _ _ _ _ _
    (shaped_made _ _ _ _ _ _ _ (shaped_made _ _ _ _ _ _ _ (shaped_seq _ _ _ _ _ _ _ _ _ _ (shaped_one _ refl) j refl)))
    (comparison_is (Nested w n s) (nested w n s h j k)) refl

conjunction_is : (i : Inner) → Fits i → Is (conjunction i) expression_first conjunction_tails
unfolding conjunction
conjunction_is i h =
    shaped_made _ _ _ _ _ _ _
    (shaped_seq _ _ _ _ _ _ _ _ _ _ (negation_is i h) (shaped_many _ _ _ _ (right_is _ _ _ _ refl refl (negation_is i h)) refl) refl)

pub disjunction_is : (i : Inner) → Fits i → Is (disjunction i) expression_first expression_tails
unfolding disjunction
disjunction_is i h =
    shaped_made _ _ _ _ _ _ _
    (shaped_seq _ _ _ _ _ _ _ _ _ _ (conjunction_is i h) (shaped_many _ _ _ _ (right_is _ _ _ _ refl refl (conjunction_is i h)) refl) refl)

pub within_fits : (n : ℕ) → Fits (within n)
unfolding within
within_fits zero = nothing
within_fits (suc n) =
    nested _ _ _ (disjunction_is (within n) (within_fits n)) (negation_is (within n) (within_fits n)) (unary_is (within n) (within_fits n))

-- an expression, however many parentheses may be open
pub expression_is : (k : ℕ) → Is (expression k) expression_first expression_tails
unfolding expression
expression_is k = disjunction_is (within (64 + k)) (within_fits (64 + k))
