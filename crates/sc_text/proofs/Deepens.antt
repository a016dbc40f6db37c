-- Where more parentheses and prefix operators may be open, only what was barred is open.
use Rattle.std.proofs.Common.{ℕ, zero, suc, ◌+◌, List, subst, arith}
use Rattle.grammar.specs.Grammar.{Grammar}
use Rattle.grammar.specs.Deeper.{Deeper, IsLanguage, same_one, deeper_seq, deeper_either, deeper_maybe, deeper_many, deeper_made, opened, with_one, with_seq}
use Rattle.grammar.specs.Deeper.{with_either, with_made}
use Rattle.sc_text.specs.Classes.{Class}
use Rattle.sc_text.specs.Phrases.{Phrase}
use Rattle.sc_text.specs.Expression.{text_tokens, right, chain, Inner, NoMore, Nested, leaf, parenthesized, operands, call, atom, unary, divisor, quotient}
use Rattle.sc_text.specs.Expression.{factor, product, sum, comparison, negation, conjunction, disjunction, within, expression}
use Rattle.sc_text.proofs.Shapes.{expression_is}

abbrev Wider : Grammar text_tokens Phrase → Grammar text_tokens Phrase → Type 1
Wider g h = Deeper Phrase g h

data Opened : Inner → Inner → Type 1 where
  from_none : (w n s : Grammar text_tokens Phrase) → Opened NoMore (Nested w n s)
  in_each : (w n s w' n' s' : Grammar text_tokens Phrase) → Wider w w' → Wider n n' → Wider s s' → Opened (Nested w n s) (Nested w' n' s')

leaf_same : Wider leaf leaf
unfolding leaf
leaf_same = deeper_made _ _ _ _ _ (same_one _)

parenthesized_wider : (w w' : Grammar text_tokens Phrase) → Wider w w' → Wider (parenthesized w) (parenthesized w')
unfolding parenthesized
parenthesized_wider w w' d =
    deeper_made _ _ _ _ _ (deeper_seq _ _ _ _ _ _ (same_one _) (deeper_made _ _ _ _ _ (deeper_seq _ _ _ _ _ _ d (same_one _))))

operands_wider : (w w' : Grammar text_tokens Phrase) → Wider w w' → Wider (operands w) (operands w')
unfolding operands
operands_wider w w' d =
    deeper_made _ _ _ _ _
    (deeper_seq _ _ _ _ _ _
    (deeper_made _ _ _ _ _ (deeper_seq _ _ _ _ _ _ (same_one _) (deeper_made _ _ _ _ _ (deeper_seq _ _ _ _ _ _ d (same_one _)))))
    (deeper_made _ _ _ _ _ (deeper_seq _ _ _ _ _ _ d (same_one _))))

right_wider : (classes : List Class) (g g' : Grammar text_tokens Phrase) → Wider g g' → Wider (right classes g) (right classes g')
right_wider classes g g' d = deeper_made _ _ _ _ _ (deeper_seq _ _ _ _ _ _ (same_one _) d)

chain_wider : (g g' h h' : Grammar text_tokens Phrase) → Wider g g' → Wider h h' → Wider (chain g h) (chain g' h')
chain_wider g g' h h' d e = deeper_made _ _ _ _ _ (deeper_seq _ _ _ _ _ _ d (deeper_many _ _ _ e))

call_wider : (w w' : Grammar text_tokens Phrase) → Wider w w' → Wider (call w) (call w')
unfolding call
call_wider w w' d = right_wider _ _ _ (operands_wider w w' d)

atom_wider : (i j : Inner) → Opened i j → Wider (atom i) (atom j)
unfolding atom parenthesized call
atom_wider i j (from_none w n s) =
    opened _ _ _ _ _ (with_either _ _ _ _ _ (with_made _ _ _ _ _ (with_seq _ _ _ _ _ (with_one _))) (with_made _ _ _ _ _ (with_seq _ _ _ _ _ (with_one _))))
    leaf_same
atom_wider i j (in_each w n s w' n' s' d e f) =
    deeper_either _ _ _ _ _ (deeper_either _ _ _ _ _ (parenthesized_wider w w' d) (call_wider w w' d)) leaf_same

unary_wider : (i j : Inner) → Opened i j → Wider (unary i) (unary j)
unfolding unary
unary_wider i j (from_none w n s) =
    opened _ _ _ _ _ (with_made _ _ _ _ _ (with_made _ _ _ _ _ (with_seq _ _ _ _ _ (with_one _)))) (atom_wider NoMore (Nested w n s) (from_none w n s))
unary_wider i j (in_each w n s w' n' s' d e f) =
    deeper_either _ _ _ _ _
    (deeper_made _ _ _ _ _ (deeper_made _ _ _ _ _ (deeper_seq _ _ _ _ _ _ (same_one _) f)))
    (atom_wider (Nested w n s) (Nested w' n' s') (in_each w n s w' n' s' d e f))

quotient_same : Wider quotient quotient
unfolding quotient divisor
quotient_same =
    deeper_made _ _ _ _ _ (deeper_seq _ _ _ _ _ _ (same_one _) (deeper_seq _ _ _ _ _ _ (deeper_maybe _ _ _ (same_one _)) (same_one _)))

product_wider : (i j : Inner) → Opened i j → Wider (product i) (product j)
unfolding product factor
product_wider i j o =
    chain_wider _ _ _ _ (unary_wider i j o) (deeper_either _ _ _ _ _ (right_wider _ _ _ (unary_wider i j o)) quotient_same)

sum_wider : (i j : Inner) → Opened i j → Wider (sum i) (sum j)
unfolding sum
sum_wider i j o = chain_wider _ _ _ _ (product_wider i j o) (right_wider _ _ _ (product_wider i j o))

comparison_wider : (i j : Inner) → Opened i j → Wider (comparison i) (comparison j)
unfolding comparison
comparison_wider i j o =
    deeper_made _ _ _ _ _ (deeper_seq _ _ _ _ _ _ (sum_wider i j o) (deeper_maybe _ _ _ (right_wider _ _ _ (sum_wider i j o))))

negation_wider : (i j : Inner) → Opened i j → Wider (negation i) (negation j)
unfolding negation
negation_wider i j (from_none w n s) =
    opened _ _ _ _ _ (with_made _ _ _ _ _ (with_made _ _ _ _ _ (with_seq _ _ _ _ _ (with_one _)))) (comparison_wider NoMore (Nested w n s) (from_none w n s))
negation_wider i j (in_each w n s w' n' s' d e f) =
    deeper_either _ _ _ _ _
    (deeper_made _ _ _ _ _ (deeper_made _ _ _ _ _ (deeper_seq _ _ _ _ _ _ (same_one _) e)))
    (comparison_wider (Nested w n s) (Nested w' n' s') (in_each w n s w' n' s' d e f))

conjunction_wider : (i j : Inner) → Opened i j → Wider (conjunction i) (conjunction j)
unfolding conjunction
conjunction_wider i j o = chain_wider _ _ _ _ (negation_wider i j o) (right_wider _ _ _ (negation_wider i j o))

disjunction_wider : (i j : Inner) → Opened i j → Wider (disjunction i) (disjunction j)
unfolding disjunction
disjunction_wider i j o = chain_wider _ _ _ _ (conjunction_wider i j o) (right_wider _ _ _ (conjunction_wider i j o))

-- n levels, and more than n
pub data Above : ℕ → ℕ → Type 0 where
  above_none : (m : ℕ) → Above zero (suc m)
  above_more : (n m : ℕ) → Above n m → Above (suc n) (suc m)

pub above_by : (n k : ℕ) → Above n (n + suc k)
above_by zero k = subst (Above zero) (omega arith) (above_none k)
above_by (suc n) k = subst (Above (suc n)) (omega arith) (above_more n (n + suc k) (above_by n k))

within_opened : (n m : ℕ) → Above n m → Opened (within n) (within m)
unfolding within
within_opened n m (above_none k) = from_none _ _ _
within_opened n m (above_more k l a) =
    in_each _ _ _ _ _ _ (disjunction_wider (within k) (within l) (within_opened k l a)) (negation_wider (within k) (within l) (within_opened k l a))
    (unary_wider (within k) (within l) (within_opened k l a))

-- an expression within which more may be open
pub expression_wider : (k : ℕ) → Wider (expression 0) (expression (suc k))
unfolding expression
expression_wider k = disjunction_wider (within (64 + 0)) (within (64 + suc k)) (within_opened 64 (64 + suc k) (above_by 64 k))

pub is_language : IsLanguage expression
is_language = record { predictive = λ k. (expression_is k).predictive; deeper = expression_wider }
