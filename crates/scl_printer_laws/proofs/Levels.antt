-- How the tokens of an expression's parts spell the expression, level by level of the grammar.
use Rattle.std.proofs.Common.{ℕ, suc, Option, Some, None, List, [], ◌∷◌, ◌++◌, refl, sym, ap, inl, inr}
use Rattle.std.specs.Prelude.{IsTrue}
use Rattle.std.proofs.lemmas.List.{append-nil}
use Rattle.grammar.specs.Grammar.{Grammar, is_in, spells}
use Rattle.sc_values.specs.declared.operator.UnaryOperator.TheVariants as unary_operator
use Rattle.sc_text.specs.declared.word.Word.TheVariants as word
use Rattle.sc_text.specs.declared.sign.Sign.TheVariants as sign
use Rattle.sc_text.specs.declared.token.Token.{Token}
use Rattle.sc_text.specs.Classes.{Class, Number, TheWord, TheSign, class_of}
use Rattle.sc_text.specs.Phrases.{Phrase, right_side, prefixed, leaf_of, division}
use Rattle.sc_text.specs.Expression.{text_tokens, after, before, right, chain, Inner, NoMore, Nested, comparisons, leaf, parenthesized, operands}
use Rattle.sc_text.specs.Expression.{call, atom, unary, divisor, quotient, factor, product, sum, comparison, negation, conjunction, disjunction, within}
use Rattle.sc_text.specs.Expression.{expression, open_limit}
use Rattle.sc_text.specs.Levels.{leaves, divisions}
use Rattle.scl_printer_laws.proofs.Cuts.{signed_at, worded_at}

abbrev pub G : Type 1
G = Grammar text_tokens Phrase

abbrev pub Fits : List Class → Token → Type 0
Fits classes t = IsTrue (is_in text_tokens classes (class_of t.kind))

-- ---- the parts of the grammar's levels

after_is : {A : Type 0} (classes : List Class) (g : Grammar text_tokens A) (t : Token) (us : List Token) (q : A) → Fits classes t → spells g us q
    → spells (after classes g) (t ∷ us) q
after_is classes g t us q c s = ((t, q), refl, (t ∷ [], us, refl, (refl, c), s))

before_is : {A : Type 0} (classes : List Class) (g : Grammar text_tokens A) (t : Token) (us : List Token) (q : A) → Fits classes t → spells g us q
    → spells (before g classes) (us ++ t ∷ []) q
before_is classes g t us q c s = ((q, t), refl, (us, t ∷ [], refl, s, (refl, c)))

right_is : (classes : List Class) (g : G) (t : Token) (us : List Token) (q : Phrase) → Fits classes t → spells g us q
    → spells (right classes g) (t ∷ us) (right_side t q)
right_is classes g t us q c s = ((t, q), refl, (t ∷ [], us, refl, (refl, c), s))

chain_one : (g h : G) (ts : List Token) (p : Phrase) → spells g ts p → spells (chain g h) ts p
chain_one g h ts p s = ((p, []), sym (append-nil p), (ts, [], sym (append-nil ts), s, refl))

chain_two : (g h : G) (ts us : List Token) (p q : Phrase) → spells g ts p → spells h us q → spells (chain g h) (ts ++ us) (p ++ q)
chain_two g h ts us p q s r =
    ((p, q ∷ []), ap (λ z. p ++ z) (sym (append-nil q)), (ts, us, refl, s, (us, [], sym (append-nil us), r, refl)))

-- ---- from each level to the next

pub atom_leaf : (i : Inner) (t : Token) → Fits leaves t → spells (atom i) (t ∷ []) (leaf_of t.kind t.at ∷ [])
unfolding atom leaf
atom_leaf NoMore t c = (t, refl, (refl, c))
atom_leaf (Nested w n s) t c = inr (t, refl, (refl, c))

pub unary_atom : (i : Inner) (ts : List Token) (p : Phrase) → spells (atom i) ts p → spells (unary i) ts p
unfolding unary
unary_atom NoMore ts p s = s
unary_atom (Nested w n r) ts p s = inr s

pub product_unary : (i : Inner) (ts : List Token) (p : Phrase) → spells (unary i) ts p → spells (product i) ts p
unfolding product
product_unary i ts p s = chain_one (unary i) (factor i) ts p s

pub sum_product : (i : Inner) (ts : List Token) (p : Phrase) → spells (product i) ts p → spells (sum i) ts p
unfolding sum
sum_product i ts p s = chain_one (product i) (right (TheSign sign.Plus ∷ TheSign sign.Minus ∷ []) (product i)) ts p s

pub comparison_sum : (i : Inner) (ts : List Token) (p : Phrase) → spells (sum i) ts p → spells (comparison i) ts p
unfolding comparison
comparison_sum i ts p s = ((p, None), sym (append-nil p), (ts, [], sym (append-nil ts), s, refl))

pub negation_comparison : (i : Inner) (ts : List Token) (p : Phrase) → spells (comparison i) ts p → spells (negation i) ts p
unfolding negation
negation_comparison NoMore ts p s = s
negation_comparison (Nested w n r) ts p s = inr s

pub conjunction_negation : (i : Inner) (ts : List Token) (p : Phrase) → spells (negation i) ts p → spells (conjunction i) ts p
unfolding conjunction
conjunction_negation i ts p s = chain_one (negation i) (right (TheWord word.And ∷ []) (negation i)) ts p s

pub disjunction_conjunction : (i : Inner) (ts : List Token) (p : Phrase) → spells (conjunction i) ts p → spells (disjunction i) ts p
unfolding disjunction
disjunction_conjunction i ts p s = chain_one (conjunction i) (right (TheWord word.Or ∷ []) (conjunction i)) ts p s

pub negation_unary : (i : Inner) (ts : List Token) (p : Phrase) → spells (unary i) ts p → spells (negation i) ts p
negation_unary i ts p s = negation_comparison i ts p (comparison_sum i ts p (sum_product i ts p (product_unary i ts p s)))

pub disjunction_negation : (i : Inner) (ts : List Token) (p : Phrase) → spells (negation i) ts p → spells (disjunction i) ts p
disjunction_negation i ts p s = disjunction_conjunction i ts p (conjunction_negation i ts p s)

-- ---- what opens one more level

pub atom_parenthesized : (n a b : ℕ) (ts : List Token) (p : Phrase) → spells (disjunction (within n)) ts p
    → spells (atom (within (suc n))) (signed_at sign.OpenParenthesis a ∷ (ts ++ signed_at sign.CloseParenthesis b ∷ [])) p
unfolding atom within parenthesized
atom_parenthesized n a b ts p s =
    inl (inl (after_is (TheSign sign.OpenParenthesis ∷ []) (before (disjunction (within n)) (TheSign sign.CloseParenthesis ∷ []))
    (signed_at sign.OpenParenthesis a) (ts ++ signed_at sign.CloseParenthesis b ∷ []) p refl
    (before_is (TheSign sign.CloseParenthesis ∷ []) (disjunction (within n)) (signed_at sign.CloseParenthesis b) ts p refl s)))

operands_are : (e : G) (a b c : ℕ) (ts us : List Token) (p q : Phrase) → spells e ts p → spells e us q
    → spells (operands e) ((signed_at sign.OpenParenthesis a ∷ (ts ++ signed_at sign.Comma b ∷ [])) ++ (us ++ signed_at sign.CloseParenthesis c ∷ [])) (p ++ q)
unfolding operands
operands_are e a b c ts us p q s r = (
  (p, q),
  refl,
  (
    signed_at sign.OpenParenthesis a ∷ (ts ++ signed_at sign.Comma b ∷ []),
    us ++ signed_at sign.CloseParenthesis c ∷ [],
    refl,
    after_is (TheSign sign.OpenParenthesis ∷ []) (before e (TheSign sign.Comma ∷ [])) (signed_at sign.OpenParenthesis a)
        (ts ++ signed_at sign.Comma b ∷ []) p refl
        (before_is (TheSign sign.Comma ∷ []) e (signed_at sign.Comma b) ts p refl s),
    before_is (TheSign sign.CloseParenthesis ∷ []) e (signed_at sign.CloseParenthesis c) us q refl r,
  ),
)

pub atom_call : (n a b c : ℕ) (w : Token) (ts us : List Token) (p q : Phrase) → Fits (TheWord word.Min ∷ TheWord word.Max ∷ []) w
    → spells (disjunction (within n)) ts p → spells (disjunction (within n)) us q
    → spells (atom (within (suc n))) (w ∷ ((signed_at sign.OpenParenthesis a ∷ (ts ++ signed_at sign.Comma b ∷ [])) ++
    (us ++ signed_at sign.CloseParenthesis c ∷ []))) (right_side w (p ++ q))
unfolding atom within call
atom_call n a b c w ts us p q fits s r =
    inl (inr (right_is (TheWord word.Min ∷ TheWord word.Max ∷ []) (operands (disjunction (within n))) w _ (p ++ q) fits (operands_are (disjunction
    (within n)) a b c ts us p q s r)))

pub unary_negated : (n a : ℕ) (ts : List Token) (p : Phrase) → spells (unary (within n)) ts p
    → spells (unary (within (suc n))) (signed_at sign.Minus a ∷ ts) (prefixed unary_operator.Negate p)
unfolding unary within
unary_negated n a ts p s = inl (p, refl, after_is (TheSign sign.Minus ∷ []) (unary (within n)) (signed_at sign.Minus a) ts p refl s)

pub negation_not : (n a : ℕ) (ts : List Token) (p : Phrase) → spells (negation (within n)) ts p
    → spells (negation (within (suc n))) (worded_at word.Not a ∷ ts) (prefixed unary_operator.Not p)
unfolding negation within
negation_not n a ts p s = inl (p, refl, after_is (TheWord word.Not ∷ []) (negation (within n)) (worded_at word.Not a) ts p refl s)

-- ---- operators between operands

pub product_times : (i : Inner) (t : Token) (ts us : List Token) (p q : Phrase) → Fits (TheSign sign.Star ∷ []) t → spells (unary i) ts p
    → spells (unary i) us q → spells (product i) (ts ++ t ∷ us) (p ++ right_side t q)
unfolding product factor
product_times i t ts us p q fits s r =
    chain_two (unary i) (factor i) ts (t ∷ us) p (right_side t q) s (inl (right_is (TheSign sign.Star ∷ []) (unary i) t us q fits r))

pub sum_by : (i : Inner) (t : Token) (ts us : List Token) (p q : Phrase) → Fits (TheSign sign.Plus ∷ TheSign sign.Minus ∷ []) t → spells (product i) ts p
    → spells (product i) us q → spells (sum i) (ts ++ t ∷ us) (p ++ right_side t q)
unfolding sum
sum_by i t ts us p q fits s r =
    chain_two (product i) (right (TheSign sign.Plus ∷ TheSign sign.Minus ∷ []) (product i)) ts (t ∷ us) p (right_side t q) s (right_is
    (TheSign sign.Plus ∷ TheSign sign.Minus ∷ []) (product i) t us q fits r)

pub comparison_by : (i : Inner) (t : Token) (ts us : List Token) (p q : Phrase) → Fits comparisons t → spells (sum i) ts p → spells (sum i) us q
    → spells (comparison i) (ts ++ t ∷ us) (p ++ right_side t q)
unfolding comparison
comparison_by i t ts us p q fits s r =
    ((p, Some (right_side t q)), refl, (ts, t ∷ us, refl, s, right_is comparisons (sum i) t us q fits r))

pub conjunction_by : (i : Inner) (t : Token) (ts us : List Token) (p q : Phrase) → Fits (TheWord word.And ∷ []) t → spells (negation i) ts p
    → spells (negation i) us q → spells (conjunction i) (ts ++ t ∷ us) (p ++ right_side t q)
unfolding conjunction
conjunction_by i t ts us p q fits s r =
    chain_two (negation i) (right (TheWord word.And ∷ []) (negation i)) ts (t ∷ us) p (right_side t q) s (right_is (TheWord word.And ∷ [])
    (negation i) t us q fits r)

pub disjunction_by : (i : Inner) (t : Token) (ts us : List Token) (p q : Phrase) → Fits (TheWord word.Or ∷ []) t → spells (conjunction i) ts p
    → spells (conjunction i) us q → spells (disjunction i) (ts ++ t ∷ us) (p ++ right_side t q)
unfolding disjunction
disjunction_by i t ts us p q fits s r =
    chain_two (conjunction i) (right (TheWord word.Or ∷ []) (conjunction i)) ts (t ∷ us) p (right_side t q) s (right_is (TheWord word.Or ∷ [])
    (conjunction i) t us q fits r)

-- ---- divisions

pub product_divided : (i : Inner) (t number : Token) (minus : Option Token) (ts signs : List Token) (p : Phrase) → Fits divisions t
    → Fits (Number ∷ []) number → spells (unary i) ts p
    → spells {L = text_tokens} (divisor) (signs ++ number ∷ []) (minus, number)
    → spells (product i) (ts ++ t ∷ (signs ++ number ∷ [])) (p ++ division t minus number)
unfolding product factor quotient
product_divided i t number minus ts signs p fits above s d =
    chain_two (unary i) (factor i) ts (t ∷ (signs ++ number ∷ [])) p (division t minus number) s
    (inr ((t, (minus, number)), refl, (t ∷ [], signs ++ number ∷ [], refl, (refl, fits), d)))

pub divisor_bare : (number : Token) → Fits (Number ∷ []) number → spells {L = text_tokens} (divisor) (number ∷ []) (None, number)
unfolding divisor
divisor_bare number fits = ([], number ∷ [], refl, refl, (refl, fits))

pub divisor_signed : (a : ℕ) (number : Token) → Fits (Number ∷ []) number
    → spells {L = text_tokens} (divisor) (signed_at sign.Minus a ∷ number ∷ []) (Some (signed_at sign.Minus a), number)
unfolding divisor
divisor_signed a number fits = (signed_at sign.Minus a ∷ [], number ∷ [], refl, (refl, refl), (refl, fits))

pub expression_is : (ts : List Token) (p : Phrase) → spells (disjunction (within open_limit)) ts p → spells (expression 0) ts p
unfolding expression
expression_is ts p s = s
