-- What a text can write, it can write again: each operation of an expression of a text.
use Rattle.std.proofs.Common.{◌≡◌, ℕ, zero, suc, ◌+◌, ◌≤◌, ℤ, pos, negsuc, Bool, true, false, not, ◌&&◌, IsTrue, List, [], ◌∷◌, ◌++◌, Option, Some, None, refl}
use Rattle.std.proofs.Common.{sym, ◌∙◌, ap, subst, arith}
use Rattle.std.specs.List.{list_all}
use Rattle.std.specs.Ordering.{int_eq}
use Rattle.std.proofs.lemmas.List.Folds.{list_all-append}
use Rattle.std.proofs.lemmas.Bool.Decides.{Decides-int_eq}
use Rattle.sc_values.specs.declared.divisor.Divisor.{Divisor}
use Rattle.sc_values.specs.declared.operator.UnaryOperator.{UnaryOperator}
use Rattle.sc_values.specs.declared.operator.UnaryOperator.TheVariants as unary_operator
use Rattle.sc_values.specs.Division.{divisor_of}
use Rattle.sc_values.proofs.Division.{divisor_of-is}
use Rattle.grammar.specs.Grammar.{Grammar}
use Rattle.grammar.proofs.Each.{Every, OfIt, Each, each_seq, each_either, each_maybe, each_many, each_made, each_barred}
use Rattle.sc_text.specs.declared.language.Language.{Language}
use Rattle.sc_text.specs.declared.token.Token.{Token}
use Rattle.sc_text.specs.declared.token.TokenKind.{TokenKind}
use Rattle.sc_text.specs.declared.token.TokenKind.TheVariants as kind
use Rattle.sc_text.specs.declared.sign.Sign.TheVariants as sign
use Rattle.sc_text.specs.declared.operation.TextOperation.TheVariants as op
use Rattle.sc_text.specs.Classes.{Class}
use Rattle.sc_text.specs.Tokens.{number_limit}
use Rattle.sc_text.specs.Parts.{is_writable_unary}
use Rattle.sc_text.specs.Writable.{is_writable_operation}
use Rattle.sc_text.specs.Phrases.{Phrase, all_of, none_or_it, leaf_of, number_of, signed, division_of, divided, division, is_there}
use Rattle.sc_text.specs.Expression.{text_tokens, right, chain, prefix, Inner, NoMore, Nested, leaf, parenthesized, operands, call, atom, unary, divisor}
use Rattle.sc_text.specs.Expression.{quotient, factor, product, sum, comparison, negation, conjunction, disjunction, within, expression}
use Rattle.sc_text.proofs.WellTokens.{IsWellKind, IsWell}
use Rattle.sc_text.proofs.EachPart.{each_token, each_kept, each_after, each_before}

-- each operation of the phrase can be written
abbrev pub CanWrite : Phrase → Type 0
CanWrite p = IsTrue (list_all is_writable_operation p)

both_written : (p q : Phrase) → CanWrite p → CanWrite q → CanWrite (p ++ q)
both_written p q a b =
    list_all-append is_writable_operation p q ∙ ap (λ x. x && list_all is_writable_operation q) a ∙ b

all_written : (phrases : List Phrase) → Every CanWrite phrases → CanWrite (all_of phrases)
all_written [] e = refl
all_written (p ∷ phrases) e = both_written p (all_of phrases) e.0 (all_written phrases e.1)

none_or_it_written : (p : Option Phrase) → OfIt CanWrite p → CanWrite (none_or_it p)
none_or_it_written None e = refl
none_or_it_written (Some p) e = e

leaf_written : (l : Language) (k : TokenKind) (at : ℕ) → IsWellKind l k → CanWrite (leaf_of k at ∷ [])
leaf_written l (kind.Name name) at h = refl
leaf_written l (kind.Number n) at h = subst (λ z. CanWrite (leaf_of (kind.Number z) at ∷ [])) (sym h.is) refl
leaf_written l (kind.Word w) at h = refl
leaf_written l (kind.Sign s) at h = refl

-- ---- no divisor of a text is -2147483648

abbrev least : ℤ
least = negsuc 2147483647

no_least : (m : ℕ) → m ≤ number_limit → (minus : Bool) → signed minus (pos m) ≡ least → ⊥
no_least m low false e = cc
no_least zero low true e = cc
no_least (suc n) low true e =
    let same : n ≡ 2147483647 = cc in
    omega (arith, same, low)

not_so : (b : Bool) → (b ≡ true → ⊥) → IsTrue (not b)
not_so true h = absurd (h refl)
not_so false h = refl

abbrev IsNotLeast : ℤ → Type 0
IsNotLeast n = IsTrue (not (int_eq n least))

number_not_least : (l : Language) (k : TokenKind) (minus : Bool) → IsWellKind l k → IsNotLeast (signed minus (number_of k))
number_not_least l (kind.Number n) minus h =
    subst (λ z. IsNotLeast (signed minus z)) (sym h.is)
    (not_so (int_eq (signed minus (pos h.value)) least) (λ e. no_least h.value h.low minus ((Decides-int_eq _ _).0 e)))
number_not_least l k false h = refl
number_not_least l k true h = refl

division_by_it : (k : TokenKind) (d : Divisor) → IsNotLeast d.number → CanWrite (op.Unary (division_of k d) ∷ [])
division_by_it (kind.Sign sign.Percent) d h = ap (λ b. b && true) h
division_by_it k d h = ap (λ b. b && true) h

divided_written : (operator : Token) (n : ℤ) → IsNotLeast n → (o : Option Divisor) → divisor_of n ≡ o → CanWrite (divided operator o)
divided_written operator n h None e = refl
divided_written operator n h (Some d) e =
    division_by_it operator.kind d (subst IsNotLeast (sym (divisor_of-is n d e)) h)

division_written : (l : Language) (operator number : Token) (minus : Option Token) → IsWell l number → CanWrite (division operator minus number)
division_written l operator number minus h =
    divided_written operator _ (number_not_least l number.kind (is_there minus) h) _ refl

-- ---- part by part of the grammar

module _ (l : Language) where
  abbrev Writes : Grammar text_tokens Phrase → Type 0
  Writes g = Each {L = text_tokens} (IsWell l) g CanWrite

  data Filled : Inner → Type 1 where
    none_more : Filled NoMore
    nested : (w n s : Grammar text_tokens Phrase) → Writes w → Writes n → Writes s → Filled (Nested w n s)

  right_writes : (classes : List Class) (g : Grammar text_tokens Phrase) → Writes g → Writes (right classes g)
  right_writes classes g a =
      each_made _ _ _ _ _ CanWrite (each_seq _ _ _ _ _ _ (each_token classes) a) (λ x h. both_written x.1 _ h.1 refl)

  chain_writes : (g h : Grammar text_tokens Phrase) → Writes g → Writes h → Writes (chain g h)
  chain_writes g h a b =
      each_made _ _ _ _ _ CanWrite (each_seq _ _ _ _ _ _ a (each_many _ _ _ b)) (λ x e. both_written x.0 (all_of x.1) e.0 (all_written x.1 e.1))

  prefix_writes : (operator : Class) (f : UnaryOperator) (g : Grammar text_tokens Phrase) → is_writable_unary f ≡ true → Writes g → Writes (prefix operator f g)
  prefix_writes operator f g free a =
      each_made _ _ _ _ _ CanWrite (each_after _ _ _ a) (λ p h. both_written p _ h (ap (λ b. b && true) free))

  leaf_writes : Writes leaf
  unfolding leaf
  leaf_writes = each_made _ _ _ _ _ CanWrite (each_kept _) (λ t h. leaf_written l t.kind t.at h)

  parenthesized_writes : (g : Grammar text_tokens Phrase) → Writes g → Writes (parenthesized g)
  unfolding parenthesized
  parenthesized_writes g a = each_after _ _ _ (each_before _ _ _ a)

  call_writes : (g : Grammar text_tokens Phrase) → Writes g → Writes (call g)
  unfolding call operands
  call_writes g a =
      right_writes _ _
      (each_made _ _ _ _ _ CanWrite (each_seq _ _ _ _ _ _ (each_after _ _ _ (each_before _ _ _ a)) (each_before _ _ _ a)) (λ x h. both_written x.0 x.1 h.0 h.1))

  atom_writes : (i : Inner) → Filled i → Writes (atom i)
  unfolding atom
  atom_writes i none_more = each_barred _ _ _ _ leaf_writes
  atom_writes i (nested w n s a b c) =
      each_either _ _ _ _ (each_either _ _ _ _ (parenthesized_writes w a) (call_writes w a)) leaf_writes

  unary_writes : (i : Inner) → Filled i → Writes (unary i)
  unfolding unary
  unary_writes i none_more = each_barred _ _ _ _ (atom_writes NoMore none_more)
  unary_writes i (nested w n s a b c) =
      each_either _ _ _ _ (prefix_writes _ unary_operator.Negate s refl c) (atom_writes (Nested w n s) (nested w n s a b c))

  quotient_writes : Writes quotient
  unfolding quotient divisor
  quotient_writes =
      each_made _ _ _ _ _ CanWrite
      (each_seq _ _ _ _ _ _ (each_token _) (each_seq _ _ _ _ _ _ (each_maybe _ _ _ (each_token _)) (each_kept _)))
      (λ x h. division_written l x.0 x.1.1 x.1.0 h.1.1)

  product_writes : (i : Inner) → Filled i → Writes (product i)
  unfolding product factor
  product_writes i f =
      chain_writes _ _ (unary_writes i f) (each_either _ _ _ _ (right_writes _ _ (unary_writes i f)) quotient_writes)

  sum_writes : (i : Inner) → Filled i → Writes (sum i)
  unfolding sum
  sum_writes i f = chain_writes _ _ (product_writes i f) (right_writes _ _ (product_writes i f))

  comparison_writes : (i : Inner) → Filled i → Writes (comparison i)
  unfolding comparison
  comparison_writes i f =
      each_made _ _ _ _ _ CanWrite (each_seq _ _ _ _ _ _ (sum_writes i f) (each_maybe _ _ _ (right_writes _ _ (sum_writes i f))))
      (λ x h. both_written x.0 (none_or_it x.1) h.0 (none_or_it_written x.1 h.1))

  negation_writes : (i : Inner) → Filled i → Writes (negation i)
  unfolding negation
  negation_writes i none_more = each_barred _ _ _ _ (comparison_writes NoMore none_more)
  negation_writes i (nested w n s a b c) =
      each_either _ _ _ _ (prefix_writes _ unary_operator.Not n refl b) (comparison_writes (Nested w n s) (nested w n s a b c))

  conjunction_writes : (i : Inner) → Filled i → Writes (conjunction i)
  unfolding conjunction
  conjunction_writes i f = chain_writes _ _ (negation_writes i f) (right_writes _ _ (negation_writes i f))

  disjunction_writes : (i : Inner) → Filled i → Writes (disjunction i)
  unfolding disjunction
  disjunction_writes i f = chain_writes _ _ (conjunction_writes i f) (right_writes _ _ (conjunction_writes i f))

  within_filled : (n : ℕ) → Filled (within n)
  unfolding within
  within_filled zero = none_more
  within_filled (suc n) =
      nested _ _ _ (disjunction_writes (within n) (within_filled n)) (negation_writes (within n) (within_filled n)) (unary_writes (within n) (within_filled n))

  -- each operation of an expression of a text can be written
  pub expression_writes : (k : ℕ) → Each {L = text_tokens} (IsWell l) (expression k) CanWrite
  unfolding expression
  expression_writes k = disjunction_writes (within (64 + k)) (within_filled (64 + k))
