-- Reading prefix operators, parentheses and calls: what opens one more level, and what would be too deep.
use Rattle.std.proofs.Common.{◌≡◌, ℕ, zero, suc, ◌-◌, Bool, ◌||◌, true, false, List, [], ◌∷◌, ◌++◌, drop, refl, sym, ◌∙◌, ap, subst, arith}
use Rattle.std.proofs.lemmas.List.{append_assoc}
use Rattle.sc_values.specs.declared.operator.BinaryOperator.{BinaryOperator}
use Rattle.sc_values.specs.declared.operator.UnaryOperator.{UnaryOperator}
use Rattle.sc_values.specs.declared.operator.UnaryOperator.TheVariants as unary_operator
use Rattle.grammar.specs.Grammar.{Grammar, is_in, one, either, barred}
use Rattle.grammar.specs.Read.{Deep, Outcome, Got, Failed, starts, next, choose, read}
use Rattle.sc_text.specs.declared.token.Token.{Token}
use Rattle.sc_text.specs.declared.operation.TextOperation.{TextOperation}
use Rattle.sc_text.specs.declared.operation.TextOperation.TheVariants as op
use Rattle.sc_text.specs.declared.read_fault.ReadFault.{ReadFault}
use Rattle.sc_text.specs.declared.read_fault.ReadFault.TheVariants as fault
use Rattle.sc_text.specs.declared.word.Word.TheVariants as word
use Rattle.sc_text.specs.declared.sign.Sign.TheVariants as sign
use Rattle.sc_text.specs.Classes.{Class, TheSign, TheWord, class_of, same_class}
use Rattle.sc_text.specs.Phrases.{Phrase, prefixed}
use Rattle.sc_text.specs.Expression.{text_tokens, after, before, prefix, NoMore, Nested, leaf, parenthesized, operands, call, atom, unary, comparison, negation}
use Rattle.sc_text.specs.Expression.{disjunction, within, expression}
use Rattle.sc_text.specs.Levels.{calls, enclosing, TakesOperator}
use Rattle.sc_text.specs.Reading.{Stops, Reads, Takes, broken_by, place_of}
use Rattle.sc_text.proofs.Steps.{one_taken, next_stops, stops_as, seq_got, seq_stops_first, seq_stops_second}
use Rattle.sc_text.proofs.Chains.{right_stops_at_operand, right_reads_both}

abbrev pub deep_at : ℕ → List Token → ReadFault
deep_at end text = fault.Text (broken_by Deep) (place_of end text)

deep_stops : {A : Type 0} (end : ℕ) (o : Outcome Token A) (text : List Token) (f : ReadFault) → o ≡ Failed Deep text → f ≡ deep_at end text → Stops end o f
deep_stops end o text f e w = subst (Stops end o) (sym w) (record { flaw = Deep; rest = text; is = e; breaks = refl; place = refl })

abbrev paired : {A B : Type 0} → A → B → A × B
paired a b = (a, b)

one_less : (n : ℕ) → (n ≡ 0 → ⊥) → n ≡ suc (n - 1)
one_less zero z = absurd (z refl)
one_less (suc n) z = omega arith

-- ---- prefix operators

module _ (k : Class) (F : UnaryOperator) (inner base : Grammar text_tokens Phrase) where
  barred_plain : (text : List Token) → starts text_tokens (k ∷ []) text ≡ false → read (barred (k ∷ []) base) text ≡ read base text
  barred_plain text e = ap (λ b. choose b (Failed Deep text) (read base text)) e

  barred_deep : (text : List Token) → starts text_tokens (k ∷ []) text ≡ true → read (barred (k ∷ []) base) text ≡ Failed Deep text
  barred_deep text e = ap (λ b. choose b (Failed Deep text) (read base text)) e

  prefix_plain : (text : List Token) → starts text_tokens (k ∷ []) text ≡ false → read (either (prefix k F inner) base) text ≡ read base text
  prefix_plain text e = ap (λ b. choose b (read (prefix k F inner) text) (read base text)) e

  after_read : (o : Outcome Token Phrase) (t : Token) → next (next (next o (λ b end. Got (paired t b) end)) (λ x r. Got x.1 r)) (λ x r. Got (prefixed F x) r)
      ≡ next o (λ x r. Got (prefixed F x) r)
  after_read (Got p rest) t = refl
  after_read (Failed flaw rest) t = refl

  prefix_read : (text more : List Token) → starts text_tokens (k ∷ []) text ≡ true → more ≡ drop 1 text → read (either (prefix k F inner) base) text
      ≡ next (read inner more) (λ x r. Got (prefixed F x) r)
  prefix_read text more e r =
      let taken = one_taken (k ∷ []) text more e r in
      ap (λ b. choose b (read (prefix k F inner) text) (read base text)) e
      ∙ ap (λ o. next (next (next o (λ a rest. next (read inner rest) (λ b end. Got (paired a b) end))) (λ x r. Got x.1 r)) (λ x r. Got (prefixed F x) r))
      taken.is
      ∙ after_read (read inner more) taken.token

  pub prefix_reads : (o : Outcome Token Phrase) (more rest : List Token) (old mid new : List TextOperation)
      → o ≡ next (read inner more) (λ x r. Got (prefixed F x) r) → Reads (read inner more) old mid rest → new ≡ mid ++ op.Unary F ∷ [] → Reads o old new rest
  prefix_reads o more rest old mid new e r b =
      record {
        phrase = r.phrase ++ op.Unary F ∷ [];
        is = e ∙ ap (λ o. next o (λ x r. Got (prefixed F x) r)) r.is;
        behind = b ∙ ap (λ m. m ++ op.Unary F ∷ []) r.behind ∙ append_assoc old r.phrase (op.Unary F ∷ []);
      }

abbrev minus_sign : List Class
minus_sign = TheSign sign.Minus ∷ []

abbrev not_word : List Class
not_word = TheWord word.Not ∷ []

no_minus_read : (n : ℕ) (text : List Token) → starts text_tokens minus_sign text ≡ false → read (unary (within n)) text ≡ read (atom (within n)) text
unfolding unary within
no_minus_read zero text e = barred_plain (TheSign sign.Minus) unary_operator.Negate leaf (atom NoMore) text e
no_minus_read (suc n) text e =
    prefix_plain (TheSign sign.Minus) unary_operator.Negate (unary (within n)) (atom (Nested (disjunction (within n)) (negation (within n)) (unary (within n))))
    text e

minus_read : (n : ℕ) (text more : List Token) → (n ≡ 0 → ⊥) → starts text_tokens minus_sign text ≡ true → more ≡ drop 1 text → read (unary (within n)) text
    ≡ next (read (unary (within (n - 1))) more) (λ x r. Got (prefixed unary_operator.Negate x) r)
unfolding unary within
minus_read n text more z e r =
    ap (λ m. read (unary (within m)) text) (one_less n z)
    ∙ prefix_read (TheSign sign.Minus) unary_operator.Negate (unary (within (n - 1)))
    (atom (Nested (disjunction (within (n - 1))) (negation (within (n - 1))) (unary (within (n - 1))))) text more e r

no_not_read : (n : ℕ) (text : List Token) → starts text_tokens not_word text ≡ false → read (negation (within n)) text ≡ read (comparison (within n)) text
unfolding negation within
no_not_read zero text e = barred_plain (TheWord word.Not) unary_operator.Not leaf (comparison NoMore) text e
no_not_read (suc n) text e =
    prefix_plain (TheWord word.Not) unary_operator.Not (negation (within n))
    (comparison (Nested (disjunction (within n)) (negation (within n)) (unary (within n)))) text e

not_read : (n : ℕ) (text more : List Token) → (n ≡ 0 → ⊥) → starts text_tokens not_word text ≡ true → more ≡ drop 1 text → read (negation (within n)) text
    ≡ next (read (negation (within (n - 1))) more) (λ x r. Got (prefixed unary_operator.Not x) r)
unfolding negation within
not_read n text more z e r =
    ap (λ m. read (negation (within m)) text) (one_less n z)
    ∙ prefix_read (TheWord word.Not) unary_operator.Not (negation (within (n - 1)))
    (comparison (Nested (disjunction (within (n - 1))) (negation (within (n - 1))) (unary (within (n - 1))))) text more e r

module _ (n : ℕ) (text : List Token) (end : ℕ) (f : ReadFault) where
  pub no_minus_stops : starts text_tokens minus_sign text ≡ false → Stops end (read (atom (within n)) text) f → Stops end (read (unary (within n)) text) f
  no_minus_stops e s = stops_as end _ _ f (no_minus_read n text e) s

  pub minus_deep : n ≡ 0 → starts text_tokens minus_sign text ≡ true → f ≡ deep_at end text → Stops end (read (unary (within n)) text) f
  unfolding unary within
  minus_deep z e w =
      deep_stops end _ text f
      (subst (λ m. read (unary (within m)) text ≡ Failed Deep text) (sym z) (barred_deep (TheSign sign.Minus) unary_operator.Negate leaf (atom NoMore) text e))
      w

  pub negated_stops : (more : List Token) → (n ≡ 0 → ⊥) → starts text_tokens minus_sign text ≡ true → more ≡ drop 1 text
      → Stops end (read (unary (within (n - 1))) more) f → Stops end (read (unary (within n)) text) f
  negated_stops more z e r s = stops_as end _ _ f (minus_read n text more z e r) (next_stops end _ _ f s)

  pub no_not_stops : starts text_tokens not_word text ≡ false → Stops end (read (comparison (within n)) text) f → Stops end (read (negation (within n)) text) f
  no_not_stops e s = stops_as end _ _ f (no_not_read n text e) s

  pub not_deep : n ≡ 0 → starts text_tokens not_word text ≡ true → f ≡ deep_at end text → Stops end (read (negation (within n)) text) f
  unfolding negation within
  not_deep z e w =
      deep_stops end _ text f
      (subst (λ m. read (negation (within m)) text ≡ Failed Deep text) (sym z)
      (barred_deep (TheWord word.Not) unary_operator.Not leaf (comparison NoMore) text e)) w

  pub not_stops : (more : List Token) → (n ≡ 0 → ⊥) → starts text_tokens not_word text ≡ true → more ≡ drop 1 text
      → Stops end (read (negation (within (n - 1))) more) f → Stops end (read (negation (within n)) text) f
  not_stops more z e r s = stops_as end _ _ f (not_read n text more z e r) (next_stops end _ _ f s)

module _ (n : ℕ) (text rest : List Token) (old new : List TextOperation) where
  pub no_minus_reads : starts text_tokens minus_sign text ≡ false → Reads (read (atom (within n)) text) old new rest
      → Reads (read (unary (within n)) text) old new rest
  no_minus_reads e r = record { phrase = r.phrase; is = no_minus_read n text e ∙ r.is; behind = r.behind }

  pub negated_reads : (more : List Token) (mid : List TextOperation) → (n ≡ 0 → ⊥) → starts text_tokens minus_sign text ≡ true → more ≡ drop 1 text
      → Reads (read (unary (within (n - 1))) more) old mid rest → new ≡ mid ++ op.Unary unary_operator.Negate ∷ []
      → Reads (read (unary (within n)) text) old new rest
  negated_reads more mid z e d r b = prefix_reads (TheSign sign.Minus) unary_operator.Negate (unary (within (n - 1))) leaf _ more rest old mid new
      (minus_read n text more z e d) r b

  pub no_not_reads : starts text_tokens not_word text ≡ false → Reads (read (comparison (within n)) text) old new rest
      → Reads (read (negation (within n)) text) old new rest
  no_not_reads e r = record { phrase = r.phrase; is = no_not_read n text e ∙ r.is; behind = r.behind }

  pub not_reads : (more : List Token) (mid : List TextOperation) → (n ≡ 0 → ⊥) → starts text_tokens not_word text ≡ true → more ≡ drop 1 text
      → Reads (read (negation (within (n - 1))) more) old mid rest → new ≡ mid ++ op.Unary unary_operator.Not ∷ []
      → Reads (read (negation (within n)) text) old new rest
  not_reads more mid z e d r b = prefix_reads (TheWord word.Not) unary_operator.Not (negation (within (n - 1))) leaf _ more rest old mid new
      (not_read n text more z e d) r b

-- ---- atoms

abbrev parenthesis : List Class
parenthesis = TheSign sign.OpenParenthesis ∷ []

either_test : (b c : Bool) → (b || false) ≡ true → (b || c) ≡ true
either_test true c e = refl
either_test false c e = absurd cc

other_test : (b c : Bool) → (b || false) ≡ false → (b || c) ≡ c
other_test true c e = absurd cc
other_test false c e = refl

encloses_parenthesis : (text : List Token) → starts text_tokens parenthesis text ≡ true → starts text_tokens enclosing text ≡ true
encloses_parenthesis [] e = absurd cc
encloses_parenthesis (t ∷ text) e = either_test (same_class (TheSign sign.OpenParenthesis) (class_of t.kind)) (is_in text_tokens calls (class_of t.kind)) e

encloses_as : (text : List Token) → starts text_tokens parenthesis text ≡ false → starts text_tokens enclosing text ≡ starts text_tokens calls text
encloses_as [] e = refl
encloses_as (t ∷ text) e = other_test (same_class (TheSign sign.OpenParenthesis) (class_of t.kind)) (is_in text_tokens calls (class_of t.kind)) e

atom_flat : (n : ℕ) (text : List Token) → n ≡ 0 → read (atom (within n)) text ≡ choose (starts text_tokens enclosing text) (Failed Deep text) (read leaf text)
unfolding atom within
atom_flat n text z = ap (λ m. read (atom (within m)) text) z

atom_nested : (n : ℕ) (text : List Token) → (n ≡ 0 → ⊥) → read (atom (within n)) text
    ≡ choose (starts text_tokens enclosing text) (choose (starts text_tokens parenthesis text) (read (parenthesized (disjunction (within (n - 1)))) text)
    (read (call (disjunction (within (n - 1)))) text)) (read leaf text)
unfolding atom within parenthesized call
atom_nested n text z = ap (λ m. read (atom (within m)) text) (one_less n z)

module _ (n : ℕ) (text : List Token) where
  inside_read : (z : n ≡ 0 → ⊥) → starts text_tokens parenthesis text ≡ true → read (atom (within n)) text
      ≡ read (parenthesized (disjunction (within (n - 1)))) text
  inside_read z e =
      atom_nested n text z
      ∙ ap (λ b. choose b (choose (starts text_tokens parenthesis text) (read (parenthesized (disjunction (within (n - 1)))) text)
      (read (call (disjunction (within (n - 1)))) text)) (read leaf text)) (encloses_parenthesis text e)
      ∙ ap (λ b. choose b (read (parenthesized (disjunction (within (n - 1)))) text) (read (call (disjunction (within (n - 1)))) text)) e

  call_read : (z : n ≡ 0 → ⊥) → starts text_tokens parenthesis text ≡ false → starts text_tokens calls text ≡ true → read (atom (within n)) text
      ≡ read (call (disjunction (within (n - 1)))) text
  call_read z e d =
      atom_nested n text z
      ∙ ap (λ b. choose b (choose (starts text_tokens parenthesis text) (read (parenthesized (disjunction (within (n - 1)))) text)
      (read (call (disjunction (within (n - 1)))) text)) (read leaf text)) (encloses_as text e ∙ d)
      ∙ ap (λ b. choose b (read (parenthesized (disjunction (within (n - 1)))) text) (read (call (disjunction (within (n - 1)))) text)) e

  leaf_read : (z : n ≡ 0 → ⊥) → starts text_tokens parenthesis text ≡ false → starts text_tokens calls text ≡ false → read (atom (within n)) text
      ≡ read leaf text
  leaf_read z e d =
      atom_nested n text z
      ∙ ap (λ b. choose b (choose (starts text_tokens parenthesis text) (read (parenthesized (disjunction (within (n - 1)))) text)
      (read (call (disjunction (within (n - 1)))) text)) (read leaf text)) (encloses_as text e ∙ d)

  flat_read : n ≡ 0 → starts text_tokens enclosing text ≡ false → read (atom (within n)) text ≡ read leaf text
  flat_read z e = atom_flat n text z ∙ ap (λ b. choose b (Failed Deep text) (read leaf text)) e

  pub atom_deep : (end : ℕ) (f : ReadFault) → n ≡ 0 → starts text_tokens enclosing text ≡ true → f ≡ deep_at end text
      → Stops end (read (atom (within n)) text) f
  atom_deep end f z e w = deep_stops end _ text f (atom_flat n text z ∙ ap (λ b. choose b (Failed Deep text) (read leaf text)) e) w

  pub flat_leaf_stops : (end : ℕ) (f : ReadFault) → n ≡ 0 → starts text_tokens enclosing text ≡ false → Stops end (read leaf text) f
      → Stops end (read (atom (within n)) text) f
  flat_leaf_stops end f z e s = stops_as end _ _ f (flat_read z e) s

  pub flat_leaf_reads : (rest : List Token) (old new : List TextOperation) → n ≡ 0 → starts text_tokens enclosing text ≡ false
      → Reads (read leaf text) old new rest → Reads (read (atom (within n)) text) old new rest
  flat_leaf_reads rest old new z e r = record { phrase = r.phrase; is = flat_read z e ∙ r.is; behind = r.behind }

  pub inside_stops : (more : List Token) (end : ℕ) (f : ReadFault) → (n ≡ 0 → ⊥) → starts text_tokens parenthesis text ≡ true → more ≡ drop 1 text
      → Stops end (read (before (disjunction (within (n - 1))) (TheSign sign.CloseParenthesis ∷ [])) more) f → Stops end (read (atom (within n)) text) f
  unfolding parenthesized
  inside_stops more end f z e d s =
      let taken = one_taken parenthesis text more e d in
      stops_as end _ _ f (inside_read z e)
      (seq_stops_second _ (one parenthesis) (before (disjunction (within (n - 1))) (TheSign sign.CloseParenthesis ∷ [])) end text more taken.token f
      taken.is s)

  pub inside_reads : (more rest : List Token) (old new : List TextOperation) → (n ≡ 0 → ⊥) → starts text_tokens parenthesis text ≡ true → more ≡ drop 1 text
      → Reads (read (before (disjunction (within (n - 1))) (TheSign sign.CloseParenthesis ∷ [])) more) old new rest
      → Reads (read (atom (within n)) text) old new rest
  unfolding parenthesized
  inside_reads more rest old new z e d r =
      let taken = one_taken parenthesis text more e d in
      record {
        phrase = r.phrase;
        is = inside_read z e ∙ seq_got _ (one parenthesis) (before (disjunction (within (n - 1))) (TheSign sign.CloseParenthesis ∷ [])) text more rest
            taken.token r.phrase taken.is r.is;
        behind = r.behind;
      }

  pub call_stops : (end : ℕ) (f : ReadFault) → (n ≡ 0 → ⊥) → starts text_tokens parenthesis text ≡ false → starts text_tokens calls text ≡ true
      → Stops end (read (call (disjunction (within (n - 1)))) text) f → Stops end (read (atom (within n)) text) f
  call_stops end f z e d s = stops_as end _ _ f (call_read z e d) s

  pub call_reads : (rest : List Token) (old new : List TextOperation) → (n ≡ 0 → ⊥) → starts text_tokens parenthesis text ≡ false
      → starts text_tokens calls text ≡ true → Reads (read (call (disjunction (within (n - 1)))) text) old new rest
      → Reads (read (atom (within n)) text) old new rest
  call_reads rest old new z e d r = record { phrase = r.phrase; is = call_read z e d ∙ r.is; behind = r.behind }

  pub leaf_stops : (end : ℕ) (f : ReadFault) → (n ≡ 0 → ⊥) → starts text_tokens parenthesis text ≡ false → starts text_tokens calls text ≡ false
      → Stops end (read leaf text) f → Stops end (read (atom (within n)) text) f
  leaf_stops end f z e d s = stops_as end _ _ f (leaf_read z e d) s

  pub leaf_reads : (rest : List Token) (old new : List TextOperation) → (n ≡ 0 → ⊥) → starts text_tokens parenthesis text ≡ false
      → starts text_tokens calls text ≡ false → Reads (read leaf text) old new rest → Reads (read (atom (within n)) text) old new rest
  leaf_reads rest old new z e d r = record { phrase = r.phrase; is = leaf_read z e d ∙ r.is; behind = r.behind }

-- ---- calls

module _ (e : Grammar text_tokens Phrase) (text : List Token) where
  abbrev to_comma : Grammar text_tokens Phrase
  to_comma = before e (TheSign sign.Comma ∷ [])

  abbrev to_close : Grammar text_tokens Phrase
  to_close = before e (TheSign sign.CloseParenthesis ∷ [])

  pub function_stops : (end : ℕ) (f : ReadFault) → Stops end (read (one {L = text_tokens} calls) text) f → Stops end (read (call e) text) f
  unfolding call
  function_stops end f s = seq_stops_first _ (one calls) (operands e) end text f s

  pub opening_stops : (rest : List Token) (o : BinaryOperator) (end : ℕ) (f : ReadFault) → TakesOperator (read (one {L = text_tokens} calls) text) o rest
      → Stops end (read (one {L = text_tokens} parenthesis) rest) f → Stops end (read (call e) text) f
  unfolding call operands
  opening_stops rest o end f t s =
      right_stops_at_operand calls (operands e) end text rest o f t
      (seq_stops_first _ (after parenthesis to_comma) to_close end rest f (seq_stops_first _ (one parenthesis) to_comma end rest f s))

  pub first_stops : (rest inside : List Token) (o : BinaryOperator) (end : ℕ) (f : ReadFault) → TakesOperator (read (one {L = text_tokens} calls) text) o rest
      → Takes (read (one {L = text_tokens} parenthesis) rest) inside → Stops end (read to_comma inside) f → Stops end (read (call e) text) f
  unfolding call operands
  first_stops rest inside o end f t p s =
      right_stops_at_operand calls (operands e) end text rest o f t
      (seq_stops_first _ (after parenthesis to_comma) to_close end rest f (seq_stops_second _ (one parenthesis) to_comma end rest inside p.token f p.is s))

  pub second_stops : (rest inside second : List Token) (o : BinaryOperator) (old mid : List TextOperation) (end : ℕ) (f : ReadFault)
      → TakesOperator (read (one {L = text_tokens} calls) text) o rest → Takes (read (one {L = text_tokens} parenthesis) rest) inside
      → Reads (read to_comma inside) old mid second → Stops end (read to_close second) f → Stops end (read (call e) text) f
  unfolding call operands
  second_stops rest inside second o old mid end f t p r s =
      right_stops_at_operand calls (operands e) end text rest o f t
      (seq_stops_second _ (after parenthesis to_comma) to_close end rest second r.phrase f
      (seq_got _ (one parenthesis) to_comma rest inside second p.token r.phrase p.is r.is) s)

  pub called_reads : (rest inside second more : List Token) (o : BinaryOperator) (old mid later new : List TextOperation)
      → TakesOperator (read (one {L = text_tokens} calls) text) o rest → Takes (read (one {L = text_tokens} parenthesis) rest) inside
      → Reads (read to_comma inside) old mid second → Reads (read to_close second) mid later more → new ≡ later ++ op.Binary o ∷ []
      → Reads (read (call e) text) old new more
  unfolding call operands
  called_reads rest inside second more o old mid later new t p r q b =
      right_reads_both calls (operands e) text rest more o old later new t
      (record {
        phrase = r.phrase ++ q.phrase;
        is = seq_got _ (after parenthesis to_comma) to_close rest second more r.phrase q.phrase
            (seq_got _ (one parenthesis) to_comma rest inside second p.token r.phrase p.is r.is) q.is;
        behind = q.behind ∙ ap (λ m. m ++ q.phrase) r.behind ∙ append_assoc old r.phrase q.phrase;
      }) b

-- ---- whole expressions

pub expression_stops : (text : List Token) (end : ℕ) (f : ReadFault) → Stops end (read (disjunction (within 64)) text) f
    → Stops end (read (expression 0) text) f
unfolding expression
expression_stops text end f s = s

pub expression_reads : (text rest : List Token) (old new : List TextOperation) → Reads (read (disjunction (within 64)) text) old new rest
    → Reads (read (expression 0) text) old new rest
unfolding expression
expression_reads text rest old new r = r
