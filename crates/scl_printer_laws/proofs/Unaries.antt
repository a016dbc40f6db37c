-- A printed operation of one operand is cut into tokens that spell it.
use Rattle.std.proofs.Common.{◌≡◌, ℕ, zero, suc, ◌+◌, ◌<◌, ◌≤◌, Bool, true, false, ℤ, pos, negsuc, unsigned_abs, Option, Some, None, List, [], ◌∷◌, ◌++◌}
use Rattle.std.proofs.Common.{length, append_assoc, codes, refl, sym, ap, subst, ◌∙◌, inl, arith}
use Rattle.std.specs.Fmt.{signed_decimal}
use Rattle.std.proofs.lemmas.List.{append-nil}
use Rattle.grammar.specs.Grammar.{spells}
use Rattle.sc_values.specs.declared.divisor.Divisor.{Divisor}
use Rattle.sc_values.specs.declared.operator.UnaryOperator.{UnaryOperator}
use Rattle.sc_values.specs.declared.operator.UnaryOperator.TheVariants as unary_operator
use Rattle.sc_values.specs.declared.operation.Operation.{Operation}
use Rattle.sc_values.specs.declared.operation.Operation.TheVariants as op
use Rattle.sc_values.specs.declared.expression.Expr.TheOpen as tree
use Rattle.sc_values.specs.Division.{divisor_of}
use Rattle.sc_values.proofs.Division.{divisor_of-number}
use Rattle.sc_graph.specs.declared.program.Variable.{Variable}
use Rattle.sc_text.specs.declared.word.Word.TheVariants as word
use Rattle.sc_text.specs.declared.sign.Sign.{Sign}
use Rattle.sc_text.specs.declared.sign.Sign.TheVariants as sign
use Rattle.sc_text.specs.declared.token.Token.{Token}
use Rattle.sc_text.specs.declared.token.TokenKind.TheVariants as kind
use Rattle.sc_text.specs.declared.operation.TextOperation.TheVariants as text_op
use Rattle.sc_text.specs.Words.{sign_text}
use Rattle.sc_text.specs.Classes.{Number}
use Rattle.sc_text.specs.Tokens.{number_limit}
use Rattle.sc_text.specs.Phrases.{Phrase, prefixed, number_of, signed, is_there, division, division_of, divided}
use Rattle.sc_text.specs.Expression.{text_tokens, within, unary, product, negation, disjunction, divisor}
use Rattle.sc_text.specs.Levels.{divisions}
use Rattle.sc_text.specs.Resolved.{code_of}
use Rattle.scl_printer.specs.declared.parentheses.Parentheses.{Parentheses}
use Rattle.scl_printer.specs.Expressions.{Shown, Opens, one_more_if, operand, operand_opens, shown_step, opens_step}
use Rattle.scl_printer_laws.specs.Reading.{CanWriteOperator}
use Rattle.scl_printer_laws.proofs.Longest.{Closes, Quiet, quiet_low, quiet_letter, Plain}
use Rattle.scl_printer_laws.proofs.Cuts.{Cuts, cuts_both, cuts_sign, cuts_word, cuts_space, spaced, signed_at, worded_at}
use Rattle.scl_printer_laws.proofs.Levels.{Fits, sum_product, comparison_sum, negation_comparison, disjunction_negation, unary_negated, negation_not}
use Rattle.scl_printer_laws.proofs.Levels.{product_divided, divisor_bare, divisor_signed}
use Rattle.scl_printer_laws.proofs.Numbers.{cuts_number, number_quiet}
use Rattle.scl_printer_laws.proofs.Operands.{Reads, Printed, AreKnown, known_then, code_both, cuts_nil, operand_quiet, operand_reads}

minus_plain : Plain 45
minus_plain = record { no_letter = refl; no_digit = refl; no_blank = refl }

slash_plain : Plain 47
slash_plain = record { no_letter = refl; no_digit = refl; no_blank = refl }

percent_plain : Plain 37
percent_plain = record { no_letter = refl; no_digit = refl; no_blank = refl }

pub product_whole : (n : ℕ) (ts : List Token) (q : Phrase) → spells (product (within n)) ts q → spells (disjunction (within n)) ts q
product_whole n ts q s =
    disjunction_negation (within n) ts q (negation_comparison (within n) ts q (comparison_sum (within n) ts q (sum_product (within n) ts q s)))

-- ---- a divisor

record Divides (z : ℤ) (rest : List ℕ) (at : ℕ) : Type 0 where
  pub signs : List Token
  pub minus : Option Token
  pub number : Token
  pub cut : Cuts (signed_decimal z) rest at (signs ++ number ∷ [])
  pub spelled : spells {L = text_tokens} (divisor) (signs ++ number ∷ []) (minus, number)
  pub fits : Fits (Number ∷ []) number
  pub value : signed (is_there minus) (number_of number.kind) ≡ z

number_at : ℕ → ℕ → Token
number_at n at = record { kind = kind.Number (pos n); at = at }

divides : (z : ℤ) → 0 < unsigned_abs z → unsigned_abs z ≤ number_limit → (rest : List ℕ) → Closes rest → (at : ℕ) → Divides z rest at
divides (pos zero) some low rest closes at = absurd (omega (arith, some))
divides (pos (suc n)) some low rest closes at = record {
  signs = [];
  minus = None;
  number = record { kind = kind.Number (pos (suc n)); at = at };
  cut = cuts_number (suc n) low rest closes at;
  spelled = divisor_bare (record { kind = kind.Number (pos (suc n)); at = at }) refl;
  fits = refl;
  value = refl;
}
divides (negsuc n) some low rest closes at = record {
  signs = signed_at sign.Minus at ∷ [];
  minus = Some (signed_at sign.Minus at);
  number = record { kind = kind.Number (pos (suc n)); at = at + 1 };
  cut = cuts_both (45 ∷ []) (signed_decimal (pos (suc n))) rest at (signed_at sign.Minus at ∷ []) (record {
    kind = kind.Number (pos
        (suc n));
    at = at + 1;
  } ∷ [])
      (cuts_sign sign.Minus 45 refl minus_plain (signed_decimal (pos (suc n)) ++ rest) (number_quiet (suc n) low rest) at)
      (cuts_number (suc n) low rest closes (at + 1));
  spelled = divisor_signed at (record { kind = kind.Number (pos (suc n)); at = at + 1 }) refl;
  fits = refl;
  value = refl;
}

module _ (names : List (List ℕ)) (p : Parentheses) (variables : List Variable) (s : Shown) (o : Opens) (code : List Operation)
    (h : Printed names p s o code) where
  abbrev inner : Bool → List ℕ
  inner t = operand p t s

  quiet_nil : (t : Bool) (rest : List ℕ) → Quiet ((inner t ++ []) ++ rest)
  quiet_nil t rest = subst (λ x. Quiet (x ++ rest)) (sym (append-nil (inner t))) (operand_quiet names p t s o code h rest)

  added : (f : UnaryOperator) (q : Phrase) → code_of names q ≡ code → code_of names (q ++ text_op.Unary f ∷ []) ≡ code ++ op.Unary f ∷ []
  added f q e = code_both names q (text_op.Unary f ∷ []) ∙ ap (λ c. c ++ op.Unary f ∷ []) e

  negate_reads : (n : ℕ) → one_more_if true (operand_opens p false o) n ≡ true → (rest : List ℕ) → Closes rest → (at : ℕ)
      → Reads names (unary (within n)) (45 ∷ (inner false ++ [])) rest at (code ++ op.Unary unary_operator.Negate ∷ [])
  negate_reads zero m rest closes at = absurd (cc)
  negate_reads (suc n) m rest closes at =
      let r = operand_reads names p false s o code h n m rest closes (at + 1) in
      record {
        tokens = signed_at sign.Minus at ∷ r.tokens;
        phrase = prefixed unary_operator.Negate r.phrase;
        cut = cuts_both (45 ∷ []) (inner false ++ []) rest at (signed_at sign.Minus at ∷ []) r.tokens
            (cuts_sign sign.Minus 45 refl minus_plain ((inner false ++ []) ++ rest) (quiet_nil false rest) at)
            (cuts_nil (inner false) rest (at + 1) r.tokens r.cut);
        spelled = unary_negated n at r.tokens r.phrase r.spelled;
        means = added unary_operator.Negate r.phrase r.means;
        known = known_then names r.phrase (text_op.Unary unary_operator.Negate) r.known refl;
      }

  not_reads : (n : ℕ) → one_more_if true (operand_opens p true o) n ≡ true → (rest : List ℕ) → Closes rest → (at : ℕ)
      → Reads names (negation (within n)) (codes "not " ++ (inner true ++ [])) rest at (code ++ op.Unary unary_operator.Not ∷ [])
  not_reads zero m rest closes at = absurd (cc)
  not_reads (suc n) m rest closes at =
      let r = operand_reads names p true s o code h n m rest closes (at + 4) in
      record {
        tokens = worded_at word.Not at ∷ r.tokens;
        phrase = prefixed unary_operator.Not r.phrase;
        cut = cuts_both (codes "not ") (inner true ++ []) rest at (worded_at word.Not at ∷ []) r.tokens
            (cuts_both (codes "not") (32 ∷ []) ((inner true ++ []) ++ rest) at (worded_at word.Not at ∷ []) []
            (cuts_word word.Not 110 (codes "ot") refl refl refl (32 ∷ ((inner true ++ []) ++ rest)) refl at)
            (cuts_space ((inner true ++ []) ++ rest) (at + 3)))
            (cuts_nil (inner true) rest (at + 4) r.tokens r.cut);
        spelled = negation_not n at r.tokens r.phrase r.spelled;
        means = added unary_operator.Not r.phrase r.means;
        known = known_then names r.phrase (text_op.Unary unary_operator.Not) r.known refl;
      }

  divided_is : (f : UnaryOperator) (d : Divisor) (t : Token) → division_of t.kind d ≡ f → (minus : Option Token) (number : Token)
      → signed (is_there minus) (number_of number.kind) ≡ d.number
      → division t minus number ≡ text_op.Unary f ∷ []
  divided_is f d t is minus number value =
      ap (λ z. divided t (divisor_of z)) value ∙ ap (divided t) (divisor_of-number d) ∙ ap (λ u. text_op.Unary u ∷ []) is

  divided_reads : (f : UnaryOperator) (d : Divisor) (g : Sign) (b : ℕ) → sign_text g ≡ b ∷ [] → Plain b → division_of (kind.Sign g) d ≡ f → ((at : ℕ)
      → Fits divisions (signed_at g at))
      → unsigned_abs d.number ≤ number_limit → (n : ℕ) → operand_opens p false o n ≡ true → (rest : List ℕ) → Closes rest → (at : ℕ)
      → Reads names (disjunction (within n)) (inner false ++ (32 ∷ (sign_text g ++ 32 ∷ []) ++ signed_decimal d.number)) rest at (code ++ op.Unary f ∷ [])
  divided_reads f d g b is plain means fits low n m rest closes at =
      let between : List ℕ = 32 ∷ (sign_text g ++ 32 ∷ []) in
      let digits : List ℕ = signed_decimal d.number in
      let r = operand_reads names p false s o code h n m ((between ++ digits) ++ rest) (inl refl) at in
      let end : ℕ = at + length (inner false) in
      let t : Token = signed_at g (end + 1) in
      let v = divides d.number d.not_zero low rest closes (end + length between) in
      record {
        tokens = r.tokens ++ t ∷ (v.signs ++ v.number ∷ []);
        phrase = r.phrase ++ division t v.minus v.number;
        cut = cuts_both (inner false) (between ++ digits) rest at r.tokens (t ∷ (v.signs ++ v.number ∷ [])) r.cut
            (cuts_both between digits rest end (t ∷ []) (v.signs ++ v.number ∷ [])
            (spaced (sign_text g) (digits ++ rest) end (kind.Sign g) (cuts_sign g b is plain (32 ∷ (digits ++ rest)) (quiet_low 32 (digits ++ rest)
            (omega arith)) (end + 1)))
            v.cut);
        spelled = product_whole n _ _ (product_divided (within n) t v.number v.minus r.tokens v.signs r.phrase (fits (end + 1)) v.fits r.spelled v.spelled);
        means = ap (λ q. code_of names (r.phrase ++ q)) (divided_is f d t means v.minus v.number v.value) ∙ added f r.phrase r.means;
        known = subst (λ q. AreKnown names (r.phrase ++ q)) (sym (divided_is f d t means v.minus v.number v.value))
            (known_then names r.phrase (text_op.Unary f) r.known refl);
      }

  pub unary_printed : (f : UnaryOperator) → CanWriteOperator f
      → Printed names p (shown_step p variables (tree.Unary f s)) (opens_step p (tree.Unary f o)) (code ++ op.Unary f ∷ [])
  unary_printed unary_operator.Negate w = record { same = refl; quiet = λ rest. quiet_low 45 ((inner false ++ []) ++ rest) (omega arith); reads = negate_reads }
  unary_printed unary_operator.Not w = record {
    same = refl;
    quiet = λ rest. quiet_letter 110 (codes "ot " ++
        (inner true ++ []) ++ rest) refl;
    reads = not_reads;
  }
  unary_printed (unary_operator.Divide d) w = record {
    same = refl;
    quiet = λ rest. subst Quiet (sym (append_assoc (inner false) (codes " / " ++ signed_decimal d.number) rest)) (operand_quiet names p false s o code h
        ((codes " / " ++ signed_decimal d.number) ++ rest));
    reads = divided_reads (unary_operator.Divide d) d sign.Slash 47 refl slash_plain refl (λ at. refl) w;
  }
  unary_printed (unary_operator.Remainder d) w = record {
    same = refl;
    quiet = λ rest. subst Quiet (sym (append_assoc (inner false) (codes " % " ++ signed_decimal d.number) rest)) (operand_quiet names p false s o code h
        ((codes " % " ++ signed_decimal d.number) ++ rest));
    reads = divided_reads (unary_operator.Remainder d) d sign.Percent 37 refl percent_plain refl (λ at. refl) w;
  }
