-- A printed operation of two operands is cut into tokens that spell it.
use Rattle.std.proofs.Common.{◌≡◌, ℕ, zero, suc, ◌+◌, Bool, true, false, ◌&&◌, List, [], ◌∷◌, ◌++◌, length, append_assoc, codes, refl, sym, ap}
use Rattle.std.proofs.Common.{subst, ◌∙◌, inl, inr, arith}
use Rattle.std.proofs.lemmas.Bool.{and_parts}
use Rattle.std.specs.List.{list_all}
use Rattle.grammar.specs.Grammar.{spells}
use Rattle.sc_values.specs.Name.{is_letter}
use Rattle.sc_values.specs.declared.operator.BinaryOperator.{BinaryOperator}
use Rattle.sc_values.specs.declared.operator.BinaryOperator.TheVariants as binary
use Rattle.sc_values.specs.declared.operation.Operation.{Operation}
use Rattle.sc_values.specs.declared.operation.Operation.TheVariants as op
use Rattle.sc_values.specs.declared.expression.Expr.TheOpen as tree
use Rattle.sc_graph.specs.declared.program.Variable.{Variable}
use Rattle.sc_text.specs.declared.word.Word.{Word}
use Rattle.sc_text.specs.declared.word.Word.TheVariants as word
use Rattle.sc_text.specs.declared.sign.Sign.{Sign}
use Rattle.sc_text.specs.declared.sign.Sign.TheVariants as sign
use Rattle.sc_text.specs.declared.token.Token.{Token}
use Rattle.sc_text.specs.declared.token.TokenKind.{TokenKind}
use Rattle.sc_text.specs.declared.token.TokenKind.TheVariants as kind
use Rattle.sc_text.specs.declared.operation.TextOperation.TheVariants as text_op
use Rattle.sc_text.specs.Words.{sign_text, word_text}
use Rattle.sc_text.specs.Pieces.{is_word_byte}
use Rattle.sc_text.specs.Classes.{TheWord}
use Rattle.sc_text.specs.Phrases.{Phrase, right_side, operator_of}
use Rattle.sc_text.specs.Expression.{within, atom, unary, sum, comparison, disjunction, comparisons}
use Rattle.sc_text.specs.Resolved.{code_of}
use Rattle.scl_printer.specs.declared.parentheses.Parentheses.{Parentheses}
use Rattle.scl_printer.specs.Expressions.{Shown, Opens, one_more_if, operand, operand_opens, shown_step, opens_step, is_infix, infix_text, binary_takes_not}
use Rattle.scl_printer_laws.proofs.Longest.{Closes, closes_quiet, Quiet, quiet_low, quiet_letter, Plain}
use Rattle.scl_printer_laws.proofs.Cuts.{Cuts, cuts_both, cuts_sign, cuts_pair, cuts_word, cuts_space, spaced, signed_at, worded_at}
use Rattle.scl_printer_laws.proofs.Levels.{Fits, sum_product, product_unary, comparison_sum, negation_comparison, negation_unary, conjunction_negation}
use Rattle.scl_printer_laws.proofs.Levels.{disjunction_conjunction, disjunction_negation, product_times, sum_by, comparison_by, conjunction_by}
use Rattle.scl_printer_laws.proofs.Levels.{disjunction_by, atom_call}
use Rattle.scl_printer_laws.proofs.Operands.{Reads, Printed, known_both, known_then, code_both, cuts_nil, operand_level, operand_quiet, operand_reads}
use Rattle.scl_printer_laws.proofs.Operands.{opening_plain, closing_plain}
use Rattle.scl_printer_laws.proofs.Unaries.{product_whole}

abbrev token_at : TokenKind → ℕ → Token
token_at k at = record { kind = k; at = at }

-- an operator between its operands: what it is written as, and how it spells with them
record Infix (f : BinaryOperator) : Type 1 where
  pub text : List ℕ
  pub sort : TokenKind
  pub written : infix_text f ≡ 32 ∷ (text ++ 32 ∷ [])
  pub cut : (rest : List ℕ) (at : ℕ) → Cuts text (32 ∷ rest) at (token_at sort at ∷ [])
  pub writes : operator_of sort ≡ f
  pub spells_it : (n at : ℕ) (ts us : List Token) (p q : Phrase) → spells (operand_level (binary_takes_not f) (within n)) ts p
      → spells (operand_level (binary_takes_not f) (within n)) us q
      → spells (disjunction (within n)) (ts ++ token_at sort at ∷ us) (p ++ right_side (token_at sort at) q)

sum_of : (n : ℕ) (ts : List Token) (p : Phrase) → spells (unary (within n)) ts p → spells (sum (within n)) ts p
sum_of n ts p s = sum_product (within n) ts p (product_unary (within n) ts p s)

comparison_whole : (n : ℕ) (ts : List Token) (p : Phrase) → spells (comparison (within n)) ts p → spells (disjunction (within n)) ts p
comparison_whole n ts p s = disjunction_negation (within n) ts p (negation_comparison (within n) ts p s)

compares : (s : Sign) (n at : ℕ) → Fits comparisons (signed_at s at) → (ts us : List Token) (p q : Phrase) → spells (unary (within n)) ts p
    → spells (unary (within n)) us q
    → spells (disjunction (within n)) (ts ++ signed_at s at ∷ us) (p ++ right_side (signed_at s at) q)
compares s n at fits ts us p q a b =
    comparison_whole n _ _ (comparison_by (within n) (signed_at s at) ts us p q fits (sum_of n ts p a) (sum_of n us q b))

one_cut : (s : Sign) (b : ℕ) → sign_text s ≡ b ∷ [] → Plain b → (rest : List ℕ) (at : ℕ) → Cuts (sign_text s) (32 ∷ rest) at (signed_at s at ∷ [])
one_cut s b is plain rest at = cuts_sign s b is plain (32 ∷ rest) (quiet_low 32 rest (omega arith)) at

plus_plain : Plain 43
plus_plain = record { no_letter = refl; no_digit = refl; no_blank = refl }

minus_plain : Plain 45
minus_plain = record { no_letter = refl; no_digit = refl; no_blank = refl }

star_plain : Plain 42
star_plain = record { no_letter = refl; no_digit = refl; no_blank = refl }

less_plain : Plain 60
less_plain = record { no_letter = refl; no_digit = refl; no_blank = refl }

greater_plain : Plain 62
greater_plain = record { no_letter = refl; no_digit = refl; no_blank = refl }

equal_plain : Plain 61
equal_plain = record { no_letter = refl; no_digit = refl; no_blank = refl }

bang_plain : Plain 33
bang_plain = record { no_letter = refl; no_digit = refl; no_blank = refl }

comma_plain : Plain 44
comma_plain = record { no_letter = refl; no_digit = refl; no_blank = refl }

infix_of : (f : BinaryOperator) → is_infix f ≡ true → Infix f
infix_of binary.Add e = record {
  text = codes "+";
  sort = kind.Sign sign.Plus;
  written = refl;
  cut = one_cut sign.Plus 43 refl plus_plain;
  writes = refl;
  spells_it = λ n at ts us p q a b. comparison_whole n _ _ (comparison_sum (within n) _ _ (sum_by (within n) (signed_at sign.Plus at) ts us p q refl
      (product_unary (within n) ts p a) (product_unary (within n) us q b)));
}
infix_of binary.Subtract e = record {
  text = codes "-";
  sort = kind.Sign sign.Minus;
  written = refl;
  cut = one_cut sign.Minus 45 refl minus_plain;
  writes = refl;
  spells_it = λ n at ts us p q a b. comparison_whole n _ _ (comparison_sum (within n) _ _ (sum_by (within n) (signed_at sign.Minus at) ts us p q refl
      (product_unary (within n) ts p a) (product_unary (within n) us q b)));
}
infix_of binary.Multiply e = record {
  text = codes "*";
  sort = kind.Sign sign.Star;
  written = refl;
  cut = one_cut sign.Star 42 refl star_plain;
  writes = refl;
  spells_it = λ n at ts us p q a b. product_whole n _ _ (product_times (within n) (signed_at sign.Star at) ts us p q refl a b);
}
infix_of binary.Min e = absurd (cc)
infix_of binary.Max e = absurd (cc)
infix_of binary.And e = record {
  text = codes "and";
  sort = kind.Word word.And;
  written = refl;
  cut = λ rest at. cuts_word word.And 97 (codes "nd") refl refl refl (32 ∷ rest) refl at;
  writes = refl;
  spells_it = λ n at ts us p q a b. disjunction_conjunction (within n) _ _ (conjunction_by (within n) (worded_at word.And at) ts us p q refl a b);
}
infix_of binary.Or e = record {
  text = codes "or";
  sort = kind.Word word.Or;
  written = refl;
  cut = λ rest at. cuts_word word.Or 111 (codes "r") refl refl refl (32 ∷ rest) refl at;
  writes = refl;
  spells_it = λ n at ts us p q a b. disjunction_by (within n) (worded_at word.Or at) ts us p q refl (conjunction_negation (within n) ts p a)
      (conjunction_negation (within n) us q b);
}
infix_of binary.Equal e = record {
  text = codes "==";
  sort = kind.Sign sign.Equal;
  written = refl;
  cut = λ rest at. cuts_pair sign.Equal 61 61 refl equal_plain (λ e. omega (arith, e)) (32 ∷ rest) at;
  writes = refl;
  spells_it = λ n at. compares sign.Equal n at refl;
}
infix_of binary.NotEqual e = record {
  text = codes "!=";
  sort = kind.Sign sign.NotEqual;
  written = refl;
  cut = λ rest at. cuts_pair sign.NotEqual 33 61 refl bang_plain (λ e. omega (arith, e)) (32 ∷ rest) at;
  writes = refl;
  spells_it = λ n at. compares sign.NotEqual n at refl;
}
infix_of binary.Less e = record {
  text = codes "<";
  sort = kind.Sign sign.Less;
  written = refl;
  cut = one_cut sign.Less 60 refl less_plain;
  writes = refl;
  spells_it = λ n at. compares sign.Less n at refl;
}
infix_of binary.LessOrEqual e = record {
  text = codes "<=";
  sort = kind.Sign sign.LessOrEqual;
  written = refl;
  cut = λ rest at. cuts_pair sign.LessOrEqual 60 61 refl less_plain (λ e. omega (arith, e)) (32 ∷ rest) at;
  writes = refl;
  spells_it = λ n at. compares sign.LessOrEqual n at refl;
}
infix_of binary.Greater e = record {
  text = codes ">";
  sort = kind.Sign sign.Greater;
  written = refl;
  cut = one_cut sign.Greater 62 refl greater_plain;
  writes = refl;
  spells_it = λ n at. compares sign.Greater n at refl;
}
infix_of binary.GreaterOrEqual e = record {
  text = codes ">=";
  sort = kind.Sign sign.GreaterOrEqual;
  written = refl;
  cut = λ rest at. cuts_pair sign.GreaterOrEqual 62 61 refl greater_plain (λ e. omega (arith, e)) (32 ∷ rest) at;
  writes = refl;
  spells_it = λ n at. compares sign.GreaterOrEqual n at refl;
}

module _ (names : List (List ℕ)) (p : Parentheses) (variables : List Variable) (s u : Shown) (o v : Opens) (c d : List Operation)
    (h : Printed names p s o c) (i : Printed names p u v d) where
  abbrev left : Bool → List ℕ
  left t = operand p t s

  abbrev right : Bool → List ℕ
  right t = operand p t u

  added : (f : BinaryOperator) (k : Token) (q r : Phrase) → operator_of k.kind ≡ f → code_of names q ≡ c → code_of names r ≡ d
      → code_of names (q ++ right_side k r) ≡ c ++ d ++ op.Binary f ∷ []
  added f k q r is e g =
      code_both names q (right_side k r)
      ∙ ap (λ x. x ++ code_of names (right_side k r)) e
      ∙ ap (λ x. c ++ x)
      (code_both names r (text_op.Binary (operator_of k.kind) ∷ [])
      ∙ ap (λ x. x ++ op.Binary (operator_of k.kind) ∷ []) g
      ∙ ap (λ x. d ++ op.Binary x ∷ []) is)
      ∙ sym (append_assoc c d (op.Binary f ∷ []))

  between : (f : BinaryOperator) → Infix f → (n : ℕ) → operand_opens p (binary_takes_not f) o n && operand_opens p (binary_takes_not f) v n ≡ true
      → (rest : List ℕ) → Closes rest → (at : ℕ)
      → (text : List ℕ) → text ≡ infix_text f
      → Reads names (disjunction (within n)) (left (binary_takes_not f) ++ (text ++ (right (binary_takes_not f) ++ []))) rest at (c ++ d ++ op.Binary f ∷ [])
  between f x n m rest closes at text is =
      let t : Bool = binary_takes_not f in
      let both = and_parts (operand_opens p t o n) (operand_opens p t v n) m in
      let sp : List ℕ = 32 ∷ (x.text ++ 32 ∷ []) in
      let tail : List ℕ = right t ++ [] in
      let a = operand_reads names p t s o c h n both.0 ((sp ++ tail) ++ rest) (inl refl) at in
      let end : ℕ = at + length (left t) in
      let k : Token = token_at x.sort (end + 1) in
      let b = operand_reads names p t u v d i n both.1 rest closes (end + length sp) in
      subst (λ w. Reads names (disjunction (within n)) (left t ++ (w ++ tail)) rest at (c ++ d ++ op.Binary f ∷ [])) (sym (is ∙ x.written))
      (record {
        tokens = a.tokens ++ k ∷ b.tokens;
        phrase = a.phrase ++ right_side k b.phrase;
        cut = cuts_both (left t) (sp ++ tail) rest at a.tokens (k ∷ b.tokens) a.cut
            (cuts_both sp tail rest end (k ∷ []) b.tokens (spaced x.text (tail ++ rest) end x.sort (x.cut (tail ++ rest) (end + 1))) (cuts_nil
            (right t) rest (end + length sp) b.tokens b.cut));
        spelled = x.spells_it n (end + 1) a.tokens b.tokens a.phrase b.phrase a.spelled b.spelled;
        means = added f k a.phrase b.phrase x.writes a.means b.means;
        known = known_both names a.phrase (right_side k b.phrase) a.known (known_then names b.phrase (text_op.Binary (operator_of k.kind)) b.known refl);
      })

  whole : (n : ℕ) (ts : List Token) (q : Phrase) → spells (unary (within n)) ts q → spells (disjunction (within n)) ts q
  whole n ts q s = disjunction_negation (within n) ts q (negation_unary (within n) ts q s)

  -- a function of both operands
  called : (f : BinaryOperator) (w : Word) (first : ℕ) (more : List ℕ) → word_text w ≡ first ∷ more → is_letter first ≡ true
      → list_all is_word_byte more ≡ true → length more ≡ 2 → operator_of (kind.Word w) ≡ f
      → ((at : ℕ) → Fits (TheWord word.Min ∷ TheWord word.Max ∷ []) (worded_at w at))
      → (n : ℕ) → one_more_if true (λ k. operand_opens p false o k && operand_opens p false v k) n ≡ true → (rest : List ℕ) → Closes rest → (at : ℕ)
      → Reads names (atom (within n)) ((word_text w ++ 40 ∷ []) ++ (left false ++ (codes ", " ++ (right false ++ codes ")")))) rest at
      (c ++ d ++ op.Binary f ∷ [])
  called f w first more is letter bytes long writes fits zero m rest closes at = absurd (cc)
  called f w first more is letter bytes long writes fits (suc n) m rest closes at =
      let both = and_parts (operand_opens p false o n) (operand_opens p false v n) m in
      let tail : List ℕ = codes ", " ++ (right false ++ codes ")") in
      let opened : ℕ = at + length (word_text w) in
      let start : ℕ = at + length (word_text w ++ 40 ∷ []) in
      let a = operand_reads names p false s o c h n both.0 (tail ++ rest) (inr (inr (inl refl))) start in
      let comma : ℕ = start + length (left false) in
      let b = operand_reads names p false u v d i n both.1 (41 ∷ rest) (inr (inl refl)) (comma + 2) in
      let end : ℕ = comma + 2 + length (right false) in
      let k : Token = worded_at w at in
      let one : List Token = signed_at sign.OpenParenthesis opened ∷ (a.tokens ++ signed_at sign.Comma comma ∷ []) in
      let closing : Token = signed_at sign.CloseParenthesis end in
      let quiet : Quiet ((left false ++ tail) ++ rest) = subst Quiet (sym (append_assoc (left false) tail rest)) (operand_quiet names p false s o c h
      (tail ++ rest)) in
      let grouped : a.tokens ++ (signed_at sign.Comma comma ∷ (b.tokens ++ closing ∷ [])) ≡ (a.tokens ++ signed_at sign.Comma comma ∷ []) ++
      (b.tokens ++ closing ∷ []) =
      sym (append_assoc a.tokens (signed_at sign.Comma comma ∷ []) (b.tokens ++ closing ∷ [])) in
      record {
        tokens = k ∷ (signed_at sign.OpenParenthesis opened ∷ (a.tokens ++ (signed_at sign.Comma comma ∷ (b.tokens ++ closing ∷ []))));
        phrase = right_side k (a.phrase ++ b.phrase);
        cut = cuts_both (word_text w ++ 40 ∷ []) (left false ++ tail) rest at (k ∷ signed_at sign.OpenParenthesis opened ∷ []) (a.tokens ++
            (signed_at sign.Comma comma ∷ (b.tokens ++ closing ∷ [])))
            (cuts_both (word_text w) (40 ∷ []) ((left false ++ tail) ++ rest) at (k ∷ []) (signed_at sign.OpenParenthesis opened ∷ [])
            (cuts_word w first more is letter bytes (40 ∷ ((left false ++ tail) ++ rest)) refl at)
            (cuts_sign sign.OpenParenthesis 40 refl opening_plain ((left false ++ tail) ++ rest) quiet opened))
            (cuts_both (left false) tail rest start a.tokens (signed_at sign.Comma comma ∷ (b.tokens ++ closing ∷ [])) a.cut
            (cuts_both (codes ", ") (right false ++ codes ")") rest comma (signed_at sign.Comma comma ∷ []) (b.tokens ++ closing ∷ [])
            (cuts_both (44 ∷ []) (32 ∷ []) ((right false ++ codes ")") ++ rest) comma (signed_at sign.Comma comma ∷ []) []
            (cuts_sign sign.Comma 44 refl comma_plain (32 ∷ ((right false ++ codes ")") ++ rest)) (quiet_low 32 ((right false ++ codes ")") ++ rest)
            (omega arith)) comma)
            (cuts_space ((right false ++ codes ")") ++ rest) (comma + 1)))
            (cuts_both (right false) (41 ∷ []) rest (comma + 2) b.tokens (closing ∷ []) b.cut (cuts_sign sign.CloseParenthesis 41 refl closing_plain rest
            (closes_quiet rest closes) end))));
        spelled = subst (λ ts. spells (atom (within (suc n))) (k ∷ (signed_at sign.OpenParenthesis opened ∷ ts)) (right_side k (a.phrase ++ b.phrase)))
            (sym grouped)
            (atom_call n opened comma end k a.tokens b.tokens a.phrase b.phrase (fits at) (whole n a.tokens a.phrase a.spelled)
            (whole n b.tokens b.phrase b.spelled));
        means = ap (code_of names) (append_assoc a.phrase b.phrase (text_op.Binary (operator_of (kind.Word w)) ∷ []))
            ∙ added f k a.phrase b.phrase writes a.means b.means;
        known = known_then names (a.phrase ++ b.phrase) (text_op.Binary (operator_of k.kind)) (known_both names a.phrase b.phrase a.known b.known) refl;
      }

  quiet_left : (t : Bool) (tail rest : List ℕ) → Quiet ((left t ++ tail) ++ rest)
  quiet_left t tail rest = subst Quiet (sym (append_assoc (left t) tail rest)) (operand_quiet names p t s o c h (tail ++ rest))

  abbrev Done : BinaryOperator → Type 0
  Done f = Printed names p (shown_step p variables (tree.Binary f s u)) (opens_step p (tree.Binary f o v)) (c ++ d ++ op.Binary f ∷ [])

  pub binary_printed : (f : BinaryOperator) → Done f
  binary_printed binary.Min = record {
    same = refl;
    quiet = λ rest. quiet_letter 109 (codes "in(" ++ (left false ++ (codes ", " ++ (right false ++ codes ")"))) ++ rest) refl;
    reads = called binary.Min word.Min 109 (codes "in") refl refl refl refl refl (λ at. refl);
  }
  binary_printed binary.Max = record {
    same = refl;
    quiet = λ rest. quiet_letter 109 (codes "ax(" ++ (left false ++ (codes ", " ++ (right false ++ codes ")"))) ++ rest) refl;
    reads = called binary.Max word.Max 109 (codes "ax") refl refl refl refl refl (λ at. refl);
  }
  binary_printed binary.Add = record {
    same = refl;
    quiet = quiet_left false _;
    reads = λ n m rest closes at. between binary.Add
        (infix_of binary.Add refl) n m rest closes at _ refl;
  }
  binary_printed binary.Subtract = record {
    same = refl;
    quiet = quiet_left false _;
    reads = λ n m rest closes at. between binary.Subtract
        (infix_of binary.Subtract refl) n m rest closes at _ refl;
  }
  binary_printed binary.Multiply = record {
    same = refl;
    quiet = quiet_left false _;
    reads = λ n m rest closes at. between binary.Multiply
        (infix_of binary.Multiply refl) n m rest closes at _ refl;
  }
  binary_printed binary.And = record {
    same = refl;
    quiet = quiet_left true _;
    reads = λ n m rest closes at. between binary.And
        (infix_of binary.And refl) n m rest closes at _ refl;
  }
  binary_printed binary.Or = record {
    same = refl;
    quiet = quiet_left true _;
    reads = λ n m rest closes at. between binary.Or
        (infix_of binary.Or refl) n m rest closes at _ refl;
  }
  binary_printed binary.Equal = record {
    same = refl;
    quiet = quiet_left false _;
    reads = λ n m rest closes at. between binary.Equal
        (infix_of binary.Equal refl) n m rest closes at _ refl;
  }
  binary_printed binary.NotEqual = record {
    same = refl;
    quiet = quiet_left false _;
    reads = λ n m rest closes at. between binary.NotEqual
        (infix_of binary.NotEqual refl) n m rest closes at _ refl;
  }
  binary_printed binary.Less = record {
    same = refl;
    quiet = quiet_left false _;
    reads = λ n m rest closes at. between binary.Less
        (infix_of binary.Less refl) n m rest closes at _ refl;
  }
  binary_printed binary.LessOrEqual = record {
    same = refl;
    quiet = quiet_left false _;
    reads = λ n m rest closes at. between binary.LessOrEqual
        (infix_of binary.LessOrEqual refl) n m rest closes at _ refl;
  }
  binary_printed binary.Greater = record {
    same = refl;
    quiet = quiet_left false _;
    reads = λ n m rest closes at. between binary.Greater
        (infix_of binary.Greater refl) n m rest closes at _ refl;
  }
  binary_printed binary.GreaterOrEqual = record {
    same = refl;
    quiet = quiet_left false _;
    reads = λ n m rest closes at. between binary.GreaterOrEqual
        (infix_of binary.GreaterOrEqual refl) n m rest closes at _ refl;
  }
