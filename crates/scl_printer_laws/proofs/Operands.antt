-- A printed operand, in parentheses or without, is cut into tokens that spell it.
use Rattle.std.proofs.Common.{◌≡◌, ℕ, zero, suc, ◌+◌, Bool, true, false, List, [], ◌∷◌, ◌++◌, length, append_assoc, codes, refl, sym, ap, subst, ◌∙◌}
use Rattle.std.proofs.Common.{inl, inr, arith}
use Rattle.std.proofs.lemmas.List.{append-nil}
use Rattle.grammar.specs.Grammar.{spells}
use Rattle.grammar.proofs.Each.{Every, every_joined}
use Rattle.sc_values.specs.declared.operation.Operation.{Operation}
use Rattle.sc_text.specs.declared.sign.Sign.TheVariants as sign
use Rattle.sc_text.specs.declared.token.Token.{Token}
use Rattle.sc_text.specs.declared.operation.TextOperation.{TextOperation}
use Rattle.sc_text.specs.Phrases.{Phrase}
use Rattle.sc_text.specs.Expression.{Inner, within, atom, unary, negation, disjunction}
use Rattle.sc_text.specs.Flaws.{is_among, has_known_name}
use Rattle.sc_text.specs.Resolved.{code_of, operation_of}
use Rattle.scl_printer.specs.declared.parentheses.Parentheses.{Parentheses}
use Rattle.scl_printer.specs.declared.parentheses.Parentheses.TheVariants as parentheses
use Rattle.scl_printer.specs.declared.parentheses.Form.{Form}
use Rattle.scl_printer.specs.declared.parentheses.Form.TheVariants as form
use Rattle.scl_printer.specs.Expressions.{Shown, Opens, is_enclosed, enclosed_if, one_more_if, operand, operand_opens}
use Rattle.scl_printer_laws.proofs.Longest.{Closes, closes_quiet, Quiet, quiet_low, Plain}
use Rattle.scl_printer_laws.proofs.Cuts.{Cuts, cuts_both, cuts_sign, signed_at}
use Rattle.scl_printer_laws.proofs.Levels.{G, unary_atom, negation_unary, disjunction_negation, atom_parenthesized}

-- each name that is loaded is one of these
abbrev pub AreKnown : List (List ℕ) → Phrase → Type 0
AreKnown names p = Every (λ o. has_known_name (is_among names) o ≡ true) p

pub known_both : (names : List (List ℕ)) (p q : Phrase) → AreKnown names p → AreKnown names q → AreKnown names (p ++ q)
known_both names p q a b = every_joined (λ o. has_known_name (is_among names) o ≡ true) p q a b

pub known_then : (names : List (List ℕ)) (p : Phrase) (o : TextOperation) → AreKnown names p → has_known_name (is_among names) o ≡ true
    → AreKnown names (p ++ o ∷ [])
known_then names p o a b = known_both names p (o ∷ []) a (b, tt)

-- where the text stands before this rest, it is cut into tokens that spell these operations
pub record Reads (names : List (List ℕ)) (g : G) (text rest : List ℕ) (at : ℕ) (code : List Operation) : Type 0 where
  pub tokens : List Token
  pub phrase : Phrase
  pub cut : Cuts text rest at tokens
  pub spelled : spells g tokens phrase
  pub means : code_of names phrase ≡ code
  pub known : AreKnown names phrase

pub code_both : (names : List (List ℕ)) (p q : Phrase) → code_of names (p ++ q) ≡ code_of names p ++ code_of names q
code_both names [] q = refl
code_both names (o ∷ p) q = ap (λ c. operation_of names o ∷ c) (code_both names p q)

pub cuts_nil : (text rest : List ℕ) (at : ℕ) (ks : List Token) → Cuts text rest at ks → Cuts (text ++ []) rest at ks
cuts_nil text rest at ks c = subst (λ t. Cuts t rest at ks) (sym (append-nil text)) c

abbrev pub level_of : Form → Inner → G
level_of form.Whole i = atom i
level_of form.Minus i = unary i
level_of form.Not i = negation i
level_of form.Infix i = disjunction i

abbrev pub operand_level : Bool → Inner → G
operand_level true i = negation i
operand_level false i = unary i

atom_level : (t : Bool) (i : Inner) (ts : List Token) (p : Phrase) → spells (atom i) ts p → spells (operand_level t i) ts p
atom_level true i ts p s = negation_unary i ts p (unary_atom i ts p s)
atom_level false i ts p s = unary_atom i ts p s

bare_level : (p : Parentheses) (t : Bool) (f : Form) (i : Inner) (ts : List Token) (q : Phrase) → is_enclosed p t f ≡ false → spells (level_of f i) ts q
    → spells (operand_level t i) ts q
bare_level p t form.Whole i ts q e s = atom_level t i ts q s
bare_level p true form.Minus i ts q e s = negation_unary i ts q s
bare_level p false form.Minus i ts q e s = s
bare_level parentheses.Each true form.Not i ts q e s = absurd (cc)
bare_level parentheses.Few true form.Not i ts q e s = s
bare_level parentheses.Each false form.Not i ts q e s = absurd (cc)
bare_level parentheses.Few false form.Not i ts q e s = absurd (cc)
bare_level parentheses.Each t form.Infix i ts q e s = absurd (cc)
bare_level parentheses.Few t form.Infix i ts q e s = absurd (cc)

pub whole_level : (f : Form) (i : Inner) (ts : List Token) (q : Phrase) → spells (level_of f i) ts q → spells (disjunction i) ts q
whole_level form.Whole i ts q s = disjunction_negation i ts q (negation_unary i ts q (unary_atom i ts q s))
whole_level form.Minus i ts q s = disjunction_negation i ts q (negation_unary i ts q s)
whole_level form.Not i ts q s = disjunction_negation i ts q s
whole_level form.Infix i ts q s = s

-- what is printed of an expression reads so, wherever it stands
pub record Printed (names : List (List ℕ)) (p : Parentheses) (s : Shown) (o : Opens) (code : List Operation) : Type 0 where
  pub same : s.form ≡ o.form
  pub quiet : (rest : List ℕ) → Quiet (s.text ++ rest)
  pub reads : (n : ℕ) → o.at_most n ≡ true → (rest : List ℕ) → Closes rest → (at : ℕ) → Reads names (level_of s.form (within n)) s.text rest at code

pub opening_plain : Plain 40
opening_plain = record { no_letter = refl; no_digit = refl; no_blank = refl }

pub closing_plain : Plain 41
closing_plain = record { no_letter = refl; no_digit = refl; no_blank = refl }

module _ (names : List (List ℕ)) (p : Parentheses) (t : Bool) (s : Shown) (o : Opens) (code : List Operation) (h : Printed names p s o code) where
  quiet_by : (b : Bool) (rest : List ℕ) → Quiet (enclosed_if b s.text ++ rest)
  quiet_by true rest = quiet_low 40 ((s.text ++ codes ")") ++ rest) (omega arith)
  quiet_by false rest = h.quiet rest

  pub operand_quiet : (rest : List ℕ) → Quiet (operand p t s ++ rest)
  operand_quiet rest = quiet_by (is_enclosed p t s.form) rest

  enclosed : (n : ℕ) → o.at_most n ≡ true → (rest : List ℕ) → Closes rest → (at : ℕ)
      → Reads names (operand_level t (within (suc n))) (enclosed_if true s.text) rest at code
  enclosed n m rest closes at =
      let r = h.reads n m (41 ∷ rest) (inr (inl refl)) (at + 1) in
      let end : ℕ = at + 1 + length s.text in
      let open_token : Token = signed_at sign.OpenParenthesis at in
      let close_token : Token = signed_at sign.CloseParenthesis end in
      let quiet : Quiet ((s.text ++ 41 ∷ []) ++ rest) = subst Quiet (sym (append_assoc s.text (41 ∷ []) rest)) (h.quiet (41 ∷ rest)) in
      record {
        tokens = open_token ∷ (r.tokens ++ close_token ∷ []);
        phrase = r.phrase;
        cut = cuts_both (40 ∷ []) (s.text ++ 41 ∷ []) rest at (open_token ∷ []) (r.tokens ++ close_token ∷ [])
            (cuts_sign sign.OpenParenthesis 40 refl opening_plain ((s.text ++ 41 ∷ []) ++ rest) quiet at)
            (cuts_both s.text (41 ∷ []) rest (at + 1) r.tokens (close_token ∷ []) r.cut (cuts_sign sign.CloseParenthesis 41 refl closing_plain rest
            (closes_quiet rest closes) end));
        spelled = atom_level t (within (suc n)) _ r.phrase (atom_parenthesized n at end r.tokens r.phrase (whole_level s.form
            (within n) r.tokens r.phrase r.spelled));
        means = r.means;
        known = r.known;
      }

  reads_by : (b : Bool) → is_enclosed p t s.form ≡ b → (n : ℕ) → one_more_if b o.at_most n ≡ true → (rest : List ℕ) → Closes rest → (at : ℕ)
      → Reads names (operand_level t (within n)) (enclosed_if b s.text) rest at code
  reads_by false e n m rest closes at =
      let r = h.reads n m rest closes at in
      record {
        tokens = r.tokens;
        phrase = r.phrase;
        cut = r.cut;
        spelled = bare_level p t s.form (within n) r.tokens r.phrase e r.spelled;
        means = r.means;
        known = r.known;
      }
  reads_by true e zero m rest closes at = absurd (cc)
  reads_by true e (suc n) m rest closes at = enclosed n m rest closes at

  pub operand_reads : (n : ℕ) → operand_opens p t o n ≡ true → (rest : List ℕ) → Closes rest → (at : ℕ)
      → Reads names (operand_level t (within n)) (operand p t s) rest at code
  operand_reads n m rest closes at =
      reads_by (is_enclosed p t s.form) refl n (ap (λ f. one_more_if (is_enclosed p t f) o.at_most n) h.same ∙ m) rest closes at
