-- A printed if reads as itself where the statements in it do.
use Rattle.std.proofs.Common.{◌≡◌, ℕ, zero, suc, ◌+◌, Option, Some, None, List, [], ◌∷◌, ◌++◌, map, length, append_assoc, codes, refl}
use Rattle.std.proofs.Common.{sym, ◌∙◌, ap, subst, inl, inr, arith}
use Rattle.grammar.specs.Grammar.{spells}
use Rattle.grammar.proofs.Each.{Every}
use Rattle.sc_values.specs.declared.value.Kind.TheVariants as kind_is
use Rattle.sc_values.specs.declared.expression.Expr.{Expr}
use Rattle.sc_values.specs.Expr.{postorder}
use Rattle.sc_text.specs.declared.word.Word.TheVariants as word
use Rattle.sc_text.specs.declared.sign.Sign.TheVariants as sign
use Rattle.sc_text.specs.declared.token.Token.{Token}
use Rattle.sc_text.specs.declared.drafts.parts.TextExpression.{TextExpression}
use Rattle.sc_text.specs.declared.drafts.parts.Declaration.{Declaration}
use Rattle.sc_text.specs.DraftParts.{expressed}
use Rattle.sc_text.specs.Flaws.{variable_names, expression_flaws}
use Rattle.sc_text.specs.Resolved.{expression_of, variables_of}
use Rattle.sc_text.proofs.Distinct.{AreFirst}
use Rattle.scl.specs.declared.statement.Statement.{Statement}
use Rattle.scl.specs.declared.statement.Statement.TheOpen as open_statement
use Rattle.scl.specs.declared.statement.Statement.TheVariants as statement
use Rattle.scl.specs.declared.statement.Statement.TheVariants.{rolls-If}
use Rattle.scl.specs.declared.statement.Statement.TheFolds.{fold-roll-Statement}
use Rattle.scl.specs.Rules as rules
use Rattle.scl.specs.Rules.{part_of}
use Rattle.scl_printer.specs.Expressions.{expression_text}
use Rattle.scl_printer.specs.Layout.{line, in_row, else_text, statement_text}
use Rattle.scl_reader.specs.declared.text_drafts.statement.TextStatement.{TextStatement}
use Rattle.scl_reader.specs.declared.text_drafts.statement.TextStatement.TheOpen as text
use Rattle.scl_reader.specs.declared.text_drafts.statement.TextStatement.TheVariants as variant
use Rattle.scl_reader.specs.declared.text_drafts.statement.TextStatement.TheVariants.{rolls-If as rolls-text-If}
use Rattle.scl_reader.specs.declared.text_drafts.statement.TextStatement.TheFolds.{fold-roll-TextStatement}
use Rattle.scl_reader.specs.Flaws as flaws
use Rattle.scl_reader.specs.Statements.{Statements, none_or_them}
use Rattle.scl_reader.specs.Program.{Grows, choice}
use Rattle.scl_reader.specs.Within.{within}
use Rattle.scl_reader.specs.Resolved.{resolved, statement_of, statements_of}
use Rattle.sc_text.specs.Expression.{expression}
use Rattle.scl_printer_laws.proofs.Longest.{Quiet}
use Rattle.scl_printer_laws.proofs.Cuts.{Cuts, cuts_both, signed_at, worded_at}
use Rattle.scl_printer_laws.proofs.Lines.{begins_at, cuts_line}
use Rattle.scl_printer_laws.proofs.LineParts.{cuts_if, cuts_then, cuts_between, cuts_close}
use Rattle.scl_printer_laws.proofs.Values.{Valued, value_quiet}
use Rattle.scl_printer_laws.proofs.Spelling.{Otherwise, else_of, if_is, within_if}
use Rattle.scl_printer_laws.proofs.SoundValues.{expression_sound, expression_meant}
use Rattle.scl_printer_laws.proofs.ThreadParts.{CanTest, Can, can_first, can_second, can_tested, Like, like_nothing, like_both}
use Rattle.scl_printer_laws.proofs.StatementTexts.{text_of_if}
use Rattle.scl_printer_laws.proofs.StatementReads.{texts_of, StatementReads, RowReads, Reads, reads_as, row_reads}
use Rattle.scl_printer_laws.proofs.SimpleReads.{value_reads}

-- the brace that closes the first list is there, and what may stand behind it
record OtherwiseReads (V : List Declaration) (s : Grows TextStatement) (text rest : List ℕ) (at : ℕ) (statements : List Statement) : Type 0 where
  pub closing : ℕ
  pub tokens : List Token
  pub other : Option Statements
  pub cut : Cuts text rest at (signed_at sign.CloseBrace closing ∷ tokens)
  pub spelled : spells (Otherwise s) tokens other
  pub means : statements_of (variable_names V) (none_or_them other) ≡ statements
  pub like : Like (flaws.in_row (flaws.parts_of V (none_or_them other))) (rules.in_row (map part_of statements))

-- the tokens, as the lines have them and as the grammar has them
grouped : (i p q o c : Token) (es ts us : List Token)
    → (i ∷ p ∷ (es ++ (q ∷ o ∷ []))) ++ (ts ++ c ∷ us) ≡ i ∷ ((p ∷ (es ++ q ∷ [])) ++ ((o ∷ (ts ++ c ∷ [])) ++ us))
grouped i p q o c es ts us =
    ap (λ z. i ∷ p ∷ z)
    (append_assoc es (q ∷ o ∷ []) (ts ++ c ∷ us)
    ∙ ap (λ z. es ++ q ∷ o ∷ z) (sym (append_assoc ts (c ∷ []) us))
    ∙ sym (append_assoc es (q ∷ []) (o ∷ ((ts ++ c ∷ []) ++ us))))

module _ (V : List Declaration) (first : AreFirst (variable_names V)) where
  abbrev vn : List (List ℕ)
  vn = variable_names V

  otherwise_reads : (statements : List Statement) → Every (Reads V) statements → (forks ifs : ℕ) → Can V forks ifs (rules.in_row (map part_of statements))
      → (level : ℕ) (rest : List ℕ) (at : ℕ)
      → OtherwiseReads V (within forks ifs) (else_text (texts_of V statements) level ++ line (codes "}") level) rest at statements
  otherwise_reads [] e forks ifs can level rest at = record {
    closing = begins_at level at;
    tokens = [];
    other = None;
    cut = cuts_line level (codes "}") rest at (signed_at sign.CloseBrace (begins_at level at) ∷ []) (cuts_close rest (begins_at level at));
    spelled = refl;
    means = refl;
    like = like_nothing;
  }
  otherwise_reads (s ∷ statements) e forks ifs can level rest at =
      let all : List Statement = s ∷ statements in
      let opening : List ℕ = line (codes "} else {") level in
      let row : List ℕ = in_row (texts_of V all) (suc level) in
      let last : List ℕ = line (codes "}") level in
      let b : ℕ = begins_at level at in
      let inner : ℕ = at + length opening in
      let r : RowReads V (within forks ifs) row (last ++ rest) inner all = row_reads V all e forks ifs can (suc level) (last ++ rest) inner in
      let end : ℕ = begins_at level (inner + length row) in
      let between : List Token = signed_at sign.CloseBrace b ∷ worded_at word.Else (b + 2) ∷ signed_at sign.OpenBrace (b + 2 + 4 + 1) ∷ [] in
      let closed : List Token = signed_at sign.CloseBrace end ∷ [] in
      record {
        closing = b;
        tokens = worded_at word.Else (b + 2) ∷ (signed_at sign.OpenBrace (b + 2 + 4 + 1) ∷ (r.tokens ++ closed));
        other = Some r.meaning;
        cut = subst (λ t. Cuts t rest at (between ++ (r.tokens ++ closed))) (sym (append_assoc opening row last))
            (cuts_both opening (row ++ last) rest at between (r.tokens ++ closed)
            (cuts_line level (codes "} else {") ((row ++ last) ++ rest) at between
            (cuts_between word.Else 101 (codes "lse") refl refl refl ((row ++ last) ++ rest) b))
            (cuts_both row last rest inner r.tokens closed r.cut
            (cuts_line level (codes "}") rest (inner + length row) closed (cuts_close rest end))));
        spelled = else_of (within forks ifs) (b + 2) (b + 2 + 4 + 1) end r.tokens r.meaning r.spelled;
        means = r.means;
        like = r.like;
      }

  rules_of_if : (e : Expr) (a b : List Statement) → part_of (statement.If e a b)
      ≡ rules.tested e (rules.both (rules.in_row (map part_of a)) (rules.in_row (map part_of b)))
  rules_of_if e a b = ap part_of (sym (rolls-If e a b)) ∙ fold-roll-Statement rules.Part rules.part (open_statement.If e a b)

  flaws_of_if : (at : ℕ) (t : TextExpression) (a b : Statements) → flaws.part_of V (variant.If at t a b)
      ≡ flaws.both (flaws.only_flaws (expression_flaws V (Some kind_is.Bool) t))
      (flaws.both (flaws.in_row (flaws.parts_of V a)) (flaws.in_row (flaws.parts_of V b)))
  flaws_of_if at t a b =
      ap (flaws.part_of V) (sym (rolls-text-If at t a b)) ∙ fold-roll-TextStatement flaws.Part (flaws.part V) (text.If at t a b)

  meant_if : (at : ℕ) (t : TextExpression) (a b : Statements)
      → statement_of vn (variant.If at t a b) ≡ statement.If (expression_of vn t.operations) (statements_of vn a) (statements_of vn b)
  meant_if at t a b =
      ap (statement_of vn) (sym (rolls-text-If at t a b)) ∙ fold-roll-TextStatement Statement (resolved vn) (text.If at t a b)

  -- an if around lists of which this is known
  like_tested : (fs : flaws.Part) (q : flaws.Part) (e : Expr) (p : rules.Part) → fs ≡ flaws.nothing → Like q p → Like (flaws.both fs q) (rules.tested e p)
  like_tested fs q e p none a = subst (λ x. Like (flaws.both x q) (rules.tested e p)) (sym none) (record {
    labels = a.labels;
    gotos = a.gotos;
    counted = a.counted;
    flawless = a.flawless;
  })

  if_where : (e : Expr) (a b : List Statement) → Every (Reads V) a → Every (Reads V) b → (forks ifs : ℕ)
      → Can V forks (suc ifs) (rules.tested e (rules.both (rules.in_row (map part_of a)) (rules.in_row (map part_of b)))) → (level : ℕ) (rest : List ℕ) (at : ℕ)
      → StatementReads V (within forks (suc ifs)) (statement_text (variables_of V) (statement.If e a b) level) rest at (statement.If e a b)
  if_where e a b ha hb forks ifs c level rest at =
      let inside = can_tested V forks ifs e (rules.both (rules.in_row (map part_of a)) (rules.in_row (map part_of b))) c in
      let here : CanTest V e = c.tests.0 in
      let shown : List ℕ = expression_text (variables_of V) e in
      let opening : List ℕ = codes "if (" ++ (shown ++ codes ") {") in
      let one : List ℕ = line opening level in
      let row : List ℕ = in_row (texts_of V a) (suc level) in
      let last : List ℕ = else_text (texts_of V b) level ++ line (codes "}") level in
      let more : List ℕ = (row ++ last) ++ rest in
      let start : ℕ = begins_at level at in
      let end : ℕ = start + 4 + length shown in
      let inner : ℕ = at + length one in
      let v : Valued vn shown (codes ") {" ++ 10 ∷ more) (start + 4) (postorder e) =
      value_reads V first kind_is.Bool e here.kept here.write (codes ") {" ++ 10 ∷ more) (inr (inl refl)) (start + 4) in
      let r : RowReads V (within forks ifs) row (last ++ rest) inner a =
      row_reads V a ha forks ifs (can_first V forks ifs (rules.in_row (map part_of a)) (rules.in_row (map part_of b)) inside)
      (suc level) (last ++ rest) inner in
      let o : OtherwiseReads V (within forks ifs) last rest (inner + length row) b =
      otherwise_reads b hb forks ifs (can_second V forks ifs (rules.in_row (map part_of a)) (rules.in_row (map part_of b)) inside) level rest
      (inner + length row) in
      let t : TextExpression = expressed (v.value.0, v.value.1) in
      let i : Token = worded_at word.If start in
      let p : Token = signed_at sign.OpenParenthesis (start + 3) in
      let q : Token = signed_at sign.CloseParenthesis end in
      let k : Token = signed_at sign.OpenBrace (end + 1 + 1) in
      let d : Token = signed_at sign.CloseBrace o.closing in
      let lined : List Token = (i ∷ p ∷ (v.tokens ++ (q ∷ k ∷ []))) ++ (r.tokens ++ d ∷ o.tokens) in
      let m : TextStatement = variant.If start t r.meaning (none_or_them o.other) in
      let same = grouped i p q k d v.tokens r.tokens o.tokens in
      let begun : Quiet ((shown ++ codes ") {") ++ 10 ∷ more) =
      subst Quiet (sym (append_assoc shown (codes ") {") (10 ∷ more))) (value_quiet (variables_of V) e here.write (codes ") {" ++ 10 ∷ more)) in
      reads_as V (within forks (suc ifs)) (statement_text (variables_of V) (statement.If e a b) level) (one ++ (row ++ last)) rest at (statement.If e a b)
      (rules.tested e (rules.both (rules.in_row (map part_of a)) (rules.in_row (map part_of b)))) lined m
      (flaws.both (flaws.only_flaws (expression_flaws V (Some kind_is.Bool) t))
      (flaws.both (flaws.in_row (flaws.parts_of V r.meaning)) (flaws.in_row (flaws.parts_of V (none_or_them o.other)))))
      (ap (λ f. f level) (text_of_if (variables_of V) e a b)) (rules_of_if e a b) (flaws_of_if start t r.meaning (none_or_them o.other))
      (meant_if start t r.meaning (none_or_them o.other)
      ∙ ap (λ w. statement.If w (statements_of vn r.meaning) (statements_of vn (none_or_them o.other))) (expression_meant vn v.value.1 e v.means)
      ∙ ap (λ w. statement.If e w (statements_of vn (none_or_them o.other))) r.means
      ∙ ap (λ w. statement.If e a w) o.means)
      (cuts_both one (row ++ last) rest at (i ∷ p ∷ (v.tokens ++ (q ∷ k ∷ []))) (r.tokens ++ d ∷ o.tokens)
      (cuts_line level opening more at (i ∷ p ∷ (v.tokens ++ (q ∷ k ∷ [])))
      (cuts_both (codes "if (") (shown ++ codes ") {") (10 ∷ more) start (i ∷ p ∷ []) (v.tokens ++ (q ∷ k ∷ []))
      (cuts_if ((shown ++ codes ") {") ++ 10 ∷ more) start begun)
      (cuts_both shown (codes ") {") (10 ∷ more) (start + 4) v.tokens (q ∷ k ∷ []) v.cut (cuts_then more end))))
      (cuts_both row last rest inner r.tokens (d ∷ o.tokens) r.cut o.cut))
      (within_if forks ifs lined m
      (subst (λ ts. spells (choice (expression 0) (within forks ifs)) ts m) (sym same)
      (if_is (within forks ifs) start (start + 3) end (end + 1 + 1) o.closing v.tokens r.tokens o.tokens v.value r.meaning o.other
      v.spelled r.spelled o.spelled)))
      (like_tested (flaws.only_flaws (expression_flaws V (Some kind_is.Bool) t))
      (flaws.both (flaws.in_row (flaws.parts_of V r.meaning)) (flaws.in_row (flaws.parts_of V (none_or_them o.other)))) e
      (rules.both (rules.in_row (map part_of a)) (rules.in_row (map part_of b)))
      (ap flaws.only_flaws (expression_sound V kind_is.Bool e t here.kept v.means v.known))
      (like_both (flaws.in_row (flaws.parts_of V r.meaning)) (flaws.in_row (flaws.parts_of V (none_or_them o.other))) (rules.in_row (map part_of a))
      (rules.in_row (map part_of b)) r.like o.like))

  pub if_reads : (e : Expr) (a b : List Statement) → Every (Reads V) a → Every (Reads V) b → Reads V (statement.If e a b)
  if_reads e a b ha hb forks zero can level rest at =
      let c = subst (Can V forks 0) (rules_of_if e a b) can in
      let low = c.low_ifs in
      absurd (omega (arith, low))
  if_reads e a b ha hb forks (suc ifs) can level rest at = if_where e a b ha hb forks ifs (subst (Can V forks (suc ifs)) (rules_of_if e a b) can) level rest at
