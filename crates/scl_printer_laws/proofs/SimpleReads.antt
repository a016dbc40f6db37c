-- A printed statement in which no other stands reads as itself.
use Rattle.std.proofs.Common.{◌≡◌, ℕ, ◌+◌, false, Option, Some, None, List, [], ◌∷◌, ◌++◌, length, slice_get, codes, refl, sym, ◌∙◌, ap, subst}
use Rattle.std.proofs.Common.{inr, arith}
use Rattle.std.specs.Prelude.{option_map, option_and_then, unwrap_or}
use Rattle.std.proofs.lemmas.Option.{slice_get-map}
use Rattle.sc_values.specs.declared.value.Kind.{Kind}
use Rattle.sc_values.specs.declared.expression.Expr.{Expr}
use Rattle.sc_values.specs.Expr.{postorder}
use Rattle.sc_graph.specs.declared.program.Variable.{Variable}
use Rattle.sc_text.specs.declared.word.Word.TheVariants as word
use Rattle.sc_text.specs.declared.sign.Sign.TheVariants as sign
use Rattle.sc_text.specs.declared.token.Token.{Token}
use Rattle.sc_text.specs.declared.read_fault.FaultKind.TheVariants as broken
use Rattle.sc_text.specs.Parts.{IsExpression}
use Rattle.sc_text.specs.declared.drafts.parts.Named.{Named}
use Rattle.sc_text.specs.declared.drafts.parts.TextExpression.{TextExpression}
use Rattle.sc_text.specs.declared.drafts.parts.Declaration.{Declaration}
use Rattle.sc_text.specs.DraftParts.{named as named_token, expressed}
use Rattle.sc_text.specs.Flaws.{flaw_if, is_input, place_among, variable_names, variable_named, expression_flaws, assigned_flaws}
use Rattle.sc_text.specs.Resolved.{expression_of, variable_of, variables_of}
use Rattle.sc_text.proofs.Kinded.{kinds_of}
use Rattle.sc_text.proofs.Distinct.{AreFirst}
use Rattle.sc_text.proofs.Declared.{names_same}
use Rattle.scl.specs.declared.statement.Statement.{Statement}
use Rattle.scl.specs.declared.statement.Statement.TheOpen as open_statement
use Rattle.scl.specs.declared.statement.Statement.TheVariants as statement
use Rattle.scl.specs.declared.statement.Statement.TheVariants.{rolls-Assign, rolls-Label, rolls-Goto, rolls-Pause}
use Rattle.scl.specs.declared.statement.Statement.TheFolds.{fold-roll-Statement}
use Rattle.scl.specs.Rules as rules
use Rattle.scl.specs.Rules.{IsAssignment, part_of}
use Rattle.scl_printer.specs.Expressions.{named, expression_text}
use Rattle.scl_printer.specs.Layout.{line, statement_text}
use Rattle.scl_reader.specs.declared.text_drafts.statement.TextStatement.TheOpen as text
use Rattle.scl_reader.specs.declared.text_drafts.statement.TextStatement.TheVariants as variant
use Rattle.scl_reader.specs.declared.text_drafts.statement.TextStatement.TheVariants.{rolls-Assign as rolls-text-Assign, rolls-Label as rolls-text-Label}
use Rattle.scl_reader.specs.declared.text_drafts.statement.TextStatement.TheVariants.{rolls-Goto as rolls-text-Goto, rolls-Pause as rolls-text-Pause}
use Rattle.scl_reader.specs.declared.text_drafts.statement.TextStatement.TheFolds.{fold-roll-TextStatement}
use Rattle.scl_reader.specs.Flaws as flaws
use Rattle.scl_reader.specs.Within.{within}
use Rattle.scl_reader.specs.Resolved.{resolved, statement_of}
use Rattle.scl_reader.proofs.Pieces.{both_empty}
use Rattle.scl_printer_laws.specs.Reading.{CanWrite}
use Rattle.scl_printer_laws.proofs.Longest.{Closes}
use Rattle.scl_printer_laws.proofs.Cuts.{cuts_both, signed_at, worded_at}
use Rattle.scl_printer_laws.proofs.Lines.{CanName, named_at, begins_at, cuts_line, cuts_name, cuts_word_space}
use Rattle.scl_printer_laws.proofs.LineParts.{cuts_semicolon, cuts_colon, cuts_becomes, cuts_ending}
use Rattle.scl_printer_laws.proofs.Values.{Valued, valued}
use Rattle.scl_printer_laws.proofs.Spelling.{assign_is, label_is, goto_is, pause_is, within_simple}
use Rattle.scl_printer_laws.proofs.SoundValues.{flaw_none, expression_sound, expression_meant}
use Rattle.scl_printer_laws.proofs.SoundNames.{not_input}
use Rattle.scl_printer_laws.proofs.ThreadParts.{CanAssign, Can}
use Rattle.scl_printer_laws.proofs.StatementTexts.{text_of_assign, text_of_label, text_of_goto, text_of_pause}
use Rattle.scl_printer_laws.proofs.StatementReads.{Reads, reads_as}

-- ---- an assignment, as the rules have it and as the draft has it

-- the variable of this number, as it is declared, becomes a value of its kind
record Assigns (V : List Declaration) (x : ℕ) (e : Expr) : Type 0 where
  pub declared : Declaration
  pub is : slice_get V x ≡ Some declared
  pub no_input : is_input declared.role ≡ false
  pub value : IsExpression (kinds_of V) declared.kind e

assigns : (V : List Declaration) (x : ℕ) (e : Expr) → IsAssignment (variables_of V) x e → Assigns V x e
assigns V x e a = by_declared (slice_get V x) refl
  where
    by_declared : (o : Option Declaration) → slice_get V x ≡ o → Assigns V x e
    by_declared None is =
        let none : slice_get (variables_of V) x ≡ None = slice_get-map variable_of V x ∙ ap (option_map variable_of) is in
        let some = a.is_there in
        absurd (cc)
    by_declared (Some d) is =
        let there : slice_get (variables_of V) x ≡ Some (variable_of d) = slice_get-map variable_of V x ∙ ap (option_map variable_of) is in
        let some = a.is_there in
        let same : a.variable ≡ variable_of d = cc in
        record {
          declared = d;
          is = is;
          no_input = not_input d.role (λ e. a.no_input (ap (λ (v : Variable). v.role) same ∙ e));
          value = subst (λ (v : Variable). IsExpression (kinds_of V) v.kind e) same a.becomes;
        }

module _ (V : List Declaration) (first : AreFirst (variable_names V)) where
  abbrev vn : List (List ℕ)
  vn = variable_names V

  placed : (x : ℕ) (d : Declaration) → slice_get V x ≡ Some d → place_among vn d.named.name ≡ Some x
  placed x d is = first x d.named.name (slice_get-map (λ (y : Declaration). y.named.name) V x ∙ ap (option_map (λ (y : Declaration). y.named.name)) is)

  assigned_sound : (x : ℕ) (e : Expr) (a : Assigns V x e) (target : Named) (value : TextExpression) → target.name ≡ a.declared.named.name
      → expression_flaws V (Some a.declared.kind) value ≡ [] → assigned_flaws V (variable_named V target.name) target value ≡ []
  assigned_sound x e a target value same none =
      let d : Declaration = a.declared in
      let found : variable_named V target.name ≡ Some d =
      ap (λ n. option_and_then (slice_get V) (place_among vn n)) same ∙ ap (option_and_then (slice_get V)) (placed x d a.is) ∙ a.is in
      ap (λ o. assigned_flaws V o target value) found
      ∙ both_empty (flaw_if (is_input d.role) broken.Rule target.at) (expression_flaws V (Some d.kind) value)
      (flaw_none (is_input d.role) broken.Rule target.at a.no_input) none

  -- a printed expression, over the names of these variables
  pub value_reads : (k : Kind) (e : Expr) → IsExpression (kinds_of V) k e → CanWrite (variables_of V) e → (rest : List ℕ) → Closes rest → (at : ℕ)
      → Valued vn (expression_text (variables_of V) e) rest at (postorder e)
  value_reads k e is can rest closes at =
      subst (λ ns. Valued ns (expression_text (variables_of V) e) rest at (postorder e)) (names_same V)
      (valued (variables_of V) (kinds_of V) k e is can rest closes at)

  -- ---- each form, in the program and in the draft

  rules_of_assign : (x : ℕ) (e : Expr) → part_of (statement.Assign x e) ≡ rules.part (open_statement.Assign x e)
  rules_of_assign x e = ap part_of (sym (rolls-Assign x e)) ∙ fold-roll-Statement rules.Part rules.part (open_statement.Assign x e)

  rules_of_label : (name : List ℕ) → part_of (statement.Label name) ≡ rules.part (open_statement.Label name)
  rules_of_label name = ap part_of (sym (rolls-Label name)) ∙ fold-roll-Statement rules.Part rules.part (open_statement.Label name)

  rules_of_goto : (name : List ℕ) → part_of (statement.Goto name) ≡ rules.part (open_statement.Goto name)
  rules_of_goto name = ap part_of (sym (rolls-Goto name)) ∙ fold-roll-Statement rules.Part rules.part (open_statement.Goto name)

  rules_of_pause : part_of statement.Pause ≡ rules.part open_statement.Pause
  rules_of_pause = ap part_of (sym rolls-Pause) ∙ fold-roll-Statement rules.Part rules.part open_statement.Pause

  flaws_of_assign : (t : Named) (v : TextExpression) → flaws.part_of V (variant.Assign t v) ≡ flaws.part V (text.Assign t v)
  flaws_of_assign t v = ap (flaws.part_of V) (sym (rolls-text-Assign t v)) ∙ fold-roll-TextStatement flaws.Part (flaws.part V) (text.Assign t v)

  flaws_of_label : (l : Named) → flaws.part_of V (variant.Label l) ≡ flaws.part V (text.Label l)
  flaws_of_label l = ap (flaws.part_of V) (sym (rolls-text-Label l)) ∙ fold-roll-TextStatement flaws.Part (flaws.part V) (text.Label l)

  flaws_of_goto : (l : Named) → flaws.part_of V (variant.Goto l) ≡ flaws.part V (text.Goto l)
  flaws_of_goto l = ap (flaws.part_of V) (sym (rolls-text-Goto l)) ∙ fold-roll-TextStatement flaws.Part (flaws.part V) (text.Goto l)

  flaws_of_pause : (at : ℕ) → flaws.part_of V (variant.Pause at) ≡ flaws.part V (text.Pause at)
  flaws_of_pause at = ap (flaws.part_of V) (sym (rolls-text-Pause at)) ∙ fold-roll-TextStatement flaws.Part (flaws.part V) (text.Pause at)

  meant_assign : (t : Named) (v : TextExpression) → statement_of vn (variant.Assign t v) ≡ resolved vn (text.Assign t v)
  meant_assign t v = ap (statement_of vn) (sym (rolls-text-Assign t v)) ∙ fold-roll-TextStatement Statement (resolved vn) (text.Assign t v)

  meant_label : (l : Named) → statement_of vn (variant.Label l) ≡ resolved vn (text.Label l)
  meant_label l = ap (statement_of vn) (sym (rolls-text-Label l)) ∙ fold-roll-TextStatement Statement (resolved vn) (text.Label l)

  meant_goto : (l : Named) → statement_of vn (variant.Goto l) ≡ resolved vn (text.Goto l)
  meant_goto l = ap (statement_of vn) (sym (rolls-text-Goto l)) ∙ fold-roll-TextStatement Statement (resolved vn) (text.Goto l)

  meant_pause : (at : ℕ) → statement_of vn (variant.Pause at) ≡ resolved vn (text.Pause at)
  meant_pause at = ap (statement_of vn) (sym (rolls-text-Pause at)) ∙ fold-roll-TextStatement Statement (resolved vn) (text.Pause at)

  -- ---- each statement

  pub label_reads : (name : List ℕ) → Reads V (statement.Label name)
  label_reads name forks ifs can level rest at =
      let c : Can V forks ifs (rules.part (open_statement.Label name)) = subst (Can V forks ifs) (rules_of_label name) can in
      let b : ℕ = begins_at level at in
      let end : ℕ = b + length name in
      let l : Named = named_token (named_at name b) in
      let tokens : List Token = named_at name b ∷ (signed_at sign.Colon end ∷ []) in
      reads_as V (within forks ifs) (statement_text (variables_of V) (statement.Label name) level) (line (name ++ codes ":") level) rest at
      (statement.Label name)
      (rules.part (open_statement.Label name)) tokens (variant.Label l) (flaws.part V (text.Label l))
      (ap (λ f. f level) (text_of_label (variables_of V) name)) (rules_of_label name) (flaws_of_label l) (meant_label l)
      (cuts_line level (name ++ codes ":") rest at tokens
      (cuts_both name (codes ":") (10 ∷ rest) b (named_at name b ∷ []) (signed_at sign.Colon end ∷ [])
      (cuts_name name c.labels.0 (codes ":" ++ 10 ∷ rest) refl b)
      (cuts_colon rest end)))
      (within_simple forks ifs tokens (variant.Label l) (label_is name b end))
      (record { labels = refl; gotos = refl; counted = λ n. omega arith; flawless = refl })

  pub goto_reads : (name : List ℕ) → Reads V (statement.Goto name)
  goto_reads name forks ifs can level rest at =
      let c : Can V forks ifs (rules.part (open_statement.Goto name)) = subst (Can V forks ifs) (rules_of_goto name) can in
      let b : ℕ = begins_at level at in
      let end : ℕ = b + 5 + length name in
      let l : Named = named_token (named_at name (b + 5)) in
      let later : List Token = named_at name (b + 5) ∷ (signed_at sign.Semicolon end ∷ []) in
      let tokens : List Token = worded_at word.Goto b ∷ later in
      reads_as V (within forks ifs) (statement_text (variables_of V) (statement.Goto name) level) (line (codes "goto " ++ (name ++ codes ";")) level) rest at
      (statement.Goto name)
      (rules.part (open_statement.Goto name)) tokens (variant.Goto l) (flaws.part V (text.Goto l))
      (ap (λ f. f level) (text_of_goto (variables_of V) name)) (rules_of_goto name) (flaws_of_goto l) (meant_goto l)
      (cuts_line level (codes "goto " ++ (name ++ codes ";")) rest at tokens
      (cuts_both (codes "goto ") (name ++ codes ";") (10 ∷ rest) b (worded_at word.Goto b ∷ []) later
      (cuts_word_space word.Goto 103 (codes "oto") refl refl refl ((name ++ codes ";") ++ 10 ∷ rest) b)
      (cuts_both name (codes ";") (10 ∷ rest) (b + 5) (named_at name (b + 5) ∷ []) (signed_at sign.Semicolon end ∷ [])
      (cuts_name name c.gotos.0 (codes ";" ++ 10 ∷ rest) refl (b + 5)) (cuts_semicolon rest end))))
      (within_simple forks ifs tokens (variant.Goto l) (goto_is name b (b + 5) end))
      (record { labels = refl; gotos = refl; counted = λ n. refl; flawless = refl })

  pub pause_reads : Reads V statement.Pause
  pause_reads forks ifs can level rest at =
      let b : ℕ = begins_at level at in
      let tokens : List Token = worded_at word.Pause b ∷ (signed_at sign.Semicolon (b + 5) ∷ []) in
      reads_as V (within forks ifs) (statement_text (variables_of V) statement.Pause level) (line (codes "pause;") level) rest at statement.Pause
      (rules.part open_statement.Pause) tokens (variant.Pause b) (flaws.part V (text.Pause b))
      (ap (λ f. f level) (text_of_pause (variables_of V))) rules_of_pause (flaws_of_pause b) (meant_pause b)
      (cuts_line level (codes "pause;") rest at tokens (cuts_ending word.Pause 112 (codes "ause") refl refl refl rest b))
      (within_simple forks ifs tokens (variant.Pause b) (pause_is b (b + 5)))
      (record { labels = refl; gotos = refl; counted = λ n. refl; flawless = refl })

  module _ (called : (i : ℕ) (d : Declaration) → slice_get V i ≡ Some d → CanName d.named.name) where
    pub assign_reads : (x : ℕ) (e : Expr) → Reads V (statement.Assign x e)
    assign_reads x e forks ifs can level rest at =
        let c : Can V forks ifs (rules.part (open_statement.Assign x e)) = subst (Can V forks ifs) (rules_of_assign x e) can in
        let here : CanAssign V x e = c.assigned.0 in
        let a : Assigns V x e = assigns V x e here.kept in
        let d : Declaration = a.declared in
        let n : List ℕ = d.named.name in
        let shown : List ℕ = expression_text (variables_of V) e in
        let b : ℕ = begins_at level at in
        let middle : ℕ = b + length n in
        let end : ℕ = middle + 3 + length shown in
        let v : Valued vn shown (codes ";" ++ 10 ∷ rest) (middle + 3) (postorder e) =
        value_reads d.kind e a.value here.write (codes ";" ++ 10 ∷ rest) (inr (inr (inr refl))) (middle + 3) in
        let t : Named = named_token (named_at n b) in
        let x_is : named (slice_get (variables_of V) x) ≡ n =
        ap named (slice_get-map variable_of V x ∙ ap (option_map variable_of) a.is) in
        let value : TextExpression = expressed (v.value.0, v.value.1) in
        let behind : List ℕ = codes " = " ++ (shown ++ codes ";") in
        let later : List Token = signed_at sign.Becomes (middle + 1) ∷ (v.tokens ++ signed_at sign.Semicolon end ∷ []) in
        let tokens : List Token = named_at n b ∷ later in
        let means : resolved vn (text.Assign t value) ≡ statement.Assign x e =
        ap (λ o. statement.Assign (unwrap_or o 0) (expression_of vn v.value.1)) (placed x d a.is)
        ∙ ap (λ w. statement.Assign x w) (expression_meant vn v.value.1 e v.means) in
        reads_as V (within forks ifs) (statement_text (variables_of V) (statement.Assign x e) level) (line (n ++ behind) level) rest at (statement.Assign x e)
        (rules.part (open_statement.Assign x e)) tokens (variant.Assign t value) (flaws.part V (text.Assign t value))
        (ap (λ f. f level) (text_of_assign (variables_of V) x e) ∙ ap (λ m. line (m ++ behind) level) x_is)
        (rules_of_assign x e) (flaws_of_assign t value) (meant_assign t value ∙ means)
        (cuts_line level (n ++ behind) rest at tokens
        (cuts_both n behind (10 ∷ rest) b (named_at n b ∷ []) later (cuts_name n (called x d a.is) (behind ++ 10 ∷ rest) refl b)
        (cuts_both (codes " = ") (shown ++ codes ";") (10 ∷ rest) middle (signed_at sign.Becomes (middle + 1) ∷ [])
        (v.tokens ++ signed_at sign.Semicolon end ∷ [])
        (cuts_becomes ((shown ++ codes ";") ++ 10 ∷ rest) middle)
        (cuts_both shown (codes ";") (10 ∷ rest) (middle + 3) v.tokens (signed_at sign.Semicolon end ∷ []) v.cut (cuts_semicolon rest end)))))
        (within_simple forks ifs tokens (variant.Assign t value) (assign_is n b (middle + 1) end v.tokens v.value v.spelled))
        (record {
          labels = refl;
          gotos = refl;
          counted = λ n. refl;
          flawless = assigned_sound x e a t value refl (expression_sound V d.kind e value a.value v.means v.known);
        })
