-- What is printed of a program reads as that program. In plain words:
--   A text reads as a program where its bytes are cut into tokens, these spell a text of the grammar of SCL, nothing is wrong with the
--   draft that it means, and the program of that draft is the program.
--   Tokens: each line is cut into the tokens of its words, names and signs, whatever follows it (Lines, LineParts), and an expression
--   into tokens that spell it (Values).
--   Grammar: the tokens of declarations spell declarations (DeclarationReads), those of a statement a statement that may stand where
--   so many forks and ifs may still stand in one another (Spelling, and SimpleReads, IfReads, ForkReads by induction in BodyReads). The
--   rules of SCL keep both below the limits of the grammar.
--   Draft: its names stand where their tokens stand. The places are of no account: no flaw is told.
--   Flaws: none, since the names of variables and of labels are distinct, gotos name labels of their own thread, expressions are of
--   their kinds and within the limits, and forks have few branches (SoundNames, SoundValues, ThreadParts).
--   Program: looked up among the declarations, each name is the variable of the number that was printed by it.
use Rattle.std.proofs.Common.{◌≡◌, ℕ, ◌+◌, ◌≤◌, true, Some, List, [], ◌∷◌, ◌++◌, map, length, slice_get, append_assoc, codes, refl, sym, ◌∙◌, ap, subst}
use Rattle.std.proofs.Common.{arith}
use Rattle.std.specs.Prelude.{option_map}
use Rattle.std.proofs.lemmas.List.{append-nil, length-map}
use Rattle.std.proofs.lemmas.Option.{slice_get-map}
use Rattle.grammar.specs.Grammar.{many, seq, each_spelled, spells}
use Rattle.sc_values.specs.declared.expression.Expr.{Expr}
use Rattle.sc_values.specs.declared.value.Kind.TheVariants as kind_is
use Rattle.sc_graph.specs.declared.program.Variable.{Variable}
use Rattle.sc_graph.specs.Limits.{child_limit}
use Rattle.sc_text.specs.declared.language.Language.TheVariants as language
use Rattle.sc_text.specs.declared.word.Word.TheVariants as word
use Rattle.sc_text.specs.declared.sign.Sign.TheVariants as sign
use Rattle.sc_text.specs.declared.token.Token.{Token}
use Rattle.sc_text.specs.Classes.{TheWord, TheSign}
use Rattle.sc_text.specs.Tokens.{AreTokens, no_more}
use Rattle.sc_text.specs.Expression.{after, before}
use Rattle.sc_text.specs.Parts.{AreVariables, are_distinct}
use Rattle.sc_text.specs.declared.drafts.parts.Declaration.{Declaration}
use Rattle.sc_text.specs.Flaws.{variable_names, variable_flaws}
use Rattle.sc_text.specs.Resolved.{variable_of, variables_of}
use Rattle.sc_text.proofs.Distinct.{AreFirst, count, distinct_once, once_distinct}
use Rattle.sc_text.proofs.Declared.{names_same}
use Rattle.scl.specs.declared.program.Scl.{Scl}
use Rattle.scl.specs.declared.statement.Statement.{Statement}
use Rattle.scl.specs.Rules as rules
use Rattle.scl.specs.Rules.{part_of, parts_of, KeepsBody, KeepsRules, fork_limit, if_limit}
use Rattle.scl_printer.specs.Layout.{line, in_row, statement_text, statements_text, declarations_text, text_of}
use Rattle.scl_printer.proofs.Nested.{parts_are}
use Rattle.scl_reader.specs.declared.text_drafts.draft.Draft.{Draft}
use Rattle.scl_reader.specs.declared.text_drafts.statement.TextStatement.{TextStatement}
use Rattle.scl_reader.specs.Flaws as flaws
use Rattle.scl_reader.specs.Flaws.{names, repeated, scl_flaws}
use Rattle.scl_reader.specs.Program.{Grows, Text, name, declaration, program, thread, scl}
use Rattle.scl_reader.specs.Within.{inner_forks, inner_ifs, within}
use Rattle.scl_reader.specs.Draft.{declared, draft_of, IsDraft}
use Rattle.scl_reader.specs.Read.{IsRead}
use Rattle.scl_reader.proofs.Pieces.{every_of, both_empty}
use Rattle.scl_printer_laws.specs.Reading.{names_of}
use Rattle.scl_printer_laws.specs.Programs.{HasNumbers, CanWriteProgram}
use Rattle.scl_printer_laws.proofs.Cuts.{Cuts, cuts_both, signed_at, worded_at}
use Rattle.scl_printer_laws.proofs.Lines.{CanName, named_at, begins_at, cuts_line, cuts_name, cuts_word_space}
use Rattle.scl_printer_laws.proofs.LineParts.{cuts_open, cuts_close}
use Rattle.scl_printer_laws.proofs.Spelling.{after_of, before_of}
use Rattle.scl_printer_laws.proofs.SoundNames.{distinct_first, from_first, none_repeated, none_declared}
use Rattle.scl_printer_laws.proofs.ThreadParts.{CanAssign, CanTest, Can, can_thread, Like, like_thread}
use Rattle.scl_printer_laws.proofs.StatementTexts.{text_of_row}
use Rattle.scl_printer_laws.proofs.StatementReads.{texts_of, RowReads, row_reads}
use Rattle.scl_printer_laws.proofs.BodyReads.{every_reads}
use Rattle.scl_printer_laws.proofs.DeclarationReads.{DeclarationsRead, declarations_read}
use Rattle.scl_printer_laws.proofs.CanWrites.{can_write}

-- ---- the tokens of a whole text

pub program_is : (s : Grows TextStatement) (n : List ℕ) (a b c d : ℕ) (ds ts : List Token) (variables : List (Token × (Token × Token)))
    (all : List TextStatement)
    → each_spelled (spells declaration) ds variables → each_spelled (spells s) ts all
    → spells (program s) (worded_at word.Scl a ∷ (named_at n b ∷ (signed_at sign.OpenBrace c ∷ ((ds ++ ts) ++ signed_at sign.CloseBrace d ∷ []))))
    (named_at n b, (variables, all))
unfolding program
program_is s n a b c d ds ts variables all h i =
    let inside : List Token = signed_at sign.OpenBrace c ∷ ((ds ++ ts) ++ signed_at sign.CloseBrace d ∷ []) in
    let braced : spells (after (TheSign sign.OpenBrace ∷ []) (before (seq (many declaration) (many s)) (TheSign sign.CloseBrace ∷ []))) inside
    (variables, all) =
    after_of (TheSign sign.OpenBrace ∷ []) (before (seq (many declaration) (many s)) (TheSign sign.CloseBrace ∷ [])) (signed_at sign.OpenBrace c)
    ((ds ++ ts) ++ signed_at sign.CloseBrace d ∷ []) (variables, all) refl
    (before_of (TheSign sign.CloseBrace ∷ []) (seq (many declaration) (many s)) (signed_at sign.CloseBrace d) (ds ++ ts) (variables, all) refl
    (ds, ts, refl, h, i)) in
    after_of (TheWord word.Scl ∷ []) (seq name (after (TheSign sign.OpenBrace ∷ []) (before (seq (many declaration) (many s)) (TheSign sign.CloseBrace ∷ []))))
    (worded_at word.Scl a) (named_at n b ∷ inside) (named_at n b, (variables, all)) refl
    (named_at n b ∷ [], inside, refl, (refl, refl), braced)

scl_is : (ts : List Token) (x : Text) → spells (program (within fork_limit if_limit)) ts x → spells (scl 0) ts x
unfolding scl thread within inner_forks inner_ifs
scl_is ts x s = s

-- ---- a program over declared variables

module _ (V : List Declaration) (body : List Statement) (declares : AreVariables language.Scl (variables_of V))
    (kept : KeepsBody (variables_of V) (rules.root body))
    (named : (n : ℕ) (x : Variable) → slice_get (variables_of V) n ≡ Some x → CanName x.name)
    (labels : (n : ℕ) (name : List ℕ) → slice_get (rules.root body).lower n ≡ Some name → CanName name)
    (assigned : (n x : ℕ) (e : Expr) → slice_get (rules.root body).assigned n ≡ Some (x, e) → HasNumbers e)
    (tests : (n : ℕ) (e : Expr) → slice_get (rules.root body).tests n ≡ Some e → HasNumbers e) where
  first_named : AreFirst (names_of (variables_of V))
  first_named = distinct_first (names_of (variables_of V)) declares.distinct

  pub first : AreFirst (variable_names V)
  first = subst AreFirst (names_same V) first_named

  abbrev whole : rules.Part
  whole = rules.root body

  abbrev row : rules.Part
  row = rules.in_row (map part_of body)

  whole_can : Can V 32 32 whole
  whole_can = record {
    labels = tt;
    gotos = tt;
    lower = every_of CanName whole.lower labels;
    lost = kept.found;
    assigned = every_of (λ a. CanAssign V a.0 a.1) whole.assigned (λ n a at. record {
      kept = kept.assignments n a.0 a.1 at;
      write = can_write (variables_of V) first_named named _ a.1 (kept.assignments n a.0 a.1 at).becomes (assigned n a.0 a.1 at);
    });
    tests = every_of (CanTest V) whole.tests (λ n e at. record {
      kept = kept.tests n e at;
      write = can_write (variables_of V) first_named named kind_is.Bool e (kept.tests n e at) (tests n e at);
    });
    branches = every_of (λ n. (1 ≤ n) × (n ≤ child_limit)) whole.forks kept.branches;
    low_ifs = omega arith;
    low_lower_ifs = kept.ifs;
    low_depth = kept.forks;
  }

  pub body_can : Can V 32 32 row
  body_can =
      can_thread V 32 32 row (subst (λ ps. Can V 32 32 (rules.thread (rules.in_row ps))) (parts_are body) whole_can)

  -- nothing is wrong with a draft whose statements are like the body
  pub draft_sound : (d : Draft) → d.declarations ≡ V → Like (flaws.in_row (flaws.parts_of V d.statements)) row → scl_flaws d ≡ []
  draft_sound d same like =
      let q : flaws.Part = flaws.root V d.statements in
      let is : row ≡ rules.in_row (parts_of body) = ap rules.in_row (sym (parts_are body)) in
      let all : Like q whole =
      like_thread (flaws.in_row (flaws.parts_of V d.statements)) (rules.in_row (parts_of body)) kept.found
      (subst (Like (flaws.in_row (flaws.parts_of V d.statements))) is like) in
      let once : are_distinct (names q.all) ≡ true =
      once_distinct (names q.all) (λ n. (let total : 0 + count n whole.lower ≡ count n (names q.all) = all.counted n in
      let le = distinct_once whole.lower kept.distinct n in omega (arith, total, le))) in
      let few = declares.count in
      let long = length-map V variable_of in
      let fewer = declares.outputs in
      let sound : variable_flaws (variable_names V) 0 0 V ++ (q.flaws ++ repeated (names q.all) 0 q.all) ≡ [] =
      both_empty (variable_flaws (variable_names V) 0 0 V) (q.flaws ++ repeated (names q.all) 0 q.all)
      (none_declared (variable_names V) 0 0 V (from_first (variable_names V) first) (omega (arith, few, long)) (omega (arith, fewer)))
      (both_empty q.flaws (repeated (names q.all) 0 q.all) all.flawless
      (none_repeated (names q.all) 0 q.all (from_first (names q.all) (distinct_first (names q.all) once)))) in
      ap (λ W. variable_flaws (variable_names W) 0 0 W ++ ((flaws.root W d.statements).flaws ++ repeated (names (flaws.root W d.statements).all) 0
      (flaws.root W d.statements).all)) same ∙ sound

-- ---- a whole program

module _ (p : Scl) (kept : KeepsRules p.name p.variables p.body) (can : CanWriteProgram p) where
  names_can : (n : ℕ) (x : Variable) → slice_get p.variables n ≡ Some x → CanName x.name
  names_can n x at = (can.declared n x at, (kept.declared.named n x at).free)

  labels_can : (n : ℕ) (label : List ℕ) → slice_get (rules.root p.body).lower n ≡ Some label → CanName label
  labels_can n label at = (can.labels n label at, (kept.text.named n label at).free)

  abbrev head : List ℕ
  head = line (codes "scl " ++ (p.name ++ codes " {")) 0

  abbrev declarations : List ℕ
  declarations = declarations_text p.variables

  abbrev statements : List ℕ
  statements = statements_text p.variables p.body 1

  abbrev last : List ℕ
  last = line (codes "}") 0

  abbrev start : ℕ
  start = begins_at 0 0

  abbrev opened : ℕ
  opened = 0 + length head

  abbrev inner : ℕ
  inner = opened + length declarations

  abbrev end : ℕ
  end = begins_at 0 (inner + length statements)

  abbrev scl_token : Token
  scl_token = worded_at word.Scl start

  abbrev name_token : Token
  name_token = named_at p.name (start + 4)

  abbrev open_token : Token
  open_token = signed_at sign.OpenBrace (start + 4 + length p.name + 1)

  abbrev close_token : Token
  close_token = signed_at sign.CloseBrace end

  head_cut : (rest : List ℕ) → Cuts head rest 0 (scl_token ∷ name_token ∷ open_token ∷ [])
  head_cut rest =
      cuts_line 0 (codes "scl " ++ (p.name ++ codes " {")) rest 0 (scl_token ∷ name_token ∷ open_token ∷ [])
      (cuts_both (codes "scl ") (p.name ++ codes " {") (10 ∷ rest) start (scl_token ∷ []) (name_token ∷ open_token ∷ [])
      (cuts_word_space word.Scl 115 (codes "cl") refl refl refl ((p.name ++ codes " {") ++ 10 ∷ rest) start)
      (cuts_both p.name (codes " {") (10 ∷ rest) (start + 4) (name_token ∷ []) (open_token ∷ [])
      (cuts_name p.name (can.named, kept.named.free) (codes " {" ++ 10 ∷ rest) refl (start + 4))
      (cuts_open rest (start + 4 + length p.name))))

  module _ (d : DeclarationsRead declarations ((statements ++ last) ++ []) opened p.variables) where
    abbrev V : List Declaration
    V = map declared d.meaning

    declares : AreVariables language.Scl (variables_of V)
    declares = subst (AreVariables language.Scl) (sym d.means) kept.declared

    body_kept : KeepsBody (variables_of V) (rules.root p.body)
    body_kept = subst (λ vs. KeepsBody vs (rules.root p.body)) (sym d.means) kept.text

    named : (n : ℕ) (x : Variable) → slice_get (variables_of V) n ≡ Some x → CanName x.name
    named = subst (λ vs. (n : ℕ) (x : Variable) → slice_get vs n ≡ Some x → CanName x.name) (sym d.means) names_can

    called : (i : ℕ) (x : Declaration) → slice_get V i ≡ Some x → CanName x.named.name
    called i x at = named i (variable_of x) (slice_get-map variable_of V i ∙ ap (option_map variable_of) at)

    statements_are : in_row (texts_of V p.body) 1 ≡ statements
    statements_are = ap (λ vs. in_row (map (statement_text vs) p.body) 1) d.means ∙ sym (text_of_row p.variables p.body 1)

    body_reads : RowReads V (within fork_limit if_limit) (in_row (texts_of V p.body) 1) (last ++ []) inner p.body
    body_reads =
        row_reads V p.body (every_reads V (first V p.body declares body_kept named labels_can can.assigned can.tests) called p.body) 32 32
        (body_can V p.body declares body_kept named labels_can can.assigned can.tests) 1 (last ++ []) inner

    module _ (b : RowReads V (within fork_limit if_limit) (in_row (texts_of V p.body) 1) (last ++ []) inner p.body) where
      abbrev tokens : List Token
      tokens = scl_token ∷ (name_token ∷ (open_token ∷ ((d.tokens ++ b.tokens) ++ close_token ∷ [])))

      abbrev lined : List Token
      lined = (scl_token ∷ name_token ∷ open_token ∷ []) ++ (d.tokens ++ (b.tokens ++ close_token ∷ []))

      abbrev meaning : Text
      meaning = (name_token, (d.meaning, b.meaning))

      -- the tokens of the whole text
      text_cut : Cuts (text_of p) [] 0 lined
      text_cut =
          cuts_both head (declarations ++ (statements ++ last)) [] 0 (scl_token ∷ name_token ∷ open_token ∷ []) (d.tokens ++ (b.tokens ++ close_token ∷ []))
          (head_cut ((declarations ++ (statements ++ last)) ++ []))
          (cuts_both declarations (statements ++ last) [] opened d.tokens (b.tokens ++ close_token ∷ []) d.cut
          (cuts_both statements last [] inner b.tokens (close_token ∷ []) (subst (λ t. Cuts t (last ++ []) inner b.tokens) statements_are b.cut)
          (cuts_line 0 (codes "}") [] (inner + length statements) (close_token ∷ []) (cuts_close [] end))))

      text_tokens_are : AreTokens language.Scl 0 (text_of p) tokens
      text_tokens_are =
          let cut : AreTokens language.Scl 0 (text_of p ++ []) (lined ++ []) = text_cut [] (no_more (0 + length (text_of p))) in
          subst (λ ts. AreTokens language.Scl 0 (text_of p) ts)
          (append-nil lined ∙ ap (λ z. scl_token ∷ (name_token ∷ (open_token ∷ z))) (sym (append_assoc d.tokens b.tokens (close_token ∷ []))))
          (subst (λ t. AreTokens language.Scl 0 t (lined ++ [])) (append-nil (text_of p)) cut)

      drafted : IsDraft (text_of p) (draft_of meaning)
      drafted = record {
        tokens = tokens;
        cut = text_tokens_are;
        program = meaning;
        spelled = scl_is tokens meaning
            (program_is (within fork_limit if_limit) p.name start (start + 4) (start + 4 + length p.name + 1) end d.tokens b.tokens d.meaning b.meaning
            d.spelled b.spelled);
        drafted = refl;
      }

      read_so : IsRead (text_of p) p
      read_so = record {
        draft = draft_of meaning;
        drafted = drafted;
        flawless = draft_sound V p.body declares body_kept named labels_can can.assigned can.tests (draft_of meaning) refl b.like;
        spelled = record { named = refl; declared = sym d.means; body = sym b.means };
      }

  pub program_reads : IsRead (text_of p) p
  program_reads =
      let d = declarations_read p.variables (every_of (λ v. CanName v.name) p.variables names_can) ((statements ++ last) ++ []) opened in
      read_so d (body_reads d)
