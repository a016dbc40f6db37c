-- What it means that a printed statement reads as itself, and that statements in a row do.
use Rattle.std.proofs.Common.{◌≡◌, ℕ, ◌+◌, List, [], ◌∷◌, ◌++◌, map, length, refl, sym, ◌∙◌, ap, subst}
use Rattle.grammar.specs.Grammar.{each_spelled, spells}
use Rattle.grammar.proofs.Each.{Every}
use Rattle.sc_text.specs.declared.token.Token.{Token}
use Rattle.sc_text.specs.declared.drafts.parts.Declaration.{Declaration}
use Rattle.sc_text.specs.Flaws.{variable_names}
use Rattle.sc_text.specs.Resolved.{variables_of}
use Rattle.scl.specs.declared.statement.Statement.{Statement}
use Rattle.scl.specs.Rules as rules
use Rattle.scl.specs.Rules.{part_of}
use Rattle.scl_printer.specs.Layout.{Piece, in_row, statement_text}
use Rattle.scl_reader.specs.declared.text_drafts.statement.TextStatement.{TextStatement}
use Rattle.scl_reader.specs.Flaws as flaws
use Rattle.scl_reader.specs.Program.{Grows}
use Rattle.scl_reader.specs.Within.{within}
use Rattle.scl_reader.specs.Resolved.{statement_of, statements_of}
use Rattle.scl_printer_laws.proofs.Cuts.{Cuts, cuts_both, cuts_nothing}
use Rattle.scl_printer_laws.proofs.ThreadParts.{Can, can_first, can_second, Like, like_nothing, like_both}

module _ (V : List Declaration) where
  abbrev pub texts_of : List Statement → List Piece
  texts_of statements = map (statement_text (variables_of V)) statements

  -- where the text stands before this rest, it is cut into tokens that spell a statement of a draft over these variables, which
  -- is this statement once its names are looked up, and in which nothing is wrong
  pub record StatementReads (g : Grows TextStatement) (text rest : List ℕ) (at : ℕ) (s : Statement) : Type 0 where
    pub tokens : List Token
    pub meaning : TextStatement
    pub cut : Cuts text rest at tokens
    pub spelled : spells g tokens meaning
    pub means : statement_of (variable_names V) meaning ≡ s
    pub like : Like (flaws.part_of V meaning) (part_of s)

  pub record RowReads (g : Grows TextStatement) (text rest : List ℕ) (at : ℕ) (statements : List Statement) : Type 0 where
    pub tokens : List Token
    pub meaning : List TextStatement
    pub cut : Cuts text rest at tokens
    pub spelled : each_spelled (spells g) tokens meaning
    pub means : statements_of (variable_names V) meaning ≡ statements
    pub like : Like (flaws.in_row (flaws.parts_of V meaning)) (rules.in_row (map part_of statements))

  -- wherever it stands, where so many forks and ifs may still stand in one another
  abbrev pub Reads : Statement → Type 0
  Reads s = (forks ifs : ℕ) → Can V forks ifs (part_of s) → (level : ℕ) (rest : List ℕ) (at : ℕ)
      → StatementReads (within forks ifs) (statement_text (variables_of V) s level) rest at s

  -- put together from what is known of its form
  pub reads_as : (g : Grows TextStatement) (text other rest : List ℕ) (at : ℕ) (s : Statement) (p : rules.Part) (tokens : List Token) (meaning : TextStatement)
      (q : flaws.Part) → text ≡ other → part_of s ≡ p → flaws.part_of V meaning ≡ q → statement_of (variable_names V) meaning ≡ s
      → Cuts other rest at tokens → spells g tokens meaning → Like q p → StatementReads g text rest at s
  reads_as g text other rest at s p tokens meaning q a b c means cut spelled like = record {
    tokens = tokens;
    meaning = meaning;
    cut = subst (λ t. Cuts t rest at tokens) (sym a) cut;
    spelled = spelled;
    means = means;
    like = subst (λ x. Like x (part_of s)) (sym c) (subst (Like q) (sym b) like);
  }

  pub row_reads : (statements : List Statement) → Every Reads statements → (forks ifs : ℕ) → Can V forks ifs (rules.in_row (map part_of statements))
      → (level : ℕ) (rest : List ℕ) (at : ℕ) → RowReads (within forks ifs) (in_row (texts_of statements) level) rest at statements
  row_reads [] e forks ifs can level rest at =
      record { tokens = []; meaning = []; cut = cuts_nothing rest at; spelled = refl; means = refl; like = like_nothing }
  row_reads (s ∷ statements) e forks ifs can level rest at =
      let text : List ℕ = statement_text (variables_of V) s level in
      let more : List ℕ = in_row (texts_of statements) level in
      let parts : rules.Part = rules.in_row (map part_of statements) in
      let a = e.0 forks ifs (can_first V forks ifs (part_of s) parts can) level (more ++ rest) at in
      let b = row_reads statements e.1 forks ifs (can_second V forks ifs (part_of s) parts can) level rest (at + length text) in
      record {
        tokens = a.tokens ++ b.tokens;
        meaning = a.meaning ∷ b.meaning;
        cut = cuts_both text more rest at a.tokens b.tokens a.cut b.cut;
        spelled = (a.tokens, b.tokens, refl, a.spelled, b.spelled);
        means = ap (λ x. x ∷ statements_of (variable_names V) b.meaning) a.means ∙ ap (λ xs. s ∷ xs) b.means;
        like = like_both (flaws.part_of V a.meaning) (flaws.in_row (flaws.parts_of V b.meaning)) (part_of s) parts a.like b.like;
      }
