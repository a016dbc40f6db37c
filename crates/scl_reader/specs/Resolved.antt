-- What a draft is once its names are looked up.
use Rattle.std.specs.Prelude.{ℕ, ◌≡◌, List, map}
use Rattle.sc_text.specs.Flaws.{variable_names}
use Rattle.sc_text.specs.Resolved.{number_of, expression_of, variables_of}
use Rattle.scl.specs.declared.program.Scl.{Scl}
use Rattle.scl.specs.declared.statement.Statement.{Statement}
use Rattle.scl.specs.declared.statement.Statement.TheVariants as statement
use Rattle.scl_reader.specs.declared.text_drafts.statement.TextStatement.{TextStatement}
use Rattle.scl_reader.specs.declared.text_drafts.statement.TextStatement.TheOpen.{TextStatement-F}
use Rattle.scl_reader.specs.declared.text_drafts.statement.TextStatement.TheOpen as text
use Rattle.scl_reader.specs.declared.text_drafts.statement.TextStatement.TheFolds.{fold-TextStatement}
use Rattle.scl_reader.specs.declared.text_drafts.draft.Draft.{Draft}

abbrev pub resolved : (names : List (List ℕ)) → TextStatement-F Statement → Statement
resolved names (text.Assign target value) = statement.Assign (number_of names target.name) (expression_of names value.operations)
resolved names (text.Label label) = statement.Label label.name
resolved names (text.Goto label) = statement.Goto label.name
resolved names (text.Pause at) = statement.Pause
resolved names (text.If at test first second) = statement.If (expression_of names test.operations) first second
resolved names (text.Fork branches join) = statement.Fork (map (λ b. b.1) branches)

-- a statement, over variables of these names
abbrev pub statement_of : (names : List (List ℕ)) → TextStatement → Statement
statement_of names = fold-TextStatement Statement (resolved names)

abbrev pub statements_of : (names : List (List ℕ)) → List TextStatement → List Statement
statements_of names statements = map (statement_of names) statements

abbrev pub branches_of : (names : List (List ℕ)) → List (ℕ × List TextStatement) → List (List Statement)
branches_of names branches = map (λ b. statements_of names b.1) branches

-- the program of a draft
pub record IsProgramOf (draft : Draft) (program : Scl) : Type 0 where
  pub named : program.name ≡ draft.name
  pub declared : program.variables ≡ variables_of draft.declarations
  pub body : program.body ≡ statements_of (variable_names draft.declarations) draft.statements
