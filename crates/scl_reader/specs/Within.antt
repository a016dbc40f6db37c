-- A statement, by how many forks and how many ifs may still stand in one another around it.
use Rattle.std.specs.Prelude.{ℕ}
use Rattle.sc_text.specs.Expression.{expression}
use Rattle.scl.specs.Rules.{if_limit}
use Rattle.scl_reader.specs.declared.text_drafts.statement.TextStatement.{TextStatement}
use Rattle.scl_reader.specs.Program.{Grows, Inner, forking, statement, ifs_within, forks_within}

-- the statements within one more fork, where so many may still stand in one another; and within one more if
unfoldable pub inner_forks : ℕ → Inner
inner_forks forks = forks_within (expression 0) if_limit forks

unfoldable pub inner_ifs : (forks ifs : ℕ) → Inner
inner_ifs forks ifs = ifs_within (expression 0) (inner_forks forks) ifs

-- a statement, where so many forks and so many ifs may still stand in one another
unfoldable pub within : (forks ifs : ℕ) → Grows TextStatement
within forks ifs = statement (expression 0) (inner_forks forks) (inner_ifs forks ifs)

-- a statement that is no if
unfoldable pub no_if : (forks : ℕ) → Grows TextStatement
no_if forks = forking (expression 0) (inner_forks forks)
