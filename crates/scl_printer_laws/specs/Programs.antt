-- Which programs a text can write: each name is one, and each number fits in 32 bits. The types of Rust give both; what else a text
-- asks for, a program keeps by the rules of SCL.
use Rattle.std.specs.Prelude.{ℕ, ◌≡◌, ◌≤◌, ℤ, pos, negsuc, IsTrue, Some, List, slice_get, Result, MatchResult}
use Rattle.sc_values.specs.Name.{is_name}
use Rattle.sc_values.specs.declared.value.Value.{Value}
use Rattle.sc_values.specs.declared.value.Value.TheVariants as value
use Rattle.sc_values.specs.declared.operator.UnaryOperator.{UnaryOperator}
use Rattle.sc_values.specs.declared.operator.UnaryOperator.TheVariants as unary
use Rattle.sc_values.specs.declared.operator.BinaryOperator.{BinaryOperator}
use Rattle.sc_values.specs.declared.expression.Expr.{Expr}
use Rattle.sc_values.specs.declared.expression.Expr.TheOpen as tree
use Rattle.sc_values.specs.declared.expression.Expr.TheViews.{roll-Expr}
use Rattle.sc_graph.specs.declared.program.Variable.{Variable}
use Rattle.sc_text.specs.declared.read_fault.ReadFault.{ReadFault}
use Rattle.sc_text.specs.declared.read_fault.ReadFault.TheVariants as fault
use Rattle.sc_text.specs.Tokens.{number_limit}
use Rattle.scl.specs.declared.program.Scl.{Scl}
use Rattle.scl.specs.Rules.{root}
use Rattle.scl_printer.specs.Layout.{text_of}
use Rattle.scl_reader.specs.Read.{IsRead}
use Rattle.scl_reader.specs.Laws.{AreAlike, IsExact}

-- from -2147483648 to 2147483647
abbrev pub IsNumber : ℤ → Type 0
IsNumber (pos n) = n ≤ number_limit
IsNumber (negsuc n) = n ≤ number_limit

abbrev pub HoldsNumber : Value → Type 0
HoldsNumber (value.Bool b) = Unit {0}
HoldsNumber (value.Int n) = IsNumber n

abbrev pub DividesByNumber : UnaryOperator → Type 0
DividesByNumber (unary.Divide d) = IsNumber d.number
DividesByNumber (unary.Remainder d) = IsNumber d.number
DividesByNumber f = Unit {0}

-- each number of the expression fits in 32 bits
pub data HasNumbers : Expr → Type 0 where
  of_literal : (v : Value) → HoldsNumber v → HasNumbers (roll-Expr (tree.Literal v))
  of_load : (x : ℕ) → HasNumbers (roll-Expr (tree.Load x))
  of_unary : (f : UnaryOperator) (a : Expr) → DividesByNumber f → HasNumbers a → HasNumbers (roll-Expr (tree.Unary f a))
  of_binary : (f : BinaryOperator) (a b : Expr) → HasNumbers a → HasNumbers b → HasNumbers (roll-Expr (tree.Binary f a b))

-- a text can write the program
pub record CanWriteProgram (p : Scl) : Type 0 where
  pub named : IsTrue (is_name p.name)
  pub declared : (n : ℕ) (x : Variable) → slice_get p.variables n ≡ Some x → IsTrue (is_name x.name)
  pub labels : (n : ℕ) (name : List ℕ) → slice_get (root p.body).lower n ≡ Some name → IsTrue (is_name name)
  pub assigned : (n x : ℕ) (e : Expr) → slice_get (root p.body).assigned n ≡ Some (x, e) → HasNumbers e
  pub tests : (n : ℕ) (e : Expr) → slice_get (root p.body).tests n ≡ Some e → HasNumbers e

-- what is printed of a program reads as that program. So whoever answers as a reader has to has read that program, unless memory
-- was refused; and no two programs are printed alike
pub record PrintedProgramsReadBack : Type 0 where
  pub read : (p : Scl) → CanWriteProgram p → IsRead (text_of p) p
  pub answered : (p : Scl) (answer : Result Scl ReadFault) → CanWriteProgram p → IsExact (text_of p) answer
      → MatchResult answer (λ q. AreAlike q p) (λ f. f ≡ fault.Memory)
  pub apart : (p q : Scl) → CanWriteProgram p → CanWriteProgram q → text_of p ≡ text_of q → AreAlike p q
