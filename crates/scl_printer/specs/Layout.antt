-- The layout of a program's text: a declaration or a statement a line, two spaces for each level.
use Rattle.std.specs.Prelude.{ℕ, zero, suc, List, [], ◌∷◌, ◌++◌, codes}
use Rattle.sc_values.specs.declared.value.Kind.{Kind}
use Rattle.sc_values.specs.declared.value.Kind.TheVariants as kind
use Rattle.sc_graph.specs.declared.program.Role.{Role}
use Rattle.sc_graph.specs.declared.program.Role.TheVariants as role
use Rattle.sc_graph.specs.declared.program.Variable.{Variable}
use Rattle.scl.specs.declared.statement.Statement.{Statement}
use Rattle.scl.specs.declared.statement.Statement.TheOpen.{Statement-F}
use Rattle.scl.specs.declared.statement.Statement.TheOpen as text
use Rattle.scl.specs.declared.statement.Statement.TheFolds.{fold-Statement}
use Rattle.scl.specs.declared.program.Scl.{Scl}
use Rattle.scl_printer.specs.Expressions.{variable_text, expression_text}

abbrev pub indentation : ℕ → List ℕ
indentation zero = []
indentation (suc level) = codes "  " ++ indentation level

-- a piece of text, by the level on which it stands
abbrev pub Piece : Type 0
Piece = ℕ → List ℕ

abbrev pub line : List ℕ → Piece
line text level = indentation level ++ (text ++ codes "\n")

-- statements in a row
abbrev pub in_row : List Piece → Piece
in_row [] level = []
in_row (p ∷ pieces) level = p level ++ in_row pieces level

-- a second list of statements that is empty is left out
abbrev pub else_text : List Piece → Piece
else_text [] level = []
else_text (p ∷ pieces) level = line (codes "} else {") level ++ in_row (p ∷ pieces) (suc level)

-- branches, of which the first is opened by these words
abbrev pub branches_text : List ℕ → List (List Piece) → Piece
branches_text opening [] level = []
branches_text opening (b ∷ branches) level =
    line opening level ++ (in_row b (suc level) ++ branches_text (codes "} par {") branches level)

abbrev pub statement_step : List Variable → Statement-F Piece → Piece
statement_step variables (text.Assign x e) level =
    line (variable_text variables x ++ (codes " = " ++ (expression_text variables e ++ codes ";"))) level
statement_step variables (text.Label name) level = line (name ++ codes ":") level
statement_step variables (text.Goto name) level = line (codes "goto " ++ (name ++ codes ";")) level
statement_step variables text.Pause level = line (codes "pause;") level
statement_step variables (text.If e first second) level =
    line (codes "if (" ++ (expression_text variables e ++ codes ") {")) level
    ++ (in_row first (suc level) ++ (else_text second level ++ line (codes "}") level))
statement_step variables (text.Fork branches) level =
    branches_text (codes "fork {") branches level ++ line (codes "} join;") level

abbrev pub statement_text : List Variable → Statement → Piece
statement_text variables = fold-Statement Piece (statement_step variables)

abbrev pub statements_text : List Variable → List Statement → Piece
statements_text variables [] level = []
statements_text variables (s ∷ statements) level =
    statement_text variables s level ++ statements_text variables statements level

abbrev pub role_prefix : Role → List ℕ
role_prefix role.Input = codes "input "
role_prefix role.Output = codes "output "
role_prefix role.Local = codes "local "

abbrev pub kind_prefix : Kind → List ℕ
kind_prefix kind.Bool = codes "bool "
kind_prefix kind.Int = codes "int "

abbrev pub declaration_text : Variable → List ℕ
declaration_text v = line (role_prefix v.role ++ (kind_prefix v.kind ++ (v.name ++ codes ";"))) 1

abbrev pub declarations_text : List Variable → List ℕ
declarations_text [] = []
declarations_text (v ∷ variables) = declaration_text v ++ declarations_text variables

-- the text of a program
abbrev pub text_of : Scl → List ℕ
text_of p =
    line (codes "scl " ++ (p.name ++ codes " {")) 0
    ++ (declarations_text p.variables ++ (statements_text p.variables p.body 1 ++ line (codes "}") 0))
