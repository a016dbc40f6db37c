-- What is shown of each expression and of each statement.
use Rattle.std.proofs.Common.{◌≡◌, ℕ, zero, suc, ◌+◌, Bool, true, false, List, [], ◌∷◌, ◌++◌, map, codes, refl, ap, sym, subst, ◌∙◌, arith}
use Rattle.std.proofs.lemmas.List.{append-nil}
use Rattle.sc_values.specs.declared.expression.Expr.{Expr}
use Rattle.sc_graph.specs.declared.program.Variable.{Variable}
use Rattle.scl_printer.specs.declared.parentheses.Parentheses.{Parentheses}
use Rattle.scl_printer.specs.Expressions.{Shown, is_enclosed, enclosed_if, operand}
use Rattle.scl.specs.declared.statement.Statement.{Statement}
use Rattle.scl.specs.declared.statement.Statement.TheOpen as text
use Rattle.scl.specs.declared.statement.Statement.TheVariants as statement
use Rattle.scl.specs.declared.statement.Statement.TheVariants.{rolls-Assign, rolls-Pause, rolls-If, rolls-Fork}
use Rattle.scl.specs.declared.statement.Statement.TheFolds.{fold-roll-Statement}
use Rattle.scl_printer.specs.Layout.{Piece, indentation, line, in_row, else_text, statement_step, statement_text, statements_text}
use Rattle.scl_printer.specs.Inside.Writing.{Page, Writes, when, has_any}
use Rattle.scl_printer.proofs.Written.{follows}

enclosed_written : (inner : Bool) (a b c d : Page) (text : List ℕ) → Writes a b (when inner (codes "(")) → Writes b c text → Writes c d (when inner (codes ")"))
    → Writes a d (enclosed_if inner text)
enclosed_written true a b c d text p q r = follows a b d _ _ p (follows b c d _ _ q r)
enclosed_written false a b c d text p q r =
    let At : List ℕ → Type 0 = λ xs. Writes a d xs in
    subst At (append-nil text) (follows a b d [] (text ++ []) p (follows b c d text [] q r))

-- an operand, in parentheses where it stands in some
pub operand_written : (parentheses : Parentheses) (takes_not : Bool) (s : Shown) (inner : Bool) (a b c d : Page)
    → inner ≡ is_enclosed parentheses takes_not s.form
    → Writes a b (when inner (codes "(")) → Writes b c s.text → Writes c d (when inner (codes ")")) → Writes a d (operand parentheses takes_not s)
operand_written parentheses takes_not s inner a b c d is p q r =
    let At : Bool → Type 0 = λ i. Writes a d (enclosed_if i s.text) in
    subst At is (enclosed_written inner a b c d s.text p q r)

-- two spaces more
deeper_suc : (n : ℕ) → indentation n ++ codes "  " ≡ indentation (suc n)
deeper_suc zero = refl
deeper_suc (suc n) = ap (λ xs. codes "  " ++ xs) (deeper_suc n)

pub deeper : (n : ℕ) → indentation n ++ codes "  " ≡ indentation (n + 1)
deeper n = deeper_suc n ∙ ap indentation (let e : suc n ≡ n + 1 = omega arith in e)

-- ---- statements

pub text_of_assign : (variables : List Variable) (x : ℕ) (e : Expr) → statement_text variables (statement.Assign x e)
    ≡ statement_step variables (text.Assign x e)
text_of_assign variables x e =
    ap (statement_text variables) (sym (rolls-Assign x e)) ∙ fold-roll-Statement Piece (statement_step variables) (text.Assign x e)

pub text_of_pause : (variables : List Variable) → statement_text variables statement.Pause ≡ statement_step variables text.Pause
text_of_pause variables = ap (statement_text variables) (sym rolls-Pause) ∙ fold-roll-Statement Piece (statement_step variables) text.Pause

pub text_of_if : (variables : List Variable) (e : Expr) (a b : List Statement)
    → statement_text variables (statement.If e a b) ≡ statement_step variables (text.If e (map (statement_text variables) a) (map (statement_text variables) b))
text_of_if variables e a b =
    ap (statement_text variables) (sym (rolls-If e a b)) ∙ fold-roll-Statement Piece (statement_step variables) (text.If e a b)

pub text_of_fork : (variables : List Variable) (branches : List (List Statement))
    → statement_text variables (statement.Fork branches) ≡ statement_step variables (text.Fork (map (map (statement_text variables)) branches))
text_of_fork variables branches =
    ap (statement_text variables) (sym (rolls-Fork branches)) ∙ fold-roll-Statement Piece (statement_step variables) (text.Fork branches)

-- statements on the next level
row_is : (variables : List Variable) (statements : List Statement) (level : ℕ) → statements_text variables statements level
    ≡ in_row (map (statement_text variables) statements) level
row_is variables [] level = refl
row_is variables (s ∷ statements) level = ap (λ xs. statement_text variables s level ++ xs) (row_is variables statements level)

pub inner_row : (variables : List Variable) (statements others : List Statement) (level : ℕ) → others ≡ statements
    → statements_text variables others (level + 1) ≡ in_row (map (statement_text variables) statements) (suc level)
inner_row variables statements others level same =
    ap (λ ss. statements_text variables ss (level + 1)) same
    ∙ row_is variables statements (level + 1)
    ∙ ap (in_row (map (statement_text variables) statements)) (let e : level + 1 ≡ suc level = omega arith in e)

pub else_is : (variables : List Variable) (statements : List Statement) (level : ℕ)
    → when (has_any statements) (line (codes "} else {") level) ++ in_row (map (statement_text variables) statements) (suc level)
    ≡ else_text (map (statement_text variables) statements) level
else_is variables [] level = refl
else_is variables (s ∷ statements) level = refl
