-- What each statement is as a piece of the text.
use Rattle.std.proofs.Common.{◌≡◌, ℕ, List, map, ap, sym, ◌∙◌}
use Rattle.sc_values.specs.declared.expression.Expr.{Expr}
use Rattle.scl.specs.declared.statement.Statement.{Statement}
use Rattle.scl.specs.declared.statement.Statement.TheOpen as text
use Rattle.scl.specs.declared.statement.Statement.TheVariants as variant
use Rattle.scl.specs.declared.statement.Statement.TheVariants.{rolls-Assign, rolls-Label, rolls-Goto, rolls-Pause, rolls-If, rolls-Fork}
use Rattle.scl.specs.declared.statement.Statement.TheFolds.{fold-roll-Statement}
use Rattle.scl.specs.Numbering.{Piece, piece, piece_of}

pub piece_of_assign : (x : ℕ) (e : Expr) → piece_of (variant.Assign x e) ≡ piece (text.Assign x e)
piece_of_assign x e = ap piece_of (sym (rolls-Assign x e)) ∙ fold-roll-Statement Piece piece (text.Assign x e)

pub piece_of_label : (name : List ℕ) → piece_of (variant.Label name) ≡ piece (text.Label name)
piece_of_label name = ap piece_of (sym (rolls-Label name)) ∙ fold-roll-Statement Piece piece (text.Label name)

pub piece_of_goto : (name : List ℕ) → piece_of (variant.Goto name) ≡ piece (text.Goto name)
piece_of_goto name = ap piece_of (sym (rolls-Goto name)) ∙ fold-roll-Statement Piece piece (text.Goto name)

pub piece_of_pause : piece_of variant.Pause ≡ piece text.Pause
piece_of_pause = ap piece_of (sym rolls-Pause) ∙ fold-roll-Statement Piece piece text.Pause

pub piece_of_if : (e : Expr) (a b : List Statement) → piece_of (variant.If e a b) ≡ piece (text.If e (map piece_of a) (map piece_of b))
piece_of_if e a b = ap piece_of (sym (rolls-If e a b)) ∙ fold-roll-Statement Piece piece (text.If e a b)

pub piece_of_fork : (branches : List (List Statement)) → piece_of (variant.Fork branches) ≡ piece (text.Fork (map (map piece_of) branches))
piece_of_fork branches = ap piece_of (sym (rolls-Fork branches)) ∙ fold-roll-Statement Piece piece (text.Fork branches)
