-- The points and the spots of each sort of statement.
use Rattle.std.proofs.Common.{◌≡◌, ℕ, List, [], ◌∷◌, ◌++◌, map, sym, ap, ◌∙◌}
use Rattle.sc_values.specs.declared.expression.Expr.{Expr}
use Rattle.sc_text.specs.declared.drafts.parts.Named.{Named}
use Rattle.sc_text.specs.declared.drafts.parts.TextExpression.{TextExpression}
use Rattle.scl.specs.declared.statement.Statement.{Statement}
use Rattle.scl.specs.declared.statement.Statement.TheVariants as statement
use Rattle.scl.specs.declared.statement.Statement.TheVariants.{rolls-Assign, rolls-Label, rolls-Goto, rolls-Pause, rolls-If, rolls-Fork}
use Rattle.scl.specs.declared.statement.Statement.TheOpen as open_statement
use Rattle.scl.specs.declared.statement.Statement.TheFolds.{fold-roll-Statement}
use Rattle.scl_reader.specs.declared.text_drafts.statement.TextStatement.{TextStatement}
use Rattle.scl_reader.specs.declared.text_drafts.statement.TextStatement.TheOpen as text
use Rattle.scl_reader.specs.declared.text_drafts.statement.TextStatement.TheVariants as written
use Rattle.scl_reader.specs.declared.text_drafts.statement.TextStatement.TheFolds.{fold-roll-TextStatement}
use Rattle.node_elements.specs.Points.{Point, Assigns, Marks, Jumps, Pauses, Tests, Forks, points, points_of}
use Rattle.node_elements.specs.Points.{in_branches as point_branches, in_row as point_row}
use Rattle.node_sources.specs.declared.statements.StatementPlace.{StatementPlace}
use Rattle.node_sources.specs.SclOrigins.{branch_spots, in_branches, in_row, one_place, spots, spots_in}

-- ---- points

pub assign_points : (x : ℕ) (e : Expr) → points_of (statement.Assign x e) ≡ Assigns x e ∷ []
assign_points x e = ap points_of (sym (rolls-Assign x e)) ∙ fold-roll-Statement (List Point) points (open_statement.Assign x e)

pub label_points : (name : List ℕ) → points_of (statement.Label name) ≡ Marks name ∷ []
label_points name = ap points_of (sym (rolls-Label name)) ∙ fold-roll-Statement (List Point) points (open_statement.Label name)

pub goto_points : (name : List ℕ) → points_of (statement.Goto name) ≡ Jumps name ∷ []
goto_points name = ap points_of (sym (rolls-Goto name)) ∙ fold-roll-Statement (List Point) points (open_statement.Goto name)

pub pause_points : points_of statement.Pause ≡ Pauses ∷ []
pause_points = ap points_of (sym rolls-Pause) ∙ fold-roll-Statement (List Point) points open_statement.Pause

pub if_points : (e : Expr) (a b : List Statement) →
    points_of (statement.If e a b) ≡ Tests e ∷ point_row (map points_of a) ++ point_row (map points_of b)
if_points e a b = ap points_of (sym (rolls-If e a b)) ∙ fold-roll-Statement (List Point) points (open_statement.If e a b)

pub fork_points : (branches : List (List Statement)) → points_of (statement.Fork branches) ≡ Forks ∷ point_branches (map (map points_of) branches)
fork_points branches = ap points_of (sym (rolls-Fork branches)) ∙ fold-roll-Statement (List Point) points (open_statement.Fork branches)

-- ---- spots

pub assign_spots : (target : Named) (value : TextExpression) → spots_in (written.Assign target value) ≡ one_place target.at ∷ []
assign_spots target value =
    ap spots_in (sym (written.rolls-Assign target value)) ∙ fold-roll-TextStatement (List StatementPlace) spots (text.Assign target value)

pub label_spots : (label : Named) → spots_in (written.Label label) ≡ one_place label.at ∷ []
label_spots label = ap spots_in (sym (written.rolls-Label label)) ∙ fold-roll-TextStatement (List StatementPlace) spots (text.Label label)

pub goto_spots : (label : Named) → spots_in (written.Goto label) ≡ one_place label.at ∷ []
goto_spots label = ap spots_in (sym (written.rolls-Goto label)) ∙ fold-roll-TextStatement (List StatementPlace) spots (text.Goto label)

pub pause_spots : (at : ℕ) → spots_in (written.Pause at) ≡ one_place at ∷ []
pause_spots at = ap spots_in (sym (written.rolls-Pause at)) ∙ fold-roll-TextStatement (List StatementPlace) spots (text.Pause at)

pub if_spots : (at : ℕ) (test : TextExpression) (a b : List TextStatement) →
    spots_in (written.If at test a b) ≡ one_place at ∷ in_row (map spots_in a) ++ in_row (map spots_in b)
if_spots at test a b =
    ap spots_in (sym (written.rolls-If at test a b)) ∙ fold-roll-TextStatement (List StatementPlace) spots (text.If at test a b)

pub fork_spots : (b : ℕ × List TextStatement) (branches : List (ℕ × List TextStatement)) (join : ℕ) →
    spots_in (written.Fork (b ∷ branches) join) ≡ record { first = b.0; second = join } ∷ in_branches (branch_spots (b ∷ branches))
fork_spots b branches join =
    ap spots_in (sym (written.rolls-Fork (b ∷ branches) join))
    ∙ fold-roll-TextStatement (List StatementPlace) spots (text.Fork (b ∷ branches) join)
