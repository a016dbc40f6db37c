-- The points of single statements, and of statements in a row.
use Rattle.std.proofs.Common.{◌≡◌, ℕ, List, [], ◌∷◌, ◌++◌, map, refl, sym, ap, subst, ◌∙◌, append_assoc}
use Rattle.sc_values.specs.declared.expression.Expr.{Expr}
use Rattle.scl.specs.declared.statement.Statement.{Statement}
use Rattle.scl.specs.declared.statement.Statement.TheVariants as statement
use Rattle.scl.specs.declared.statement.Statement.TheVariants.{rolls-Assign, rolls-Label, rolls-Goto, rolls-Pause, rolls-If, rolls-Fork}
use Rattle.scl.specs.declared.statement.Statement.TheOpen as text
use Rattle.scl.specs.declared.statement.Statement.TheFolds.{fold-roll-Statement}
use Rattle.node_elements.specs.Points.{Point, in_row, points, points_of}
use Rattle.core_charts.specs.declared.elements.element.Element.{Element}
use Rattle.core_charts.specs.Elements.{Contents}
use Rattle.node_elements.specs.LoweringLaws.{IsFrom}
use Rattle.node_elements.proofs.FromRows.{AllFrom}

pub assign_points : (x : ℕ) (e : Expr) → points_of (statement.Assign x e) ≡ points (text.Assign x e)
assign_points x e = ap points_of (sym (rolls-Assign x e)) ∙ fold-roll-Statement (List Point) points (text.Assign x e)

pub label_points : (name : List ℕ) → points_of (statement.Label name) ≡ points (text.Label name)
label_points name = ap points_of (sym (rolls-Label name)) ∙ fold-roll-Statement (List Point) points (text.Label name)

pub goto_points : (name : List ℕ) → points_of (statement.Goto name) ≡ points (text.Goto name)
goto_points name = ap points_of (sym (rolls-Goto name)) ∙ fold-roll-Statement (List Point) points (text.Goto name)

pub pause_points : points_of statement.Pause ≡ points text.Pause
pause_points = ap points_of (sym rolls-Pause) ∙ fold-roll-Statement (List Point) points text.Pause

pub if_points : (e : Expr) (a b : List Statement) → points_of (statement.If e a b) ≡ points (text.If e (map points_of a) (map points_of b))
if_points e a b = ap points_of (sym (rolls-If e a b)) ∙ fold-roll-Statement (List Point) points (text.If e a b)

pub fork_points : (branches : List (List Statement)) → points_of (statement.Fork branches) ≡ points (text.Fork (map (map points_of) branches))
fork_points branches = ap points_of (sym (rolls-Fork branches)) ∙ fold-roll-Statement (List Point) points (text.Fork branches)

abbrev pub points_in : List Statement → List Point
points_in statements = in_row (map points_of statements)

pub points_append : (a b : List Statement) → points_in (a ++ b) ≡ points_in a ++ points_in b
points_append [] b = refl
points_append (s ∷ a) b = ap (λ ps. points_of s ++ ps) (points_append a b) ∙ sym (append_assoc (points_of s) (points_in a) (points_in b))

-- a statement that is a point, and others behind it
pub from_first : (all : Contents) (o : Element) (s : Statement) (p : Point) (os : List Element) (others : List Statement) →
    points_of s ≡ p ∷ [] → IsFrom all o p → AllFrom all os (points_in others) → AllFrom all (o ∷ os) (points_in (s ∷ others))
from_first all o s p os others is here later = subst (λ ps. AllFrom all (o ∷ os) (ps ++ points_in others)) (sym is) (here, later)
