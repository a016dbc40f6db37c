-- Rows of what the rules gather from a text.
use Rattle.std.proofs.Common.{◌≡◌, true, List, [], ◌∷◌, refl}
use Rattle.std.specs.Prelude.{codes}
use Rattle.sc_values.specs.declared.value.Value.TheVariants as value
use Rattle.sc_values.specs.declared.expression.Expr.{Expr}
use Rattle.sc_values.specs.declared.expression.Expr.TheOpen as tree
use Rattle.sc_values.specs.declared.expression.Expr.TheViews.{roll-Expr}
use Rattle.scl.specs.declared.statement.Statement.TheOpen as text
use Rattle.scl.specs.Rules.{Part, part, in_row, thread}

-- a program of these statements
abbrev root : List Part → Part
root parts = thread (in_row parts)

abbrev label_a : Part
label_a = part (text.Label (codes "a"))

abbrev goto_a : Part
goto_a = part (text.Goto (codes "a"))

abbrev pause : Part
pause = part text.Pause

abbrev truth : Expr
truth = roll-Expr (tree.Literal (value.Bool true))

abbrev when : List Part → List Part → Part
when first second = part (text.If truth first second)

abbrev fork : List (List Part) → Part
fork branches = part (text.Fork branches)

-- a goto before its label, from within an if and to one
own_label : (root (goto_a ∷ label_a ∷ [])).lost ≡ []
own_label = refl

from_an_if : (root (when (goto_a ∷ []) [] ∷ label_a ∷ [])).lost ≡ []
from_an_if = refl

into_an_if : (root (when [] (label_a ∷ []) ∷ goto_a ∷ [])).lost ≡ []
into_an_if = refl

-- no label; a label of the thread that forks, of a branch, of another branch
no_label : (root (goto_a ∷ [])).lost ≡ codes "a" ∷ []
no_label = refl

label_above : (root (label_a ∷ fork ((goto_a ∷ []) ∷ []) ∷ [])).lost ≡ codes "a" ∷ []
label_above = refl

label_below : (root (fork ((label_a ∷ []) ∷ []) ∷ goto_a ∷ [])).lost ≡ codes "a" ∷ []
label_below = refl

label_beside : (root (fork ((label_a ∷ []) ∷ (goto_a ∷ []) ∷ []) ∷ [])).lost ≡ codes "a" ∷ []
label_beside = refl

-- a label that stands twice, in two threads
twice : (root (label_a ∷ fork ((pause ∷ []) ∷ (label_a ∷ []) ∷ []) ∷ [])).lower ≡ codes "a" ∷ codes "a" ∷ []
twice = refl

-- ifs in one another: a second list counts as the first one, and in a branch they count anew
two_ifs : (root (when [] (when [] (pause ∷ []) ∷ []) ∷ when [] [] ∷ [])).lower_ifs ≡ 2
two_ifs = refl

ifs_anew : (root (when (fork ((when [] [] ∷ []) ∷ []) ∷ []) [] ∷ [])).lower_ifs ≡ 1
ifs_anew = refl

-- forks in one another, and how many branches each has
two_forks : (root (fork ((fork ([] ∷ []) ∷ []) ∷ (when (fork ([] ∷ [] ∷ []) ∷ []) [] ∷ []) ∷ []) ∷ [])).depth ≡ 2
two_forks = refl

branches : (root (fork ((fork ([] ∷ []) ∷ []) ∷ [] ∷ []) ∷ [])).forks ≡ 2 ∷ 1 ∷ []
branches = refl
