-- What the rules gather from statements, and from texts one after the other.
use Rattle.std.proofs.Common.{◌≡◌, ℕ, List, [], ◌∷◌, ◌++◌, map, max, refl, ap, sym, ◌∙◌, append_assoc, arith}
use Rattle.sc_values.specs.declared.expression.Expr.{Expr}
use Rattle.scl.specs.declared.statement.Statement.{Statement}
use Rattle.scl.specs.declared.statement.Statement.TheOpen as text
use Rattle.scl.specs.declared.statement.Statement.TheVariants as variant
use Rattle.scl.specs.declared.statement.Statement.TheVariants.{rolls-Assign, rolls-Label, rolls-Goto, rolls-Pause, rolls-If, rolls-Fork}
use Rattle.scl.specs.declared.statement.Statement.TheFolds.{fold-roll-Statement}
use Rattle.scl.specs.Rules.{Part, nothing, both, in_row, part, part_of, parts_of}

pub part_of_assign : (x : ℕ) (e : Expr) → part_of (variant.Assign x e) ≡ part (text.Assign x e)
part_of_assign x e = ap part_of (sym (rolls-Assign x e)) ∙ fold-roll-Statement Part part (text.Assign x e)

pub part_of_label : (name : List ℕ) → part_of (variant.Label name) ≡ part (text.Label name)
part_of_label name = ap part_of (sym (rolls-Label name)) ∙ fold-roll-Statement Part part (text.Label name)

pub part_of_goto : (name : List ℕ) → part_of (variant.Goto name) ≡ part (text.Goto name)
part_of_goto name = ap part_of (sym (rolls-Goto name)) ∙ fold-roll-Statement Part part (text.Goto name)

pub part_of_pause : part_of variant.Pause ≡ part text.Pause
part_of_pause = ap part_of (sym rolls-Pause) ∙ fold-roll-Statement Part part text.Pause

pub part_of_if : (e : Expr) (a b : List Statement) → part_of (variant.If e a b) ≡ part (text.If e (map part_of a) (map part_of b))
part_of_if e a b = ap part_of (sym (rolls-If e a b)) ∙ fold-roll-Statement Part part (text.If e a b)

pub part_of_fork : (branches : List (List Statement)) → part_of (variant.Fork branches) ≡ part (text.Fork (map (map part_of) branches))
part_of_fork branches = ap part_of (sym (rolls-Fork branches)) ∙ fold-roll-Statement Part part (text.Fork branches)

-- a text
abbrev pub row : List Statement → Part
row statements = in_row (map part_of statements)

pub parts_are : (statements : List Statement) → parts_of statements ≡ map part_of statements
parts_are [] = refl
parts_are (s ∷ statements) = ap (λ ps. part_of s ∷ ps) (parts_are statements)

max_assoc : (a b c : ℕ) → max (max a b) c ≡ max a (max b c)
max_assoc a b c = omega arith

pub both_assoc : (p q r : Part) → both (both p q) r ≡ both p (both q r)
both_assoc p q r = λ i. record {
  labels = append_assoc p.labels q.labels r.labels i;
  gotos = append_assoc p.gotos q.gotos r.gotos i;
  lower = append_assoc p.lower q.lower r.lower i;
  lost = append_assoc p.lost q.lost r.lost i;
  assigned = append_assoc p.assigned q.assigned r.assigned i;
  tests = append_assoc p.tests q.tests r.tests i;
  forks = append_assoc p.forks q.forks r.forks i;
  ifs = max_assoc p.ifs q.ifs r.ifs i;
  lower_ifs = max_assoc p.lower_ifs q.lower_ifs r.lower_ifs i;
  depth = max_assoc p.depth q.depth r.depth i;
}

max_zero : (a : ℕ) → max 0 a ≡ a
max_zero a = omega arith

pub nothing_both : (p : Part) → both nothing p ≡ p
nothing_both p = λ i. record p { ifs = max_zero p.ifs i; lower_ifs = max_zero p.lower_ifs i; depth = max_zero p.depth i }

-- two texts one after the other
pub row_append : (a b : List Statement) → row (a ++ b) ≡ both (row a) (row b)
row_append [] b = sym (nothing_both (row b))
row_append (s ∷ a) b = ap (both (part_of s)) (row_append a b) ∙ sym (both_assoc (part_of s) (row a) (row b))
