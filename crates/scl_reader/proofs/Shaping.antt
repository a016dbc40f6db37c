-- What the pieces of a thread's text hold, where so many ifs and forks may stand in one another.
use Rattle.std.proofs.Common.{◌≡◌, ℕ, suc, ◌≤◌, ◌&&◌, IsTrue, List, [], ◌∷◌, map, refl, sym, ◌∙◌, ap, subst, arith}
use Rattle.grammar.proofs.Each.{Every, every_joined}
use Rattle.sc_text.specs.declared.language.Language.TheVariants as language
use Rattle.sc_text.specs.Parts.{IsNameIn}
use Rattle.sc_text.specs.declared.drafts.parts.Named.{Named}
use Rattle.sc_text.specs.declared.drafts.parts.TextExpression.{TextExpression}
use Rattle.scl_reader.specs.declared.text_drafts.statement.TextStatement.{TextStatement}
use Rattle.scl_reader.specs.declared.text_drafts.statement.TextStatement.TheOpen as text
use Rattle.scl_reader.specs.declared.text_drafts.statement.TextStatement.TheVariants as variant
use Rattle.scl_reader.specs.declared.text_drafts.statement.TextStatement.TheVariants.{rolls-Assign, rolls-Label, rolls-Goto, rolls-Pause, rolls-If, rolls-Fork}
use Rattle.scl_reader.specs.declared.text_drafts.statement.TextStatement.TheFolds.{fold-roll-TextStatement}
use Rattle.scl_reader.specs.Shape.{Shape, nothing, both, in_row, thread, side_by_side, is_writable_expression, shape, shape_of}

-- ---- the shape of each statement

abbrev pub shapes : List TextStatement → List Shape
shapes statements = map shape_of statements

abbrev pub of_branch : ℕ × List TextStatement → ℕ × List Shape
of_branch b = (b.0, shapes b.1)

shape_of_assign : (target : Named) (value : TextExpression) → shape_of (variant.Assign target value) ≡ shape (text.Assign target value)
shape_of_assign target value = ap shape_of (sym (rolls-Assign target value)) ∙ fold-roll-TextStatement Shape shape (text.Assign target value)

shape_of_label : (label : Named) → shape_of (variant.Label label) ≡ shape (text.Label label)
shape_of_label label = ap shape_of (sym (rolls-Label label)) ∙ fold-roll-TextStatement Shape shape (text.Label label)

shape_of_goto : (label : Named) → shape_of (variant.Goto label) ≡ shape (text.Goto label)
shape_of_goto label = ap shape_of (sym (rolls-Goto label)) ∙ fold-roll-TextStatement Shape shape (text.Goto label)

shape_of_pause : (at : ℕ) → shape_of (variant.Pause at) ≡ shape (text.Pause at)
shape_of_pause at = ap shape_of (sym (rolls-Pause at)) ∙ fold-roll-TextStatement Shape shape (text.Pause at)

shape_of_if : (at : ℕ) (test : TextExpression) (first second : List TextStatement) → shape_of (variant.If at test first second)
    ≡ shape (text.If at test (shapes first) (shapes second))
shape_of_if at test first second =
    ap shape_of (sym (rolls-If at test first second)) ∙ fold-roll-TextStatement Shape shape (text.If at test first second)

shape_of_fork : (branches : List (ℕ × List TextStatement)) (join : ℕ)
    → shape_of (variant.Fork branches join) ≡ shape (text.Fork (map of_branch branches) join)
shape_of_fork branches join =
    ap shape_of (sym (rolls-Fork branches join)) ∙ fold-roll-TextStatement Shape shape (text.Fork branches join)

-- ---- what fits within so many forks and ifs, where a thread may have `limit` ifs in one another

abbrev AreNames : List (List ℕ) → Type 0
AreNames names = Every (IsNameIn language.Scl) names

module _ (limit : ℕ) where
  pub record Fits (forks ifs : ℕ) (p : Shape) : Type 0 where
    pub labels : AreNames p.labels
    pub lower : AreNames p.lower
    pub writable : IsTrue p.writable
    pub branches : Every (λ n. 1 ≤ n) p.forks
    pub low_ifs : p.ifs ≤ ifs
    pub low_lower_ifs : p.lower_ifs ≤ limit
    pub low_depth : p.depth ≤ forks

  nothing_fits : (forks ifs : ℕ) → Fits forks ifs nothing
  nothing_fits forks ifs =
      record {
        labels = tt;
        lower = tt;
        writable = refl;
        branches = tt;
        low_ifs = omega arith;
        low_lower_ifs = omega arith;
        low_depth = omega arith;
      }

  both_fit : (forks ifs : ℕ) (p q : Shape) → Fits forks ifs p → Fits forks ifs q → Fits forks ifs (both p q)
  both_fit forks ifs p q a b =
      record {
        labels = every_joined _ p.labels q.labels a.labels b.labels;
        lower = every_joined _ p.lower q.lower a.lower b.lower;
        writable = ap (λ x. x && q.writable) a.writable ∙ b.writable;
        branches = every_joined _ p.forks q.forks a.branches b.branches;
        low_ifs = omega (arith, a.low_ifs, b.low_ifs);
        low_lower_ifs = omega (arith, a.low_lower_ifs, b.low_lower_ifs);
        low_depth = omega (arith, a.low_depth, b.low_depth);
      }

  pub row_fits : (forks ifs : ℕ) (statements : List TextStatement) → Every (λ s. Fits forks ifs (shape_of s)) statements
      → Fits forks ifs (in_row (shapes statements))
  row_fits forks ifs [] e = nothing_fits forks ifs
  row_fits forks ifs (s ∷ statements) e =
      both_fit forks ifs (shape_of s) (in_row (shapes statements)) e.0 (row_fits forks ifs statements e.1)

  pub thread_fits : (forks ifs : ℕ) (p : Shape) → Fits forks limit p → Fits forks ifs (thread p)
  thread_fits forks ifs p a =
      record {
        labels = tt;
        lower = every_joined _ p.labels p.lower a.labels a.lower;
        writable = a.writable;
        branches = a.branches;
        low_ifs = omega arith;
        low_lower_ifs = omega (arith, a.low_ifs, a.low_lower_ifs);
        low_depth = a.low_depth;
      }

  pub assign_fits : (forks ifs : ℕ) (target : Named) (value : TextExpression) → IsTrue (is_writable_expression value)
      → Fits forks ifs (shape_of (variant.Assign target value))
  assign_fits forks ifs target value h =
      let n = nothing_fits forks ifs in
      subst (Fits forks ifs) (sym (shape_of_assign target value))
      (record {
        labels = tt;
        lower = tt;
        writable = h;
        branches = tt;
        low_ifs = n.low_ifs;
        low_lower_ifs = n.low_lower_ifs;
        low_depth = n.low_depth;
      })

  pub label_fits : (forks ifs : ℕ) (label : Named) → IsNameIn language.Scl label.name → Fits forks ifs (shape_of (variant.Label label))
  label_fits forks ifs label h =
      let n = nothing_fits forks ifs in
      subst (Fits forks ifs) (sym (shape_of_label label))
      (record {
        labels = (h, tt);
        lower = tt;
        writable = refl;
        branches = tt;
        low_ifs = n.low_ifs;
        low_lower_ifs = n.low_lower_ifs;
        low_depth = n.low_depth;
      })

  pub goto_fits : (forks ifs : ℕ) (label : Named) → Fits forks ifs (shape_of (variant.Goto label))
  goto_fits forks ifs label = subst (Fits forks ifs) (sym (shape_of_goto label)) (nothing_fits forks ifs)

  pub pause_fits : (forks ifs at : ℕ) → Fits forks ifs (shape_of (variant.Pause at))
  pause_fits forks ifs at = subst (Fits forks ifs) (sym (shape_of_pause at)) (nothing_fits forks ifs)

  pub if_fits : (forks ifs at : ℕ) (test : TextExpression) (first second : List TextStatement) → IsTrue (is_writable_expression test)
      → Every (λ s. Fits forks ifs (shape_of s)) first → Every (λ s. Fits forks ifs (shape_of s)) second
      → Fits forks (suc ifs) (shape_of (variant.If at test first second))
  if_fits forks ifs at test first second h a b =
      let p = both (in_row (shapes first)) (in_row (shapes second)) in
      let f : Fits forks ifs p = both_fit forks ifs _ _ (row_fits forks ifs first a) (row_fits forks ifs second b) in
      subst (Fits forks (suc ifs)) (sym (shape_of_if at test first second))
      (record {
        labels = f.labels;
        lower = f.lower;
        writable = ap (λ x. x && p.writable) h ∙ f.writable;
        branches = f.branches;
        low_ifs = omega (arith, f.low_ifs);
        low_lower_ifs = f.low_lower_ifs;
        low_depth = f.low_depth;
      })

  branches_fit : (forks ifs : ℕ) (branches : List (ℕ × List TextStatement)) → Every (λ b. Every (λ s. Fits forks limit (shape_of s)) b.1) branches
      → Fits forks ifs (side_by_side (map of_branch branches))
  branches_fit forks ifs [] e = nothing_fits forks ifs
  branches_fit forks ifs (b ∷ branches) e =
      both_fit forks ifs (thread (in_row (shapes b.1))) (side_by_side (map of_branch branches))
      (thread_fits forks ifs (in_row (shapes b.1)) (row_fits forks limit b.1 e.0)) (branches_fit forks ifs branches e.1)

  pub fork_fits : (forks ifs : ℕ) (first : ℕ × List TextStatement) (more : List (ℕ × List TextStatement)) (join : ℕ)
      → Every (λ b. Every (λ s. Fits forks limit (shape_of s)) b.1) (first ∷ more) → Fits (suc forks) ifs (shape_of (variant.Fork (first ∷ more) join))
  fork_fits forks ifs first more join e =
      let f = branches_fit forks ifs (first ∷ more) e in
      subst (Fits (suc forks) ifs) (sym (shape_of_fork (first ∷ more) join))
      (record {
        labels = f.labels;
        lower = f.lower;
        writable = f.writable;
        branches = (omega arith, f.branches);
        low_ifs = f.low_ifs;
        low_lower_ifs = f.low_lower_ifs;
        low_depth = omega (arith, f.low_depth);
      })
