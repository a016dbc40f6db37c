-- What a program's text keeps by its grammar alone, whatever its names mean: how its labels are called, what its
-- expressions write, and how its ifs and forks stand in one another.
use Rattle.std.specs.Prelude.{ℕ, suc, ◌≡◌, ◌≤◌, Bool, true, ◌&&◌, IsTrue, Some, List, [], ◌∷◌, ◌++◌, length, map, max, slice_get}
use Rattle.std.specs.List.{list_all}
use Rattle.sc_text.specs.declared.language.Language.TheVariants as language
use Rattle.sc_text.specs.Parts.{IsNameIn}
use Rattle.sc_text.specs.Writable.{is_writable_operation}
use Rattle.sc_text.specs.declared.drafts.parts.TextExpression.{TextExpression}
use Rattle.sc_text.specs.declared.drafts.parts.Declaration.{Declaration}
use Rattle.scl.specs.Rules.{fork_limit, if_limit}
use Rattle.scl_reader.specs.declared.text_drafts.statement.TextStatement.{TextStatement}
use Rattle.scl_reader.specs.declared.text_drafts.statement.TextStatement.TheOpen.{TextStatement-F}
use Rattle.scl_reader.specs.declared.text_drafts.statement.TextStatement.TheOpen as text
use Rattle.scl_reader.specs.declared.text_drafts.statement.TextStatement.TheFolds.{fold-TextStatement}
use Rattle.scl_reader.specs.declared.text_drafts.draft.Draft.{Draft}

-- what a piece of a thread's text holds
pub record Shape : Type 0 where
  -- the names of the labels of its own thread, and of the threads that it forks
  pub labels : List (List ℕ)
  pub lower : List (List ℕ)
  -- a text can write each operation of its expressions
  pub writable : Bool
  -- how many branches each fork has
  pub forks : List ℕ
  -- the most ifs that stand in one another in its own thread, and in one that it forks
  pub ifs : ℕ
  pub lower_ifs : ℕ
  -- the most forks that stand in one another
  pub depth : ℕ

abbrev pub nothing : Shape
nothing = record { labels = []; lower = []; writable = true; forks = []; ifs = 0; lower_ifs = 0; depth = 0 }

abbrev pub both : Shape → Shape → Shape
both p q =
    record {
      labels = p.labels ++ q.labels;
      lower = p.lower ++ q.lower;
      writable = p.writable && q.writable;
      forks = p.forks ++ q.forks;
      ifs = max p.ifs q.ifs;
      lower_ifs = max p.lower_ifs q.lower_ifs;
      depth = max p.depth q.depth;
    }

abbrev pub in_row : List Shape → Shape
in_row [] = nothing
in_row (p ∷ shapes) = both p (in_row shapes)

-- a whole thread, seen from outside
abbrev pub thread : Shape → Shape
thread p =
    record p { labels = []; lower = p.labels ++ p.lower; ifs = 0; lower_ifs = max p.ifs p.lower_ifs }

-- the branches of a fork
abbrev pub side_by_side : List (ℕ × List Shape) → Shape
side_by_side [] = nothing
side_by_side (b ∷ branches) = both (thread (in_row b.1)) (side_by_side branches)

abbrev pub forked : ℕ → Shape → Shape
forked count p = record p { forks = count ∷ p.forks; depth = suc p.depth }

abbrev pub is_writable_expression : TextExpression → Bool
is_writable_expression e = list_all is_writable_operation e.operations

abbrev pub tested : TextExpression → Shape → Shape
tested e p = record p { writable = is_writable_expression e && p.writable; ifs = suc p.ifs }

abbrev pub shape : TextStatement-F Shape → Shape
shape (text.Assign target value) = record nothing { writable = is_writable_expression value }
shape (text.Label label) = record nothing { labels = label.name ∷ [] }
shape (text.Goto label) = nothing
shape (text.Pause at) = nothing
shape (text.If at test first second) = tested test (both (in_row first) (in_row second))
shape (text.Fork branches join) = forked (length branches) (side_by_side branches)

abbrev pub shape_of : TextStatement → Shape
shape_of = fold-TextStatement Shape shape

-- the first thread
abbrev pub root : List TextStatement → Shape
root statements = thread (in_row (map shape_of statements))

-- what each draft keeps
pub record IsShaped (d : Draft) : Type 0 where
  pub named : IsNameIn language.Scl d.name
  pub declared : (n : ℕ) (x : Declaration) → slice_get d.declarations n ≡ Some x → IsNameIn language.Scl x.named.name
  pub labels : (n : ℕ) (name : List ℕ) → slice_get (root d.statements).lower n ≡ Some name → IsNameIn language.Scl name
  pub writable : IsTrue (root d.statements).writable
  pub branches : (n count : ℕ) → slice_get (root d.statements).forks n ≡ Some count → 1 ≤ count
  pub forks : (root d.statements).depth ≤ fork_limit
  pub ifs : (root d.statements).lower_ifs ≤ if_limit
