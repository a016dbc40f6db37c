-- The rules of SCL and its limits: what a program keeps beside its grammar.
use Rattle.std.specs.Prelude.{ℕ, suc, ◌≡◌, ◌≢◌, ◌≤◌, Bool, false, not, ◌||◌, IsTrue, Some, List, [], ◌∷◌, ◌++◌, length, map, max, slice_get}
use Rattle.std.specs.List.{filter}
use Rattle.std.specs.Str.{bytes_eq}
use Rattle.sc_values.specs.declared.expression.Expr.{Expr}
use Rattle.sc_values.specs.declared.value.Kind.TheVariants as kind_is
use Rattle.sc_graph.specs.declared.program.Variable.{Variable}
use Rattle.sc_graph.specs.declared.program.Role.TheVariants as role
use Rattle.sc_graph.specs.Limits.{child_limit, ancestor_limit}
use Rattle.sc_text.specs.declared.language.Language.TheVariants as language
use Rattle.sc_text.specs.Parts.{IsNameIn, IsExpression, AreVariables, are_distinct}
use Rattle.scl.specs.declared.statement.Statement.{Statement}
use Rattle.scl.specs.declared.statement.Statement.TheOpen.{Statement-F}
use Rattle.scl.specs.declared.statement.Statement.TheOpen as text
use Rattle.scl.specs.declared.statement.Statement.TheFolds.{fold-Statement}

-- the forks that stand in one another
abbrev pub fork_limit : ℕ
fork_limit = ancestor_limit

-- the ifs that stand in one another within a thread
abbrev pub if_limit : ℕ
if_limit = 32

-- the variable is there and no input, and becomes a value of its kind
pub record IsAssignment (variables : List Variable) (x : ℕ) (e : Expr) : Type 0 where
  pub variable : Variable
  pub is_there : slice_get variables x ≡ Some variable
  pub no_input : variable.role ≢ role.Input
  pub becomes : IsExpression (map (λ v. v.kind) variables) variable.kind e

-- what a piece of a thread's text holds
pub record Part : Type 0 where
  -- the labels and the gotos of its own thread
  pub labels : List (List ℕ)
  pub gotos : List (List ℕ)
  -- the labels of the threads that it forks, and their gotos to no label of their own thread
  pub lower : List (List ℕ)
  pub lost : List (List ℕ)
  pub assigned : List (ℕ × Expr)
  pub tests : List Expr
  -- how many branches each fork has
  pub forks : List ℕ
  -- the most ifs that stand in one another in its own thread, and in one that it forks
  pub ifs : ℕ
  pub lower_ifs : ℕ
  -- the most forks that stand in one another
  pub depth : ℕ

abbrev pub nothing : Part
nothing =
    record { labels = []; gotos = []; lower = []; lost = []; assigned = []; tests = []; forks = []; ifs = 0; lower_ifs = 0; depth = 0 }

abbrev pub both : Part → Part → Part
both p q =
    record {
      labels = p.labels ++ q.labels;
      gotos = p.gotos ++ q.gotos;
      lower = p.lower ++ q.lower;
      lost = p.lost ++ q.lost;
      assigned = p.assigned ++ q.assigned;
      tests = p.tests ++ q.tests;
      forks = p.forks ++ q.forks;
      ifs = max p.ifs q.ifs;
      lower_ifs = max p.lower_ifs q.lower_ifs;
      depth = max p.depth q.depth;
    }

abbrev pub in_row : List Part → Part
in_row [] = nothing
in_row (p ∷ parts) = both p (in_row parts)

abbrev pub is_in : List (List ℕ) → List ℕ → Bool
is_in [] name = false
is_in (l ∷ names) name = bytes_eq l name || is_in names name

-- a whole thread, seen from outside
abbrev pub thread : Part → Part
thread p =
    record p {
      labels = [];
      gotos = [];
      lower = p.labels ++ p.lower;
      lost = filter (λ name. not (is_in p.labels name)) p.gotos ++ p.lost;
      ifs = 0;
      lower_ifs = max p.ifs p.lower_ifs;
    }

abbrev pub side_by_side : List (List Part) → Part
side_by_side [] = nothing
side_by_side (b ∷ branches) = both (thread (in_row b)) (side_by_side branches)

-- branches within a fork
abbrev pub forked : ℕ → Part → Part
forked count p = record p { forks = count ∷ p.forks; depth = suc p.depth }

-- branches of an if
abbrev pub tested : Expr → Part → Part
tested e p = record p { tests = e ∷ p.tests; ifs = suc p.ifs }

abbrev pub part : Statement-F Part → Part
part (text.Assign x e) = record nothing { assigned = (x, e) ∷ [] }
part (text.Label name) = record nothing { labels = name ∷ [] }
part (text.Goto name) = record nothing { gotos = name ∷ [] }
part text.Pause = nothing
part (text.If e a b) = tested e (both (in_row a) (in_row b))
part (text.Fork branches) = forked (length branches) (side_by_side branches)

abbrev pub part_of : Statement → Part
part_of = fold-Statement Part part

abbrev pub parts_of : List Statement → List Part
parts_of [] = []
parts_of (s ∷ statements) = part_of s ∷ parts_of statements

-- the first thread
abbrev pub root : List Statement → Part
root body = thread (in_row (parts_of body))

pub record KeepsBody (variables : List Variable) (all : Part) : Type 0 where
  pub assignments : (n x : ℕ) (e : Expr) → slice_get all.assigned n ≡ Some (x, e) → IsAssignment variables x e
  pub tests : (n : ℕ) (e : Expr) → slice_get all.tests n ≡ Some e → IsExpression (map (λ v. v.kind) variables) kind_is.Bool e
  -- no label stands twice, and each goto names one of its own thread
  pub distinct : IsTrue (are_distinct all.lower)
  pub named : (n : ℕ) (name : List ℕ) → slice_get all.lower n ≡ Some name → IsNameIn language.Scl name
  pub found : all.lost ≡ []
  pub branches : (n count : ℕ) → slice_get all.forks n ≡ Some count → (1 ≤ count) × (count ≤ child_limit)
  pub forks : all.depth ≤ fork_limit
  pub ifs : all.lower_ifs ≤ if_limit

pub record KeepsRules (name : List ℕ) (variables : List Variable) (body : List Statement) : Type 0 where
  pub named : IsNameIn language.Scl name
  pub declared : AreVariables language.Scl variables
  pub text : KeepsBody variables (root body)
