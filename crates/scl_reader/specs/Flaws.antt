-- What is wrong with a draft: the list of all its flaws, each with its place. A variable, a label and a goto stand at their
-- names, an assignment at the name that it assigns, a branch at the word that opens it, an expression at its first byte.
use Rattle.std.specs.Prelude.{ℕ, ◌+◌, not, Some, List, [], ◌∷◌, ◌++◌, map}
use Rattle.sc_values.specs.declared.value.Kind.TheVariants as kind
use Rattle.sc_graph.specs.Limits.{child_limit}
use Rattle.sc_text.specs.declared.read_fault.FaultKind.TheVariants as broken
use Rattle.sc_text.specs.declared.drafts.flaw.Flaw.{Flaw}
use Rattle.sc_text.specs.declared.drafts.parts.Named.{Named}
use Rattle.sc_text.specs.declared.drafts.parts.Declaration.{Declaration}
use Rattle.sc_text.specs.Flaws.{flaw_if, is_full, is_among, is_repeated, variable_names, variable_named, expression_flaws, assigned_flaws, variable_flaws}
use Rattle.scl_reader.specs.declared.text_drafts.statement.TextStatement.{TextStatement}
use Rattle.scl_reader.specs.declared.text_drafts.statement.TextStatement.TheOpen.{TextStatement-F}
use Rattle.scl_reader.specs.declared.text_drafts.statement.TextStatement.TheOpen as text
use Rattle.scl_reader.specs.declared.text_drafts.statement.TextStatement.TheFolds.{fold-TextStatement}
use Rattle.scl_reader.specs.declared.text_drafts.draft.Draft.{Draft}

-- what a piece of a thread's text holds
pub record Part : Type 0 where
  -- the labels and the gotos of its own thread
  pub labels : List Named
  pub gotos : List Named
  -- its labels in the order of the text, those of the threads that it forks among them
  pub all : List Named
  -- what is wrong in it, but for gotos of its own thread to no label, and for labels that stand twice
  pub flaws : List Flaw

abbrev pub nothing : Part
nothing = record { labels = []; gotos = []; all = []; flaws = [] }

abbrev pub both : Part → Part → Part
both p q =
    record { labels = p.labels ++ q.labels; gotos = p.gotos ++ q.gotos; all = p.all ++ q.all; flaws = p.flaws ++ q.flaws }

abbrev pub in_row : List Part → Part
in_row [] = nothing
in_row (p ∷ parts) = both p (in_row parts)

abbrev pub names : List Named → List (List ℕ)
names labels = map (λ l. l.name) labels

-- gotos to none of these labels
abbrev pub lost : (labels : List (List ℕ)) → List Named → List Flaw
lost labels [] = []
lost labels (g ∷ gotos) = flaw_if (not (is_among labels g.name)) broken.Unknown g.at ++ lost labels gotos

-- a whole thread, seen from outside: a goto names a label of its own thread
abbrev pub thread : Part → Part
thread p = record { labels = []; gotos = []; all = p.all; flaws = p.flaws ++ lost (names p.labels) p.gotos }

abbrev pub only_flaws : List Flaw → Part
only_flaws flaws = record nothing { flaws = flaws }

-- the branches of a fork behind so many others, each with the place of its word
abbrev pub side_by_side : ℕ → List (ℕ × List Part) → Part
side_by_side before [] = nothing
side_by_side before (b ∷ branches) =
    both (only_flaws (flaw_if (is_full child_limit before) broken.Limit b.0)) (both (thread (in_row b.1)) (side_by_side (before + 1) branches))

abbrev pub part : List Declaration → TextStatement-F Part → Part
part variables (text.Assign target value) =
    only_flaws (assigned_flaws variables (variable_named variables target.name) target value)
part variables (text.Label label) = record nothing { labels = label ∷ []; all = label ∷ [] }
part variables (text.Goto label) = record nothing { gotos = label ∷ [] }
part variables (text.Pause at) = nothing
part variables (text.If at test first second) =
    both (only_flaws (expression_flaws variables (Some kind.Bool) test)) (both (in_row first) (in_row second))
part variables (text.Fork branches join) = side_by_side 0 branches

abbrev pub part_of : List Declaration → TextStatement → Part
part_of variables = fold-TextStatement Part (part variables)

abbrev pub parts_of : List Declaration → List TextStatement → List Part
parts_of variables statements = map (part_of variables) statements

-- the first thread
abbrev pub root : List Declaration → List TextStatement → Part
root variables statements = thread (in_row (parts_of variables statements))

-- labels from this place on, whose name stands at an earlier place too; `labels` are the names of all of them
abbrev pub repeated : (labels : List (List ℕ)) → (at : ℕ) → List Named → List Flaw
repeated labels at [] = []
repeated labels at (l ∷ more) = flaw_if (is_repeated labels at l.name) broken.Repeated l.at ++ repeated labels (at + 1) more

abbrev pub scl_flaws : Draft → List Flaw
scl_flaws d =
    variable_flaws (variable_names d.declarations) 0 0 d.declarations
    ++ ((root d.declarations d.statements).flaws ++ repeated (names (root d.declarations d.statements).all) 0 (root d.declarations d.statements).all)
