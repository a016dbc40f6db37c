-- For each node of the program of an SCL text where it comes from: the statement at its first token, the join of a fork at
-- its word, and the end of a thread at the word that opens the thread.
use Rattle.std.specs.Prelude.{ℕ, Option, Some, None, List, [], ◌∷◌, ◌++◌, map, slice_get}
use Rattle.sc_text.specs.Reading.{place_of}
use Rattle.sc_text.specs.declared.token.Token.{Token}
use Rattle.scl.specs.declared.statement.Statement.{Statement}
use Rattle.scl_reader.specs.declared.text_drafts.statement.TextStatement.{TextStatement}
use Rattle.scl_reader.specs.declared.text_drafts.statement.TextStatement.TheOpen.{TextStatement-F}
use Rattle.scl_reader.specs.declared.text_drafts.statement.TextStatement.TheOpen as text
use Rattle.scl_reader.specs.declared.text_drafts.statement.TextStatement.TheFolds.{fold-TextStatement}
use Rattle.node_elements.specs.declared.graph.origin.NodeOrigin.{NodeOrigin}
use Rattle.node_elements.specs.declared.graph.origin.NodeOrigin.TheVariants as node
use Rattle.node_elements.specs.GraphOrigins.{node_origins}
use Rattle.node_sources.specs.declared.origin.Origin.{Origin}
use Rattle.node_sources.specs.declared.origin.SourcePart.TheVariants as part
use Rattle.node_sources.specs.declared.statements.StatementPlace.{StatementPlace}

-- ---- statements

-- a statement, or the end of a thread, both of whose nodes come from one place
abbrev pub one_place : ℕ → StatementPlace
one_place at = record { first = at; second = at }

abbrev pub in_row : List (List StatementPlace) → List StatementPlace
in_row [] = []
in_row (s ∷ rows) = s ++ in_row rows

-- the branches of a fork, each with the end of its thread
abbrev pub in_branches : List (ℕ × List (List StatementPlace)) → List StatementPlace
in_branches [] = []
in_branches (b ∷ branches) = in_row b.1 ++ one_place b.0 ∷ in_branches branches

-- where the first branch is opened
abbrev pub opening : {A : Type 0} → List (ℕ × A) → ℕ
opening [] = 0
opening (b ∷ branches) = b.0

abbrev pub spots : TextStatement-F (List StatementPlace) → List StatementPlace
spots (text.Assign target value) = one_place target.at ∷ []
spots (text.Label label) = one_place label.at ∷ []
spots (text.Goto label) = one_place label.at ∷ []
spots (text.Pause at) = one_place at ∷ []
spots (text.If at test first second) = one_place at ∷ in_row first ++ in_row second
spots (text.Fork branches join) = record { first = opening branches; second = join } ∷ in_branches branches

-- the spots of the points of a statement
abbrev pub spots_in : TextStatement → List StatementPlace
spots_in = fold-TextStatement (List StatementPlace) spots

abbrev pub branch_spots : List (ℕ × List TextStatement) → List (ℕ × List (List StatementPlace))
branch_spots branches = map (λ b. (b.0, map spots_in b.1)) branches

-- the spots of all points of a text: its statements, and the end of the first thread, which the first token opens
abbrev pub spots_of : List Token → List TextStatement → List StatementPlace
spots_of tokens statements = in_row (map spots_in statements) ++ one_place (place_of 0 tokens) ∷ []

-- ---- nodes

abbrev pub statement_at : ℕ → Origin
statement_at at = record { at = at; part = part.Statement; region = None; state = None }

abbrev pub at_first : Option StatementPlace → Option Origin
at_first (Some s) = Some (statement_at s.first)
at_first None = None

abbrev pub at_second : Option StatementPlace → Option Origin
at_second (Some s) = Some (statement_at s.second)
at_second None = None

abbrev pub point_origin : List StatementPlace → NodeOrigin → Option Origin
point_origin spots (node.First n) = at_first (slice_get spots n)
point_origin spots (node.Second n) = at_second (slice_get spots n)

-- the nodes of the program with these statements, of a text with these tokens
abbrev pub scl_origins : List Token → List TextStatement → List Statement → List (Option Origin)
scl_origins tokens statements body = map (point_origin (spots_of tokens statements)) (node_origins body)
