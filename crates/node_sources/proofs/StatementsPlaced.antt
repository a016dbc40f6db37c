-- Each statement of an SCL text whose tokens stand in the text has its spots at them.
use Rattle.std.proofs.Common.{◌≡◌, ℕ, zero, suc, Some, List, [], ◌∷◌, ◌++◌, map, length, slice_get, refl, sym, ap, subst, ◌∙◌}
use Rattle.grammar.proofs.Each.{Every}
use Rattle.sc_text.specs.declared.token.Token.{Token}
use Rattle.sc_text.specs.declared.word.Word.TheVariants as word
use Rattle.sc_text.specs.declared.drafts.parts.TextExpression.{TextExpression}
use Rattle.sc_text.specs.DraftParts.{expressed, name_of, named}
use Rattle.sc_text.specs.Resolved.{expression_of, number_of}
use Rattle.scl.specs.declared.statement.Statement.{Statement}
use Rattle.scl_reader.specs.declared.text_drafts.statement.TextStatement.{TextStatement}
use Rattle.scl_reader.specs.declared.text_drafts.statement.TextStatement.TheVariants as written
use Rattle.scl_reader.specs.Statements.{AfterName, Becomes, IsLabel, Statements, goto_statement, named_statement, pause_statement}
use Rattle.scl_reader.specs.Resolved.{branches_of, statement_of, statements_of}
use Rattle.scl_reader.proofs.Looking.{of_assign, of_fork, of_goto, of_if, of_label, of_pause}
use Rattle.node_elements.specs.Points.{Point, Assigns, Marks, Jumps, Pauses, Tests, Forks, Ends, in_branches as point_branches, in_row as point_row, points_of}
use Rattle.node_sources.specs.declared.statements.StatementPlace.{StatementPlace}
use Rattle.node_sources.specs.SclLaws.{NameStands, OpeningStands, PointStands, WordStands}
use Rattle.node_sources.specs.SclOrigins.{branch_spots, in_branches, in_row, one_place, spots_in}
use Rattle.node_sources.proofs.StatementPoints.{assign_points, assign_spots, fork_points, fork_spots, goto_points, goto_spots}
use Rattle.node_sources.proofs.StatementPoints.{if_points, if_spots, label_points, label_spots, pause_points, pause_spots}

module _ (text : List ℕ) (names : List (List ℕ)) where
  -- the token of the second node of a point, if it has one
  abbrev pub SecondOf : Point → ℕ → Type 0
  SecondOf Pauses at = WordStands text word.Pause at
  SecondOf Forks at = WordStands text word.Join at
  SecondOf other at = Unit {0}

  abbrev pub SpotStands : StatementPlace → Point → Type 0
  SpotStands s p = PointStands text names p s.first × SecondOf p s.second

  -- as many spots as points, and each spot at the tokens of its point
  abbrev pub Stand : List StatementPlace → List Point → Type 0
  Stand [] [] = Unit {0}
  Stand (s ∷ spots) (p ∷ points) = SpotStands s p × Stand spots points
  Stand spots points = ⊥

  pub stand_both : (spots more : List StatementPlace) (points others : List Point) → Stand spots points → Stand more others →
      Stand (spots ++ more) (points ++ others)
  stand_both [] more [] others h k = k
  stand_both [] more (p ∷ points) others h k = absurd h
  stand_both (s ∷ spots) more [] others h k = absurd h
  stand_both (s ∷ spots) more (p ∷ points) others h k = (h.0, stand_both spots more points others h.1 k)

  pub as_many : (spots : List StatementPlace) (points : List Point) → Stand spots points → length spots ≡ length points
  as_many [] [] h = refl
  as_many [] (p ∷ points) h = absurd h
  as_many (s ∷ spots) [] h = absurd h
  as_many (s ∷ spots) (p ∷ points) h = ap suc (as_many spots points h.1)

  pub stand_at : (spots : List StatementPlace) (points : List Point) → Stand spots points → (n : ℕ) (s : StatementPlace) (p : Point) →
      slice_get spots n ≡ Some s →
      slice_get points n ≡ Some p → SpotStands s p
  stand_at [] points h n s p i j = absurd cc
  stand_at (t ∷ spots) [] h n s p i j = absurd h
  stand_at (t ∷ spots) (q ∷ points) h zero s p i j =
      let one : t ≡ s = cc in
      let other : q ≡ p = cc in
      subst (SpotStands s) other (subst (λ u. SpotStands u q) one h.0)
  stand_at (t ∷ spots) (q ∷ points) h (suc n) s p i j = stand_at spots points h.1 n s p i j

  -- ---- statements

  abbrev pub IsPut : TextStatement → Type 0
  IsPut s = Stand (spots_in s) (points_of (statement_of names s))

  -- a branch behind the word that opens it
  abbrev pub IsBranchPut : ℕ × Statements → Type 0
  IsBranchPut b = OpeningStands text b.0 × Every IsPut b.1

  put_as : (s : TextStatement) (spots : List StatementPlace) (points : List Point) → spots_in s ≡ spots → points_of (statement_of names s) ≡ points →
      Stand spots points → IsPut s
  put_as s spots points e f h =
      subst (λ x. Stand x (points_of (statement_of names s))) (sym e) (subst (Stand spots) (sym f) h)

  pub named_put : (t : Token) (a : AfterName) → NameStands text (name_of t.kind) t.at → IsPut (named_statement t a)
  named_put t (Becomes first value) h =
      put_as (written.Assign (named t) (expressed (first, value))) (one_place t.at ∷ [])
      (Assigns (number_of names (name_of t.kind)) (expression_of names value) ∷ []) (assign_spots (named t) (expressed (first, value)))
      (ap points_of (of_assign names (named t) (expressed (first, value)))
      ∙ assign_points (number_of names (name_of t.kind)) (expression_of names value))
      ((record { name = name_of t.kind; called = refl; stands = h }, tt), tt)
  named_put t IsLabel h =
      put_as (written.Label (named t)) (one_place t.at ∷ []) (Marks (name_of t.kind) ∷ []) (label_spots (named t))
      (ap points_of (of_label names (named t)) ∙ label_points (name_of t.kind)) ((h, tt), tt)

  pub goto_put : (t : Token) → NameStands text (name_of t.kind) t.at → IsPut (goto_statement t)
  goto_put t h =
      put_as (written.Goto (named t)) (one_place t.at ∷ []) (Jumps (name_of t.kind) ∷ []) (goto_spots (named t))
      (ap points_of (of_goto names (named t)) ∙ goto_points (name_of t.kind)) ((h, tt), tt)

  pub pause_put : (t : Token) → WordStands text word.Pause t.at → IsPut (pause_statement t)
  pause_put t h =
      put_as (written.Pause t.at) (one_place t.at ∷ []) (Pauses ∷ []) (pause_spots t.at)
      (ap points_of (of_pause names t.at) ∙ pause_points) ((h, h), tt)

  pub row_stands : (statements : Statements) → Every IsPut statements →
      Stand (in_row (map spots_in statements)) (point_row (map points_of (statements_of names statements)))
  row_stands [] h = tt
  row_stands (s ∷ statements) h =
      stand_both (spots_in s) (in_row (map spots_in statements)) (points_of (statement_of names s))
      (point_row (map points_of (statements_of names statements))) h.0 (row_stands statements h.1)

  pub if_put : (at : ℕ) (test : TextExpression) (first second : Statements) → WordStands text word.If at → Every IsPut first →
      Every IsPut second → IsPut (written.If at test first second)
  if_put at test first second h a b =
      let one : List Statement = statements_of names first in
      let other : List Statement = statements_of names second in
      put_as (written.If at test first second) (one_place at ∷ in_row (map spots_in first) ++ in_row (map spots_in second))
      (Tests (expression_of names test.operations) ∷ point_row (map points_of one) ++ point_row (map points_of other))
      (if_spots at test first second)
      (ap points_of (of_if names at test first second) ∙ if_points (expression_of names test.operations) one other) (
        (h, tt),
        stand_both (in_row (map spots_in first)) (in_row (map spots_in second)) (point_row (map points_of one)) (point_row (map points_of other))
            (row_stands first a) (row_stands second b),
      )

  branches_stand : (branches : List (ℕ × Statements)) → Every IsBranchPut branches →
      Stand (in_branches (branch_spots branches)) (point_branches (map (map points_of) (branches_of names branches)))
  branches_stand [] h = tt
  branches_stand (b ∷ branches) h =
      stand_both (in_row (map spots_in b.1)) (one_place b.0 ∷ in_branches (branch_spots branches))
      (point_row (map points_of (statements_of names b.1)))
      (Ends ∷ point_branches (map (map points_of) (branches_of names branches))) (row_stands b.1 h.0.1)
      ((h.0.0, tt), branches_stand branches h.1)

  pub fork_put : (first : ℕ × Statements) (more : List (ℕ × Statements)) (join : ℕ) → WordStands text word.Fork first.0 →
      WordStands text word.Join join → Every IsBranchPut (first ∷ more) → IsPut (written.Fork (first ∷ more) join)
  fork_put first more join h j e =
      put_as (written.Fork (first ∷ more) join)
      (record { first = first.0; second = join } ∷ in_branches (branch_spots (first ∷ more)))
      (Forks ∷ point_branches (map (map points_of) (branches_of names (first ∷ more)))) (fork_spots first more join)
      (ap points_of (of_fork names (first ∷ more) join) ∙ fork_points (branches_of names (first ∷ more)))
      ((h, j), branches_stand (first ∷ more) e)
