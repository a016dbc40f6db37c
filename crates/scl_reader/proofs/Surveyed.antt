-- Going over the statements of a draft, one piece behind the other.
use Rattle.std.proofs.Common.{◌≡◌, ℕ, ◌+◌, ◌≤◌, Some, List, [], ◌∷◌, ◌++◌, drop, length, slice_get, refl, sym, ◌∙◌, ap}
use Rattle.std.proofs.lemmas.List.{append_assoc, append-nil}
use Rattle.sc_values.specs.declared.value.Kind.TheVariants as kind
use Rattle.sc_graph.specs.Limits.{child_limit}
use Rattle.sc_text.specs.declared.read_fault.FaultKind.TheVariants as broken
use Rattle.sc_text.specs.declared.drafts.flaw.Flaw.{Flaw}
use Rattle.sc_text.specs.declared.drafts.parts.Named.{Named}
use Rattle.sc_text.specs.declared.drafts.parts.TextExpression.{TextExpression}
use Rattle.sc_text.specs.declared.drafts.parts.Declaration.{Declaration}
use Rattle.sc_text.specs.Flaws.{flaw_if, is_full, variable_named, expression_flaws, assigned_flaws}
use Rattle.sc_text.specs.Told.{told_behind}
use Rattle.sc_text.proofs.ToldInOrder.{told_both}
use Rattle.sc_text.proofs.PartsInOrder.{drop_is, drop_past}
use Rattle.scl_reader.specs.declared.text_drafts.statement.TextStatement.{TextStatement}
use Rattle.scl_reader.specs.declared.text_drafts.statement.TextStatement.TheOpen as text
use Rattle.scl_reader.specs.declared.text_drafts.statement.TextStatement.TheVariants as statement
use Rattle.scl_reader.specs.declared.text_drafts.statement.TextStatement.TheVariants.{rolls-Assign, rolls-Label, rolls-Goto, rolls-Pause, rolls-If, rolls-Fork}
use Rattle.scl_reader.specs.declared.text_drafts.statement.TextStatement.TheFolds.{fold-roll-TextStatement}
use Rattle.scl_reader.specs.declared.text_drafts.survey.Thread.{Thread}
use Rattle.scl_reader.specs.declared.text_drafts.survey.Found.{Found}
use Rattle.scl_reader.specs.Statements.{Statements}
use Rattle.scl_reader.specs.Flaws.{Part, nothing, both, in_row, names, lost, thread, only_flaws, side_by_side, part, part_of, parts_of}
use Rattle.scl_reader.specs.Inside.Survey.{Survey, survey, behind, found_behind, label_part, branch_parts}

-- ---- pieces one behind the other

pub survey_both : (s : Survey) (p q : Part) → behind s (both p q) ≡ behind (behind s p) q
survey_both s p q = λ i.
    record {
      labels = sym (append_assoc s.labels p.labels q.labels) i;
      gotos = sym (append_assoc s.gotos p.gotos q.gotos) i;
      all = sym (append_assoc s.all p.all q.all) i;
      told = told_both s.told p.flaws q.flaws i;
    }

pub survey_nothing : (s : Survey) → behind s nothing ≡ s
survey_nothing s = λ i.
    record { labels = append-nil s.labels i; gotos = append-nil s.gotos i; all = append-nil s.all i; told = s.told }

pub found_both : (f : Found) (p q : Part) → found_behind f (both p q) ≡ found_behind (found_behind f p) q
found_both f p q = λ i.
    record { labels = sym (append_assoc f.labels p.all q.all) i; told = told_both f.told p.flaws q.flaws i }

pub found_nothing : (f : Found) → found_behind f nothing ≡ f
found_nothing f = λ i. record { labels = append-nil f.labels i; told = f.told }

only_told : (s : Survey) (flaws : List Flaw) → behind s (only_flaws flaws) ≡ record s { told = told_behind s.told flaws }
only_told s flaws = λ i.
    record {
      labels = append-nil s.labels i;
      gotos = append-nil s.gotos i;
      all = append-nil s.all i;
      told = told_behind s.told flaws;
    }

pub branch_noted : (f : Found) (flaws : List Flaw) (told : List Flaw) → told ≡ told_behind f.told flaws → record { labels = f.labels; told = told }
    ≡ found_behind f (only_flaws flaws)
branch_noted f flaws told e = λ i. record { labels = sym (append-nil f.labels) i; told = e i }

-- ---- what each statement is as a piece of the text

module _ (V : List Declaration) where
  part_of_assign : (target : Named) (value : TextExpression) → part_of V (statement.Assign target value) ≡ part V (text.Assign target value)
  part_of_assign target value =
      ap (part_of V) (sym (rolls-Assign target value)) ∙ fold-roll-TextStatement Part (part V) (text.Assign target value)

  part_of_label : (label : Named) → part_of V (statement.Label label) ≡ part V (text.Label label)
  part_of_label label = ap (part_of V) (sym (rolls-Label label)) ∙ fold-roll-TextStatement Part (part V) (text.Label label)

  part_of_goto : (label : Named) → part_of V (statement.Goto label) ≡ part V (text.Goto label)
  part_of_goto label = ap (part_of V) (sym (rolls-Goto label)) ∙ fold-roll-TextStatement Part (part V) (text.Goto label)

  part_of_pause : (at : ℕ) → part_of V (statement.Pause at) ≡ part V (text.Pause at)
  part_of_pause at = ap (part_of V) (sym (rolls-Pause at)) ∙ fold-roll-TextStatement Part (part V) (text.Pause at)

  part_of_if : (at : ℕ) (test : TextExpression) (first second : Statements) → part_of V (statement.If at test first second)
      ≡ part V (text.If at test (parts_of V first) (parts_of V second))
  part_of_if at test first second =
      ap (part_of V) (sym (rolls-If at test first second)) ∙ fold-roll-TextStatement Part (part V) (text.If at test first second)

  part_of_fork : (branches : List (ℕ × Statements)) (join : ℕ)
      → part_of V (statement.Fork branches join) ≡ part V (text.Fork (branch_parts V branches) join)
  part_of_fork branches join =
      ap (part_of V) (sym (rolls-Fork branches join)) ∙ fold-roll-TextStatement Part (part V) (text.Fork branches join)

-- ---- going over a statement

pub label_noted : (own : Thread) (found : Found) (label : Named) (labels all : List Named) → labels ≡ own.labels ++ label ∷ []
    → all ≡ found.labels ++ label ∷ [] → survey (record { labels = labels; gotos = own.gotos }) (record { labels = all; told = found.told })
    ≡ behind (survey own found) (label_part label)
label_noted own found label labels all e g = λ i.
    record { labels = e i; gotos = sym (append-nil own.gotos) i; all = g i; told = found.told }

side_labels : (at : ℕ) (branches : List (ℕ × List Part)) → (side_by_side at branches).labels ≡ []
side_labels at [] = refl
side_labels at (b ∷ branches) = side_labels (at + 1) branches

side_gotos : (at : ℕ) (branches : List (ℕ × List Part)) → (side_by_side at branches).gotos ≡ []
side_gotos at [] = refl
side_gotos at (b ∷ branches) = side_gotos (at + 1) branches

-- whole threads hold no label of the thread that forks them
side_surveyed : (own : Thread) (found after : Found) (at : ℕ) (branches : List (ℕ × List Part)) → after ≡ found_behind found (side_by_side at branches)
    → survey own after ≡ behind (survey own found) (side_by_side at branches)
side_surveyed own found after at branches e =
    ap (survey own) e
    ∙ (λ i.
    record {
      labels = (sym (append-nil own.labels) ∙ ap (λ l. own.labels ++ l) (sym (side_labels at branches))) i;
      gotos = (sym (append-nil own.gotos) ∙ ap (λ l. own.gotos ++ l) (sym (side_gotos at branches))) i;
      all = found.labels ++ (side_by_side at branches).all;
      told = told_behind found.told (side_by_side at branches).flaws;
    })

module _ (V : List Declaration) (own : Thread) (found : Found) (s : TextStatement) where
  behind_it : (p : Part) → part_of V s ≡ p → behind (survey own found) p ≡ behind (survey own found) (part_of V s)
  behind_it p e = ap (behind (survey own found)) (sym e)

  pub assign_surveyed : (target : Named) (value : TextExpression) (told : List Flaw) → s ≡ statement.Assign target value
      → told ≡ told_behind found.told (assigned_flaws V (variable_named V target.name) target value)
      → survey own (record { labels = found.labels; told = told }) ≡ behind (survey own found) (part_of V s)
  assign_surveyed target value told is e =
      ap (λ f. survey own (record { labels = found.labels; told = f })) e
      ∙ sym (only_told (survey own found) (assigned_flaws V (variable_named V target.name) target value))
      ∙ behind_it (part V (text.Assign target value)) (ap (part_of V) is ∙ part_of_assign V target value)

  pub goto_surveyed : (label : Named) (gotos : List Named) → s ≡ statement.Goto label → gotos ≡ own.gotos ++ label ∷ []
      → survey (record { labels = own.labels; gotos = gotos }) found ≡ behind (survey own found) (part_of V s)
  goto_surveyed label gotos is e =
      (λ i.
      record {
        labels = sym (append-nil own.labels) i;
        gotos = e i;
        all = sym (append-nil found.labels) i;
        told = found.told;
      })
      ∙ behind_it (part V (text.Goto label)) (ap (part_of V) is ∙ part_of_goto V label)

  pub label_surveyed : (label : Named) (after : Survey) → s ≡ statement.Label label → after ≡ behind (survey own found) (label_part label)
      → after ≡ behind (survey own found) (part_of V s)
  label_surveyed label after is e = e ∙ behind_it (label_part label) (ap (part_of V) is ∙ part_of_label V label)

  pub pause_surveyed : (at : ℕ) → s ≡ statement.Pause at → survey own found ≡ behind (survey own found) (part_of V s)
  pause_surveyed at is = sym (survey_nothing (survey own found)) ∙ behind_it nothing (ap (part_of V) is ∙ part_of_pause V at)

  pub fork_surveyed : (branches : List (ℕ × Statements)) (join : ℕ) (after : Found) → s ≡ statement.Fork branches join
      → after ≡ found_behind found (side_by_side 0 (branch_parts V branches)) → survey own after ≡ behind (survey own found) (part_of V s)
  fork_surveyed branches join after is e =
      side_surveyed own found after 0 (branch_parts V branches) e
      ∙ behind_it (side_by_side 0 (branch_parts V branches)) (ap (part_of V) is ∙ part_of_fork V branches join)

  pub if_surveyed : (at : ℕ) (test : TextExpression) (first second : Statements) (noted : List Flaw) (b c : Survey)
      → s ≡ statement.If at test first second
      → noted ≡ told_behind found.told (expression_flaws V (Some kind.Bool) test) → b ≡ behind (survey own (record { labels = found.labels; told = noted }))
      (in_row (parts_of V first)) → c ≡ behind b (in_row (parts_of V second)) → c ≡ behind (survey own found) (part_of V s)
  if_surveyed at test first second noted b c is e f g =
      let flaws : List Flaw = expression_flaws V (Some kind.Bool) test in
      let p : Part = in_row (parts_of V first) in
      let q : Part = in_row (parts_of V second) in
      let start : survey own (record { labels = found.labels; told = noted }) ≡ behind (survey own found) (only_flaws flaws) =
      ap (λ n. survey own (record { labels = found.labels; told = n })) e ∙ sym (only_told (survey own found) flaws) in
      g
      ∙ ap (λ x. behind x q) (f ∙ ap (λ x. behind x p) start)
      ∙ sym (survey_both (behind (survey own found) (only_flaws flaws)) p q)
      ∙ sym (survey_both (survey own found) (only_flaws flaws) (both p q))
      ∙ behind_it (both (only_flaws flaws) (both p q)) (ap (part_of V) is ∙ part_of_if V at test first second)

-- ---- going over statements, branches and threads

module _ (V : List Declaration) where
  pub row_step : (statements : Statements) (at : ℕ) (s : TextStatement) (a b : Survey) → slice_get statements at ≡ Some s → b ≡ behind a (part_of V s)
      → behind b (in_row (parts_of V (drop (at + 1) statements))) ≡ behind a (in_row (parts_of V (drop at statements)))
  row_step statements at s a b e f =
      ap (λ x. behind x (in_row (parts_of V (drop (at + 1) statements)))) f
      ∙ sym (survey_both a (part_of V s) (in_row (parts_of V (drop (at + 1) statements))))
      ∙ ap (λ l. behind a (in_row (parts_of V l))) (sym (drop_is statements at s e))

  pub row_over : (statements : Statements) (at : ℕ) (a : Survey) → length statements ≤ at → behind a (in_row (parts_of V (drop at statements))) ≡ a
  row_over statements at a le =
      ap (λ l. behind a (in_row (parts_of V l))) (drop_past statements at le) ∙ survey_nothing a

  pub branch_step : (branches : List (ℕ × Statements)) (at : ℕ) (b : ℕ × Statements) (f g h : Found) → slice_get branches at ≡ Some b
      → g ≡ found_behind f (only_flaws (flaw_if (is_full child_limit at) broken.Limit b.0)) → h ≡ found_behind g (thread (in_row (parts_of V b.1)))
      → found_behind h (side_by_side (at + 1) (branch_parts V (drop (at + 1) branches))) ≡ found_behind f (side_by_side at (branch_parts V (drop at branches)))
  branch_step branches at b f g h e noted gone =
      let word : Part = only_flaws (flaw_if (is_full child_limit at) broken.Limit b.0) in
      let inner : Part = thread (in_row (parts_of V b.1)) in
      let rest : Part = side_by_side (at + 1) (branch_parts V (drop (at + 1) branches)) in
      ap (λ x. found_behind x rest) (gone ∙ ap (λ x. found_behind x inner) noted)
      ∙ sym (found_both (found_behind f word) inner rest)
      ∙ sym (found_both f word (both inner rest))
      ∙ ap (λ l. found_behind f (side_by_side at (branch_parts V l))) (sym (drop_is branches at b e))

  pub branches_over : (branches : List (ℕ × Statements)) (at : ℕ) (f : Found) → length branches ≤ at
      → found_behind f (side_by_side at (branch_parts V (drop at branches))) ≡ f
  branches_over branches at f le =
      ap (λ l. found_behind f (side_by_side at (branch_parts V l))) (drop_past branches at le) ∙ found_nothing f

  -- a thread's own labels and gotos, and then its gotos to none of them
  pub thread_found : (body : Statements) (own : Thread) (found after : Found) (told : List Flaw) → survey own after
      ≡ behind (survey (record { labels = []; gotos = [] }) found) (in_row (parts_of V body))
      → told ≡ told_behind after.told (lost (names own.labels) own.gotos) → record { labels = after.labels; told = told }
      ≡ found_behind found (thread (in_row (parts_of V body)))
  thread_found body own found after told e n =
      let p : Part = in_row (parts_of V body) in
      let labels : own.labels ≡ p.labels = ap (λ s. s.labels) e in
      let gotos : own.gotos ≡ p.gotos = ap (λ s. s.gotos) e in
      let all : after.labels ≡ found.labels ++ p.all = ap (λ s. s.all) e in
      let noted : after.told ≡ told_behind found.told p.flaws = ap (λ s. s.told) e in
      let all_told : told ≡ told_behind found.told (p.flaws ++ lost (names p.labels) p.gotos) =
      n
      ∙ ap (λ f. told_behind f (lost (names own.labels) own.gotos)) noted
      ∙ ap (λ l. told_behind (told_behind found.told p.flaws) (lost (names l) own.gotos)) labels
      ∙ ap (λ g. told_behind (told_behind found.told p.flaws) (lost (names p.labels) g)) gotos
      ∙ sym (told_both found.told p.flaws (lost (names p.labels) p.gotos)) in
      λ i. record { labels = all i; told = all_told i }
