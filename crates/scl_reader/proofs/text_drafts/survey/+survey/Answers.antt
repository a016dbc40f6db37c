use Rattle.std.proofs.Common.{◌≡◌, ◌∙◌, ℕ, Some, List, [], slice_get, refl, sym, ap}
use Rattle.std.proofs.lemmas.Option.{slice_get_read}
use Rattle.sc_text.specs.declared.drafts.flaw.Flaw.{Flaw}
use Rattle.sc_text.specs.declared.drafts.parts.Declaration.{Declaration}
use Rattle.sc_text.specs.Told.{told_behind}
use Rattle.scl_reader.specs.declared.text_drafts.statement.TextStatement.{TextStatement}
use Rattle.scl_reader.specs.declared.text_drafts.survey.Thread.{Thread}
use Rattle.scl_reader.specs.declared.text_drafts.survey.Found.{Found}
use Rattle.scl_reader.specs.Statements.{Statements}
use Rattle.scl_reader.specs.Flaws.{names, in_row, lost, thread, side_by_side, parts_of}
use Rattle.scl_reader.specs.Inside.Survey.{Survey, survey, behind, found_behind, branch_parts}
use Rattle.scl_reader.proofs.Surveyed.{branch_step, branches_over, fork_surveyed, if_surveyed, row_step, thread_found}
use Rattle.scl_reader.proofs.text_drafts.survey.+survey.Goals as goal

pub survey_statements-loop-statement-preserved : goal.survey_statements-loop-statement-preserved
survey_statements-loop-statement-preserved t c =
    let V : List Declaration = c.args.scope.now.variables.now in
    let xs : Statements = c.args.statements.now in
    let i : ℕ = c.loop-statement.statement-index in
    let s : TextStatement = c.statement-item.result in
    let old : Survey = survey c.loop-statement.own c.loop-statement.found in
    let new : Survey = survey c.survey_statement.new.own c.survey_statement.new.found in
    let at : slice_get xs i ≡ Some s = slice_get_read xs _ i s refl c.loop-statement-test.true c.statement-item.is in
    row_step V xs i s old new at c.in_ok-survey_statement.ensures ∙ c.loop-statement.invariant

pub survey_statement-returns-in_ok-survey_statements-in-If-2 : goal.survey_statement-returns-in_ok-survey_statements-in-If-2
survey_statement-returns-in_ok-survey_statements-in-If-2 t c =
    let V : List Declaration = c.args.scope.now.variables.now in
    let own : Thread = c.args.own.now in
    let found : Found = c.args.found.now in
    let noted : List Flaw = c.tell_expression.new.found in
    let half : Survey = survey c.survey_statements.new.own c.survey_statements.new.found in
    let done : Survey = survey c.survey_statements-in-If.new.own c.survey_statements-in-If.new.found in
    let start : Survey = survey own (record { labels = found.labels; told = noted }) in
    let first : half ≡ behind start (in_row (parts_of V c.in-If.first)) =
    c.in_ok-survey_statements-in-If.ensures ∙ ap (λ l. behind start (in_row (parts_of V l))) c.as_slice.ensures in
    let second : done ≡ behind half (in_row (parts_of V c.in-If.second)) =
    c.in_ok-survey_statements-in-If-2.ensures ∙ ap (λ l. behind half (in_row (parts_of V l))) c.as_slice-in-If.ensures in
    if_surveyed V own found c.args.statement.now c.in-If.at c.in-If.test c.in-If.first c.in-If.second noted half done c.in-If.is
    c.in_ok-tell_expression-in-If.ensures first second

pub survey_thread-returns : goal.survey_thread-returns
survey_thread-returns t c =
    let V : List Declaration = c.args.scope.now.variables.now in
    let found : Found = c.args.found.now in
    let own : Thread = c.survey_statements.new.own in
    let after : Found = c.survey_statements.new.found in
    let told : List Flaw = c.note_lost.new.told in
    let begun : survey own after ≡ behind (survey (record { labels = []; gotos = [] }) found) (in_row (parts_of V c.args.body.now)) =
    c.in_ok-survey_statements.ensures ∙ ap (λ n. behind (survey n found) (in_row (parts_of V c.args.body.now)))
    (λ i. record { labels = c.new.ensures i; gotos = c.new-2.ensures i }) in
    let lost_told : told ≡ told_behind after.told (lost (names own.labels) own.gotos) = c.in_ok-note_lost.ensures in
    thread_found V c.args.body.now own found after told begun lost_told

pub survey_statement-loop-before-preserved : goal.survey_statement-loop-before-preserved
survey_statement-loop-before-preserved t c =
    let V : List Declaration = c.args.scope.now.variables.now in
    let xs : List (ℕ × Statements) = c.as_slice-all.result.now in
    let i : ℕ = c.loop-before.before in
    let b : ℕ × Statements = c.index-all-before.result in
    let noted : Found = c.note_branch.new.found in
    let after : Found = c.survey_thread.new.found in
    let at : slice_get xs i ≡ Some b = slice_get_read xs _ i b refl c.loop-before-test.true c.index-all-before.is in
    let gone : after ≡ found_behind noted (thread (in_row (parts_of V b.1))) =
    c.in_ok-survey_thread-in-Fork.ensures ∙ ap (λ l. found_behind noted (thread (in_row (parts_of V l)))) c.as_slice-in-loop-before.ensures in
    branch_step V xs i b c.loop-before.found noted after at c.in_ok-note_branch-in-Fork.ensures gone ∙ c.loop-before.invariant

pub survey_statement-returns-after-loop-before : goal.survey_statement-returns-after-loop-before
survey_statement-returns-after-loop-before t c =
    let V : List Declaration = c.args.scope.now.variables.now in
    let xs : List (ℕ × Statements) = c.as_slice-all.result.now in
    let found : Found = c.args.found.now in
    let after : Found = c.loop-before.found in
    let all : after ≡ found_behind found (side_by_side 0 (branch_parts V c.in-Fork.branches)) =
    sym (branches_over V xs c.loop-before.before after c.loop-before-test.false)
    ∙ c.loop-before.invariant
    ∙ ap (λ l. found_behind found (side_by_side 0 (branch_parts V l))) c.as_slice-all.ensures in
    fork_surveyed V c.args.own.now found c.args.statement.now c.in-Fork.branches c.in-Fork.join after c.in-Fork.is all
