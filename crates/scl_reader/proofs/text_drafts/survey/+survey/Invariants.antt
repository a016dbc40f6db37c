use Rattle.std.proofs.Common.{◌≡◌, drop}
use Rattle.scl_reader.specs.Flaws.{in_row, side_by_side, parts_of}
use Rattle.scl_reader.specs.Inside.Survey.{survey, behind, found_behind, branch_parts}
use Rattle.scl_reader.proofs.text_drafts.survey.+survey.Given as goal

abbrev pub invariant-survey_statements-loop-statement : goal.invariant-survey_statements-loop-statement
invariant-survey_statements-loop-statement l =
    behind (survey l.own l.found) (in_row (parts_of l.scope.variables.now (drop l.statement-index l.statements)))
    ≡ behind (survey l.fn.own l.fn.found) (in_row (parts_of l.scope.variables.now l.statements))

abbrev pub invariant-survey_statement-loop-before : goal.invariant-survey_statement-loop-before
invariant-survey_statement-loop-before l =
    found_behind l.found (side_by_side l.before (branch_parts l.scope.variables.now (drop l.before l.all)))
    ≡ found_behind l.fn.found (side_by_side 0 (branch_parts l.scope.variables.now l.all))
