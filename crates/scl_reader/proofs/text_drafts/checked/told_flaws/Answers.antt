use Rattle.std.proofs.Common.{◌≡◌, ap, ◌∙◌, []}
use Rattle.sc_text.specs.Flaws.{variable_flaws, variable_names}
use Rattle.sc_text.specs.Told.{told_behind}
use Rattle.scl_reader.specs.Flaws.{root}
use Rattle.scl_reader.specs.Inside.Survey.{found_behind}
use Rattle.scl_reader.proofs.Checking.{all_told}
use Rattle.scl_reader.proofs.text_drafts.checked.told_flaws.Goals as goal

pub returns : goal.returns
returns c =
    let noted = c.tell_declarations.new.found in
    let d = c.args.draft.now in
    let found = c.survey_thread.new.found in
    let variables : c.in_ok-scope.scope.variables.now ≡ d.declarations = c.in_ok-scope.ensures ∙ c.as_slice.ensures in
    all_told d noted c.note_repeated.new.told found
    (c.in_ok-tell_declarations.ensures
    ∙ ap (λ f. told_behind f (variable_flaws (variable_names c.in_ok-scope.scope.variables.now) 0 0 c.in_ok-scope.scope.variables.now)) c.new-2.ensures
    ∙ ap (λ xs. told_behind [] (variable_flaws (variable_names xs) 0 0 xs)) variables)
    (c.in_ok-survey_thread.ensures
    ∙ ap (λ ls. found_behind (record { labels = ls; told = noted }) (root c.in_ok-scope.scope.variables.now c.as_slice-2.result.now)) c.new.ensures
    ∙ ap (λ xs. found_behind (record { labels = []; told = noted }) (root xs c.as_slice-2.result.now)) variables
    ∙ ap (λ xs. found_behind (record { labels = []; told = noted }) (root d.declarations xs)) c.as_slice-2.ensures)
    c.in_ok-note_repeated.ensures
