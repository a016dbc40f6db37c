use Rattle.std.proofs.Common.{None, subst, sym, ◌∙◌, ap, rules}
use Rattle.sc_text.specs.First.{first_behind}
use Rattle.extended_reader.specs.Flaws.{extended_flaws}
use Rattle.extended_reader.specs.Reading.{IsExtendedDraft}
use Rattle.extended_reader.specs.Checked.{IsSound}
use Rattle.extended_reader.proofs.Checking.{flawed, sound}
use Rattle.extended_reader.proofs.text_drafts.checked.read_checked_extended.Goals as goal

pub returns-in-Some-clause-fault : goal.returns-in-Some-clause-fault
returns-in-Some-clause-fault c =
    let drafted : IsExtendedDraft c.args.text.now c.in_ok-draft.draft =
    subst (IsExtendedDraft c.args.text.now) (sym c.in_ok-draft.ensures) c.in_ok-read_extended_draft.ensures.ok in
    flawed _ c.in_ok-draft.draft c.in-Some.flaw drafted
    (sym c.in-Some.is ∙ c.in_ok-flaw.ensures ∙ ap (λ d. first_behind None (extended_flaws d)) c.get.ensures)

pub returns-in-None-clause-ok : goal.returns-in-None-clause-ok
returns-in-None-clause-ok c =
    let drafted : IsExtendedDraft c.args.text.now c.in_ok-draft.draft =
    subst (IsExtendedDraft c.args.text.now) (sym c.in_ok-draft.ensures) c.in_ok-read_extended_draft.ensures.ok in
    subst (IsSound c.args.text.now) (sym c.into_inner.ensures)
    (sound _ c.in_ok-draft.draft drafted
    (sym c.in-None.is ∙ c.in_ok-flaw.ensures ∙ ap (λ d. first_behind None (extended_flaws d)) c.get.ensures))

pub returns-in_err-read_extended_draft-clause-fault : goal.returns-in_err-read_extended_draft-clause-fault
returns-in_err-read_extended_draft-clause-fault c = search rules
