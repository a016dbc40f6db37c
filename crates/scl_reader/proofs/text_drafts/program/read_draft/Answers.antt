use Rattle.std.proofs.Common.{length, refl}
use Rattle.grammar.specs.Read.{read_all}
use Rattle.sc_text.specs.Reading.{Stops}
use Rattle.sc_text.proofs.Outcomes.{when_ok, when_err}
use Rattle.scl_reader.specs.Inside.TextDrafts.{Drafts}
use Rattle.scl_reader.specs.Program.{scl}
use Rattle.scl_reader.proofs.Drafting.{drafted, stopped}
use Rattle.scl_reader.proofs.text_drafts.program.read_draft.Goals as goal

pub returns-clause-ok : goal.returns-clause-ok
returns-clause-ok c =
    when_ok (λ f. Stops (length c.args.text.now) (read_all (scl 0) c.as_slice.result.now) f) _ c.whole.ensures
    (λ draft. drafted _ _ _ c.as_slice.ensures c.in_ok-tokens.ensures.ok draft)

pub returns-clause-fault : goal.returns-clause-fault
returns-clause-fault c =
    when_err (λ draft. Drafts (read_all (scl 0) c.as_slice.result.now) draft) _ c.whole.ensures
    (λ f. stopped _ _ _ c.as_slice.ensures c.in_ok-tokens.ensures.ok _ f refl)
