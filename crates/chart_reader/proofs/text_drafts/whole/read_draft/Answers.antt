use Rattle.std.proofs.Common.{[], length}
use Rattle.grammar.specs.Read.{read_all}
use Rattle.sc_text.specs.Reading.{Stops}
use Rattle.sc_text.proofs.Outcomes.{when_ok, when_err}
use Rattle.chart_reader.specs.ChartText.{chart_text}
use Rattle.chart_reader.specs.Phrase.{Gives}
use Rattle.chart_reader.proofs.Drafting.{drafted, stopped}
use Rattle.chart_reader.proofs.text_drafts.whole.read_draft.Goals as goal

pub returns-clause-ok : goal.returns-clause-ok
returns-clause-ok c =
    when_ok (λ f. Stops (length c.args.text.now) (read_all (chart_text 0) c.as_slice.result.now) f) _ c.whole.ensures
    (λ draft. drafted _ _ (rw (← c.as_slice.ensures) at c.in_ok-tokens.ensures.ok) draft)

pub returns-clause-fault : goal.returns-clause-fault
returns-clause-fault c =
    when_err (λ draft. Gives (read_all (chart_text 0) c.as_slice.result.now) draft []) _ c.whole.ensures
    (λ f. stopped _ _ (rw (← c.as_slice.ensures) at c.in_ok-tokens.ensures.ok) f)
