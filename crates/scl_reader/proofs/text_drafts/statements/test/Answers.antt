use Rattle.std.proofs.Common.{rules}
use Rattle.sc_text.proofs.Outcomes.{either_way}
use Rattle.scl_reader.proofs.Blocks.{tested_taken, tested_stops, parenthesis_stops}
use Rattle.scl_reader.proofs.text_drafts.statements.test.Goals as goal

pub returns : goal.returns
returns c =
    either_way _ c.value.ensures (λ p. tested_taken _ _ _ _ c.in_ok-inside.ensures) (λ f. tested_stops _ _ _ f c.in_ok-inside.ensures)

pub returns-in_err-inside : goal.returns-in_err-inside
returns-in_err-inside c = search (rules, parenthesis_stops)
