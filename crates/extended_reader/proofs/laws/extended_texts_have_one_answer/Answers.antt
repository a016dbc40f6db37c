use Rattle.extended_reader.proofs.OneAnswer.{one_fault}
use Rattle.extended_reader.proofs.Exactly.{one_chart, no_fault}
use Rattle.extended_reader.proofs.laws.extended_texts_have_one_answer.Goals as goal

pub returns : goal.returns
returns c = record { one_chart = one_chart; no_fault = no_fault; one_fault = one_fault }
